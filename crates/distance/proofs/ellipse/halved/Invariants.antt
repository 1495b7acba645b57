-- `distance::ellipse::halved` meets its contract: the halvings that are left give the final answer. Assumes nothing.
use mathlib.Core.Path.{◌≡◌}
use Prim.Native.Nat.{◌-◌}
use Rattle.distance.specs.Ellipse.{halve, halved_of}
use Rattle.distance.proofs.ellipse.halved.Given as goal

abbrev pub invariant-loop : goal.invariant-loop
invariant-loop l = halve l.c (1100 - l.counter) l.s l.s0 l.s1 ≡ halved_of l.c l.a l.b

-- `distance::ellipse::ellipse_nearest` meets its contract: it calls itself at most once, since after the swap the first axis is not the shorter one. Assumes nothing.
use mathlib.Core.Path.{◌≡◌}
use mathlib.Core.Bool.{Bool, true, false, cond}
use Prim.Native.Nat.{ℕ, ◌<◌}
use borrow.Author.Rules.{rules}
use Rattle.distance.specs.Ellipse.{ellipse_nearest}
use Rattle.number.proofs.OrderLaws.{lt_asym}
use Rattle.distance.proofs.ellipse.+ellipse_nearest.Goals as goal

fewer : (t : ℕ) (s r : Bool) → cond s 1 0 ≡ t → s ≡ true → r ≡ false → cond r 1 0 < t
fewer t s r m e f = rw (← m, e, f) (search rules)

pub ellipse_nearest-q-requires : goal.ellipse_nearest-q-requires
ellipse_nearest-q-requires t c = (fewer t _ _ c.decreases c.if-a-b.true (lt_asym _ _ c.if-a-b.true), search rules)

pub returns-then-a-b : goal.returns-then-a-b
unfolding ellipse_nearest
returns-then-a-b t c = rw (c.ellipse_nearest-q.ensures, lt_asym c.args.a c.args.b c.if-a-b.true, c.if-a-b.true)

pub returns : goal.returns
unfolding ellipse_nearest
returns t c = rw (c.if-a-b.false, c.long_nearest.ensures)

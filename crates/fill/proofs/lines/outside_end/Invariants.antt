-- `fill::lines::outside_end` meets its contract: the vertices from i up to j, that one not included, are outside. Assumes nothing.
use mathlib.Core.Path.{◌≡◌}
use mathlib.Core.Bool.{false}
use Prim.Native.Nat.{ℕ, ◌≤◌, ◌<◌}
use Rattle.boundary.specs.Outline.{vertex_at}
use Rattle.clip.specs.Clip.{in_half_plane}
use Rattle.fill.proofs.lines.outside_end.Given as goal

abbrev pub invariant-loop-j : goal.invariant-loop-j
invariant-loop-j l = (k : ℕ) → l.i ≤ k → k < l.j → in_half_plane l.s (vertex_at l.v k) ≡ false

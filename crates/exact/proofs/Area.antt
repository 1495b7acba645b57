-- On the grid the area is exactly half the shoelace sum: a term is at most 2 ^ 41 square steps, and 4,096 of them at most 2 ^ 53. Assumes nothing.
use Prim.Native.Nat.{ℕ, ◌+◌, ◌*◌, ◌^◌, ◌≤◌}
use native.Mathlib.Nat.{le_trans}
use native.Mathlib.Omega.{arith}
use mathlib.Core.List.{List}
use lib.Dec.{lit≤}
use lib.IntN.{ℤ, ◌+ℤ◌}
use lib.ListN.{length}
use lib.Ieee.{Float, binary64, add}
use Rattle.number.specs.Exact.{Is, Sized}
use Rattle.number.proofs.Operations.{zero_is}
use Rattle.number.proofs.ExactLaws.{half_is, add_sized, sub_sized, mul_sized}
use Rattle.boundary.specs.declared.Edge.{Edge}
use Rattle.lists.specs.Lists.{fold, total}
use Rattle.accept.specs.Area.{shoelace_term, area_of}
use Rattle.grid.specs.Whole.{EdgeZ, shoelace_term_z, shoelace_z}
use Rattle.exact.specs.Grid.{EdgeOn, EdgesOn}
use Rattle.lists.specs.Lists.Each.{none, more}

shoelace_term_exact : {e : Edge} {f : EdgeZ} → EdgeOn e f → Sized 20 (2 ^ 41) (shoelace_term e) (shoelace_term_z f)
unfolding shoelace_term_z
shoelace_term_exact g = sub_sized (mul_sized g.a.x g.b.y (lit≤ tt) (lit≤ tt)) (mul_sized g.b.x g.a.y (lit≤ tt) (lit≤ tt)) (lit≤ tt) (lit≤ tt)

-- the sum goes on from s, which is at most n
sum_exact : {es : List Edge} {fs : List EdgeZ} {s : Float} {z : ℤ} {n : ℕ} → EdgesOn es fs → Sized 20 n s z → n + length es * 2 ^ 41 ≤ 2 ^ 53 → Sized 20 (2 ^ 53) (fold (λ s e. add binary64 s (shoelace_term e)) s es) (fold (λ z f. z +ℤ shoelace_term_z f) z fs)
unfolding fold
sum_exact none h l = record { is = h.is; near = le_trans h.near (omega arith) }
sum_exact (more {xs = es} e r) h l = sum_exact r (add_sized h (shoelace_term_exact e) (lit≤ tt) (omega arith)) (omega arith)

-- in units of 2 ^ -21 square µm, half a square step
pub area_exact : {es : List Edge} {fs : List EdgeZ} → EdgesOn es fs → length es ≤ 4096 → Is 21 (area_of es) (shoelace_z fs)
unfolding area_of total shoelace_z
area_exact r l = let s = sum_exact r (record { is = zero_is 20; near = lit≤ {m = 0} {n = 0} tt }) (omega arith) in half_is s.is (lit≤ tt) s.near

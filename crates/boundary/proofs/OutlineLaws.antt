-- The vertices and edges of an outline, a list of numbers, x then y. Assumes nothing.
use mathlib.Core.Path.{◌≡◌, refl, ap₂}
use mathlib.Core.Bool.{false}
use mathlib.Core.List.{List, ◌∷◌}
use Prim.Native.Nat.{ℕ, zero, suc, ◌+◌, ◌*◌, ◌≤◌, ◌<◌}
use native.Mathlib.Omega.{arith}
use borrow.Author.Tests.{ltb-false, eq-eqb, ne_eqb}
use lib.Dec.{ltb}
use lib.ListN.{length}
use lib.Ieee.{Float}
use Rattle.lists.specs.Lists.{run}
use Rattle.lists.proofs.RunLaws.{length_run}
use Rattle.boundary.specs.declared.Point.{Point}
use Rattle.boundary.specs.declared.Edge.{Edge}
use Rattle.boundary.specs.Outline.{count, vertex_at, edge_at, vertices, edges}

-- ---- how many there are
pub length_vertices : (v : List Float) → length (vertices v) ≡ count v
unfolding vertices
length_vertices v = length_run (vertex_at v) 0 (count v)

pub few_edges : (v : List Float) → ltb 4096 (count v) ≡ false → length (edges v) ≤ 4096
unfolding edges
few_edges v h = rw (length_run (edge_at v) 0 (count v)) (ltb-false 4096 (count v) h)

pub some_edges : (v : List Float) → ltb (count v) 3 ≡ false → 0 < length (edges v)
unfolding edges
some_edges v h = rw (length_run (edge_at v) 0 (count v)) (let l = ltb-false (count v) 3 h in omega arith)

-- ---- the vertex of the first two numbers, and those of the others
pub vertices_more : (x y : Float) (v : List Float) → vertices (x ∷ y ∷ v) ≡ record { x = x; y = y } ∷ vertices v
unfolding vertices run
vertices_more x y v = let e : count (x ∷ y ∷ v) ≡ suc (count v) = omega arith in rw e (ap₂ ◌∷◌ refl (shift 0 (count v)))
  where
    shift : (i n : ℕ) → run (vertex_at (x ∷ y ∷ v)) (suc i) n ≡ run (vertex_at v) i n
    shift i zero = refl
    shift i (suc n) = let e : 2 * suc i ≡ suc (suc (2 * i)) = omega arith in let f : 2 * suc i + 1 ≡ suc (suc (2 * i + 1)) = omega arith in rw (f, e) (ap₂ ◌∷◌ refl (shift (suc i) n))

-- the edge from a to b is edge i, where another follows, and where it is the last
module _ (v : List Float) (i : ℕ) (a b : Point) (l : i < count v) (start : a ≡ vertex_at v i) where
  pub next_edge : i + 1 < count v → b ≡ vertex_at v (i + 1) → ◌≡◌ {A = Edge} (record { a = a; b = b }) (edge_at v i)
  next_edge h end = rw (ne_eqb (i + 1) (count v) (λ e. omega arith), start, end)

  pub last_edge : count v ≤ i + 1 → b ≡ vertex_at v 0 → ◌≡◌ {A = Edge} (record { a = a; b = b }) (edge_at v i)
  last_edge h end = rw (eq-eqb (i + 1) (count v) (omega arith), start, end)

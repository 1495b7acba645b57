-- An outline whose numbers are on the grid has whole edges. Assumes nothing.
use mathlib.Core.Path.{sym, subst}
use mathlib.Core.List.{List, [], ◌∷◌}
use lib.IntN.{ℤ}
use lib.Ieee.{Float}
use Rattle.boundary.specs.declared.Point.{Point}
use Rattle.lists.specs.Lists.{run, Each}
use Rattle.boundary.specs.Outline.{vertices, edges}
use Rattle.grid.specs.Grid.{OnGrid, OutlineOn}
use Rattle.grid.specs.Whole.{PointZ, EdgeZ, edge_z}
use Rattle.exact.specs.Grid.{PointOn, EdgesOn}
use Rattle.lists.specs.Lists.Each.{none, more}
use Rattle.exact.proofs.Loop.{path, loop, edge, edges_loop}
use Rattle.boundary.proofs.OutlineLaws.{vertices_more}

path_on : {p r : Point} {q s : PointZ} {ps : List Point} {qs : List PointZ} → PointOn p q → Each PointOn ps qs → PointOn r s → EdgesOn (path edge p ps r) (path edge_z q qs s)
unfolding path
path_on h none g = more (record { a = h; b = g }) none
path_on h (more m r) g = more (record { a = h; b = m }) (path_on m r g)

pub loop_on : {ps : List Point} {qs : List PointZ} → Each PointOn ps qs → EdgesOn (loop edge ps) (loop edge_z qs)
unfolding loop
loop_on none = none
loop_on (more h r) = path_on h r h

pub vertices_on : {v : List Float} {zs : List ℤ} → Each OnGrid v zs → (qs : List PointZ) × Each PointOn (vertices v) qs
unfolding vertices run
vertices_on none = ([], none)
vertices_on (more h none) = ([], none)
vertices_on (more {x = x} {y = z} h (more {x = y} {y = w} {xs = v} g r)) =
    let s = vertices_on r in
    (record { x = z; y = w } ∷ s.0, subst (λ (ps : List Point). Each PointOn ps (record { x = z; y = w } ∷ s.0)) (sym (vertices_more x y v)) (more (record { x = h; y = g }) s.1))

pub edges_on : {v : List Float} → OutlineOn v → (fs : List EdgeZ) × EdgesOn (edges v) fs
edges_on {v} g = let s = vertices_on g.on in (loop edge_z s.0, subst (λ es. EdgesOn es (loop edge_z s.0)) (sym (edges_loop v)) (loop_on s.1))

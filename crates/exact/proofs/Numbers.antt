-- The numbers of vertices on the grid are on it. Assumes nothing.
use mathlib.Core.List.{List, [], ◌∷◌}
use Rattle.boundary.specs.declared.Point.{Point}
use Rattle.lists.specs.Lists.{Each}
use Rattle.geometry.specs.Making.{coordinates_of}
use Rattle.grid.specs.Grid.{OutlineOn}
use Rattle.grid.specs.Whole.{PointZ}
use Rattle.exact.specs.Grid.{PointOn}
use Rattle.lists.specs.Lists.Each.{none, more}

pub numbers_on : {ps : List Point} {qs : List PointZ} → Each PointOn ps qs → OutlineOn (coordinates_of ps)
unfolding coordinates_of
numbers_on none = record { steps = []; on = none }
numbers_on (more {y = q} h r) = let g = numbers_on r in record { steps = q.x ∷ q.y ∷ g.steps; on = more h.x (more h.y g.on) }

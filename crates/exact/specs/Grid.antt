-- Points and edges on the *grid* (document 01). Definitions only.
use Rattle.std.specs.Prelude.{List}
use Rattle.lists.specs.Lists.{Each}
use Rattle.grid.specs.Whole.{PointZ, EdgeZ}
use Rattle.grid.specs.Grid.{OnGrid}
use Rattle.boundary.specs.declared.Point.{Point}
use Rattle.boundary.specs.declared.Edge.{Edge}

pub record PointOn (p : Point) (q : PointZ) : Type 0 where
  pub x : OnGrid p.x q.x
  pub y : OnGrid p.y q.y

pub record EdgeOn (e : Edge) (f : EdgeZ) : Type 0 where
  pub a : PointOn e.a f.a
  pub b : PointOn e.b f.b

abbrev pub EdgesOn : List Edge → List EdgeZ → Type 0
EdgesOn es fs = Each EdgeOn es fs

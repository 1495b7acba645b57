-- The length of edges: `length` sums `hypot` (document 01). Definitions only.
use Rattle.std.specs.Prelude.{List, Float}
use Rattle.std.specs.Float.{binary64}
use Rattle.std.specs.Float.Ieee.{sub}
use Rattle.number.specs.Hypot.{hypot_of}
use Rattle.boundary.specs.declared.Edge.{Edge}
use Rattle.lists.specs.Lists.{total}

unfoldable pub edge_length : Edge → Float
unfolding sub
edge_length e = hypot_of (sub binary64 e.b.x e.a.x) (sub binary64 e.b.y e.a.y)

unfoldable pub length_of : List Edge → Float
unfolding total edge_length
length_of es = total edge_length es

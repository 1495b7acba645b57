-- An outline's area, over its edges (document 01, geometry.rs). Definitions only.
use Rattle.std.specs.Prelude.{false, List, pos, Float}
use Rattle.std.specs.Float.{fin, binary64}
use Rattle.std.specs.Float.Ieee.{sub, mul, div}
use Rattle.boundary.specs.declared.Edge.{Edge}
use Rattle.lists.specs.Lists.{total}

-- half the shoelace sum
abbrev pub shoelace_term : Edge → Float
shoelace_term e = sub binary64 (mul binary64 e.a.x e.b.y) (mul binary64 e.b.x e.a.y)

abbrev pub two : Float
two = fin false 1 (pos 1)

unfoldable pub area_of : List Edge → Float
unfolding total sub mul div
area_of es = div binary64 (total shoelace_term es) two

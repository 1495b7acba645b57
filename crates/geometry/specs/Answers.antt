-- What each operation on an outline answers. Definitions only.
use Rattle.std.specs.Prelude.{not, cond, List, ℕ, Ok, Err, Float}
use Rattle.boundary.specs.declared.Bounds.{Bounds}
use Rattle.boundary.specs.declared.Distance.{Distance}
use Rattle.boundary.specs.Boxes.{point_in_field}
use Rattle.boundary.specs.declared.Point.{Point}
use Rattle.boundary.specs.Outline.{vertices, edges}
use Rattle.boundary.specs.Length.{length_of}
use Rattle.distance.specs.Nearest.{nearest_of, signed_of}
use Rattle.accept.specs.declared.Refusal.TheVariants.{BadPoint}
use Rattle.accept.specs.Area.{area_of}
use Rattle.accept.specs.Refusals.{Answer, Test, ◌refusing◌when◌, given, outline_tested}
use Rattle.geometry.specs.Polygon.{bounds_of, contains_of, locate_of}

unfoldable pub area_answer : List Float → Answer Float
area_answer v = given (outline_tested v) (Ok (area_of (edges v))) Err

unfoldable pub perimeter_answer : List Float → Answer Float
perimeter_answer v = given (outline_tested v) (Ok (length_of (edges v))) Err

unfoldable pub bounds_answer : List Float → Answer Bounds
bounds_answer v = given (outline_tested v) (Ok (bounds_of (vertices v))) Err

-- ---- queries at a point
unfoldable pub outline_query_tested : List Float → Point → Test
outline_query_tested v p = outline_tested v refusing BadPoint when not (point_in_field p)

-- yes is 1, and no is 0
unfoldable pub contains_answer : List Float → Point → Answer ℕ
contains_answer v p = given (outline_query_tested v p) (Ok (cond (contains_of (edges v) p) 1 0)) Err

unfoldable pub locate_answer : List Float → Point → Answer ℕ
locate_answer v p = given (outline_query_tested v p) (Ok (locate_of (edges v) p)) Err

-- signed by `contains`
unfoldable pub distance_answer : List Float → Point → Answer Distance
distance_answer v p = given (outline_query_tested v p) (Ok (signed_of (nearest_of (edges v) p) p (contains_of (edges v) p))) Err

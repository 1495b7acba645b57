-- The nearest point of an ellipse: tests 10 and 12 (document 01), and what the call answers. Definitions only.
use Rattle.std.specs.Prelude.{Bool, false, not, ◌&&◌, ◌||◌, pos, negsuc, Ok, Err, Float}
use Rattle.std.specs.Float.{fin, binary64}
use Rattle.std.specs.Float.Ieee.{sub, le, eq}
use Rattle.number.specs.Exact.{zeroᶠ}
use Rattle.number.specs.Signs.{abs_of}
use Rattle.boundary.specs.declared.Point.{Point}
use Rattle.boundary.specs.declared.Distance.{Distance}
use Rattle.boundary.specs.Boxes.{point_in_field}
use Rattle.distance.specs.declared.Piece.TheVariants.{Ellipse}
use Rattle.distance.specs.Piece.{piece_near}
use Rattle.accept.specs.declared.Refusal.TheVariants.{BadPoint, BadEllipse}
use Rattle.accept.specs.Refusals.{Answer, Test, all_passed, ◌refusing◌when◌, given}

-- ---- test 12
-- a semi-axis is 2 ^ -10 to 1,024
abbrev pub least_axis : Float
least_axis = fin false 1 (negsuc 9)

abbrev pub most_axis : Float
most_axis = fin false 1 (pos 10)

abbrev pub axis_fits : Float → Bool
axis_fits a = le least_axis a && le a most_axis

-- a coordinate of point less centre, as computed, is zero or at least 2 ^ -20 in magnitude
abbrev pub least_offset : Float
least_offset = fin false 1 (negsuc 19)

unfoldable pub offset_fits : Float → Float → Bool
unfolding sub eq le
offset_fits c p = let d = sub binary64 p c in eq d zeroᶠ || le least_offset (abs_of d)

unfoldable pub ellipse_fits : Point → Float → Float → Point → Bool
unfolding le offset_fits
ellipse_fits c a b p = (axis_fits a && axis_fits b) && (offset_fits c.x p.x && offset_fits c.y p.y)

-- ---- the ellipse with centre c and semi-axes a along x and b along y, and the point p
-- test 10 of the point and of the centre, then test 12
unfoldable pub ellipse_tested : Point → Float → Float → Point → Test
ellipse_tested c a b p =
    all_passed refusing BadPoint when not (point_in_field p)
    refusing BadPoint when not (point_in_field c)
    refusing BadEllipse when not (ellipse_fits c a b p)

-- its distance, and its nearest point
unfoldable pub ellipse_answer : Point → Float → Float → Point → Answer Distance
ellipse_answer c a b p =
    let k = piece_near (Ellipse c a b) p in
    given (ellipse_tested c a b p) (Ok (record { d = k.d; v = k.q })) Err

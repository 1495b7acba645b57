-- Every starred example holds: what the definitions give is what the document says. Assumes nothing.
use Rattle.search.specs.declared.Best.{Best}
use Rattle.std.proofs.Common.{Some}
use Rattle.std.proofs.Common.{Ok}
use mathlib.Core.Path.{◌≡◌, refl, sym, ap, ◌∙◌}
use mathlib.Core.Bool.{Bool, true, false, not}
use mathlib.Core.List.{List, [], ◌∷◌, ◌++◌, flat_map, append-nil}
use Prim.Native.Nat.{ℕ}
use lib.IntN.{negsuc}
use lib.ListN.{length, drop, replicate, length-replicate}
use lib.Seq.{drop-length}
use lib.Ieee.{Float, fin, of_int, neg, add, sub, mul, div, lt, le, eq, ne, is_nan}
use Rattle.number.specs.Exact.{zeroᶠ}
use Rattle.number.specs.Root.{sqrt_of}
use Rattle.number.specs.Hypot.{hypot_of}
use Rattle.number.specs.Signs.{sign_bit, with_sign, abs_of, copysign_of, stands_before, max_of, clamp_of}
use Rattle.boundary.specs.declared.Point.{Point}
use Rattle.boundary.specs.declared.Bounds.{Bounds}
use Rattle.boundary.specs.declared.Near.{Near}
use Rattle.boundary.specs.declared.Distance.{Distance}
use Rattle.boundary.specs.Boxes.{point_in_field, box_fits, hull, scale_of, widened_of, gap_along, gap_of}
use Rattle.lists.specs.Lists.{run, fold, any, odd_many, total, at_front, zeros}
use Rattle.boundary.specs.Outline.{vertices, edges}
use Rattle.boundary.specs.Length.{edge_length, length_of}
use Rattle.boundary.specs.Line.{param_of, along_of, foot_of, normal_of, line_near}
use Rattle.distance.specs.Piece.{piece_near}
use Rattle.distance.specs.Nearest.{nearest_of, rounding_of, signed_of}
use Rattle.distance.specs.Ellipse.{quadrant_nearest, on_axis, long_nearest, ellipse_nearest, ellipse_foot, ellipse_near}
use Rattle.accept.specs.declared.Refusal.TheVariants.{BadPoint, ShortBuffer}
use Rattle.accept.specs.Answers.{distance_of, distance_fields}
use Rattle.geometry.specs.Answers.{outline_query_tested, area_answer, perimeter_answer, contains_answer, locate_answer, distance_answer}
use Rattle.accept.specs.Area.{area_of}
use Rattle.geometry.specs.Polygon.{contains_of, crosses_of, locate_of, on_edge}
use Rattle.accept.specs.Refusals.{Test, all_passed, ◌refusing◌when◌, given, count_tested, values_tested, shape_tested, outline_tested, Answer}
use Rattle.geometry.specs.Making.{closed, kept_count, kept, make_tested, coordinates_of, made_of, make_outcome}
use Rattle.ellipse.specs.Ellipse.{offset_fits, ellipse_fits, ellipse_tested, ellipse_answer}
use Rattle.clip.specs.Clip.{in_half_plane, crosses, part_of, parts_of, parts, lead, last_kept, rotated, kept_lines, joint, onward, joined, clip_of}
use Rattle.fill.specs.Fill.{xdy_of, fill_of, long_of}
use Rattle.fill.specs.Answers.{fill_tested, filled, fill_outcome}
use Rattle.sorts.specs.Sort.{insert, sort}
use Rattle.boxes.specs.BoxLists.{box_at, wide_at, boxes_of}
use Rattle.tree.specs.Tree.{hull_of, tree_on, index_of}
use Rattle.meeting.specs.Meeting.{apart, meeting_of}
use Rattle.meeting.specs.Answers.{meeting_tested, listing, meeting_outcome, meeting_call}
use Rattle.index.specs.Buffer.{short_buffer, cleared}
use Rattle.index.specs.Answers.{boxes_tested}
use Rattle.set.specs.Set.{start_of, outline_at, outlines_of}
use Rattle.set.specs.Tests.{lists_tested, outlines_tested, set_tested, set_query_tested}
use Rattle.set.specs.Answers.{query_outcome}
use Rattle.search.specs.Least.{magnitude_of, magnitude_at, least_of}
use Rattle.nearest.specs.Nearest.{nearest_in}
use Rattle.nearest.specs.Answers.{nearest_outcome, nearest_call}
use Rattle.examples.specs.Examples.{um, micro_point, cell, tenths, S, S-right, both, fours, boxes, room, room_after, list_places, AllHold, starred}

-- ---- the distances by steps, since a magnitude that is not yet worked out is worked out at every use: the nearest point first
nearest_6 : nearest_of (edges S) (micro_point 6 2) ≡ record { d = um 2; q = micro_point 4 2; n = record { x = um 1; y = neg (um 0) } }
unfolding nearest_of piece_near line_near foot_of param_of along_of normal_of hypot_of sqrt_of clamp_of edges run fold add sub mul div neg lt eq of_int
nearest_6 = refl

nearest_1 : nearest_of (edges S) (micro_point 1 2) ≡ record { d = um 1; q = micro_point 0 2; n = record { x = neg (um 1); y = neg (um 0) } }
unfolding nearest_of piece_near line_near foot_of param_of along_of normal_of hypot_of sqrt_of clamp_of edges run fold add sub mul div neg lt eq of_int
nearest_1 = refl

nearest_7 : nearest_of (edges S) (micro_point 7 8) ≡ record { d = um 5; q = micro_point 4 4; n = record { x = um 1; y = neg (um 0) } }
unfolding nearest_of piece_near line_near foot_of param_of along_of normal_of hypot_of sqrt_of clamp_of edges run fold add sub mul div neg lt eq of_int
nearest_7 = refl

-- and then its sign
signed_at : (p : Point) (in_half_plane : Bool) (c : Near) (d : Distance) → nearest_of (edges S) p ≡ c → signed_of c p in_half_plane ≡ d → ◌≡◌ {A = Answer Distance} (Ok (signed_of (nearest_of (edges S) p) p in_half_plane)) (Ok d)
signed_at p in_half_plane c d e f = rw (e, f)

signed_6 : signed_of (record { d = um 2; q = micro_point 4 2; n = record { x = um 1; y = neg (um 0) } }) (micro_point 6 2) false ≡ distance_of (um 2) (um 1) (um 0)
unfolding signed_of rounding_of abs_of with_sign max_of stands_before sign_bit is_nan sub mul div neg lt eq of_int
signed_6 = refl

signed_1 : signed_of (record { d = um 1; q = micro_point 0 2; n = record { x = neg (um 1); y = neg (um 0) } }) (micro_point 1 2) true ≡ distance_of (neg (um 1)) (neg (um 1)) (neg (um 0))
unfolding signed_of rounding_of abs_of with_sign max_of stands_before sign_bit is_nan sub mul div neg lt eq of_int
signed_1 = refl

six_tenths : tenths 6 ≡ fin false 5404319552844595 (negsuc 52)
unfolding div of_int
six_tenths = refl

eight_tenths : tenths 8 ≡ fin false 3602879701896397 (negsuc 51)
unfolding div of_int
eight_tenths = refl

signed_7 : signed_of (record { d = um 5; q = micro_point 4 4; n = record { x = um 1; y = neg (um 0) } }) (micro_point 7 8) false ≡ distance_of (um 5) (fin false 5404319552844595 (negsuc 52)) (fin false 3602879701896397 (negsuc 51))
unfolding signed_of rounding_of abs_of with_sign max_of stands_before sign_bit is_nan sub mul div neg lt eq of_int
signed_7 = refl

in_tenths : ◌≡◌ {A = Answer Distance} (Ok (distance_of (um 5) (fin false 5404319552844595 (negsuc 52)) (fin false 3602879701896397 (negsuc 51)))) (Ok (distance_of (um 5) (tenths 6) (tenths 8)))
in_tenths = rw (six_tenths, eight_tenths)

distance_6 : distance_answer S (micro_point 6 2) ≡ Ok (distance_of (um 2) (um 1) (um 0))
unfolding distance_answer outline_query_tested given ◌refusing◌when◌ outline_tested shape_tested count_tested values_tested area_of contains_of crosses_of
    odd_many any fold run edges add sub mul div neg lt le eq of_int
distance_6 = signed_at (micro_point 6 2) false _ _ nearest_6 signed_6

distance_1 : distance_answer S (micro_point 1 2) ≡ Ok (distance_of (neg (um 1)) (neg (um 1)) (neg (um 0)))
unfolding distance_answer outline_query_tested given ◌refusing◌when◌ outline_tested shape_tested count_tested values_tested area_of contains_of crosses_of
    odd_many any fold run edges add sub mul div neg lt le eq of_int
distance_1 = signed_at (micro_point 1 2) true _ _ nearest_1 signed_1

distance_7 : distance_answer S (micro_point 7 8) ≡ Ok (distance_of (um 5) (tenths 6) (tenths 8))
unfolding distance_answer outline_query_tested given ◌refusing◌when◌ outline_tested shape_tested count_tested values_tested area_of contains_of crosses_of
    odd_many any fold run edges add sub mul div neg lt le eq of_int
distance_7 = signed_at (micro_point 7 8) false _ _ nearest_7 signed_7 ∙ in_tenths

-- the nearest of two outlines: the magnitude of each first
nearest_left : nearest_of (edges S) (micro_point 7 2) ≡ record { d = um 3; q = micro_point 4 2; n = record { x = um 1; y = neg (um 0) } }
unfolding nearest_of piece_near line_near foot_of param_of along_of normal_of hypot_of sqrt_of clamp_of edges run fold add sub mul div neg lt eq of_int
nearest_left = refl

nearest_right : nearest_of (edges S-right) (micro_point 7 2) ≡ record { d = um 3; q = micro_point 10 2; n = record { x = neg (um 1); y = neg (um 0) } }
unfolding nearest_of piece_near line_near foot_of param_of along_of normal_of hypot_of sqrt_of clamp_of edges run fold add sub mul div neg lt eq of_int
nearest_right = refl

magnitude_of_lem : (o : List Float) (c : Near) → nearest_of (edges o) (micro_point 7 2) ≡ c → abs_of (signed_of c (micro_point 7 2) (contains_of (edges o) (micro_point 7 2))).d ≡ um 3 → magnitude_of o (micro_point 7 2) ≡ um 3
unfolding magnitude_of
magnitude_of_lem o c e f = rw e f

magnitude_left : magnitude_of S (micro_point 7 2) ≡ um 3
unfolding contains_of crosses_of odd_many fold run edges signed_of rounding_of abs_of with_sign max_of stands_before sign_bit is_nan add sub mul div neg lt eq of_int
magnitude_left = magnitude_of_lem S _ nearest_left refl

magnitude_right : magnitude_of S-right (micro_point 7 2) ≡ um 3
unfolding contains_of crosses_of odd_many fold run edges signed_of rounding_of abs_of with_sign max_of stands_before sign_bit is_nan add sub mul div neg lt eq of_int
magnitude_right = magnitude_of_lem S-right _ nearest_right refl

outlines_of_both : outlines_of both fours ≡ S ∷ S-right ∷ []
unfolding outlines_of outline_at start_of run
outlines_of_both = refl

least_of_two : (D : ℕ → Float) → D 0 ≡ um 3 → D 1 ≡ um 3 → least_of D 2 ≡ record { outline = 0; distance = um 3 }
unfolding least_of fold run lt of_int
least_of_two D e f = rw (e, f)

nearest_both : nearest_in (S ∷ S-right ∷ []) (micro_point 7 2) ≡ Some (record { outline = 0; distance = um 3 })
unfolding nearest_in
nearest_both = ap (λ (b : Best). Some b) (least_of_two (magnitude_at (S ∷ S-right ∷ []) (micro_point 7 2)) magnitude_left magnitude_right)

both_passes : set_tested both fours ≡ all_passed
unfolding set_tested lists_tested outlines_tested ◌refusing◌when◌ outlines_of outline_at start_of any fold run edges area_of total add sub mul div neg lt le eq of_int
both_passes = refl

query_passes : set_query_tested both fours (micro_point 7 2) room ≡ all_passed
unfolding set_query_tested ◌refusing◌when◌ neg le lt eq of_int
query_passes = ap (λ (t : Test). t refusing BadPoint when not (point_in_field (micro_point 7 2)) refusing ShortBuffer when short_buffer room) both_passes

-- ---- the index buffer: zeros in all of it
all_zeros : {A : Type 0} (z a : A) (n : ℕ) → at_front (zeros z n) (replicate n a) ≡ zeros z n
unfolding at_front
all_zeros z a n =
    let m = length-replicate n z ∙ sym (length-replicate n a) in
    ap (λ (k : ℕ). zeros z n ++ drop k (replicate n a)) m ∙ ap (λ xs. zeros z n ++ xs) (drop-length (replicate n a)) ∙ append-nil (zeros z n)

room_cleared : cleared room ≡ room_after
unfolding cleared
room_cleared = rw (all_zeros zeroᶠ (um 9) 2044, all_zeros {A = ℕ} 0 9 1022, all_zeros {A = ℕ} 0 9 1024)

-- ---- the calls
found_both : nearest_call both fours (micro_point 7 2) room ≡ record { answer = record { number = 0; found = 1; outline = 0; distance = um 3 }; lent = room_after }
unfolding nearest_call nearest_outcome query_outcome given
found_both = rw (query_passes, outlines_of_both, nearest_both, room_cleared)

met : (c : Bounds) (is : List ℕ) → meeting_tested boxes c room list_places ≡ all_passed → meeting_of c (index_of boxes) ≡ is
    → meeting_call boxes c room list_places ≡ record { answer = record { number = 0; value = length is }; lent = record { buffer = room_after; list = at_front is list_places } }
unfolding meeting_outcome listing given
met c is t e = rw (t, e, room_cleared)

-- ---- every example holds
infixr 3 ◌also◌
abbrev ◌also◌ : {A B : Type 0} → A → B → A × B
a also b = (a, b)

pub starred_hold : AllHold starred
unfolding AllHold starred
    area_answer perimeter_answer contains_answer locate_answer outline_query_tested given ◌refusing◌when◌ outline_tested shape_tested count_tested values_tested
    area_of contains_of crosses_of locate_of on_edge length_of edge_length
    make_outcome make_tested made_of coordinates_of Rattle.geometry.specs.Making.turned kept kept_count closed at_front
    fill_outcome fill_tested box_fits filled long_of fill_of xdy_of clip_of joined onward joint kept_lines rotated last_kept lead parts parts_of part_of
    crosses in_half_plane Rattle.clip.specs.Clip.point_along along_of flat_map ne
    ellipse_answer ellipse_tested ellipse_fits offset_fits piece_near ellipse_near ellipse_foot ellipse_nearest long_nearest quadrant_nearest on_axis
    copysign_of abs_of with_sign sign_bit max_of stands_before hypot_of sqrt_of
    meeting_tested boxes_tested boxes_of meeting_of apart index_of tree_on hull_of hull wide_at box_at widened_of scale_of sort insert is_nan
    total any odd_many fold run edges vertices add sub mul div neg lt le eq of_int
starred_hold =
    refl also refl also refl
    also refl also refl also refl also refl also refl also refl
    also ap distance_fields distance_6 also ap distance_fields distance_1 also ap distance_fields distance_7
    also refl also refl
    also refl also refl
    also found_both
    also refl also refl
    also met (cell 5 5 6 6) (0 ∷ 1 ∷ []) refl refl also met (cell 20 20 21 21) [] refl refl
    also tt

-- not starred: the gap of the box from (0, 0) to (1, 1) at (4, 5) is 5
example_gap : gap_of (record { min = micro_point 0 0; max = micro_point 1 1 }) (micro_point 4 5) ≡ um 5
unfolding gap_of gap_along max_of stands_before sign_bit is_nan hypot_of sqrt_of add sub mul lt eq of_int
example_gap = refl

-- The second pass over a stream: the outlines read so far stand in the lists, and what is left is accepted. Assumes nothing.
use Rattle.std.proofs.Common.{Err, Ok}
use mathlib.Core.Path.{◌≡◌, refl, sym, ap, ap₂, ◌∙◌}
use mathlib.Core.Bool.{Bool, true, false, cond}
use mathlib.Core.List.{List, [], ◌∷◌, ◌++◌, append-nil, append_assoc}
use Prim.Native.Nat.{ℕ, suc, ◌+◌, ◌-◌, ◌*◌, ◌/◌, ◌≤◌, ◌<◌}
use native.Mathlib.Omega.{arith}
use borrow.Author.Tests.{ltb-false}
use lib.Dec.{eqb}
use lib.IntN.{ℤ}
use lib.ListN.{length, drop, get_or, length-drop, length-append}
use lib.Seq.{sets, length-sets, get_or-append_seam}
use lib.Ieee.{Float}
use Rattle.lists.specs.Lists.{at_front}
use Rattle.lists.proofs.FoldLaws.{or_none}
use Rattle.lists.proofs.StoreLaws.{sets_append, sets_front}
use Rattle.accept.specs.declared.Refusal.TheVariants.{TooMany}
use Rattle.accept.specs.Refusals.{Test, all_passed, given}
use Rattle.accept.proofs.TestLaws.{given_passed, refusing_passed}
use Rattle.geometry.specs.Making.{made_of}
use Rattle.stream.specs.declared.Awaited.{Awaited}
use Rattle.stream.specs.declared.Awaited.TheVariants.{Header}
use Rattle.stream.specs.Bytes.{steps_in}
use Rattle.stream.specs.Format.{XY}
use Rattle.stream.specs.Records.{record_size, record_type, record_data, asked_after, at_end}
use Rattle.xy.specs.Outlines.{numbers_of, made_count, xy_tested, steps_from}
use Rattle.gdsii.specs.declared.Size.{Size}
use Rattle.gdsii.specs.Reading.{set_of, counts_of, record_tested, joining_tested, all_tested, with_record, Reading, turned_down, read_as, read_by, reading}
use Rattle.gdsii.specs.Answers.{SetLent, set_lent, set_size}
use Rattle.gdsii.specs.Work.{AtRecord, Joins, RoomForSet, Wrote, size_with, sign_of, written_at}
use Rattle.gdsii.proofs.SizeLaws.{set_more, counts_more, count_more, length_more, set_append, set_even, length_counts}
use Rattle.gdsii.proofs.PassedLaws.{Small, passed_clean, passed_joined}
use Rattle.gdsii.proofs.PlaceLaws.{passed_whole, after_at, outline_room, outline_place}
use Rattle.gdsii.proofs.TurnLaws.{same_held, down_not_held, nothing_left, Next, one_record, tests_passed}
use Rattle.gdsii.proofs.Sound.{sound}

-- ---- where the pass stands: X and C are the lists, X₀ and C₀ as they were lent
pub record Writing (s : List ℕ) (n : ℕ) (S : List Bool) (X₀ : List Float) (C₀ : List ℕ) (at : ℕ) (so : Size) (X : List Float) (C : List ℕ) : Type 0 where
  pub room : RoomForSet s n S (set_lent X₀ C₀)
  pub asked : Awaited
  pub past : List (List ℤ)
  pub fuel : ℕ
  pub within : at ≤ length s
  pub enough : length s - at < fuel
  pub left : read_by fuel asked past (drop at s) ≡ read_as room.outlines
  pub size : so ≡ set_size past
  pub vertices : X ≡ sets X₀ 0 (set_of past)
  pub counts : C ≡ sets C₀ 0 (counts_of past)

pub begins_writing : (s : List ℕ) (n : ℕ) (S : List Bool) (X₀ : List Float) (C₀ : List ℕ) → RoomForSet s n S (set_lent X₀ C₀) → Writing s n S X₀ C₀ 0 (record { outlines = 0; vertices = 0 }) X₀ C₀
unfolding reading set_of counts_of
begins_writing s n S X₀ C₀ r =
    record { room = r; asked = Header; past = []; fuel = suc (length s); within = omega arith; enough = omega arith; left = r.read; size = refl; vertices = refl; counts = refl }

none_of : {A : Type 0} (xs : List A) → length xs ≡ 0 → xs ≡ []
none_of [] e = refl
none_of (x ∷ xs) e = absurd (omega arith)

passed_held : (t : Test) (r : Reading) (zss : List (List ℤ)) → given t r turned_down ≡ read_as zss → t ≡ all_passed
unfolding given
passed_held (Ok _) r zss e = refl
passed_held (Err q) r zss e = absurd (down_not_held q zss e)

module _ {s : List ℕ} {n : ℕ} {S : List Bool} {X₀ : List Float} {C₀ : List ℕ} {at : ℕ} {so : Size} {X : List Float} {C : List ℕ} (w : Writing s n S X₀ C₀ at so X C) where
  abbrev all : List (List ℤ)
  all = w.room.outlines

  -- the lists are as long as they were
  pub same_sizes : (length X ≡ length X₀) × (length C ≡ length C₀)
  same_sizes = (ap length w.vertices ∙ length-sets X₀ 0 (set_of w.past), ap length w.counts ∙ length-sets C₀ 0 (counts_of w.past))

  abbrev then : Awaited
  then = asked_after w.asked (record_type (drop at s))

  written_many : so.outlines ≡ length w.past
  written_many = ap (λ (z : Size). z.outlines) w.size

  -- as many outlines as there are: those of the stream
  all_past : n ≤ so.outlines → w.past ≡ all
  all_past l =
      let r = sound w.fuel w.asked w.past (drop at s) all w.left in
      let e = ap length r.whole in
      let k = length-append w.past r.rest in
      let m = w.room.many in
      let o = written_many in
      sym (r.whole ∙ ap (λ (z : List (List ℤ)). w.past ++ z) (none_of r.rest (omega arith)) ∙ append-nil w.past)

  -- then the lists hold the set
  pub all_written : n ≤ so.outlines → Wrote s (set_lent X₀ C₀) (set_lent X C)
  all_written l zss q =
      let a : all ≡ zss = same_held (sym w.room.read ∙ q) in
      let p : w.past ≡ zss = all_past l ∙ a in
      let e = ap length (ap set_of a) in
      let m = ap length a in
      let k = length_counts zss in
      let v = w.room.wide in
      let c = w.room.long in
      ap₂ set_lent
      (w.vertices ∙ ap (λ (z : List (List ℤ)). sets X₀ 0 (set_of z)) p ∙ sets_front X₀ (set_of zss) (omega arith) ∙ (unfold at_front in refl))
      (w.counts ∙ ap (λ (z : List (List ℤ)). sets C₀ 0 (counts_of z)) p ∙ sets_front C₀ (counts_of zss) (omega arith) ∙ (unfold at_front in refl))

  -- where fewer are written, more is asked for
  module _ (fewer : so.outlines < n) where
    more : at_end w.asked ≡ false
    more = go (at_end w.asked) refl
      where
        go : (b : Bool) → at_end w.asked ≡ b → b ≡ false
        go false e = refl
        go true e =
            let l = w.enough in
            let p = ap length (same_held (nothing_left w.fuel w.asked (drop at s) (omega arith) e w.left)) in
            let m = w.room.many in
            let o = written_many in
            absurd (omega arith)

    next : Next w.fuel w.asked w.past (drop at s) (read_as all)
    next = let l = w.enough in one_record w.fuel (omega arith) more w.left

    passed : all_tested then w.past (drop at s) ≡ all_passed
    passed = passed_held _ _ all next.read

    tests : (record_tested then (drop at s) ≡ all_passed) × (cond (eqb (record_type (drop at s)) XY) (joining_tested w.past (steps_in (record_data (drop at s)))) all_passed ≡ all_passed)
    tests = tests_passed then w.past (drop at s) passed

    -- the record's length and type stand in the stream
    pub opens : at + 4 ≤ length s
    opens =
        let c = or_none _ _ (passed_clean then (drop at s) tests.0).whole in
        let k = length-drop at s in
        let i = w.within in
        let a = ltb-false (record_size (drop at s)) 4 c.0 in
        let b = ltb-false (length (drop at s)) (record_size (drop at s)) c.1 in
        omega arith

    module _ {t k : ℕ} (A : AtRecord s at t k) where
      pub moves : (4 ≤ k) × (k ≤ length s - at)
      moves = passed_whole s at t k then A tests.0

      rest_read : read_by next.fuel then (with_record w.past (drop at s)) (drop (at + k) s) ≡ read_as all
      rest_read = ap (read_by next.fuel then (with_record w.past (drop at s))) (sym (after_at s at t k then A)) ∙ sym (given_passed passed _ _) ∙ next.read

      goes_on : {so' : Size} {X' : List Float} {C' : List ℕ} → so' ≡ set_size (with_record w.past (drop at s)) → X' ≡ sets X₀ 0 (set_of (with_record w.past (drop at s))) → C' ≡ sets C₀ 0 (counts_of (with_record w.past (drop at s)))
          → Writing s n S X₀ C₀ (at + k) so' X' C'
      goes_on e v c =
          let h = moves in
          let l = w.enough in
          let o = next.one in
          let i = w.within in
          record { room = w.room; asked = then; past = with_record w.past (drop at s); fuel = next.fuel; within = omega arith; enough = omega arith; left = rest_read; size = e; vertices = v; counts = c }

      -- another record than an XY
      pub passes : eqb t XY ≡ false → Writing s n S X₀ C₀ (at + k) so X C
      passes u =
          let p : w.past ≡ with_record w.past (drop at s) = unfold with_record in rw (← A.type, u) in
          goes_on (w.size ∙ ap set_size p) (w.vertices ∙ ap (λ (z : List (List ℤ)). sets X₀ 0 (set_of z)) p) (w.counts ∙ ap (λ (z : List (List ℤ)). sets C₀ 0 (counts_of z)) p)

      -- an XY
      module _ (u : eqb t XY ≡ true) where
        abbrev zs : List ℤ
        zs = steps_from s (at + 4) ((k - 4) / 8)

        is_steps : steps_in (record_data (drop at s)) ≡ zs
        is_steps = outline_place s at t k then A tests.0 u

        longer : with_record w.past (drop at s) ≡ w.past ++ zs ∷ []
        unfolding with_record
        longer = rw (← A.type, u, is_steps)

        joining : joining_tested w.past zs ≡ all_passed
        joining = rw (← A.type, u, is_steps) at tests.1

        small : Small (w.past ++ zs ∷ [])
        small = (passed_joined w.past zs joining).small

        -- the outlines of the stream are those read so far, this one, and others
        others : (rest : List (List ℤ)) × (all ≡ (w.past ++ zs ∷ []) ++ rest)
        others =
            let r = sound next.fuel then (with_record w.past (drop at s)) (drop (at + k) s) all rest_read in
            (r.rest, r.whole ∙ ap (λ (z : List (List ℤ)). z ++ r.rest) longer)

        its_sign : get_or S so.outlines false ≡ sign_of zs
        its_sign =
            let a : all ≡ w.past ++ zs ∷ others.0 = others.1 ∙ append_assoc w.past (zs ∷ []) others.0 in
            let l = ap length a in
            let m = length-append w.past (zs ∷ others.0) in
            ap (λ (z : Size). get_or S z.outlines false) w.size
            ∙ w.room.signs.each (length w.past) (omega arith)
            ∙ ap (λ (z : List (List ℤ)). sign_of (get_or z (length w.past) [])) a
            ∙ ap sign_of (get_or-append_seam w.past zs others.0 [])

        has_room : 2 * so.vertices + length (made_of (numbers_of zs)) ≤ length X
        has_room =
            let e = ap (λ (z : Size). z.vertices) w.size in
            let a = ap length (ap set_of others.1) in
            let b = ap length (set_append (w.past ++ zs ∷ []) others.0) in
            let c = length-append (set_of (w.past ++ zs ∷ [])) (set_of others.0) in
            let d = ap length (set_more w.past zs) in
            let f = length-append (set_of w.past) (made_of (numbers_of zs)) in
            let g = set_even w.past in
            let h = ap length w.vertices in
            let i = length-sets X₀ 0 (set_of w.past) in
            let j = w.room.wide in
            omega arith

        pub joins : Joins s (at + 4) ((k - 4) / 8) so S (set_lent X C)
        unfolding joining_tested
        joins =
            let l = length_more w.past zs in
            let m = count_more w.past zs in
            let o = small.outlines in
            let v = small.vertices in
            let a = ap (λ (z : Size). z.outlines) w.size in
            let b = ap (λ (z : Size). z.vertices) w.size in
            record {
              within = outline_room s at t k then A tests.0 u;
              passed = (refusing_passed (xy_tested zs) TooMany _ joining).0;
              sign = its_sign;
              few = omega arith;
              small = omega arith;
              wide = has_room;
            }

        pub writes : {so' : Size} {X' : List Float} {C' : List ℕ} → so' ≡ size_with so zs → set_lent X' C' ≡ written_at so zs (set_lent X C) → Writing s n S X₀ C₀ (at + k) so' X' C'
        writes e q =
            let c = ap (λ (z : Size). z.outlines) w.size in
            let b = ap (λ (z : Size). z.vertices) w.size in
            let g = set_even w.past in
            let m = length_counts w.past in
            let i : 2 * so.vertices ≡ 0 + length (set_of w.past) = omega arith in
            let j : so.outlines ≡ 0 + length (counts_of w.past) = omega arith in
            goes_on
            (e ∙ rw (w.size, longer, length_more w.past zs, count_more w.past zs))
            (ap (λ (z : SetLent). z.vertices) q ∙ rw (i, w.vertices, longer, set_more w.past zs) (sets_append X₀ 0 (set_of w.past) (made_of (numbers_of zs))))
            (ap (λ (z : SetLent). z.counts) q ∙ rw (j, w.counts, longer, counts_more w.past zs) (sets_append C₀ 0 (counts_of w.past) (made_count zs ∷ [])))

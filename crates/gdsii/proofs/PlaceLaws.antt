-- The record at a place of a stream: its data, what stands after it, and what its tests say. Assumes nothing.
use Rattle.std.proofs.Common.{Err}
use mathlib.Core.Path.{◌≡◌, refl, sym, ap, ◌∙◌}
use mathlib.Core.Bool.{Bool, true, false, ◌&&◌, ◌||◌}
use mathlib.Core.List.{List}
use Prim.Native.Nat.{ℕ, ◌+◌, ◌-◌, ◌*◌, ◌/◌, ◌≤◌, ◌<◌}
use native.Mathlib.Omega.{arith}
use borrow.Author.Tests.{ltb-false, lt-ltb, eqb-true}
use lib.Dec.{eqb, ltb}
use lib.ListN.{length, take, drop, length-drop}
use lib.Seq.{length-take-le, take-take, drop-drop}
use Rattle.lists.proofs.FoldLaws.{or_none}
use Rattle.accept.specs.declared.Refusal.TheVariants.{BadRecord, OtherUnit}
use Rattle.accept.specs.Refusals.{all_passed, ◌refusing◌when◌}
use Rattle.accept.proofs.TestLaws.{refusing_passed}
use Rattle.stream.specs.declared.Awaited.{Awaited}
use Rattle.stream.specs.Bytes.{pair_at, steps_in}
use Rattle.stream.specs.Format.{UNITS, XY}
use Rattle.stream.specs.Records.{record_size, record_data, after_record, astray, cut_short, misfit, other_unit}
use Rattle.stream.proofs.OrderLaws.{size_at, type_at, units_sixteen, xy_multiple}
use Rattle.xy.specs.Outlines.{steps_from}
use Rattle.gdsii.specs.Reading.{record_tested}
use Rattle.gdsii.specs.Work.{AtRecord}

-- the record that stands at a place, from the pairs of bytes read there
pub read_at : {s : List ℕ} {at t n : ℕ} → at + 4 ≤ length s → (t ≡ pair_at s (at + 2)) × (t < 65536) → (n ≡ pair_at s at) × (n < 65536) → AtRecord s at t n
read_at {s} {at} {t} {n} w a b =
    record {
      within = w;
      type = a.0 ∙ type_at s at;
      size = b.0 ∙ size_at s at;
      short = b.1;
    }

-- the record is missing, cut short, or of a length below 4
abbrev pub record_cut : List ℕ → ℕ → ℕ → Bool
record_cut s at n = ltb n 4 || ltb (length s - at) n

pub whole_at : (s : List ℕ) (at n : ℕ) → record_cut s at n ≡ false → (4 ≤ n) × (n ≤ length s - at)
whole_at s at n e = let h = or_none (ltb n 4) (ltb (length s - at) n) e in (ltb-false n 4 h.0, ltb-false (length s - at) n h.1)

-- fewer than four bytes are no record
pub none_left : (s : List ℕ) (then : Awaited) → length s < 4 → record_tested then s ≡ Err BadRecord
unfolding record_tested ◌refusing◌when◌
none_left s then l = rw (cut (ltb (record_size s) 4) refl)
  where
    cut : (b : Bool) → ltb (record_size s) 4 ≡ b → (b || ltb (length s) (record_size s)) ≡ true
    cut true e = refl
    cut false e = lt-ltb (length s) (record_size s) (let h = ltb-false (record_size s) 4 e in omega arith)

module _ (s : List ℕ) (at t n : ℕ) (then : Awaited) (A : AtRecord s at t n) where
  abbrev x : List ℕ
  x = drop at s

  pub after_at : after_record x ≡ drop (at + n) s
  unfolding after_record
  after_at = rw (← A.size) (drop-drop n at s)

  pub data_at : record_data x ≡ take (n - 4) (drop (at + 4) s)
  unfolding record_data
  data_at = rw (← A.size, drop-drop 4 at s)

  cut_at : cut_short x ≡ record_cut s at n
  cut_at = rw (← A.size, length-drop at s)

  pub cut_refused : record_cut s at n ≡ true → record_tested then x ≡ Err BadRecord
  unfolding record_tested ◌refusing◌when◌
  cut_refused e = rw (cut_at, e)

  module _ (whole : record_cut s at n ≡ false) where
    data_length : length (record_data x) ≡ n - 4
    data_length = ap length data_at ∙ length-take-le (n - 4) (drop (at + 4) s) (let h = whole_at s at n whole in let k = length-drop (at + 4) s in omega arith)

    -- what 16 has found so far
    abbrev astray_at : Bool
    astray_at = astray then || misfit t (n - 4)

    pub order_refused : astray_at ≡ true → record_tested then x ≡ Err BadRecord
    unfolding record_tested ◌refusing◌when◌
    order_refused e = rw (cut_at, whole, data_length, ← A.type) (go (astray then) (misfit t (n - 4)) e)
      where
        go : (a b : Bool) → (a || b) ≡ true
            → (all_passed refusing BadRecord when a refusing BadRecord when b refusing OtherUnit when (eqb t UNITS && other_unit (record_data x))) ≡ Err BadRecord
        go true b e = refl
        go false b e = rw e

    -- then 17 decides
    unit_at : misfit t (n - 4) ≡ false → (eqb t UNITS && other_unit (record_data x)) ≡ (eqb t UNITS && other_unit (drop (at + 4) s))
    unfolding other_unit
    unit_at e = rw data_at (go (eqb t UNITS) refl)
      where
        go : (b : Bool) → eqb t UNITS ≡ b → (b && other_unit (take (n - 4) (drop (at + 4) s))) ≡ (b && other_unit (drop (at + 4) s))
        go false u = refl
        go true u = let k = units_sixteen t (n - 4) (eqb-true t UNITS u) e in rw (k, take-take 8 16 (drop (at + 4) s) (omega arith))

    pub order_passed : astray_at ≡ false → record_tested then x ≡ (all_passed refusing OtherUnit when (eqb t UNITS && other_unit (drop (at + 4) s)))
    unfolding record_tested ◌refusing◌when◌
    order_passed e =
        let h = or_none (astray then) (misfit t (n - 4)) e in
        rw (cut_at, whole, data_length, ← A.type, h.0, h.1, unit_at h.1)

    -- a UNITS has as many data bytes as 17 reads
    pub unit_room : astray_at ≡ false → eqb t UNITS ≡ true → at + 4 + 8 ≤ length s
    unit_room e u = let k = units_sixteen t (n - 4) (eqb-true t UNITS u) (or_none (astray then) (misfit t (n - 4)) e).1 in let h = whole_at s at n whole in let w = A.within in omega arith

  -- ---- where 16 and 17 are passed
  record_passed : record_tested then x ≡ all_passed → (record_cut s at n ≡ false) × (misfit t (n - 4) ≡ false)
  unfolding record_tested
  record_passed e =
      let a = (refusing_passed _ OtherUnit _ e).0 in
      let b = refusing_passed _ BadRecord _ a in
      let c = (refusing_passed _ BadRecord _ b.0).0 in
      let whole = sym cut_at ∙ (refusing_passed _ BadRecord _ c).1 in
      (whole, rw (← A.type, data_length whole) at b.1)

  pub passed_whole : record_tested then x ≡ all_passed → (4 ≤ n) × (n ≤ length s - at)
  passed_whole e = whole_at s at n (record_passed e).0

  -- an XY's data are the vertices from its place on
  pub outline_room : record_tested then x ≡ all_passed → eqb t XY ≡ true → at + 4 + 8 * ((n - 4) / 8) ≤ length s
  outline_room e u =
      let k = xy_multiple t (n - 4) (eqb-true t XY u) (record_passed e).1 in
      let h = passed_whole e in
      let w = A.within in
      omega arith

  pub outline_place : record_tested then x ≡ all_passed → eqb t XY ≡ true → steps_in (record_data x) ≡ steps_from s (at + 4) ((n - 4) / 8)
  outline_place e u =
      let k = xy_multiple t (n - 4) (eqb-true t XY u) (record_passed e).1 in
      let m : n - 4 ≡ 8 * ((n - 4) / 8) = omega arith in
      ap steps_in (data_at ∙ ap (λ (j : ℕ). take j (drop (at + 4) s)) m)

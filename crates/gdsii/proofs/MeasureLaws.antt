-- The first pass over a stream: where it stands, what is left of the stream gives the whole answer. Assumes nothing.
use Rattle.std.proofs.Common.{Ok, Err}
use mathlib.Core.Path.{◌≡◌, refl, sym, ap, ◌∙◌, subst}
use mathlib.Core.Bool.{Bool, true, false, cond, ◌||◌}
use mathlib.Core.List.{List, [], ◌∷◌, ◌++◌}
use Prim.Native.Nat.{ℕ, suc, ◌+◌, ◌-◌, ◌≤◌, ◌<◌}
use native.Mathlib.Omega.{arith}
use borrow.Author.Tests.{eqb-true, eqb-false}
use lib.Dec.{eqb, ltb}
use lib.IntN.{ℤ}
use lib.ListN.{length, drop, get_or, set, length-drop, length-set, get_or-append}
use lib.Seq.{get_or-append_seam, get_or-set_same, get_or-set_other}
use Rattle.boundary.specs.Outline.{count}
use Rattle.accept.specs.declared.Refusal.{Refusal}
use Rattle.accept.specs.declared.Refusal.TheVariants.{TooMany, BadRecord}
use Rattle.accept.specs.Refusals.{Answer, Test, all_passed, ◌refusing◌when◌, given}
use Rattle.accept.proofs.TestLaws.{given_passed, given_failed}
use Rattle.stream.specs.declared.Awaited.{Awaited}
use Rattle.stream.specs.declared.Awaited.TheVariants.{Header}
use Rattle.stream.specs.Bytes.{steps_in}
use Rattle.stream.specs.Format.{XY}
use Rattle.stream.specs.Records.{record_type, record_data, asked_after, at_end}
use Rattle.xy.specs.Outlines.{made_count, xy_tested}
use Rattle.gdsii.specs.declared.Size.{Size}
use Rattle.gdsii.specs.Reading.{set_of, record_tested, joining_tested, all_tested, with_record, turned_down, read_by, reading}
use Rattle.gdsii.specs.Answers.{set_size, measured}
use Rattle.gdsii.specs.Work.{AtRecord, grown_by, record_read, sign_of, with_record_sign, Signs, SignsOf}
use Rattle.gdsii.proofs.SizeLaws.{count_more, length_more, length_counts}
use Rattle.gdsii.proofs.PassedLaws.{Small, none_small, passed_joined}
use Rattle.gdsii.proofs.TurnLaws.{same_held, down_not_held, nothing_left, Next, one_record, tests_passed}
use Rattle.gdsii.proofs.PlaceLaws.{none_left, passed_whole, after_at}

-- ---- a record by sizes alone is the record of the definition
chosen : (t : Test) (b : Bool) (u : Test) (o : Bool) (small large : Size)
    → given t (cond b (given u (cond o (Err TooMany) (Ok large)) Err) (Ok small)) Err
    ≡ given (given t (cond b (u refusing TooMany when o) all_passed) Err) (Ok (cond b large small)) Err
unfolding given ◌refusing◌when◌
chosen (Err r) b u o small large = refl
chosen (Ok _) false u o small large = refl
chosen (Ok _) true (Err r) o small large = refl
chosen (Ok _) true (Ok _) true small large = refl
chosen (Ok _) true (Ok _) false small large = refl

-- the set with the record's outline is over a set's size
abbrev over_with : List (List ℤ) → List ℤ → Bool
over_with zss zs = ltb 1024 (length zss + 1) || ltb 65536 (count (set_of zss) + made_count zs)

joining_is : (zss : List (List ℤ)) (zs : List ℤ) → joining_tested zss zs ≡ (xy_tested zs refusing TooMany when over_with zss zs)
unfolding joining_tested
joining_is zss zs = rw (length_counts (zss ++ zs ∷ []), length_more zss zs, count_more zss zs)

size_with_lem : (zss : List (List ℤ)) (s : List ℕ) → set_size (with_record zss s) ≡ cond (eqb (record_type s) XY) (record { outlines = length zss + 1; vertices = count (set_of zss) + made_count (steps_in (record_data s)) }) (set_size zss)
unfolding with_record
size_with_lem zss s = go (eqb (record_type s) XY)
  where
    zs : List ℤ
    zs = steps_in (record_data s)

    go : (b : Bool) → set_size (cond b (zss ++ zs ∷ []) zss) ≡ cond b (record { outlines = length zss + 1; vertices = count (set_of zss) + made_count zs }) (set_size zss)
    go true = rw (length_more zss zs, count_more zss zs)
    go false = refl

record_read_lem : (then : Awaited) (zss : List (List ℤ)) (s : List ℕ) → record_read then (set_size zss) s ≡ given (all_tested then zss s) (Ok (set_size (with_record zss s))) Err
unfolding record_read grown_by all_tested
record_read_lem then zss s =
    let zs = steps_in (record_data s) in
    rw (size_with_lem zss s, joining_is zss zs)
    (chosen (record_tested then s) (eqb (record_type s) XY) (xy_tested zs) (over_with zss zs) (set_size zss) (record { outlines = length zss + 1; vertices = count (set_of zss) + made_count zs }))

found_passed : (t : Test) (k n : Size) → given t (Ok k) Err ≡ Ok n → (t ≡ all_passed) × (k ≡ n)
unfolding given
found_passed (Ok _) k n e = (refl, cc)
found_passed (Err r) k n e = absurd (let z : ◌≡◌ {A = ℕ} 0 1 = cc in omega arith)

refused_failed : (t : Test) (k : Size) (r : Refusal) → given t (Ok k) Err ≡ Err r → t ≡ Err r
unfolding given
refused_failed (Ok _) k r e = absurd (let z : ◌≡◌ {A = ℕ} 0 1 = cc in omega arith)
refused_failed (Err q) k r e = let h : q ≡ r = cc in rw h

-- ---- the signs with one more
signs_more : (zss : List (List ℤ)) (zs : List ℤ) (S : List Bool) → Signs zss S → length zss < length S → Signs (zss ++ zs ∷ []) (set S (length zss) (sign_of zs))
signs_more zss zs S h l = record { each = λ k m. go k m (eqb k (length zss)) refl }
  where
    before : (k n : ℕ) → k < n + 1 → (k ≡ n → ⊥) → k < n
    before k n l d = omega arith

    go : (k : ℕ) → k < length (zss ++ zs ∷ []) → (b : Bool) → eqb k (length zss) ≡ b → get_or (set S (length zss) (sign_of zs)) k false ≡ sign_of (get_or (zss ++ zs ∷ []) k [])
    go k m true e = rw (eqb-true k (length zss) e, get_or-set_same S (length zss) (sign_of zs) false l, get_or-append_seam zss zs [] [])
    go k m false e =
        let n = length_more zss zs in
        let d = eqb-false k (length zss) e in
        let q = before k (length zss) (omega arith) d in
        get_or-set_other S (length zss) k (sign_of zs) false d ∙ h.each k q ∙ ap sign_of (sym (get_or-append zss (zs ∷ []) [] k q))

-- ---- where the pass stands
pub record Measuring (s : List ℕ) (asked : Awaited) (at : ℕ) (so : Size) (S : List Bool) : Type 0 where
  pub past : List (List ℤ)
  pub fuel : ℕ
  pub within : at ≤ length s
  pub enough : length s - at < fuel
  pub left : read_by fuel asked past (drop at s) ≡ reading s
  pub size : so ≡ set_size past
  pub small : Small past
  pub signs : Signs past S
  pub places : length S ≡ 1024

pub begins_measuring : (s : List ℕ) (S : List Bool) → length S ≡ 1024 → Measuring s Header 0 (record { outlines = 0; vertices = 0 }) S
unfolding reading set_of
begins_measuring s S h =
    record { past = []; fuel = suc (length s); within = omega arith; enough = omega arith; left = refl; size = refl; small = none_small; signs = record { each = λ k l. absurd (omega arith) }; places = h }

module _ {s : List ℕ} {asked : Awaited} {at : ℕ} {so : Size} {S : List Bool} (m : Measuring s asked at so S) where
  pub sizes : (so.outlines ≤ 1024) × (so.vertices ≤ 65536)
  sizes = rw m.size (m.small.outlines, m.small.vertices)

  abbrev then : Awaited
  then = asked_after asked (record_type (drop at s))

  -- nothing more is asked for
  pub all_read : at_end asked ≡ true → (Ok so ≡ measured (reading s)) × SignsOf (reading s) S
  all_read e =
      let l = m.enough in
      let h = nothing_left m.fuel asked (drop at s) (omega arith) e m.left in
      (ap Ok m.size ∙ ap measured h, λ zss q. subst (λ (y : List (List ℤ)). Signs y S) (same_held (h ∙ q)) m.signs)

  module _ (more : at_end asked ≡ false) where
    next : Next m.fuel asked m.past (drop at s) (reading s)
    next = let l = m.enough in one_record m.fuel (omega arith) more m.left

    refuses : {r : Refusal} → all_tested then m.past (drop at s) ≡ Err r → (S' : List Bool) → (Err r ≡ measured (reading s)) × SignsOf (reading s) S'
    refuses {r} e S' =
        let h : turned_down r ≡ reading s = sym (given_failed e _ _) ∙ next.read in
        (ap measured h, λ zss q. absurd (down_not_held r zss (h ∙ q)))

    -- too few bytes are left for a record
    pub none_refuses : length s - at < 4 → (S' : List Bool) → (Err BadRecord ≡ measured (reading s)) × SignsOf (reading s) S'
    unfolding all_tested
    none_refuses l = refuses (given_failed (none_left (drop at s) then (let n = length-drop at s in omega arith)) _ _)

    -- the record is refused
    pub record_refuses : {r : Refusal} → record_read then so (drop at s) ≡ Err r → (S' : List Bool) → (Err r ≡ measured (reading s)) × SignsOf (reading s) S'
    record_refuses {r} e = refuses (refused_failed _ _ r (sym (record_read_lem then m.past (drop at s)) ∙ ap (λ (z : Size). record_read then z (drop at s)) (sym m.size) ∙ e))

    -- the record is read
    module _ {t n : ℕ} (A : AtRecord s at t n) {so' : Size} (e : record_read then so (drop at s) ≡ Ok so') where
      both : (all_tested then m.past (drop at s) ≡ all_passed) × (set_size (with_record m.past (drop at s)) ≡ so')
      both = found_passed _ _ so' (sym (record_read_lem then m.past (drop at s)) ∙ ap (λ (z : Size). record_read then z (drop at s)) (sym m.size) ∙ e)

      tests : (record_tested then (drop at s) ≡ all_passed) × (cond (eqb (record_type (drop at s)) XY) (joining_tested m.past (steps_in (record_data (drop at s)))) all_passed ≡ all_passed)
      tests = tests_passed then m.past (drop at s) both.0

      -- with the record's outline the set is within its sizes, and its sign is put
      joined : (S' : List Bool) → S' ≡ with_record_sign so (drop at s) S → Small (with_record m.past (drop at s)) × Signs (with_record m.past (drop at s)) S' × (length S' ≡ 1024)
      unfolding with_record with_record_sign
      joined S' q = go (eqb (record_type (drop at s)) XY) refl tests.1 q
        where
          zs : List ℤ
          zs = steps_in (record_data (drop at s))

          go : (b : Bool) → eqb (record_type (drop at s)) XY ≡ b → cond b (joining_tested m.past zs) all_passed ≡ all_passed → S' ≡ cond b (set S so.outlines (sign_of zs)) S
              → Small (cond b (m.past ++ zs ∷ []) m.past) × Signs (cond b (m.past ++ zs ∷ []) m.past) S' × (length S' ≡ 1024)
          go false u j q = rw q (m.small, m.signs, m.places)
          go true u j q =
              let k = (passed_joined m.past zs j).small in
              let l = length_more m.past zs in
              let o = k.outlines in
              let p = m.places in
              rw (q, m.size) (k, signs_more m.past zs S m.signs (omega arith), length-set S (length m.past) (sign_of zs) ∙ p)

      pub advances : {S' : List Bool} → S' ≡ with_record_sign so (drop at s) S → Measuring s then (at + n) so' S'
      advances {S'} q =
          let h = passed_whole s at t n then A tests.0 in
          let l = m.enough in
          let o = next.one in
          let j = joined S' q in
          let w = m.within in
          record {
            past = with_record m.past (drop at s);
            fuel = next.fuel;
            within = omega arith;
            enough = omega arith;
            left = ap (read_by next.fuel then (with_record m.past (drop at s))) (sym (after_at s at t n then A)) ∙ sym (given_passed both.0 _ _) ∙ next.read;
            size = sym both.1;
            small = j.0;
            signs = j.1;
            places = j.2;
          }

-- ---- a record is read, and r is found
pub record Turn (s : List ℕ) (asked : Awaited) (at : ℕ) (so : Size) (S : List Bool) (t n : ℕ) (next : Awaited) (r : Answer Size) : Type 0 where
  pub stands : Measuring s asked at so S
  pub more : at_end asked ≡ false
  pub here : AtRecord s at t n
  pub asks : next ≡ asked_after asked t
  pub gives : r ≡ record_read next so (drop at s)

module _ {s : List ℕ} {asked : Awaited} {at : ℕ} {so : Size} {S : List Bool} {t n : ℕ} {next : Awaited} {r : Answer Size} (u : Turn s asked at so S t n next r) where
  asks_for : next ≡ asked_after asked (record_type (drop at s))
  asks_for = u.asks ∙ ap (asked_after asked) u.here.type

  given_by : record_read (asked_after asked (record_type (drop at s))) so (drop at s) ≡ r
  given_by = ap (λ (a : Awaited). record_read a so (drop at s)) (sym asks_for) ∙ sym u.gives

  pub turn_refuses : {q : Refusal} → r ≡ Err q → (S' : List Bool) → (Err q ≡ measured (reading s)) × SignsOf (reading s) S'
  turn_refuses e S' = record_refuses u.stands u.more (given_by ∙ e) S'

  pub turn_forward : {z : Size} → r ≡ Ok z → (4 ≤ n) × (n ≤ length s - at)
  turn_forward e = passed_whole s at t n (asked_after asked (record_type (drop at s))) u.here (tests u.stands u.more u.here (given_by ∙ e)).0

  pub turn_advances : {z : Size} {S' : List Bool} → r ≡ Ok z → S' ≡ with_record_sign so (drop at s) S → Measuring s next (at + n) z S'
  turn_advances {z} {S'} e q = subst (λ (a : Awaited). Measuring s a (at + n) z S') (sym asks_for) (advances u.stands u.more u.here (given_by ∙ e) q)

-- What is read of a stream, the format has. Assumes nothing.
use Rattle.std.proofs.Common.{Err, Ok}
use mathlib.Core.Path.{◌≡◌, refl, sym, ap, ◌∙◌}
use mathlib.Core.Bool.{Bool, true, false, cond, true≢false}
use mathlib.Core.List.{List, [], ◌∷◌, ◌++◌, append-nil, append_assoc}
use Prim.Native.Nat.{ℕ, zero, suc}
use borrow.Author.Tests.{eq-eqb}
use lib.Dec.{eqb}
use lib.IntN.{ℤ}
use lib.ListN.{length}
use Rattle.lists.specs.Lists.{Every}
use Rattle.accept.specs.declared.Refusal.{Refusal}
use Rattle.accept.specs.Refusals.{Test, all_passed, given}
use Rattle.accept.proofs.TestLaws.{both_passed}
use Rattle.stream.specs.declared.Awaited.{Awaited}
use Rattle.stream.specs.declared.Awaited.TheVariants.{Header, Bgnlib, Libname, Units, Bgnstr, Strname, Element, Layer, Datatype, Xy, Endel, Endlib, Nothing, Astray}
use Rattle.stream.specs.Bytes.{steps_in}
use Rattle.stream.specs.Format.{HEADER, BGNLIB, LIBNAME, UNITS, BGNSTR, STRNAME, ENDSTR, ENDLIB, BOUNDARY, LAYER, DATATYPE, XY, ENDEL, Record, typed}
use Rattle.stream.specs.Records.{record_type, record_data, after_record, asked_for, asked_after, at_end, astray}
use Rattle.stream.proofs.RecordLaws.{opens_record}
use Rattle.stream.proofs.OrderLaws.{asked_is, asked_so, xy_multiple, units_sixteen, unit_is}
use Rattle.gdsii.specs.Reading.{record_tested, joining_tested, all_tested, with_record, Reading, turned_down, read_as, read_by}
use Rattle.gdsii.specs.Accepted.{WithinReach, Makes}
use Rattle.gdsii.proofs.PassedLaws.{Clean, passed_clean, Small, passed_joined}
use Rattle.gdsii.proofs.Stages.{Then, At, grouped, no_more}

-- ---- a record that is read
abbrev turned_away : Reading → Bool
turned_away (turned_down r) = true
turned_away (read_as zss) = false

pub not_holding : {r : Refusal} {zss : List (List ℤ)} → turned_down r ≡ read_as zss → ⊥
not_holding e = true≢false (ap turned_away e)

given_holding : (t : Test) (a : Reading) (zss : List (List ℤ)) → given t a turned_down ≡ read_as zss → (t ≡ all_passed) × (a ≡ read_as zss)
unfolding given
given_holding (Ok _) a zss e = (refl, e)
given_holding (Err r) a zss e = absurd (not_holding e)

-- it passes the tests; then what follows is read
record Taken (n : ℕ) (asked : Awaited) (past : List (List ℤ)) (s : List ℕ) (zss : List (List ℤ)) : Type 0 where
  good : Clean (asked_after asked (record_type s)) s
  here : Record (record_type s) (record_data s) s (after_record s)
  joins : cond (eqb (record_type s) XY) (joining_tested past (steps_in (record_data s))) all_passed ≡ all_passed
  on : read_by n (asked_after asked (record_type s)) (with_record past s) (after_record s) ≡ read_as zss

taken : (n : ℕ) (asked : Awaited) (past : List (List ℤ)) (s : List ℕ) (zss : List (List ℤ))
    → at_end asked ≡ false → read_by (suc n) asked past s ≡ read_as zss → Taken n asked past s zss
unfolding read_by all_tested
taken n asked past s zss e q =
    let then = asked_after asked (record_type s) in
    let next = read_by n then (with_record past s) (after_record s) in
    let g : given (all_tested then past s) next turned_down ≡ read_as zss = rw e at q in
    let h = given_holding (all_tested then past s) next zss g in
    let b = both_passed (record_tested then s) (cond (eqb (record_type s) XY) (joining_tested past (steps_in (record_data s))) all_passed) h.0 in
    let c = passed_clean then s b.0 in
    record { good = c; here = opens_record s c.whole; joins = b.1; on = h.1 }

-- of a type t other than XY
record Plain (n : ℕ) (asked : Awaited) (t : ℕ) (then : Awaited) (past : List (List ℤ)) (s : List ℕ) (zss : List (List ℤ)) : Type 0 where
  good : Clean (asked_after asked (record_type s)) s
  kind : record_type s ≡ t
  here : Record t (record_data s) s (after_record s)
  on : read_by n then past (after_record s) ≡ read_as zss

same_past : (past : List (List ℤ)) (s : List ℕ) → eqb (record_type s) XY ≡ false → with_record past s ≡ past
unfolding with_record
same_past past s e = rw e

more_past : (past : List (List ℤ)) (s : List ℕ) → eqb (record_type s) XY ≡ true → with_record past s ≡ past ++ steps_in (record_data s) ∷ []
unfolding with_record
more_past past s e = rw e

plain : (n : ℕ) (asked : Awaited) (t : ℕ) (then : Awaited) (past : List (List ℤ)) (s : List ℕ) (zss : List (List ℤ))
    → at_end asked ≡ false → asked_after asked (record_type s) ≡ asked_for (record_type s) t then → eqb t XY ≡ false
    → read_by (suc n) asked past s ≡ read_as zss → Plain n asked t then past s zss
plain n asked t then past s zss e k x q =
    let h = taken n asked past s zss e q in
    let w = asked_is (record_type s) t then (rw k at h.good.ordered) in
    let j : asked_after asked (record_type s) ≡ then = k ∙ asked_so (record_type s) t then w in
    let y : eqb (record_type s) XY ≡ false = rw w x in
    record { good = h.good; kind = w; here = rw w at h.here; on = rw (j, same_past past s y) at h.on }

-- ---- what is still to come
pub record Rest (asked : Awaited) (past : List (List ℤ)) (s : List ℕ) (zss : List (List ℤ)) : Type 0 where
  pub rest : List (List ℤ)
  pub whole : zss ≡ past ++ rest
  pub form : At asked rest s
  pub within : Every WithinReach rest
  pub made : Every Makes rest
  pub small : Small past → Small zss

-- a portion before it
earlier : {asked then : Awaited} {past : List (List ℤ)} {s m : List ℕ} {zss : List (List ℤ)}
    → ((rest : List (List ℤ)) → At then rest m → At asked rest s) → Rest then past m zss → Rest asked past s zss
earlier f r = record { rest = r.rest; whole = r.whole; form = f r.rest r.form; within = r.within; made = r.made; small = r.small }

-- what is read by at most n records where `asked` is asked for
abbrev SoundAt : ℕ → Awaited → Type 0
SoundAt n asked = (past : List (List ℤ)) (s : List ℕ) (zss : List (List ℤ)) → read_by n asked past s ≡ read_as zss → Rest asked past s zss

abbrev Sound : ℕ → Type 0
Sound n = (asked : Awaited) → SoundAt n asked

-- ---- by one record more
module _ (n : ℕ) (on : Sound n) where
  -- a record of which only length and type count
  typed_at : (asked : Awaited) (t : ℕ) (then : Awaited) (past : List (List ℤ)) (s : List ℕ) (zss : List (List ℤ))
      → at_end asked ≡ false → asked_after asked (record_type s) ≡ asked_for (record_type s) t then → eqb t XY ≡ false
      → ((rest : List (List ℤ)) → Then (typed t) (At then rest) s → At asked rest s)
      → read_by (suc n) asked past s ≡ read_as zss → Rest asked past s zss
  typed_at asked t then past s zss e k x f q =
      let p = plain n asked t then past s zss e k x q in
      earlier (λ rest h. f rest (after_record s, (record_data s, p.here), h)) (on then past (after_record s) zss p.on)

  sound_typed : (asked : Awaited) (t : ℕ) (then : Awaited) → at_end asked ≡ false → ((k : ℕ) → asked_after asked k ≡ asked_for k t then) → eqb t XY ≡ false
      → ((rest : List (List ℤ)) (s : List ℕ) → Then (typed t) (At then rest) s → At asked rest s)
      → SoundAt (suc n) asked
  sound_typed asked t then e k x f past s zss q = typed_at asked t then past s zss e (k (record_type s)) x (λ rest h. f rest s h) q

  sound_units : SoundAt (suc n) Units
  unfolding asked_after at_end
  sound_units past s zss q =
      let p = plain n Units UNITS Bgnstr past s zss refl refl refl q in
      let l = units_sixteen (record_type s) (length (record_data s)) p.kind p.good.fitting in
      let u = unit_is (record_type s) (record_data s) p.kind p.good.measured in
      earlier (λ rest h. (after_record s, (record_data s, p.here, l, u), h)) (on Bgnstr past (after_record s) zss p.on)

  sound_xy : SoundAt (suc n) Xy
  unfolding asked_after at_end Every
  sound_xy past s zss q =
      let h = taken n Xy past s zss refl q in
      let w = asked_is (record_type s) XY Endel h.good.ordered in
      let k : asked_after Xy (record_type s) ≡ Endel = asked_so (record_type s) XY Endel w in
      let x : eqb (record_type s) XY ≡ true = eq-eqb (record_type s) XY w in
      let zs = steps_in (record_data s) in
      let here : Record XY (record_data s) s (after_record s) = rw w at h.here in
      let m = xy_multiple (record_type s) (length (record_data s)) w h.good.fitting in
      let passed : joining_tested past zs ≡ all_passed = rw x at h.joins in
      let j = passed_joined past zs passed in
      let r = on Endel (past ++ zs ∷ []) (after_record s) zss (rw (k, more_past past s x) at h.on) in
      record {
        rest = zs ∷ r.rest;
        whole = r.whole ∙ append_assoc past (zs ∷ []) r.rest;
        form = (zs, r.rest, refl, (after_record s, (record_data s, here, m, refl), r.form));
        within = (j.within, r.within);
        made = (j.made, r.made);
        small = λ p. r.small j.small;
      }

  sound_element : SoundAt (suc n) Element
  unfolding asked_after at_end
  sound_element past s zss q = go (eqb (record_type s) BOUNDARY) refl
    where
      go : (b : Bool) → eqb (record_type s) BOUNDARY ≡ b → Rest Element past s zss
      go true e =
          let k : asked_after Element (record_type s) ≡ asked_for (record_type s) BOUNDARY Layer = rw e in
          typed_at Element BOUNDARY Layer past s zss refl k refl (λ rest h. grouped rest s h) q
      go false e =
          let k : asked_after Element (record_type s) ≡ asked_for (record_type s) ENDSTR Endlib = rw e in
          typed_at Element ENDSTR Endlib past s zss refl k refl (λ rest h. no_more rest s h) q

sound_end : (n : ℕ) → SoundAt (suc n) Nothing
unfolding read_by at_end Every
sound_end n past s zss q =
    let e : past ≡ zss = cc in
    record { rest = []; whole = sym e ∙ sym (append-nil past); form = refl; within = tt; made = tt; small = λ p. rw (sym e) p }

pub sound : (n : ℕ) → Sound n
unfolding asked_after at_end astray read_by
sound zero asked past s zss q = absurd (not_holding q)
sound (suc n) Header past s zss q = sound_typed n (sound n) Header HEADER Bgnlib refl (λ k. refl) refl (λ rest s h. h) past s zss q
sound (suc n) Bgnlib past s zss q = sound_typed n (sound n) Bgnlib BGNLIB Libname refl (λ k. refl) refl (λ rest s h. h) past s zss q
sound (suc n) Libname past s zss q = sound_typed n (sound n) Libname LIBNAME Units refl (λ k. refl) refl (λ rest s h. h) past s zss q
sound (suc n) Units past s zss q = sound_units n (sound n) past s zss q
sound (suc n) Bgnstr past s zss q = sound_typed n (sound n) Bgnstr BGNSTR Strname refl (λ k. refl) refl (λ rest s h. h) past s zss q
sound (suc n) Strname past s zss q = sound_typed n (sound n) Strname STRNAME Element refl (λ k. refl) refl (λ rest s h. h) past s zss q
sound (suc n) Element past s zss q = sound_element n (sound n) past s zss q
sound (suc n) Layer past s zss q = sound_typed n (sound n) Layer LAYER Datatype refl (λ k. refl) refl (λ rest s h. h) past s zss q
sound (suc n) Datatype past s zss q = sound_typed n (sound n) Datatype DATATYPE Xy refl (λ k. refl) refl (λ rest s h. h) past s zss q
sound (suc n) Xy past s zss q = sound_xy n (sound n) past s zss q
sound (suc n) Endel past s zss q = sound_typed n (sound n) Endel ENDEL Element refl (λ k. refl) refl (λ rest s h. h) past s zss q
sound (suc n) Endlib past s zss q = sound_typed n (sound n) Endlib ENDLIB Nothing refl (λ k. refl) refl (λ rest s h. (h.2, (h.0, h.1, refl))) past s zss q
sound (suc n) Nothing past s zss q = sound_end n past s zss q
sound (suc n) Astray past s zss q = absurd (true≢false (taken n Astray past s zss refl q).good.ordered)

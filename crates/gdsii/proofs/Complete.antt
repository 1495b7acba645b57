-- What the format has, within a set's sizes, is read. Assumes nothing.
use mathlib.Core.Path.{◌≡◌, refl, sym, ap, ◌∙◌}
use mathlib.Core.Bool.{false, ◌&&◌, cond}
use mathlib.Core.List.{List, [], ◌∷◌, ◌++◌, append-nil, append_assoc}
use Prim.Native.Nat.{ℕ, zero, suc, ◌<◌}
use native.Mathlib.Omega.{arith}
use lib.Dec.{eqb}
use lib.IntN.{ℤ}
use lib.ListN.{length}
use Rattle.lists.specs.Lists.{Every}
use Rattle.accept.specs.Refusals.{all_passed, given}
use Rattle.stream.specs.declared.Awaited.{Awaited}
use Rattle.stream.specs.declared.Awaited.TheVariants.{Header, Bgnlib, Libname, Units, Bgnstr, Strname, Element, Layer, Datatype, Xy, Endel, Endlib, Nothing, Astray}
use Rattle.stream.specs.Bytes.{steps_in}
use Rattle.stream.specs.Format.{HEADER, BGNLIB, LIBNAME, UNITS, BGNSTR, STRNAME, ENDSTR, ENDLIB, BOUNDARY, LAYER, DATATYPE, XY, ENDEL, Record, typed}
use Rattle.stream.specs.Records.{record_type, asked_after, at_end, astray, misfit, other_unit}
use Rattle.stream.proofs.RecordLaws.{front, record_shortens}
use Rattle.stream.proofs.OrderLaws.{unit_so}
use Rattle.gdsii.specs.Reading.{joining_tested, all_tested, with_record, read_as, read_by}
use Rattle.gdsii.specs.Accepted.{WithinReach, Makes}
use Rattle.gdsii.proofs.PassedLaws.{Clean, clean_passed, Small, small_first, Joined, joined_passed}
use Rattle.gdsii.proofs.Stages.{Then, At, ungrouped, none_more}

-- ---- a record that passes every test where it is asked for, after the outlines `past`
record Passes (asked : Awaited) (t : ℕ) (then : Awaited) (past : List (List ℤ)) (d : List ℕ) : Type 0 where
  going : at_end asked ≡ false
  asks : asked_after asked t ≡ then
  ordered : astray then ≡ false
  fitting : misfit t (length d) ≡ false
  measured : (eqb t UNITS && other_unit d) ≡ false
  joins : cond (eqb t XY) (joining_tested past (steps_in d)) all_passed ≡ all_passed

-- then what follows is read
record_read_lem : (n : ℕ) {asked : Awaited} {t : ℕ} {then : Awaited} {past : List (List ℤ)} {d s m : List ℕ}
    → Passes asked t then past d → Record t d s m → read_by (suc n) asked past s ≡ read_by n then (cond (eqb t XY) (past ++ steps_in d ∷ []) past) m
unfolding read_by all_tested with_record given
record_read_lem n {asked} {t} {then} {past} {d} {s} {m} p r =
    let w = front r in
    let o : astray (asked_after asked (record_type s)) ≡ false = rw (w.kind, p.asks) p.ordered in
    let c : Clean (asked_after asked (record_type s)) s =
    record {
      whole = w.whole;
      ordered = o;
      fitting = rw (w.kind, w.contents) p.fitting;
      measured = rw (w.kind, w.contents) p.measured;
    }
    in
    rw (p.going, clean_passed c, w.kind, w.contents, p.joins, p.asks, w.rest)

-- ---- what is still to come
record Fine (past rest : List (List ℤ)) : Type 0 where
  within : Every WithinReach rest
  made : Every Makes rest
  small : Small (past ++ rest)

-- it is read by at most n records where `asked` is asked for
abbrev CompleteAt : ℕ → Awaited → Type 0
CompleteAt n asked = (past rest : List (List ℤ)) (s : List ℕ) → length s < n → At asked rest s → Fine past rest → read_by n asked past s ≡ read_as (past ++ rest)

abbrev Complete : ℕ → Type 0
Complete n = (asked : Awaited) → CompleteAt n asked

-- an outline more
joins_more : (past more : List (List ℤ)) (zs : List ℤ) → Fine past (zs ∷ more) → Joined past zs × Fine (past ++ zs ∷ []) more
unfolding Every
joins_more past more zs f =
    let a = append_assoc past (zs ∷ []) more in
    let s : Small ((past ++ zs ∷ []) ++ more) = rw a f.small in
    let j : Joined past zs = record { within = f.within.0; made = f.made.0; small = small_first (past ++ zs ∷ []) more s } in
    (j, record { within = f.within.1; made = f.made.1; small = s })

-- ---- by one record more
module _ (n : ℕ) (on : Complete n) where
  -- a record of which only length and type count
  typed_at : (asked : Awaited) (t : ℕ) (then : Awaited) (past rest : List (List ℤ)) (s : List ℕ)
      → at_end asked ≡ false → asked_after asked t ≡ then → astray then ≡ false → eqb t UNITS ≡ false → eqb t XY ≡ false
      → length s < suc n → Then (typed t) (At then rest) s → Fine past rest → read_by (suc n) asked past s ≡ read_as (past ++ rest)
  unfolding misfit
  typed_at asked t then past rest s g a o u x l h f =
      let k = record_shortens h.1.1 in
      let p : Passes asked t then past h.1.0 = record { going = g; asks = a; ordered = o; fitting = rw (u, x); measured = rw u; joins = rw x } in
      record_read_lem n p h.1.1 ∙ rw x (on then past rest h.0 (omega (arith, k, l)) h.2 f)

  complete_typed : (asked : Awaited) (t : ℕ) (then : Awaited)
      → at_end asked ≡ false → asked_after asked t ≡ then → astray then ≡ false → eqb t UNITS ≡ false → eqb t XY ≡ false
      → ((rest : List (List ℤ)) (s : List ℕ) → At asked rest s → Then (typed t) (At then rest) s)
      → CompleteAt (suc n) asked
  complete_typed asked t then g a o u x c past rest s l h f = typed_at asked t then past rest s g a o u x l (c rest s h) f

  complete_units : CompleteAt (suc n) Units
  unfolding asked_after at_end astray misfit
  complete_units past rest s l h f =
      let d = h.1.0 in
      let r = h.1.1 in
      let k = record_shortens r in
      let p : Passes Units UNITS Bgnstr past d =
      record { going = refl; asks = refl; ordered = refl; fitting = rw h.1.2; measured = unit_so d h.1.3; joins = refl } in
      record_read_lem n p r ∙ on Bgnstr past rest h.0 (omega (arith, k, l)) h.2 f

  complete_xy : CompleteAt (suc n) Xy
  unfolding asked_after at_end astray misfit
  complete_xy past rest s l h f =
      let zs = h.0 in
      let more = h.1 in
      let m = h.3.0 in
      let o = h.3.1 in
      let k = record_shortens o.1 in
      let e : steps_in o.0 ≡ zs = o.3 in
      let j = joins_more past more zs (rw h.2 at f) in
      let p : Passes Xy XY Endel past o.0 =
      record { going = refl; asks = refl; ordered = refl; fitting = rw o.2; measured = refl; joins = rw e (joined_passed j.0) } in
      record_read_lem n p o.1
      ∙ ap (λ (ys : List ℤ). read_by n Endel (past ++ ys ∷ []) m) e
      ∙ on Endel (past ++ zs ∷ []) more m (omega (arith, k, l)) h.3.2 j.1
      ∙ ap read_as (append_assoc past (zs ∷ []) more ∙ ap (λ (r : List (List ℤ)). past ++ r) (sym h.2))

  complete_element : CompleteAt (suc n) Element
  unfolding asked_after at_end astray
  complete_element past [] s l h f = typed_at Element ENDSTR Endlib past [] s refl refl refl refl refl l (none_more s h) f
  complete_element past (zs ∷ more) s l h f = typed_at Element BOUNDARY Layer past (zs ∷ more) s refl refl refl refl refl l (ungrouped zs more s h) f

complete_end : (n : ℕ) → CompleteAt (suc n) Nothing
unfolding read_by at_end
complete_end n past rest s l h f = ap read_as (sym (append-nil past) ∙ ap (λ (r : List (List ℤ)). past ++ r) (sym h))

complete : (n : ℕ) → Complete n
unfolding asked_after at_end astray
complete zero asked past rest s l h f = absurd (omega (arith, l))
complete (suc n) Header past rest s l h f = complete_typed n (complete n) Header HEADER Bgnlib refl refl refl refl refl (λ rest s h. h) past rest s l h f
complete (suc n) Bgnlib past rest s l h f = complete_typed n (complete n) Bgnlib BGNLIB Libname refl refl refl refl refl (λ rest s h. h) past rest s l h f
complete (suc n) Libname past rest s l h f = complete_typed n (complete n) Libname LIBNAME Units refl refl refl refl refl (λ rest s h. h) past rest s l h f
complete (suc n) Units past rest s l h f = complete_units n (complete n) past rest s l h f
complete (suc n) Bgnstr past rest s l h f = complete_typed n (complete n) Bgnstr BGNSTR Strname refl refl refl refl refl (λ rest s h. h) past rest s l h f
complete (suc n) Strname past rest s l h f = complete_typed n (complete n) Strname STRNAME Element refl refl refl refl refl (λ rest s h. h) past rest s l h f
complete (suc n) Element past rest s l h f = complete_element n (complete n) past rest s l h f
complete (suc n) Layer past rest s l h f = complete_typed n (complete n) Layer LAYER Datatype refl refl refl refl refl (λ rest s h. h) past rest s l h f
complete (suc n) Datatype past rest s l h f = complete_typed n (complete n) Datatype DATATYPE Xy refl refl refl refl refl (λ rest s h. h) past rest s l h f
complete (suc n) Xy past rest s l h f = complete_xy n (complete n) past rest s l h f
complete (suc n) Endel past rest s l h f = complete_typed n (complete n) Endel ENDEL Element refl refl refl refl refl (λ rest s h. h) past rest s l h f
complete (suc n) Endlib past rest s l h f = complete_typed n (complete n) Endlib ENDLIB Nothing refl refl refl refl refl (λ rest s h. (h.1.0, h.1.1, h.0)) past rest s l h f
complete (suc n) Nothing past rest s l h f = complete_end n past rest s l h f
complete (suc n) Astray past rest s l h f = absurd h

-- from the start, by more records than the stream has bytes
pub complete_all : (n : ℕ) (rest : List (List ℤ)) (s : List ℕ)
    → length s < n → At Header rest s → Every WithinReach rest → Every Makes rest → Small rest → read_by n Header [] s ≡ read_as rest
complete_all n rest s l h w m z = complete n Header [] rest s l h (record { within = w; made = m; small = z })

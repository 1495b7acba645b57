-- `gdsii::record_read` meets its contract. Assumes nothing.
use mathlib.Core.Bool.{Bool}
use Rattle.std.proofs.Common.{Ok, Err}
use Rattle.accept.specs.Refusals.{all_passed, Answer}
use mathlib.Core.Path.{◌≡◌, sym, ◌∙◌}
use mathlib.Core.Bool.{true, false}
use mathlib.Core.List.{List}
use Prim.Native.Nat.{ℕ, ◌+◌, ◌-◌, ◌/◌}
use native.Mathlib.Omega.{arith}
use borrow.Author.Tests.{eq-eqb, ne_eqb}
use lib.Dec.{eqb}
use lib.IntN.{ℤ}
use lib.ListN.{drop, set}
use Rattle.accept.specs.declared.Refusal.{Refusal}
use Rattle.accept.proofs.TestLaws.{handed_on, given_passed, given_failed}
use Rattle.stream.specs.declared.Awaited.{Awaited}
use Rattle.stream.specs.Format.{XY}
use Rattle.xy.specs.Outlines.{steps_from}
use Rattle.gdsii.specs.declared.Size.{Size}
use Rattle.gdsii.specs.Reading.{record_tested}
use Rattle.gdsii.specs.Work.{AtRecord, outline_read, record_read, sign_of, with_record_sign}
use Rattle.gdsii.proofs.PlaceLaws.{passed_whole, outline_room, outline_place}
use borrow.Author.Rules.{rules}
use Rattle.gdsii.proofs.record_read.Goals as goal

-- what the definitions say of an XY, of another record, and of a refused one
module _ (s : List ℕ) (at t n : ℕ) (then : Awaited) (A : AtRecord s at t n) (so : Size) where
  abbrev zs : List ℤ
  zs = steps_from s (at + 4) ((n - 4) / 8)

  read-outline : record_tested then (drop at s) ≡ all_passed → eqb t XY ≡ true → record_read then so (drop at s) ≡ outline_read so zs
  unfolding record_read
  read-outline e u = given_passed e _ _ ∙ rw (← A.type, u, outline_place s at t n then A e u)

  read-other : record_tested then (drop at s) ≡ all_passed → eqb t XY ≡ false → record_read then so (drop at s) ≡ Ok so
  unfolding record_read
  read-other e u = given_passed e _ _ ∙ rw (← A.type, u)

  read-refused : {r : Refusal} → record_tested then (drop at s) ≡ Err r → record_read then so (drop at s) ≡ Err r
  unfolding record_read
  read-refused e = given_failed e _ _

  sign-outline : record_tested then (drop at s) ≡ all_passed → eqb t XY ≡ true → (S : List Bool) → with_record_sign so (drop at s) S ≡ set S so.outlines (sign_of zs)
  unfolding with_record_sign
  sign-outline e u S = rw (← A.type, u, outline_place s at t n then A e u)

  sign-other : eqb t XY ≡ false → (S : List Bool) → with_record_sign so (drop at s) S ≡ S
  unfolding with_record_sign
  sign-other u S = rw (← A.type, u)

refused-not : (z : Size) (r : Refusal) → ◌≡◌ {A = Answer Size} (Err r) (Ok z) → ⊥
refused-not z r e = let n : ◌≡◌ {A = ℕ} 0 1 = cc in omega arith

pub overflow_sub-size : goal.overflow_sub-size
overflow_sub-size c =
    let a = c.args in
    (passed_whole a.s.now a.at a.t a.size a.then c.requires.0 (sym c.record_tested.ensures ∙ c.in_ok-record_tested.was)).0

pub outline_read-requires : goal.outline_read-requires
outline_read-requires c =
    let a = c.args in
    (outline_room a.s.now a.at a.t a.size a.then c.requires.0 (sym c.record_tested.ensures ∙ c.in_ok-record_tested.was) (eq-eqb _ _ c.if-t-eq4099.true), search rules, search rules)

pub returns-then-t-eq4099 : goal.returns-then-t-eq4099
returns-then-t-eq4099 c =
    let a = c.args in
    let p = sym c.record_tested.ensures ∙ c.in_ok-record_tested.was in
    let u = eq-eqb _ _ c.if-t-eq4099.true in
    let o = c.outline_read.ensures in
    record {
      value = o.value ∙ sym (read-outline a.s.now a.at a.t a.size a.then c.requires.0 a.done p u);
      signs_after = λ z e. o.signs_after z e ∙ sym (sign-outline a.s.now a.at a.t a.size a.then c.requires.0 a.done p u _);
    }

pub returns : goal.returns
returns c =
    let a = c.args in
    let p = sym c.record_tested.ensures ∙ c.in_ok-record_tested.was in
    let u = ne_eqb _ _ c.if-t-eq4099.false in
    record {
      value = sym (read-other a.s.now a.at a.t a.size a.then c.requires.0 a.done p u);
      signs_after = λ z e. sym (sign-other a.s.now a.at a.t a.size a.then c.requires.0 a.done u _);
    }

pub returns-in_err-record_tested : goal.returns-in_err-record_tested
returns-in_err-record_tested c =
    let a = c.args in
    let p = sym c.record_tested.ensures ∙ c.in_err-record_tested.was in
    let r = handed_on c.from_residual.ensures.1 in
    record {
      value = r ∙ sym (read-refused a.s.now a.at a.t a.size a.then c.requires.0 a.done p);
      signs_after = λ z e. absurd (refused-not z _ (sym r ∙ e));
    }

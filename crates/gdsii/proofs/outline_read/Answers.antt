-- `gdsii::outline_read` meets its contract. Assumes nothing.
use Rattle.accept.specs.Refusals.{Answer}
use Rattle.std.proofs.Common.{Ok, Err}
use mathlib.Core.Path.{◌≡◌, sym, ap, ◌∙◌}
use Prim.Native.Nat.{ℕ}
use native.Mathlib.Omega.{arith}
use Rattle.accept.specs.declared.Refusal.{Refusal}
use Rattle.accept.proofs.TestLaws.{handed_on, given_passed, given_failed, passed_size}
use Rattle.xy.specs.declared.Makings.{Makings}
use Rattle.xy.proofs.MakingLaws.{tested_makes, whole_passed, unmade_failed}
use borrow.Author.Rules.{rules}
use Rattle.gdsii.specs.declared.Size.{Size}
use Rattle.gdsii.proofs.outline_read.Goals as goal

refused-not : (z : Size) (r : Refusal) → ◌≡◌ {A = Answer Size} (Err r) (Ok z) → ⊥
refused-not z r e = let n : ◌≡◌ {A = ℕ} 0 1 = cc in omega arith

pub grown-requires : goal.grown-requires
grown-requires c =
    let h = whole_passed _ _ _ (sym c.xy_tested.ensures ∙ c.in_ok-makings.was) in
    let k = passed_size _ (tested_makes _ h.0) in
    let e = ap (λ (m : Makings). m.vertices) h.1 in
    search rules

pub returns : goal.returns
returns c =
    let h = whole_passed _ _ _ (sym c.xy_tested.ensures ∙ c.in_ok-makings.was) in
    record {
      value = rw (c.grown.ensures, ← h.1) (sym (given_passed h.0 _ _));
      signs_after = λ z e. rw (c.put.ensures, ← h.1);
    }

pub returns-in_err-makings : goal.returns-in_err-makings
returns-in_err-makings c =
    let h = unmade_failed _ _ _ (sym c.xy_tested.ensures ∙ c.in_err-makings.was) in
    let r = handed_on c.from_residual.ensures.1 in
    record { value = r ∙ sym (given_failed h _ _); signs_after = λ z e. absurd (refused-not z _ (sym r ∙ e)) }

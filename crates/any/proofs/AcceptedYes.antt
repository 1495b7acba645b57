-- WHERE A CALL THAT PASSES THE TESTS TELLS YES: where an outline whose box has the point contains it, and only where one listed for it does. Assumes nothing.
use Rattle.std.proofs.Common.{Ok, Err}
use Rattle.accept.specs.Refusals.{Answer, all_passed}
use mathlib.Core.Path.{◌≡◌, refl, sym, ap, ◌∙◌}
use mathlib.Core.Bool.{Bool, true, false, cond}
use mathlib.Core.List.{List}
use Prim.Native.Nat.{ℕ, ◌<◌}
use native.Mathlib.Omega.{arith}
use lib.ListN.{length}
use lib.Ieee.{Float}
use Rattle.number.specs.Exact.{Doubles}
use Rattle.boundary.specs.declared.Point.{Point}
use Rattle.boundary.specs.Boxes.{point_box}
use Rattle.lists.specs.Lists.{In}
use Rattle.accept.specs.Answers.{Outcome}
use Rattle.index.specs.Buffer.{IndexBuffer}
use Rattle.meeting.specs.Meeting.{apart}
use Rattle.set.specs.Set.{Outline, outlines_of, set_box}
use Rattle.set.specs.Tests.{set_query_tested}
use Rattle.set.proofs.SetLaws.{outlines_length, doubles_outlines}
use Rattle.set.proofs.AskLaws.{query_passed, query_worked}
use Rattle.any.specs.Answers.{listed_at, contains_in, any_at, any_outcome}
use Rattle.any.proofs.AnyAt.{any_at_yes, any_at_some}

module _ (v : List Float) (cs : List ℕ) (p : Point) (B : IndexBuffer) (passed : set_query_tested v cs p B ≡ all_passed) where
  abbrev os : List Outline
  os = outlines_of v cs

  -- TOLD: 1 where an outline that is listed for the point contains it, and 0 where none does
  pub tells_any : (any_outcome v cs p B).answer ≡ Ok (cond (any_at os p) 1 0)
  unfolding any_outcome
  tells_any = ap (λ (o : Outcome (Answer ℕ) IndexBuffer). o.answer) (query_worked v cs p B (Ok (cond (any_at os p) 1 0)) Err passed)

  -- YES where an outline contains the point and its box has it
  pub yes_where : Doubles v → (k : ℕ) → k < length cs → apart (set_box os k) (point_box p) ≡ false → contains_in os p k ≡ true
      → (any_outcome v cs p B).answer ≡ Ok 1
  yes_where held k l shares contains =
      let r = (query_passed v cs p B passed).ready in
      let n = outlines_length v cs in
      let yes = any_at_yes os p r.fitting (doubles_outlines v cs r.fit held) k (omega arith) shares contains in
      tells_any ∙ ap (λ (b : Bool). Ok (cond b 1 0)) yes

  -- YES only where an outline that is listed for it contains it
  pub yes_only_where : (any_outcome v cs p B).answer ≡ Ok 1 → (k : ℕ) × (k < length cs) × In k (listed_at os p) × (contains_in os p k ≡ true)
  yes_only_where e =
      let n = outlines_length v cs in
      let s = any_at_some os p (told_yes (any_at os p) (sym tells_any ∙ e)) in
      let l = s.1 in
      (s.0, omega arith, s.2, s.3)
    where
      told_yes : (b : Bool) → ◌≡◌ {A = Answer ℕ} (Ok (cond b 1 0)) (Ok 1) → b ≡ true
      told_yes true e = refl
      told_yes false e = let z : ◌≡◌ {A = ℕ} 0 1 = cc in absurd (omega arith)

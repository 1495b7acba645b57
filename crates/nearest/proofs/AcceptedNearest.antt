-- WHAT A CALL THAT PASSES THE TESTS ANSWERS: the nearest outline, as the Rust's walk does, and 'none' over an empty set only. Assumes nothing.
use Rattle.std.proofs.Common.{Option, None, Some, Ok, Err}
use Rattle.accept.specs.Refusals.{Answer, all_passed}
use mathlib.Core.Path.{◌≡◌, sym, ap, subst, ◌∙◌}
use mathlib.Core.List.{List}
use Prim.Native.Nat.{ℕ, ◌<◌}
use native.Mathlib.Omega.{arith}
use borrow.Author.Tests.{eq-eqb}
use lib.Dec.{T}
use lib.ListN.{length}
use lib.Ieee.{Float}
use Rattle.number.specs.Exact.{Doubles}
use Rattle.boundary.specs.declared.Point.{Point}
use Rattle.boundary.specs.Boxes.{DoublePoint, FieldPoint}
use Rattle.boundary.proofs.FieldLaws.{double_point_field}
use Rattle.accept.specs.Answers.{Outcome}
use Rattle.index.specs.Buffer.{IndexBuffer}
use Rattle.set.specs.Set.{Outline, outlines_of}
use Rattle.set.specs.Tests.{set_query_tested}
use Rattle.set.specs.Answers.{Ready}
use Rattle.set.proofs.SetLaws.{outlines_length, doubles_outlines}
use Rattle.set.proofs.AskLaws.{query_passed, query_worked}
use Rattle.search.specs.declared.Best.{Best}
use Rattle.nearest.specs.Nearest.{nearest_in, NearestIs}
use Rattle.nearest.specs.Answers.{nearest_outcome}
use Rattle.nearest.specs.Rust.{walk_of}
use Rattle.nearest.proofs.NearestLeast.{nearest_least, nearest_none}
use Rattle.nearest.proofs.RustLaws.{walk_is}

abbrev told : Option Best → Answer (Option Best)
told b = Ok b

told_once : {a b : Option Best} → told a ≡ told b → a ≡ b
told_once e = cc

module _ (v : List Float) (cs : List ℕ) (p : Point) (B : IndexBuffer) (passed : set_query_tested v cs p B ≡ all_passed) where
  abbrev os : List Outline
  os = outlines_of v cs

  answer_is : (nearest_outcome v cs p B).answer ≡ Ok (nearest_in os p)
  unfolding nearest_outcome
  answer_is = ap (λ (o : Outcome (Answer (Option Best)) IndexBuffer). o.answer) (query_worked v cs p B (Ok (nearest_in os p)) Err passed)

  -- NONE exactly where the set is empty
  pub none_where_empty : length cs ≡ 0 → (nearest_outcome v cs p B).answer ≡ Ok None
  unfolding nearest_in
  none_where_empty e = let n = outlines_length v cs in answer_is ∙ ap told (rw (eq-eqb (length os) 0 (omega arith)))

  pub none_only_empty : (nearest_outcome v cs p B).answer ≡ Ok None → length cs ≡ 0
  none_only_empty e = let n = outlines_length v cs in let z = nearest_none os p (told_once (sym answer_is ∙ e)) in omega arith

  module _ (held : Doubles v) (point : DoublePoint p) where
    set_ready : Ready v cs B
    set_ready = (query_passed v cs p B passed).ready

    point_of_field : FieldPoint p
    point_of_field = double_point_field point (subst T (sym (query_passed v cs p B passed).point) tt)

    -- NEAREST: of a set that has an outline, one with the least magnitude, and of those the one with the lowest number
    pub answers_nearest : 0 < length cs → (b : Best) × ((nearest_outcome v cs p B).answer ≡ Ok (Some b)) × NearestIs os p b
    answers_nearest some =
        let n = outlines_length v cs in
        let h = nearest_least os p set_ready.fitting (doubles_outlines v cs set_ready.fit held) point_of_field (λ z. omega arith) in
        (h.0, answer_is ∙ ap told h.1, h.2)

    -- THE RUST'S WALK answers the same
    pub answers_walk : (nearest_outcome v cs p B).answer ≡ Ok (walk_of os p)
    answers_walk = answer_is ∙ ap told (sym (walk_is os p set_ready.fitting (doubles_outlines v cs set_ready.fit held) point_of_field))

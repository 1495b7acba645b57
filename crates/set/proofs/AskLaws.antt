-- What a query over a set that passes the tests has, what a query leaves, and the boxes and starts that it writes. Assumes nothing.
use Rattle.std.proofs.Common.{Err}
use mathlib.Core.Path.{◌≡◌, ap, ◌∙◌}
use mathlib.Core.Bool.{true, false, ◌||◌}
use mathlib.Core.List.{List}
use Prim.Native.Nat.{ℕ, ◌+◌, ◌*◌, ◌≤◌, ◌<◌}
use native.Mathlib.Omega.{arith}
use borrow.Author.Tests.{ltb-false, not-false}
use lib.Dec.{ltb}
use lib.ListN.{length, get_or, take, drop, get_or-append}
use lib.Seq.{sets}
use lib.Ieee.{Float}
use Rattle.boundary.specs.declared.Point.{Point}
use Rattle.boundary.specs.Boxes.{point_in_field}
use Rattle.lists.specs.Lists.{run}
use Rattle.accept.specs.declared.Refusal.{Refusal}
use Rattle.accept.specs.Refusals.{all_passed, ◌refusing◌when◌}
use Rattle.accept.proofs.TestLaws.{refusing_passed, given_passed, given_failed}
use Rattle.boxes.specs.BoxLists.{box_at}
use Rattle.boxes.proofs.EntryLaws.{box_front}
use Rattle.index.specs.Answers.{Accepted}
use Rattle.index.specs.Buffer.{IndexBuffer, short_buffer}
use Rattle.lists.proofs.FoldLaws.{or_none}
use Rattle.lists.proofs.StoreLaws.{sets_front}
use Rattle.lists.proofs.RunLaws.{length_run, run_at}
use Rattle.index.proofs.GrowLaws.{front_of}
use Rattle.set.specs.Set.{start_of, outlines_of, set_boxes}
use Rattle.set.specs.Tests.{set_tested, set_query_tested}
use Rattle.set.specs.Answers.{worked, query_outcome, Ready, Starts, Boxed}
use Rattle.set.proofs.SetLaws.{outlines_length, passed_fit, passed_fitting, boxes_length, box_at_set}

-- ---- what a query that passes the tests has
-- a set that passes them, and an index buffer
pub set_ready : (v : List Float) (cs : List ℕ) (B : IndexBuffer) → set_tested v cs ≡ all_passed → short_buffer B ≡ false → Ready v cs B
set_ready v cs B passed long =
    let s = or_none (ltb (length B.corners) 2044) (ltb (length B.links) 1022 || ltb (length B.items) 1024) long in
    let t = or_none (ltb (length B.links) 1022) (ltb (length B.items) 1024) s.1 in
    record {
      fit = passed_fit v cs passed;
      fitting = passed_fitting v cs passed;
      corners = ltb-false (length B.corners) 2044 s.0;
      links = ltb-false (length B.links) 1022 t.0;
      items = ltb-false (length B.items) 1024 t.1;
    }

pub record QueryPassed (v : List Float) (cs : List ℕ) (p : Point) (B : IndexBuffer) : Type 0 where
  pub ready : Ready v cs B
  pub point : point_in_field p ≡ true

pub query_passed : (v : List Float) (cs : List ℕ) (p : Point) (B : IndexBuffer) → set_query_tested v cs p B ≡ all_passed → QueryPassed v cs p B
unfolding set_query_tested
query_passed v cs p B e =
    let r = refusing_passed _ _ _ e in
    let q = refusing_passed _ _ _ r.0 in
    record { ready = set_ready v cs B q.0 r.1; point = not-false (point_in_field p) q.1 }

-- and a query of a set and a point that pass theirs passes them
pub query_passes : (v : List Float) (cs : List ℕ) (p : Point) (B : IndexBuffer) → set_tested v cs ≡ all_passed → point_in_field p ≡ true → short_buffer B ≡ false → set_query_tested v cs p B ≡ all_passed
unfolding set_query_tested ◌refusing◌when◌
query_passes v cs p B s q b = rw (s, q, b)

-- ---- what a query leaves
module _ {A : Type 0} (v : List Float) (cs : List ℕ) (p : Point) (B : IndexBuffer) (a : A) (refused : Refusal → A) where
  -- its answer, and the buffer cleared
  pub query_worked : set_query_tested v cs p B ≡ all_passed → query_outcome v cs p B a refused ≡ worked a B
  unfolding query_outcome
  query_worked e = given_passed e _ _

  -- where it is refused, the refusal, and the buffer as it was
  pub query_refused : {r : Refusal} → set_query_tested v cs p B ≡ Err r → query_outcome v cs p B a refused ≡ record { answer = refused r; lent = B }
  unfolding query_outcome
  query_refused e = given_failed e _ _

-- ---- the boxes
module _ (v : List Float) (cs : List ℕ) where
  pub boxes_size : length (set_boxes (outlines_of v cs)) ≡ 4 * length cs
  boxes_size = boxes_length (outlines_of v cs) ∙ ap (λ (n : ℕ). 4 * n) (outlines_length v cs)

  -- the front of a list that they are put into
  pub boxes_front : (X₀ X : List Float) → 4 * length cs ≤ length X₀ → X ≡ sets X₀ 0 (set_boxes (outlines_of v cs)) → take (4 * length cs) X ≡ set_boxes (outlines_of v cs)
  boxes_front X₀ X room e = front_of X₀ X (set_boxes (outlines_of v cs)) (4 * length cs) e boxes_size room

  -- and every place there
  pub boxes_put : (X₀ X : List Float) → 4 * length cs ≤ length X₀ → X ≡ sets X₀ 0 (set_boxes (outlines_of v cs)) → Boxed (outlines_of v cs) X
  boxes_put X₀ X room e = record {
    each = λ k l.
        let boxes = set_boxes (outlines_of v cs) in
        let n = boxes_size in
        let m = outlines_length v cs in
        ap (λ (s : List Float). box_at s k) (e ∙ sets_front X₀ boxes (omega arith)) ∙ box_front boxes (drop (length boxes) X₀) k (omega arith) ∙ box_at_set (outlines_of v cs) k l;
  }

  -- an index of them can be built
  pub boxes_accepted : (B : IndexBuffer) → Ready v cs B → Accepted (set_boxes (outlines_of v cs)) (length B.corners) (length B.links) (length B.items)
  boxes_accepted B r =
      let n = boxes_size in
      let s = r.fit.size in
      record { size = omega arith; whole = omega arith; corners = r.corners; links = r.links; items = r.items }

-- ---- the starts
pub starts_put : (cs S₀ S : List ℕ) → length cs ≤ length S₀ → S ≡ sets S₀ 0 (run (start_of cs) 0 (length cs)) → Starts cs S
starts_put cs S₀ S h e = record { each = at }
  where
    at : (k : ℕ) → k < length cs → get_or S k 0 ≡ start_of cs k
    at k l =
        let n = length_run (start_of cs) 0 (length cs) in
        let z : 0 + k ≡ k = omega arith in
        rw (e, sets_front S₀ (run (start_of cs) 0 (length cs)) (omega arith))
        (get_or-append (run (start_of cs) 0 (length cs)) (drop (length (run (start_of cs) 0 (length cs))) S₀) 0 k (omega arith) ∙ run_at (start_of cs) 0 (length cs) k 0 l ∙ ap (start_of cs) z)

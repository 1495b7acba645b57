-- What a call for many points that passes the tests has, and what it leaves in its lists, one point after the other. Assumes nothing.
use Rattle.std.proofs.Common.{Ok}
use Rattle.accept.specs.Refusals.{all_passed}
use mathlib.Core.Path.{◌≡◌, ap, ◌∙◌}
use mathlib.Core.Bool.{true, false, not}
use mathlib.Core.List.{List}
use Prim.Native.Nat.{ℕ, ◌+◌, ◌%◌, ◌≤◌, ◌<◌}
use native.Mathlib.Omega.{arith}
use borrow.Author.Tests.{ne_eqb, ltb-false, not-false}
use lib.Dec.{eqb, ltb}
use lib.ListN.{length, get_or}
use lib.Seq.{sets}
use lib.Ieee.{Float}
use Rattle.boundary.specs.Boxes.{point_in_field}
use Rattle.boundary.specs.Outline.{count, vertex_at, vertices}
use Rattle.lists.specs.Lists.{run, at_front}
use Rattle.lists.proofs.FoldLaws.{or_none, any_at_lem}
use Rattle.lists.proofs.RunLaws.{length_run, run_at, map_run}
use Rattle.lists.proofs.StoreLaws.{sets_front}
use Rattle.accept.proofs.TestLaws.{refusing_passed}
use Rattle.index.specs.Buffer.{short_buffer}
use Rattle.set.specs.Set.{Outline, outlines_of}
use Rattle.set.specs.Tests.{set_tested}
use Rattle.set.proofs.SetLaws.{outlines_length}
use Rattle.set.proofs.AskLaws.{set_ready}
use Rattle.nearest.specs.declared.NearestFields.{NearestFields}
use Rattle.nearest.specs.Nearest.{nearest_in, nearest_fields}
use Rattle.many.specs.Answers.{ManyLent, answer_lists, point_places, bad_point_count, any_bad_point, short_lists, many_tested, answers_of, written_of, with_answers}
use Rattle.many.specs.Work.{ManyReady}

-- ---- what passing the tests tells
pub record ManyPassed (v : List Float) (cs : List ℕ) (ps : List Float) (L : ManyLent) : Type 0 where
  pub set : set_tested v cs ≡ all_passed
  pub counted : bad_point_count ps ≡ false
  pub points : any_bad_point ps ≡ false
  pub buffer : short_buffer L.buffer ≡ false
  pub lists : short_lists L.lists ≡ false

module _ (v : List Float) (cs : List ℕ) (ps : List Float) (L : ManyLent) where
  pub many_passed : many_tested v cs ps L ≡ all_passed → ManyPassed v cs ps L
  unfolding many_tested
  many_passed e =
      let l = refusing_passed _ _ _ e in
      let b = refusing_passed _ _ _ l.0 in
      let p = refusing_passed _ _ _ b.0 in
      let c = refusing_passed _ _ _ p.0 in
      record { set = c.0; counted = c.1; points = p.1; buffer = b.1; lists = l.1 }

  pub many_ready : many_tested v cs ps L ≡ all_passed → ManyReady v cs ps L
  many_ready e =
      let h = many_passed e in
      let c = or_none (eqb (length ps % 2) 1) (ltb point_places (count ps)) h.counted in
      let l = or_none (ltb (length L.lists.outlines) point_places) (ltb (length L.lists.distances) point_places) h.lists in
      record {
        ready = set_ready v cs L.buffer h.set h.buffer;
        points = h.points;
        few = ltb-false point_places (count ps) c.1;
        outlines = ltb-false (length L.lists.outlines) point_places l.0;
        distances = ltb-false (length L.lists.distances) point_places l.1;
      }

-- each point is one of the field
pub point_fits : (ps : List Float) → any_bad_point ps ≡ false → (i : ℕ) → i < count ps → point_in_field (vertex_at ps i) ≡ true
unfolding vertices
point_fits ps h i l =
    let n = length_run (vertex_at ps) 0 (count ps) in
    let z : 0 + i ≡ i = omega arith in
    let at : get_or (vertices ps) i (vertex_at ps 0) ≡ vertex_at ps i = run_at (vertex_at ps) 0 (count ps) i (vertex_at ps 0) l ∙ ap (vertex_at ps) z in
    not-false (point_in_field (vertex_at ps i)) (rw at at (any_at_lem (λ p. not (point_in_field p)) (vertex_at ps 0) (vertices ps) i (omega arith) h))

-- ---- the answers, point by point
module _ (os : List Outline) (ps : List Float) where
  abbrev pub answer_at : ℕ → NearestFields
  answer_at i = nearest_fields (Ok (nearest_in os (vertex_at ps i)))

  pub answers_run : answers_of os ps ≡ run answer_at 0 (count ps)
  unfolding answers_of vertices
  answers_run = map_run (λ p. nearest_fields (Ok (nearest_in os p))) (vertex_at ps) 0 (count ps)

  -- both lists, as they are when the last is written
  pub lists_written : (O : List ℕ) (D : List Float) → count ps ≤ length O → count ps ≤ length D
      → answer_lists (sets O 0 (run (λ i. (answer_at i).outline) 0 (count ps))) (sets D 0 (run (λ i. (answer_at i).distance) 0 (count ps)))
      ≡ with_answers (answers_of os ps) (answer_lists O D)
  unfolding with_answers at_front
  lists_written O D o d =
      let n = length_run (λ i. (answer_at i).outline) 0 (count ps) in
      let m = length_run (λ i. (answer_at i).distance) 0 (count ps) in
      rw (
        answers_run,
        map_run (λ (a : NearestFields). a.outline) answer_at 0 (count ps),
        map_run (λ (a : NearestFields). a.distance) answer_at 0 (count ps),
        sets_front O (run (λ i. (answer_at i).outline) 0 (count ps)) (omega arith),
        sets_front D (run (λ i. (answer_at i).distance) 0 (count ps)) (omega arith),
      )

-- what is written: all answers over a set that has an outline, and nothing over an empty one
module _ (v : List Float) (cs : List ℕ) (ps : List Float) where
  pub written_all : 0 < length cs → written_of (outlines_of v cs) ps ≡ answers_of (outlines_of v cs) ps
  unfolding written_of
  written_all some = let n = outlines_length v cs in rw (ne_eqb (length (outlines_of v cs)) 0 (λ z. omega arith))

-- WHAT A CALL FOR MANY POINTS ANSWERS: what single calls do, made one by one, in the points' order; and where it is refused. Assumes nothing.
use Rattle.std.proofs.Common.{Option}
use Rattle.search.specs.declared.Best.{Best}
use Rattle.std.proofs.Common.{Err, Ok}
use mathlib.Core.Path.{◌≡◌, refl, sym, ap, ap₂, ◌∙◌}
use mathlib.Core.Bool.{false}
use mathlib.Core.List.{List, map}
use Prim.Native.Nat.{ℕ, ◌+◌, ◌≤◌, ◌<◌}
use native.Mathlib.Omega.{arith}
use borrow.Author.Tests.{eq-eqb, ne_eqb}
use lib.ListN.{length, get_or, length-map}
use lib.Ieee.{Float, nan}
use Rattle.number.specs.Exact.{Doubles}
use Rattle.boundary.specs.declared.Point.{Point}
use Rattle.boundary.specs.Boxes.{DoublePoint}
use Rattle.boundary.specs.Outline.{count, vertex_at}
use Rattle.lists.specs.Lists.{run, at_front}
use Rattle.lists.proofs.FrontLaws.{front_at, front_past}
use Rattle.lists.proofs.RunLaws.{length_run, run_at, map_run}
use Rattle.accept.specs.declared.Refusal.{Refusal}
use Rattle.accept.specs.Answers.{Outcome, count_fields, in_fields, refused_with, Fields}
use Rattle.accept.specs.Refusals.{Answer, Test, all_passed, ◌refusing◌when◌, number}
use Rattle.accept.proofs.TestLaws.{number_above, given_passed, given_failed}
use Rattle.index.specs.Buffer.{IndexBuffer, short_buffer, cleared}
use Rattle.set.specs.Set.{Outline, outlines_of}
use Rattle.set.proofs.SetLaws.{outlines_length}
use Rattle.set.proofs.AskLaws.{query_passes, query_worked}
use Rattle.nearest.specs.declared.NearestFields.{NearestFields}
use Rattle.nearest.specs.Nearest.{nearest_in, nearest_fields, NearestIs}
use Rattle.nearest.specs.Answers.{nearest_outcome, nearest_call}
use Rattle.nearest.proofs.AcceptedNearest.{answers_nearest}
use Rattle.many.specs.Answers.{AnswerLists, ManyLent, many_tested, written_of, with_answers, many_worked, many_outcome, many_call}
use Rattle.nearest.proofs.NearestLeast.{answer_best}
use Rattle.many.proofs.ManyLaws.{ManyPassed, many_passed, point_fits, answer_at, answers_run, written_all}

module _ (v : List Float) (cs : List ℕ) (ps : List Float) (L : ManyLent) where
  abbrev os : List Outline
  os = outlines_of v cs

  -- what the call leaves in place i of both lists
  abbrev pub outline_left : ℕ → ℕ
  outline_left i = get_or (many_call v cs ps L).lent.lists.outlines i 0

  abbrev pub distance_left : ℕ → Float
  distance_left i = get_or (many_call v cs ps L).lent.lists.distances i nan

  -- ---- where it is refused
  -- ACCEPTED exactly where the set's tests are passed, 15 is not given, every point is one of the field, and no list is too short
  pub accepted_where : ManyPassed v cs ps L → many_tested v cs ps L ≡ all_passed
  unfolding many_tested ◌refusing◌when◌
  accepted_where h = rw (h.set, h.counted, h.points, h.buffer, h.lists)

  pub accepted_only_where : (many_call v cs ps L).answer.number ≡ 0 → ManyPassed v cs ps L
  unfolding many_call many_outcome
  accepted_only_where e = go (many_tested v cs ps L) refl
    where
      go : (t : Test) → many_tested v cs ps L ≡ t → ManyPassed v cs ps L
      go (Ok _) p = many_passed v cs ps L p
      go (Err r) p =
          let left = ap (in_fields count_fields) (given_failed p (many_worked v cs ps L) (refused_with L)) in
          let z = sym (ap (λ (o : Outcome (Fields ℕ) ManyLent). o.answer.number) left) ∙ e in
          let n = number_above r in
          absurd (omega arith)

  -- REFUSED: the refusal's number, and all that was lent as it was
  pub refused_leaves : {r : Refusal} → many_tested v cs ps L ≡ Err r
      → many_call v cs ps L ≡ record { answer = record { number = number r; value = 0 }; lent = L }
  unfolding many_call many_outcome
  refused_leaves p = ap (in_fields count_fields) (given_failed p (many_worked v cs ps L) (refused_with L))

  -- ---- a call that passes the tests
  module _ (passed : many_tested v cs ps L ≡ all_passed) where
    call_is : many_call v cs ps L ≡ in_fields count_fields (many_worked v cs ps L)
    unfolding many_call many_outcome
    call_is = ap (in_fields count_fields) (given_passed passed (many_worked v cs ps L) (refused_with L))

    -- CLEARED: the working buffer, over every set
    pub buffer_cleared : (many_call v cs ps L).lent.buffer ≡ cleared L.buffer
    unfolding many_worked
    buffer_cleared = ap (λ (o : Outcome (Fields ℕ) ManyLent). o.lent.buffer) call_is

    -- NONE over an empty set: neither list is written
    pub none_over_empty : length cs ≡ 0
        → many_call v cs ps L ≡ record { answer = record { number = 0; value = 0 }; lent = record { buffer = cleared L.buffer; lists = L.lists } }
    unfolding many_worked written_of with_answers at_front
    none_over_empty e = let n = outlines_length v cs in call_is ∙ rw (eq-eqb (length os) 0 (n ∙ e))

    -- over every other set
    module _ (some : 0 < length cs) where
      outlines_some : 0 < length os
      outlines_some = let n = outlines_length v cs in omega arith

      -- FOUND, for no points too
      pub found_over_some : (many_call v cs ps L).answer ≡ record { number = 0; value = 1 }
      unfolding many_worked
      found_over_some = rw (call_is, ne_eqb (length os) 0 (λ z. let n = outlines_some in omega arith))

      lists_are : (many_call v cs ps L).lent.lists ≡ with_answers (run (answer_at os ps) 0 (count ps)) L.lists
      unfolding many_worked
      lists_are = rw (call_is, written_all v cs ps some, answers_run os ps)

      -- a field f of the answers, at the front of a list that had `rest`
      module _ {A : Type 0} (f : NearestFields → A) (rest : List A) (d : A) (i : ℕ) where
        abbrev answers : List A
        answers = map f (run (answer_at os ps) 0 (count ps))

        sized : length answers ≡ count ps
        sized = length-map (run (answer_at os ps) 0 (count ps)) f ∙ length_run (answer_at os ps) 0 (count ps)

        field_past : count ps ≤ i → get_or (at_front answers rest) i d ≡ get_or rest i d
        field_past l = let n = sized in front_past answers rest d i (omega arith)

        field_at : i < count ps → get_or (at_front answers rest) i d ≡ f (answer_at os ps i)
        field_at l =
            let n = sized in
            let z : 0 + i ≡ i = omega arith in
            front_at answers rest d i (omega arith) ∙ ap (λ (xs : List A). get_or xs i d) (map_run f (answer_at os ps) 0 (count ps))
            ∙ run_at (λ k. f (answer_at os ps k)) 0 (count ps) i d l ∙ ap (λ (k : ℕ). f (answer_at os ps k)) z

      outlines_are : (i : ℕ) → outline_left i ≡ get_or (at_front (answers (λ a. a.outline) L.lists.outlines 0 i) L.lists.outlines) i 0
      unfolding with_answers
      outlines_are i = ap (λ (l : AnswerLists). get_or l.outlines i 0) lists_are

      distances_are : (i : ℕ) → distance_left i ≡ get_or (at_front (answers (λ a. a.distance) L.lists.distances nan i) L.lists.distances) i nan
      unfolding with_answers
      distances_are i = ap (λ (l : AnswerLists). get_or l.distances i nan) lists_are

      -- PAST THE POINTS the places are unchanged
      pub outlines_past : (i : ℕ) → count ps ≤ i → outline_left i ≡ get_or L.lists.outlines i 0
      outlines_past i l = outlines_are i ∙ field_past (λ a. a.outline) L.lists.outlines 0 i l

      pub distances_past : (i : ℕ) → count ps ≤ i → distance_left i ≡ get_or L.lists.distances i nan
      distances_past i l = distances_are i ∙ field_past (λ a. a.distance) L.lists.distances nan i l

      -- place i is the answer for point i
      module _ (i : ℕ) (l : i < count ps) where
        abbrev pub point : Point
        point = vertex_at ps i

        outline_is : outline_left i ≡ (nearest_fields (Ok (nearest_in os point))).outline
        outline_is = outlines_are i ∙ field_at (λ a. a.outline) L.lists.outlines 0 i l

        distance_is : distance_left i ≡ (nearest_fields (Ok (nearest_in os point))).distance
        distance_is = distances_are i ∙ field_at (λ a. a.distance) L.lists.distances nan i l

        answer_left : record { number = 0; found = 1; outline = outline_left i; distance = distance_left i } ≡ nearest_fields (Ok (nearest_in os point))
        answer_left =
            let e = answer_best os point outlines_some in
            let o = outline_is ∙ ap (λ (a : NearestFields). a.outline) e in
            let d = distance_is ∙ ap (λ (a : NearestFields). a.distance) e in
            ap₂ (λ (k : ℕ) (d : Float). record { number = 0; found = 1; outline = k; distance = d }) o d ∙ sym e

        -- ONE BY ONE: it is what the single call answers for point i, in any working buffers of index size
        pub one_by_one : (B : IndexBuffer) → short_buffer B ≡ false
            → record { number = 0; found = 1; outline = outline_left i; distance = distance_left i } ≡ (nearest_call v cs point B).answer
        unfolding nearest_call nearest_outcome
        one_by_one B long =
            let h = many_passed v cs ps L passed in
            let q = query_passes v cs point B h.set (point_fits ps h.points i l) long in
            let w = query_worked v cs point B (Ok (nearest_in os point)) Err q in
            answer_left ∙ sym (ap (λ (o : Outcome (Answer (Option Best)) IndexBuffer). nearest_fields o.answer) w)

        -- NEAREST: an outline with the least magnitude, and of those the one with the lowest number
        pub place_nearest : Doubles v → DoublePoint point → NearestIs os point (record { outline = outline_left i; distance = distance_left i })
        unfolding nearest_call
        place_nearest held double =
            let h = many_passed v cs ps L passed in
            let q = query_passes v cs point L.buffer h.set (point_fits ps h.points i l) h.buffer in
            let r = answers_nearest v cs point L.buffer q held double some in
            let e = one_by_one L.buffer h.buffer ∙ ap nearest_fields r.1 in
            rw (ap (λ (a : NearestFields). a.outline) e, ap (λ (a : NearestFields). a.distance) e) r.2

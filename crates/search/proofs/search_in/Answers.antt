-- `search::search_in` meets its contract: every outline is below a node that waits, or the best is at most it. Assumes nothing.
use mathlib.Core.Path.{◌≡◌, refl}
use Prim.Native.Nat.{ℕ, ◌≤◌}
use native.Mathlib.Omega.{arith}
use lib.ListN.{length}
use Rattle.boundary.proofs.KnownLaws.{owned_point}
use Rattle.boundary.proofs.GapLaws.{squares_number}
use Rattle.index.specs.Buffer.{buffer}
use Rattle.set.specs.Set.{outlines_of}
use Rattle.set.proofs.SetLaws.{outlines_length}
use Rattle.search.specs.Least.{magnitude_at}
use Rattle.search.proofs.SearchLaws.{searching_few, popped_less, looked_within, searching_leaf, children_small, opened_less, searching_inner, upto_above, upto_none}
use Rattle.search.proofs.SetSearch.{most, magnitude_numbers, set_search_first, set_search_end}
use borrow.Author.Rules.{rules}
use Rattle.search.proofs.search_in.Goals as goal

none_of : {n : ℕ} → n ≤ 0 → n ≡ 0
none_of h = omega arith

pub push-requires : goal.push-requires
push-requires c = (search rules, (rw c.clear.ensures (omega arith), rw c.entry_for.ensures (squares_number _ _)))

pub overflow_cast-view : goal.overflow_cast-view
overflow_cast-view c =
    let a = c.args in
    let h = c.requires.0.fitting.size in
    let l = outlines_length a.view.now.set.vertices.now a.view.now.set.counts.now in
    search rules

pub loop-e-init : goal.loop-e-init
loop-e-init c =
    let a = c.args in
    let os = outlines_of a.view.now.set.vertices.now a.view.now.set.counts.now in
    let B = buffer a.index.now.corners.now a.index.now.links.now a.index.now.items.now in
    let A = c.requires.0 in
    let P = owned_point c.well_formed.1.1.0 A.point in
    let h = set_search_first os A.fitting A.held a.p P B c.requires.2 _ _ (rw (c.entry_for.ensures, c.clear.ensures) at c.push.ensures.pushed) in
    rw (c.none_kept-kept.ensures, ← outlines_length a.view.now.set.vertices.now a.view.now.set.counts.now, c.push.ensures.len, c.clear.ensures) h

pub returns-then-kept-e : goal.returns-then-kept-e
returns-then-kept-e c =
    let a = c.args in
    let os = outlines_of a.view.now.set.vertices.now a.view.now.set.counts.now in
    let B = buffer a.index.now.corners.now a.index.now.links.now a.index.now.items.now in
    let D = magnitude_at os a.p in
    let n = length os in
    let A = c.requires.0 in
    let P = owned_point c.well_formed.1.1.0 A.point in
    let S = c.loop-e.invariant in
    let k = outlines_length a.view.now.set.vertices.now a.view.now.set.counts.now in
    let m = c.requires.3 in
    set_search_end os A.fitting A.held a.p P B c.requires.2 (omega arith) _ S.among (upto_above B most a.p D n S c.in-Some.ensures.popped c.if-kept-e.true)

pub look-kept-requires : goal.look-kept-requires
look-kept-requires c =
    let a = c.args in
    let os = outlines_of a.view.now.set.vertices.now a.view.now.set.counts.now in
    let B = buffer a.index.now.corners.now a.index.now.links.now a.index.now.items.now in
    let D = magnitude_at os a.p in
    let n = length os in
    let A = c.requires.0 in
    let P = owned_point c.well_formed.1.1.0 A.point in
    let S = c.loop-e.invariant in
    let H = c.in-Some.ensures.popped in
    (A, c.requires.1, rw (c.first_at-first.ensures, c.count_at-count.ensures) (looked_within B most a.p D n S H (magnitude_numbers os A.fitting A.held a.p P) (rw c.count_at-count.ensures at c.if-count-gt0.true)), S.clear)

pub loop-e-smaller-then-count-gt0 : goal.loop-e-smaller-then-count-gt0
loop-e-smaller-then-count-gt0 c =
    let a = c.args in
    let os = outlines_of a.view.now.set.vertices.now a.view.now.set.counts.now in
    let B = buffer a.index.now.corners.now a.index.now.links.now a.index.now.items.now in
    let D = magnitude_at os a.p in
    let n = length os in
    rw c.in-Some.ensures.len (popped_less B most a.p D n c.loop-e.invariant c.in-Some.ensures.popped)

pub loop-e-preserved-then-count-gt0 : goal.loop-e-preserved-then-count-gt0
loop-e-preserved-then-count-gt0 c =
    let a = c.args in
    let os = outlines_of a.view.now.set.vertices.now a.view.now.set.counts.now in
    let B = buffer a.index.now.corners.now a.index.now.links.now a.index.now.items.now in
    let D = magnitude_at os a.p in
    let n = length os in
    let A = c.requires.0 in
    let P = owned_point c.well_formed.1.1.0 A.point in
    let S = c.loop-e.invariant in
    let H = c.in-Some.ensures.popped in
    let f = rw c.count_at-count.ensures at c.if-count-gt0.true in
    let e = c.look-kept.ensures in
    let r = rw (c.first_at-first.ensures, c.count_at-count.ensures) at e.0 in
    rw c.in-Some.ensures.len (searching_leaf B most a.p D n S H (magnitude_numbers os A.fitting A.held a.p P) f r e.1)

pub wait_both-requires : goal.wait_both-requires
wait_both-requires c =
    let a = c.args in
    let os = outlines_of a.view.now.set.vertices.now a.view.now.set.counts.now in
    let B = buffer a.index.now.corners.now a.index.now.links.now a.index.now.items.now in
    let D = magnitude_at os a.p in
    let n = length os in
    let S = c.loop-e.invariant in
    let H = c.in-Some.ensures.popped in
    let L = c.in-Some.ensures.len in
    let e = rw c.count_at-count.ensures at (none_of c.if-count-gt0.false) in
    let m = children_small B most a.p D n S H e in
    let f = c.first_at-first.ensures in
    let h = searching_few B most a.p D n S in
    (omega arith, omega arith, (squares_number _ _, squares_number _ _))

pub loop-e-smaller : goal.loop-e-smaller
loop-e-smaller c =
    let a = c.args in
    let os = outlines_of a.view.now.set.vertices.now a.view.now.set.counts.now in
    let B = buffer a.index.now.corners.now a.index.now.links.now a.index.now.items.now in
    let D = magnitude_at os a.p in
    let n = length os in
    let e = rw c.count_at-count.ensures at (none_of c.if-count-gt0.false) in
    rw (c.wait_both.ensures.len, c.in-Some.ensures.len) (opened_less B most a.p D n c.loop-e.invariant c.in-Some.ensures.popped e (rw (c.first_at-first.ensures, c.in-Some.ensures.len) at c.wait_both.ensures.opened))

pub loop-e-preserved : goal.loop-e-preserved
loop-e-preserved c =
    let a = c.args in
    let os = outlines_of a.view.now.set.vertices.now a.view.now.set.counts.now in
    let B = buffer a.index.now.corners.now a.index.now.links.now a.index.now.items.now in
    let D = magnitude_at os a.p in
    let n = length os in
    let e = rw c.count_at-count.ensures at (none_of c.if-count-gt0.false) in
    rw (c.wait_both.ensures.len, c.in-Some.ensures.len) (searching_inner B most a.p D n c.loop-e.invariant c.in-Some.ensures.popped e (rw (c.first_at-first.ensures, c.in-Some.ensures.len) at c.wait_both.ensures.opened))

pub returns : goal.returns
returns c =
    let a = c.args in
    let os = outlines_of a.view.now.set.vertices.now a.view.now.set.counts.now in
    let B = buffer a.index.now.corners.now a.index.now.links.now a.index.now.items.now in
    let D = magnitude_at os a.p in
    let n = length os in
    let A = c.requires.0 in
    let P = owned_point c.well_formed.1.1.0 A.point in
    let S = c.loop-e.invariant in
    let k = outlines_length a.view.now.set.vertices.now a.view.now.set.counts.now in
    let m = c.requires.3 in
    let z = c.in_default.ensures.none.0 refl in
    set_search_end os A.fitting A.held a.p P B c.requires.2 (omega arith) _ S.among (upto_none B most a.p D n S (omega arith))

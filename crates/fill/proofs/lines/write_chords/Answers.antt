-- `fill::lines::write_chords` meets its contract: the chords so far, with the edges that are left, are the outline's edges shortened. Assumes nothing.
use Rattle.std.proofs.Common.{◌*◌, ◌∙◌}
use Rattle.std.proofs.lemmas.List.{length-take-le}
use lib.Seq.{drop_at}
use Prim.Native.Nat.{◌≤◌}
use native.Mathlib.Nat.{le_antisymm}
use native.Mathlib.Omega.{arith}
use Rattle.boundary.specs.Outline.{count}
use Rattle.clip.specs.Lent.{room_of, lines_from}
use Rattle.clip.proofs.HalvesLaws.{front_written}
use Rattle.clip.proofs.LentLaws.{front_lines}
use borrow.Author.Rules.{rules}
use Rattle.clip.proofs.StripLaws.{chords_begin, chord_more, chords_end}
use Rattle.fill.proofs.lines.write_chords.Goals as goal

pub loop-i-init : goal.loop-i-init
loop-i-init c = (search rules, search rules, search rules, chords_begin _ _)

pub chord-c-requires : goal.chord-c-requires
chord-c-requires c = (search rules, c.requires.1)

pub overflow_sub-to : goal.overflow_sub-to
overflow_sub-to c = let d = c.chord-c.ensures.forward in omega (arith, d)

pub next-requires : goal.next-requires
next-requires c =
    let d = c.chord-c.ensures in
    omega (arith, d.forward, d.fits)

pub emit-at-requires : goal.emit-at-requires
emit-at-requires c =
    let l = c.loop-i in
    omega (arith, l.invariant.1, l.invariant.0)

pub overflow_add-beyond : goal.overflow_add-beyond
overflow_add-beyond c =
    let d = c.chord-c.ensures in
    let l = c.loop-i in
    omega (arith, d.forward, d.fits, l.invariant.2)

pub loop-i-smaller : goal.loop-i-smaller
loop-i-smaller c =
    let d = c.chord-c.ensures in
    omega (arith, d.forward, d.fits)

pub loop-i-preserved : goal.loop-i-preserved
loop-i-preserved c =
    let g = c.emit-at.ensures in
    let d = c.chord-c.ensures in
    let l = c.loop-i in
    let v = c.args.v.now in
    let h = g.2 (lines_from l.front 0 0 l.at) (front_lines _ l.front l.at) in
    let end = rw c.next.ensures.0 at c.vertex_at-in-loop-i.ensures in
    let r = c.emit-at.result in
    let n : r ≤ c.chord-c.result.to = omega (arith, g.0, d.forward, l.invariant.1) in
    let m = l.auto.front ∙ length-take-le (4 * count v) _ (omega (arith, c.requires.0)) in
    let fits : r ≤ room_of l.front = omega (arith, n, d.fits, m) in
    let start = c.vertex_at.ensures in
    let more = chord_more v l.front c.emit-at.new.out l.at d start end (rw g.0 at (h.list fits)) l.invariant.3 in
    (d.fits, n, omega (arith, d.forward, l.invariant.2), rw g.0 more)

pub returns : goal.returns
returns c =
    let l = c.loop-i in
    let e = le_antisymm l.invariant.0 c.loop-i-test.false in
    let n = count c.args.v.now in
    let m = l.auto.front ∙ length-take-le (4 * n) _ (omega (arith, c.requires.0)) in (
      omega (arith, l.invariant.0, l.invariant.1),
      omega (arith, l.invariant.0, l.invariant.2),
      rw (front_written l.front _ l.at (omega (arith, m, l.invariant.0, l.invariant.1))) (chords_end _ l.front l.at l.i e l.invariant.3),
      drop_at l.front _ (4 * n) m,
    )

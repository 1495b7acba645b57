-- `fill::cell::clipped` meets its contract. Assumes nothing.
use Rattle.std.proofs.Common.{◌≡◌, ◌*◌, ◌++◌, length, drop, ◌∙◌, length-append, length-drop, arith}
use Rattle.std.proofs.lemmas.List.{length-take-le}
use Rattle.std.proofs.lemmas.Slice.{drop-append-drop}
use Rattle.clip.proofs.HalvesLaws.{front_written}
use Rattle.fill.specs.Fill.{fill_of, long_of}
use Rattle.fill.specs.Answers.{filled}
use Rattle.clip.specs.Lent.{half_in}
use Rattle.fill.proofs.cell.clipped.Goals as goal

pub write_chords-k-requires : goal.write_chords-k-requires
write_chords-k-requires c = (omega (arith, c.requires.0, length-take-le (4 * (half_in c.args.w.now)) c.args.w.now (omega arith)), rw (c.side-low.ensures, c.side.ensures) c.requires.1)

pub returns : goal.returns
unfolding filled fill_of long_of
returns c =
    let a = c.args in
    let out = c.write_chords-k.new.out in
    let n = c.write_chords-k.result.n in
    let rest = drop (4 * half_in a.w.now) a.w.now in
    let m : length out ≡ 4 * half_in a.w.now = c.write_chords-k.auto.out ∙ length-take-le (4 * half_in a.w.now) a.w.now (omega arith) in
    let all : length (out ++ rest) ≡ length a.w.now = omega (arith, m, length-append out rest, length-drop (4 * half_in a.w.now) a.w.now) in
    let g = rw (c.side-low.ensures, c.side.ensures) at c.write_chords-k.ensures in
    let drawn = rw (← front_written out rest n (omega (arith, m, g.0, c.requires.0))) at g.2 in
    let x = rw all at c.clip_x-b.ensures in
    let y = rw x.0 at c.clip_y-last.ensures in
    let z = rw y.0 at c.summed.ensures in
    (z _ _ (y.2 _ _ (x.2 _ drawn)), y.0, y.1 ∙ x.1 ∙ drop-append-drop (4 * half_in a.w.now) a.w.now out (8 * half_in a.w.now) (omega arith) m)

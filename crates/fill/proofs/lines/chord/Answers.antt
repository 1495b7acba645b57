-- `fill::lines::chord` meets its contract. Assumes nothing.
use Rattle.clip.proofs.StripLaws.{edge_drawn, low_chord, high_chord}
use Rattle.fill.proofs.lines.chord.Goals as goal

pub returns-then-i-l : goal.returns-then-i-l
returns-then-i-l c =
    let e = c.outside_end-l.ensures in
    let q = c.requires in
    low_chord q.1 _ _ c.if-i-l.true e.1 (e.2 c.if-i-l.true)

pub returns-then-i-h : goal.returns-then-i-h
returns-then-i-h c =
    let e = c.outside_end-h.ensures in
    let q = c.requires in
    high_chord q.1 _ _ c.if-i-h.true e.1 (e.2 c.if-i-h.true)

pub returns : goal.returns
returns c =
    let q = c.requires in
    edge_drawn q.1 _ q.0

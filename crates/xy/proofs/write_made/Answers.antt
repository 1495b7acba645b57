-- `xy::write_made` meets its contract. Assumes nothing.
use mathlib.Core.Path.{sym, ap, ◌∙◌}
use native.Mathlib.Omega.{arith}
use Rattle.boundary.specs.Outline.{count}
use Rattle.geometry.specs.Making.{made_of}
use Rattle.accept.proofs.TestLaws.{passed_size}
use Rattle.xy.specs.Outlines.{numbers_from}
use Rattle.xy.proofs.NumberLaws.{count_from}
use Rattle.xy.proofs.MakingLaws.{tested_near, tested_makes, made_length}
use Rattle.xy.proofs.write_made.Goals as goal

pub invariant_of-kept : goal.invariant_of-kept
invariant_of-kept c =
    record { in_reach = record { within = c.requires.0; near = tested_near _ c.requires.1 } }

pub write-requires : goal.write-requires
write-requires c =
    let f = made_length (numbers_from c.args.s.now c.args.from c.args.n) in
    let g = ap count c.kept-kept.ensures.0 in
    let h = c.requires.3 in
    omega arith

pub overflow_cast-result : goal.overflow_cast-result
overflow_cast-result c =
    let k = c.kept-kept.result in
    let e = count_from k.s.now k.from k.n k.in_reach.within in
    let f = passed_size _ (tested_makes _ c.requires.1) in
    let g = ap count c.kept-kept.ensures.0 in
    omega arith

pub returns : goal.returns
unfolding made_of
returns c =
    let k = c.kept-kept.result in
    let e = count_from k.s.now k.from k.n k.in_reach.within in
    (sym e ∙ ap count c.kept-kept.ensures.0, rw (← c.requires.2, ← c.kept-kept.ensures.0) c.write.ensures)

-- `gdsii::write_outline` meets its contract: the outline from where the set ends on, and its count. Assumes nothing.
use mathlib.Core.Path.{ap₂, ◌∙◌}
use native.Mathlib.Omega.{arith}
use Rattle.lists.proofs.StoreLaws.{part_front}
use Rattle.accept.proofs.TestLaws.{passed_size}
use Rattle.xy.specs.Outlines.{steps_from}
use Rattle.xy.proofs.MakingLaws.{tested_makes}
use Rattle.gdsii.specs.Answers.{set_lent}
use borrow.Author.Rules.{rules}
use Rattle.gdsii.proofs.write_outline.Goals as goal

pub write_made-m-requires : goal.write_made-m-requires
write_made-m-requires c =
    let p = c.requires in
    let w = p.wide in
    (p.within, p.passed, c.at-back.ensures ∙ p.sign, search rules)

pub overflow_add-result-2 : goal.overflow_add-result-2
overflow_add-result-2 c =
    let k = passed_size _ (tested_makes (steps_from c.args.s.now c.args.from c.args.n) c.requires.passed) in
    let e = c.write_made-m.ensures.0 in
    let s = c.requires.small in
    omega arith

pub returns : goal.returns
returns c =
    let e = c.write_made-m.ensures in
    record {
      value = rw e.0;
      set_after = ap₂ set_lent (part_front _ _ _ _ c.requires.wide e.1) (c.put.ensures ∙ rw e.0);
    }

-- `clip::parts::between` meets its contract. Assumes nothing.
use mathlib.Core.Path.{sym, ◌∙◌}
use lib.Ieee.{of_bits}
use Rattle.clip.specs.Passes.{marks_between}
use Rattle.clip.proofs.CutLaws.{uncut}
use Rattle.clip.proofs.parts.between.Goals as goal

pub returns-then-p-d : goal.returns-then-p-d
unfolding marks_between of_bits
returns-then-p-d c = rw (c.uncut.ensures, uncut _ _ c.if-p-d.true)

pub returns-then-is_cut : goal.returns-then-is_cut
unfolding marks_between of_bits
returns-then-is_cut c = rw (c.mark-then-is_cut.ensures, c.mark.ensures, sym c.is_cut.ensures ∙ c.if-is_cut.true)

pub returns : goal.returns
unfolding marks_between of_bits
returns c = rw (c.uncut-2.ensures, sym c.is_cut.ensures ∙ c.if-is_cut.false)

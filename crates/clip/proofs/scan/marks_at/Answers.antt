-- `clip::scan::marks_at` meets its contract. Assumes nothing.
use Rattle.clip.proofs.FirstPassLaws.{marks_of_column}
use Rattle.clip.proofs.scan.marks_at.Goals as goal

pub returns : goal.returns
returns c = let a = c.args in rw c.between.ensures (marks_of_column a.s a.w.now a.o _ c.from-k.ensures)

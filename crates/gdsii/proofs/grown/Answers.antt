-- `gdsii::grown` meets its contract. Assumes nothing.
use Rattle.gdsii.specs.Work.{grown_by}
use Rattle.gdsii.proofs.grown.Goals as goal

pub returns-then-outlines-vertices : goal.returns-then-outlines-vertices
unfolding grown_by
returns-then-outlines-vertices c = rw c.if-outlines-vertices.true

pub returns : goal.returns
unfolding grown_by
returns c = rw c.if-outlines-vertices.false

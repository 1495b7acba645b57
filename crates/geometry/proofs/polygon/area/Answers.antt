-- `geometry::polygon::area` meets its contract. Assumes nothing.
use Rattle.geometry.specs.Answers.{area_answer}
use Rattle.geometry.proofs.polygon.area.Goals as goal

pub returns : goal.returns
unfolding area_answer
returns c = c.outline_verdict.ensures

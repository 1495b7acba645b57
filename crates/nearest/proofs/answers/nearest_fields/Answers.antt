-- `nearest::answers::nearest_fields` meets its contract. Assumes nothing.
use Rattle.nearest.proofs.answers.nearest_fields.Goals as goal

pub returns-in-Err : goal.returns-in-Err
returns-in-Err c = rw (c.none_found-in-Err.ensures, c.from.ensures, c.in-Err.is)

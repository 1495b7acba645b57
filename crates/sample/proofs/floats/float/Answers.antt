-- `sample::floats::float` is safe: the test says that the pattern is no NaN's. Assumes nothing.
use Rattle.sample.proofs.Nan.{low_bits_not_nan}
use Rattle.sample.proofs.floats.float.Goals as goal

-- src/floats.rt:8:16
pub float_from_bits-result : goal.float_from_bits-result
float_from_bits-result c = low_bits_not_nan _ c.if-bits-le9218868437227405312.true

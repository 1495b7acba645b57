-- `number::root::guess` meets its contract: no bit pattern that is read is a NaN's, and no NaN is written. Assumes nothing.
use Rattle.std.proofs.Common.{arith}
use lib.Ieee.{binary64}
use lib.Ieee.Fits.{mul-fits}
use Rattle.number.proofs.Tests.{lt_not_nan, bits_not_nan, trimmed_not_nan}
use Rattle.number.proofs.root.guess.Goals as goal

pub float_from_bits-z : goal.float_from_bits-z
float_from_bits-z c = bits_not_nan _ (omega arith)

pub float_from_bits-y0 : goal.float_from_bits-y0
float_from_bits-y0 c = bits_not_nan _ (omega arith)

pub float_from_bits-u : goal.float_from_bits-u
float_from_bits-u c = trimmed_not_nan _ (mul-fits binary64 _ _) (lt_not_nan _ _ c.if-s.true)

-- `number::root::root_by_digits` meets its contract: the bits that it gives are those of the root, rounded. Assumes nothing.
use Rattle.std.proofs.Common.{arith}
use Rattle.number.proofs.Tests.{bits_not_nan}
use Rattle.number.proofs.NearRoot.{near_lt, root_is, digits_le}
use Rattle.number.proofs.root.root_by_digits.Goals as goal

pub float_from_bits-result : goal.float_from_bits-result
float_from_bits-result c = bits_not_nan _ (omega (arith, near_lt _ _ (digits_le c.args.w c.requires.1) c.nearest_root.ensures))

pub returns : goal.returns
returns c = root_is c.args.c c.args.w _ c.requires.0 c.requires.1 c.requires.2 c.requires.3 c.nearest_root.ensures

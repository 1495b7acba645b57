-- `number::root::square` meets its contract: no product of halves overflows, and the parts add up to the square. Assumes nothing.
use Rattle.std.proofs.Common.{arith}
use Rattle.number.proofs.Squares.{square_of, halves_le}
use Rattle.number.proofs.root.square.Goals as goal

pub returns : goal.returns
returns c = let h = halves_le c.args.q c.requires in omega (arith, square_of c.args.q)

-- `number::root::root_of` meets its contract: where the guess passes the check, its bits are those of the root, rounded. Assumes nothing.
use Rattle.std.proofs.Common.{◌≡◌, ◌+◌, ◌*◌, ◌/◌, ◌%◌, ◌^◌, ap, ◌∙◌, arith}
use lib.Ieee.{binary64, to_bits, of_bits}
use Rattle.number.proofs.Tests.{bits_not_nan}
use Rattle.number.proofs.NearRoot.{root_is}
use Rattle.number.proofs.root.root_of.Goals as goal

pub float_from_bits-result : goal.float_from_bits-result
float_from_bits-result c = bits_not_nan _ (omega arith)

pub returns-then-is_root : goal.returns-then-is_root
returns-then-is_root c =
    let r = to_bits binary64 c.guess-g.result in
    let s = c in
    let e : r ≡ (s.args.w / 2 + 474) * 2 ^ 52 + (r % 2 ^ 52 + 2 ^ 52) = omega arith in
    ap (of_bits binary64) e
    ∙ root_is s.args.c s.args.w (r % 2 ^ 52 + 2 ^ 52) s.requires.0 s.requires.1 s.requires.2 s.requires.3 (c.is_root.ensures c.if-is_root.true)

-- `fill::cell::fill_in` meets its contract. Assumes nothing.
use Prim.Native.Nat.{◌*◌}
use native.Mathlib.Omega.{arith}
use lib.Ieee.{of_bits}
use lib.ListN.{length}
use lib.Ieee.{of_bits}
use Rattle.number.specs.Exact.{zeroᶠ}
use Rattle.lists.proofs.FrontLaws.{zeros_past}
use Rattle.clip.specs.Lent.{half_of}
use Rattle.fill.proofs.cell.fill_in.Goals as goal

pub fill_by-answer-requires : goal.fill_by-answer-requires
fill_by-answer-requires c = c.requires

pub clear-requires : goal.clear-requires
clear-requires c = rw c.fill_by-answer.ensures.1 (omega arith)

pub returns : goal.returns
unfolding of_bits
returns c =
    let f = c.fill_by-answer.ensures in
    let w = c.args.w.now in
    rw (f.0, c.clear.ensures, zeros_past zeroᶠ (8 * half_of (length w)) _ w f.2)

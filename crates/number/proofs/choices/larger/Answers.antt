-- `number::choices::larger` meets its contract. Assumes nothing.
use Rattle.number.proofs.ChoiceLaws.{magnitude, larger_is, larger_from}
use Rattle.std.proofs.Common.{T, sym, subst}
use lib.Ieee.{of_bits}
use Rattle.number.proofs.choices.larger.Goals as goal

pub returns : goal.returns
unfolding of_bits
returns c =
    let a = c.args in
    let m = c.pick-m.ensures in
    let p = c.requires in
    let g = c.well_formed in
    (rw (c.pick.ensures, m) (larger_is a.s a.y (subst T (sym g.0.1) tt) (subst T (sym g.1.0.1) tt) p), rw (c.pick.ensures, m) (larger_from a.s (magnitude a.y) p))

-- `number::root::hypot_less` meets its contract: squares that differ clearly tell which root is less. Assumes nothing.
use Rattle.std.proofs.Common.{T, sym, ◌∙◌, subst}
use lib.Ieee.{eq}
use lib.Ieee.Bits.{is_true}
use lib.Ieee.Fits.{and_l, and_r}
use Rattle.number.proofs.HypotLaws.{hypot_mono}
use Rattle.number.proofs.HypotClear.{hypot_clear}
use Rattle.number.proofs.OrderLaws.{lt_asym, le_not_below}
use Rattle.number.proofs.MagnitudeOrder.{level_abs}
use Rattle.number.proofs.root.hypot_less.Goals as goal

pub returns-then-a-c : goal.returns-then-a-c
returns-then-a-c c =
    let e = subst T (sym c.if-a-c.true) tt in
    let a = c.args in
    let same = level_abs a.a a.c (is_true _ (and_l (eq a.a a.c) (eq a.b a.d) e)) in
    let other = level_abs a.b a.d (is_true _ (and_r (eq a.a a.c) (eq a.b a.d) e)) in
    sym (le_not_below _ _ (hypot_mono a.c a.d a.a a.b same other))

pub returns-then-clearly_less : goal.returns-then-clearly_less
returns-then-clearly_less c =
    let s = c.requires in
    sym (is_true _ (hypot_clear s.0 s.1 s.2 s.3 (subst T (sym (sym c.clearly_less.ensures ∙ c.if-clearly_less.true)) tt)))

pub returns-then-clearly_less-2 : goal.returns-then-clearly_less-2
returns-then-clearly_less-2 c =
    let s = c.requires in
    sym (lt_asym _ _ (is_true _ (hypot_clear s.2 s.3 s.0 s.1 (subst T (sym (sym c.clearly_less-2.ensures ∙ c.if-clearly_less-2.true)) tt))))

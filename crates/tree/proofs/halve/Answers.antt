-- `tree::halve` meets its contract. Assumes nothing.
use Rattle.sorts.proofs.PartLaws.{parted_halves, halves_parted}
use mathlib.Core.Path.{sym, ap, ◌∙◌}
use Rattle.sorts.specs.Sort.{Parted, parted_by}
use Rattle.tree.proofs.halve.Goals as goal

pub returns-then-k-m : goal.returns-then-k-m
unfolding parted_by
returns-then-k-m c =
    let q = c.parted-k.ensures in
    ap (λ (o : Parted). o.list) q ∙ parted_halves _ _ _ _ _ c.requires.0 (sym (ap (λ (o : Parted). o.count) q) ∙ c.if-k-m.true)

pub returns : goal.returns
unfolding parted_by
returns c = c.halve_sorted.ensures ∙ rw (ap (λ (o : Parted). o.list) c.parted-k.ensures) (halves_parted _ _ _ _)

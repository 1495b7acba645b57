-- `number::root::hypot` meets its contract: along an axis by the law of one zero argument, and otherwise by its text. Assumes nothing.
use Rattle.std.proofs.Common.{T, sym, ◌∙◌, subst}
use lib.Ieee.{of_bits}
use Rattle.number.specs.Hypot.{hypot_of}
use Rattle.number.proofs.HypotLaws.{hypot_swap}
use Rattle.number.proofs.HypotAxis.{hypot_tested}
use Rattle.number.proofs.root.hypot.Goals as goal

pub returns-then-squares : goal.returns-then-squares
unfolding of_bits
returns-then-squares c =
    c.abs.ensures ∙ hypot_tested c.args.a c.args.b (subst T (sym c.well_formed.0.1) tt) c.if-b.true (sym c.squares.ensures ∙ c.if-squares.true)

pub returns-then-squares-2 : goal.returns-then-squares-2
unfolding of_bits
returns-then-squares-2 c =
    c.abs-then-squares-2.ensures ∙ hypot_tested c.args.b c.args.a (subst T (sym c.well_formed.1.0.1) tt) c.if-a.true (sym c.squares-then-a.ensures ∙ c.if-squares-2.true) ∙ hypot_swap c.args.b c.args.a

pub returns : goal.returns
unfolding hypot_of
returns c = c.sqrt.ensures

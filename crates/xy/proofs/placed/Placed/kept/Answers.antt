-- `xy::placed::Placed::kept` meets its contract. Assumes nothing.
use mathlib.Core.Path.{sym, ◌∙◌}
use borrow.Author.Rules.{rules}
use native.Mathlib.Omega.{arith}
use Rattle.xy.proofs.NumberLaws.{near_fewer}
use Rattle.xy.proofs.MakingLaws.{closed_more, kept_closed, kept_open}
use Rattle.xy.proofs.placed.Placed.kept.Goals as goal

pub overflow_sub-result : goal.overflow_sub-result
overflow_sub-result c =
    let p = c.args.self in
    let l = closed_more p.s.now p.from p.n p.in_reach.within (sym c.is_closed.ensures ∙ c.if-is_closed.true) in
    omega arith

pub invariant_of-result : goal.invariant_of-result
invariant_of-result c =
    let p = c.args.self in
    record { in_reach = near_fewer p.s.now p.from p.n p.in_reach _ (omega arith) }

pub returns-then-is_closed : goal.returns-then-is_closed
returns-then-is_closed c =
    let p = c.args.self in
    (kept_closed p.s.now p.from p.n p.in_reach.within (sym c.is_closed.ensures ∙ c.if-is_closed.true), search rules)

pub returns : goal.returns
returns c =
    let p = c.args.self in
    (kept_open p.s.now p.from p.n p.in_reach.within (sym c.is_closed.ensures ∙ c.if-is_closed.false), search rules)

-- `set::outlines::Set::outline_at` meets its contract. Assumes nothing.
use mathlib.Core.Path.{sym, ap, ◌∙◌}
use Prim.Native.Nat.{ℕ, ◌+◌, ◌*◌}
use native.Mathlib.Omega.{arith}
use Rattle.set.specs.Set.{outlines_of}
use Rattle.set.proofs.SetLaws.{part_within, part_is, outlines_length, outline_is, outline_past}
use Rattle.set.proofs.outlines.Set.outline_at.Goals as goal

pub outline_from-requires : goal.outline_from-requires
outline_from-requires c =
    let a = c.args in
    let l = c.if-k-self.true in
    let s = c.requires.1.each a.k l in
    let w = part_within a.self.now.vertices.now a.self.now.counts.now c.requires.0 a.k l in
    let at = c.at.ensures in
    let count = c.at-then-k-self.ensures in
    (omega arith, omega arith)

pub returns-then-k-self : goal.returns-then-k-self
returns-then-k-self c =
    let a = c.args in
    let l = c.if-k-self.true in
    let at = c.at in
    c.outline_from.ensures
    ∙ part_is a.self.now.vertices.now a.self.now.counts.now a.k _ _ (ap (λ (m : ℕ). 2 * m) (at.ensures ∙ c.requires.1.each a.k l)) (ap (λ (m : ℕ). 2 * at.result + 2 * m) c.at-then-k-self.ensures)
    ∙ sym (outline_is a.self.now.vertices.now a.self.now.counts.now a.k)

pub returns : goal.returns
returns c =
    let a = c.args in
    let n = outlines_length a.self.now.vertices.now a.self.now.counts.now in
    let l = c.if-k-self.false in
    c.outline_from-2.ensures ∙ sym (outline_past (outlines_of a.self.now.vertices.now a.self.now.counts.now) a.k (omega arith))

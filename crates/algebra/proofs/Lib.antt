-- Whole-number algebra for proofs: a solver for ring identities, and an ordered layer for signed whole numbers. Assumes nothing.

-- The normaliser's soundness, `ring_eq`.
pub mod RingLaws
-- `ring`, `ringℕ`: an identity over ℤ or ℕ in one line.
pub mod Quote
-- `le_from`, `lt_from`, `eq_from`, `false_from`: from listed facts by `omega`.
pub mod Lin
-- `le_comb`: from listed facts with written multipliers, of any size.
pub mod Comb
-- Products, squares and cancellation in an order.
pub mod Mono
-- The laws of a sign with a magnitude.
pub mod SignedLaws
-- One use of each.
pub mod Examples

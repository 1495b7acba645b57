-- Whole-number algebra for proofs: definitions, and the laws that rest on no other of this crate's. Assumes nothing.

-- The ring laws of ℤ, each one a law of ℕ.
pub mod Int
-- Expressions, polynomials and the normaliser.
pub mod Ring
-- `◌≦◌`, `◌≺◌`: order, sums, products, squares, magnitudes; `omega ord`.
pub mod Order
-- A sign with a magnitude, as a float has them, and the integer that they are.
pub mod Sign

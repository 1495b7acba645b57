-- Numbers as bytes, the high byte first. Definitions only.
use Rattle.std.specs.Prelude.{cond, List, [], ◌∷◌, ℕ, ◌+◌, ◌*◌, ltb, ℤ, pos, ◌-ℤ◌, get_or}

-- the number that two bytes write, and four
abbrev pub pair_of : ℕ → ℕ → ℕ
pair_of a b = a * 256 + b

abbrev pub quad_of : ℕ → ℕ → ℕ → ℕ → ℕ
quad_of a b c d = pair_of a b * 65536 + pair_of c d

-- as a signed number: from 2 ^ 31 on, n stands for n - 2 ^ 32
unfoldable pub signed_quad : ℕ → ℤ
signed_quad n = cond (ltb n 2147483648) (pos n) (pos n -ℤ pos 4294967296)

-- the signed numbers that the bytes x write, four bytes each
unfoldable pub steps_in : List ℕ → List ℤ
unfolding signed_quad
steps_in (a ∷ b ∷ c ∷ d ∷ x) = signed_quad (quad_of a b c d) ∷ steps_in x
steps_in (a ∷ b ∷ c ∷ []) = []
steps_in (a ∷ b ∷ []) = []
steps_in (a ∷ []) = []
steps_in [] = []

-- ---- at a place of a list; bytes that are not there count as 0
abbrev pub pair_at : List ℕ → ℕ → ℕ
pair_at x i = pair_of (get_or x i 0) (get_or x (i + 1) 0)

abbrev pub quad_at : List ℕ → ℕ → ℕ
quad_at x i = quad_of (get_or x i 0) (get_or x (i + 1) 0) (get_or x (i + 2) 0) (get_or x (i + 3) 0)

-- signed number k of those from place `from` on
abbrev pub step_at : List ℕ → ℕ → ℕ → ℤ
step_at x from k = signed_quad (quad_at x (from + 4 * k))

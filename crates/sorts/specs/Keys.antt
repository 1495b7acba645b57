-- The order of numbers by a key, then by number (document 01, index.rs). Definitions only.
use Rattle.std.specs.Prelude.{Bool, true, false, not, ◌&&◌, ◌||◌, cond, List, ℕ, leb, get_or, Float}
use Rattle.std.specs.Float.{nan}
use Rattle.std.specs.Float.Ieee.{lt, eq, is_nan}
use Rattle.number.specs.Signs.{sign_bit}

-- x comes before y, as the Rust's `total_cmp` has it: it is less, or the two are equal and it alone has the sign, or y alone is NaN
unfoldable pub total_less : Float → Float → Bool
unfolding lt eq is_nan
total_less x y = lt x y || ((eq x y && (sign_bit x && not (sign_bit y))) || (not (is_nan x) && is_nan y))

-- the number a with the key x goes before the number b with the key y, or is b
unfoldable pub precedes_by : Float → Float → ℕ → ℕ → Bool
unfolding total_less
precedes_by x y a b = cond (total_less x y) true (cond (total_less y x) false (leb a b))

abbrev pub precedes : (ℕ → Float) → ℕ → ℕ → Bool
precedes key a b = precedes_by (key a) (key b) a b

-- x goes before the number t with the key v
abbrev pub ahead : (ℕ → Float) → Float → ℕ → ℕ → Bool
ahead key v t x = not (precedes_by v (key x) t x)

-- the keys that a list holds, one for each number from 0 on
abbrev pub key_in : List Float → ℕ → Float
key_in K i = get_or K i nan

-- Whether some member passes a test, by a search from the first member on. Assumes nothing.
use mathlib.Core.Path.{◌≡◌, sym, ap, ◌∙◌}
use mathlib.Core.Bool.{Bool, true, false, ◌||◌}
use mathlib.Core.List.{List}
use Prim.Native.Nat.{ℕ, ◌+◌, ◌<◌}
use lib.ListN.{length, get_or, drop}
use Rattle.lists.proofs.FoldLaws.{fold_drop_next, any_from}
use Rattle.lists.specs.Lists.{fold, any}

module _ {A : Type 0} (p : A → Bool) where
  -- a search from the first member on: member i passes, or the search goes on
  abbrev pub any_step : Bool → A → Bool
  any_step b x = b || p x

  pub found_at : (d : A) (xs : List A) (i : ℕ) → i < length xs → fold any_step false (drop i xs) ≡ any p xs → p (get_or xs i d) ≡ true → true ≡ any p xs
  found_at d xs i l e h = sym (ap (λ (b : Bool). fold any_step b (drop (i + 1) xs)) h ∙ any_from p true (drop (i + 1) xs)) ∙ sym (fold_drop_next any_step d false xs i l) ∙ e

  pub missed_at : (d : A) (xs : List A) (i : ℕ) → i < length xs → fold any_step false (drop i xs) ≡ any p xs → p (get_or xs i d) ≡ false → fold any_step false (drop (i + 1) xs) ≡ any p xs
  missed_at d xs i l e h = sym (ap (λ (b : Bool). fold any_step b (drop (i + 1) xs)) h) ∙ sym (fold_drop_next any_step d false xs i l) ∙ e

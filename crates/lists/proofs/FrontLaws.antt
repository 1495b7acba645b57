-- What is written to the front of a list, and zeros in its first n places, one by one. Assumes nothing.
use mathlib.Core.Path.{◌≡◌, refl, sym, ap, ◌∙◌}
use mathlib.Core.List.{List, [], ◌∷◌, ◌++◌}
use Prim.Native.Nat.{ℕ, zero, suc, ◌+◌, ◌-◌, ◌≤◌, ◌<◌}
use native.Mathlib.Nat.{not-suc-le-zero, le_of_suc-le-suc}
use native.Mathlib.Numerals.{add-one}
use native.Mathlib.Omega.{arith}
use lib.ListN.{length, get_or, set, take, drop, replicate, length-replicate, get_or-append}
use Rattle.std.proofs.lemmas.List.{append-nil, length-take-le, drop_all}
use lib.Seq.{drop-append-add, drop-cons, drop-drop, get_or-append-add, get_or-drop, set_at, append_snoc}
use Rattle.lists.specs.Lists.{run, at_front, zeros}
use Rattle.lists.proofs.RunLaws.{run_last, length_run}

-- what is written over is gone
pub front_front : {A : Type 0} (zs xs s : List A) → length xs ≤ length zs → length zs ≤ length s → at_front zs (at_front xs s) ≡ at_front zs s
unfolding at_front
front_front zs xs s h l =
    let k : length zs ≡ length xs + (length zs - length xs) = omega arith in
    ap (λ (r : List _). zs ++ r) (ap (λ (n : ℕ). drop n (xs ++ drop (length xs) s)) k ∙ drop-append-add xs (drop (length xs) s) (length zs - length xs) ∙ drop-drop (length zs - length xs) (length xs) s ∙ ap (λ (n : ℕ). drop n s) (sym k))

-- place i: of what is written, and past it as it was
module _ {A : Type 0} (xs s : List A) (d : A) (i : ℕ) where
  pub front_at : i < length xs → get_or (at_front xs s) i d ≡ get_or xs i d
  unfolding at_front
  front_at l = get_or-append xs (drop (length xs) s) d i l

  pub front_past : length xs ≤ i → get_or (at_front xs s) i d ≡ get_or s i d
  unfolding at_front
  front_past l =
      let e : length xs + (i - length xs) ≡ i = omega arith in
      ap (λ (k : ℕ). get_or (xs ++ drop (length xs) s) k d) (sym e) ∙ get_or-append-add xs (drop (length xs) s) (i - length xs) d ∙ get_or-drop (length xs) s (i - length xs) d ∙ ap (λ (k : ℕ). get_or s k d) e

-- the run g 0, g 1, .. at the front of a list, one more
pub front_more_run : {A : Type 0} (g : ℕ → A) (xs ys : List A) (i : ℕ) (x : A) → i < length xs → x ≡ g i → ys ≡ run g 0 i ++ drop i xs
    → set ys i x ≡ run g 0 (i + 1) ++ drop (i + 1) xs
front_more_run {A} g xs ys i x h ex e =
    let z : 0 + i ≡ i = omega arith in
    let last : run g 0 (suc i) ≡ run g 0 i ++ (x ∷ []) = run_last g 0 i ∙ ap (λ (a : A). run g 0 i ++ (a ∷ [])) (ap g z ∙ sym ex) in
    rw add-one (ap (λ (zs : List A). set zs i x) (e ∙ ap (λ (zs : List A). run g 0 i ++ zs) (drop-cons xs i x h))
    ∙ set_at (run g 0 i) (get_or xs i x) (drop (suc i) xs) x i (length_run g 0 i)
    ∙ sym (append_snoc (run g 0 i) x (drop (suc i) xs))
    ∙ ap (λ (zs : List A). zs ++ drop (suc i) xs) (sym last))

-- and all of it
pub front_run : {A : Type 0} (g : ℕ → A) (n : ℕ) (xs : List A) → run g 0 n ++ drop n xs ≡ at_front (run g 0 n) xs
unfolding at_front
front_run g n xs = rw (length_run g 0 n)

module _ {A : Type 0} (z : A) where
  set_next : (i : ℕ) (s : List A) → i < length s → set (replicate i z ++ drop i s) i z ≡ replicate (suc i) z ++ drop (suc i) s
  set_next i [] l = absurd (not-suc-le-zero l)
  set_next zero (x ∷ s) l = refl
  set_next (suc i) (x ∷ s) l = ap (λ (r : List A). z ∷ r) (set_next i s (le_of_suc-le-suc l))

  pub zeros_front : (n : ℕ) (s : List A) → at_front (zeros z n) s ≡ replicate n z ++ drop n s
  unfolding at_front
  zeros_front n s = ap (λ (k : ℕ). replicate n z ++ drop k s) (length-replicate n z)

  -- what stood in the first n places does not matter
  pub zeros_past : (n : ℕ) (s t : List A) → drop n s ≡ drop n t → at_front (zeros z n) s ≡ at_front (zeros z n) t
  zeros_past n s t e = zeros_front n s ∙ ap (λ (r : List A). replicate n z ++ r) e ∙ sym (zeros_front n t)

  -- z put to the places of a list one after the other: the next place
  pub next_place : (t₀ : List A) (i : ℕ) (t : List A) → t ≡ replicate i z ++ drop i t₀ → i < length t₀ → set t i z ≡ replicate (i + 1) z ++ drop (i + 1) t₀
  next_place t₀ i t e l = rw (e, add-one) (set_next i t₀ l)

  -- all of the first n places of s
  pub all_places : (s : List A) (n i : ℕ) (t : List A) → n ≤ length s → t ≡ replicate i z ++ drop i (take n s) → i ≡ n → t ++ drop n s ≡ at_front (zeros z n) s
  all_places s n i t h e k =
      let m : length (take n s) ≤ n = omega (arith, length-take-le n s h) in
      let none : drop n (take n s) ≡ [] = drop_all n (take n s) m in
      rw (e, k, none, append-nil) (sym (zeros_front n s))

-- Runs of stores into one list: one after the other, in either order where they do not overlap, and as many places for each member. Assumes nothing.
use mathlib.Core.Path.{◌≡◌, refl, sym, ap, ◌∙◌}
use mathlib.Core.List.{List, [], ◌∷◌, ◌++◌, append_assoc, append-nil, flat_map}
use Prim.Native.Nat.{ℕ, zero, suc, ◌+◌, ◌-◌, ◌*◌, ◌≤◌, ◌<◌}
use native.Mathlib.Nat.{add-zero, add-suc, suc-add, mul-suc}
use native.Mathlib.Numerals.{add-one}
use native.Mathlib.Omega.{arith}
use lib.ListN.{length, get_or, set, take, drop, length-append, length-drop, drop_of_length-le, get_or-append}
use lib.Seq.{take_all, drop-length, drop-drop, set_comm, sets, sets-eq, get_or-append-add}
use Rattle.lists.specs.Lists.{run, at_front}
use Rattle.lists.proofs.RunLaws.{run_last, length_run}

module _ {A : Type 0} where
  pub sets_append : (l : List A) (i : ℕ) (xs ys : List A) → sets (sets l i xs) (i + length xs) ys ≡ sets l i (xs ++ ys)
  sets_append l i [] ys = rw add-zero
  sets_append l i (x ∷ xs) ys = ap (λ (k : ℕ). sets (sets (set l i x) (suc i) xs) k ys) (add-suc i (length xs) ∙ sym (suc-add i (length xs))) ∙ sets_append (set l i x) (suc i) xs ys

  set_sets : (l : List A) (i j : ℕ) (x : A) (ys : List A) → i < j → set (sets l j ys) i x ≡ sets (set l i x) j ys
  set_sets l i j x [] h = refl
  set_sets l i j x (y ∷ ys) h = set_sets (set l j y) i (suc j) x ys (omega arith) ∙ ap (λ (k : List A). sets k (suc j) ys) (set_comm l j i y x (λ e. omega arith))

  pub sets_swap : (l : List A) (i j : ℕ) (xs ys : List A) → i + length xs ≤ j → sets (sets l j ys) i xs ≡ sets (sets l i xs) j ys
  sets_swap l i j [] ys h = refl
  sets_swap l i j (x ∷ xs) ys h = ap (λ (k : List A). sets k (suc i) xs) (set_sets l i j x ys (omega arith)) ∙ sets_swap (set l i x) (suc i) j xs ys (omega arith)

  -- from the front on, where there is room
  pub sets_front : (l xs : List A) → length xs ≤ length l → sets l 0 xs ≡ xs ++ drop (length xs) l
  sets_front l xs h = let e : 0 + length xs ≡ length xs = omega arith in sets-eq xs l 0 (omega arith) ∙ rw e

  -- the run g 0, g 1, .. written one by one
  pub sets_more : (s₀ s s' : List A) (g : ℕ → A) (i : ℕ) (x : A) → s ≡ sets s₀ 0 (run g 0 i) → x ≡ g i → s' ≡ set s i x → s' ≡ sets s₀ 0 (run g 0 (i + 1))
  sets_more s₀ s s' g i x es ex e =
      let n = length_run g 0 i in
      let z : 0 + i ≡ i = omega arith in
      rw (e, es, ex, add-one i, run_last g 0 i, z, ← sets_append s₀ 0 (run g 0 i) (g i ∷ []), n, z)

  -- as many as the list has places
  pub sets_all : (s : List A) (g : ℕ → A) (i : ℕ) → i ≡ length s → sets s 0 (run g 0 i) ≡ run g 0 (length s)
  sets_all s g i e =
      let n = length_run g 0 i in
      sets_front s (run g 0 i) (omega arith) ∙ rw (n, e, drop-length s) (append-nil (run g 0 (length s)))

pub flat_append : {A B : Type 0} (f : B → List A) (xs ys : List B) → flat_map f (xs ++ ys) ≡ flat_map f xs ++ flat_map f ys
unfolding flat_map
flat_append f [] ys = refl
flat_append f (x ∷ xs) ys = rw (flat_append f xs ys) (sym (append_assoc (f x) (flat_map f xs) (flat_map f ys)))

-- f gives w places for each member
module _ {A B : Type 0} (f : B → List A) (w : ℕ) (size : (x : B) → length (f x) ≡ w) where
  pub flat_length : (xs : List B) → length (flat_map f xs) ≡ w * length xs
  unfolding flat_map
  flat_length [] = omega arith
  flat_length (x ∷ xs) = let s = size x in let e = flat_length xs in let m = mul-suc w (length xs) in let a = length-append (f x) (flat_map f xs) in omega arith

  -- what f gives of g 0, g 1, .. written one by one
  pub flat_more : (s₀ s s' : List A) (g : ℕ → B) (i : ℕ) (x : B) → s ≡ sets s₀ 0 (flat_map f (run g 0 i)) → x ≡ g i → s' ≡ sets s (w * i) (f x) → s' ≡ sets s₀ 0 (flat_map f (run g 0 (i + 1)))
  unfolding flat_map
  flat_more s₀ s s' g i x es ex e =
      let z : 0 + i ≡ i = omega arith in
      let n : 0 + length (flat_map f (run g 0 i)) ≡ w * i = let l = flat_length (run g 0 i) in let r = ap (λ (n : ℕ). w * n) (length_run g 0 i) in omega arith in
      rw (e, es, ex, add-one i, run_last g 0 i, z, flat_append f (run g 0 i) (g i ∷ []), append-nil (f (g i)), ← sets_append s₀ 0 (flat_map f (run g 0 i)) (f (g i)), n)

  -- place k of member i
  pub flat_at : (xs : List B) (rest : List A) (i k : ℕ) (d : A) (e : B) → i < length xs → k < w → get_or (flat_map f xs ++ rest) (w * i + k) d ≡ get_or (f (get_or xs i e)) k d
  unfolding flat_map
  flat_at [] rest i k d e h l = absurd (omega arith)
  flat_at (x ∷ xs) rest zero k d e h l =
      let z : w * 0 + k ≡ k = omega arith in
      let s = size x in
      rw (append_assoc (f x) (flat_map f xs) rest, z) (get_or-append (f x) (flat_map f xs ++ rest) d k (omega arith))
  flat_at (x ∷ xs) rest (suc i) k d e h l =
      let z : w * suc i + k ≡ length (f x) + (w * i + k) = let m = mul-suc w i in let s = size x in omega arith in
      rw (append_assoc (f x) (flat_map f xs) rest, z, get_or-append-add (f x) (flat_map f xs ++ rest) (w * i + k) d) (flat_at xs rest i k d e (omega arith) l)

-- ---- a part of a lent list from a place on
pub part_front : {A : Type 0} (l ys xs : List A) (at : ℕ) → at + length xs ≤ length l → ys ≡ at_front xs (take (length l - at) (drop at l))
    → take at l ++ (ys ++ drop (length l - at) (drop at l)) ≡ sets l at xs
unfolding at_front
part_front {A} l ys xs at h e =
    let k = length-drop at l in
    let a : take (length l - at) (drop at l) ≡ drop at l = take_all (length l - at) (drop at l) (omega (arith, k)) in
    let b : drop (length l - at) (drop at l) ≡ [] = drop_of_length-le (drop at l) {i = length l - at} (omega (arith, k)) in
    let f : ys ≡ xs ++ drop (at + length xs) l = e ∙ ap (λ (z : List A). xs ++ drop (length xs) z) a ∙ ap (λ (z : List A). xs ++ z) (drop-drop (length xs) at l) in
    rw (b, f, append-nil) (sym (append_assoc (take at l) xs (drop (at + length xs) l)) ∙ sym (sets-eq xs l at h))

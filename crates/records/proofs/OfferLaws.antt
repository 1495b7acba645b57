-- The front of a list, written to another one by one. Assumes nothing.
use mathlib.Core.Path.{◌≡◌, refl, sym, ap, ◌∙◌}
use mathlib.Core.List.{List, ◌++◌}
use Prim.Native.Nat.{ℕ, suc, ◌<◌}
use native.Mathlib.Omega.{arith}
use lib.ListN.{length, get_or, set, take, drop}
use lib.Seq.{take-suc, drop-cons, set_at, append_snoc, length-take-le}

-- the first i of `list` stand in place of the first i of xs
abbrev pub FrontOf : {A : Type 0} → List A → List A → ℕ → List A → Type 0
FrontOf list xs i ys = ys ≡ take i list ++ drop i xs

pub front_none : {A : Type 0} (list xs : List A) → FrontOf list xs 0 xs
front_none list xs = refl

pub front_more : {A : Type 0} (list xs ys : List A) (i : ℕ) (d : A) → FrontOf list xs i ys → i < length list → i < length xs → FrontOf list xs (suc i) (set ys i (get_or list i d))
front_more {A} list xs ys i d e h l =
    let r : A = get_or list i d in
    ap (λ (zs : List A). set zs i r) (e ∙ ap (λ (zs : List A). take i list ++ zs) (drop-cons xs i d l))
    ∙ set_at (take i list) (get_or xs i d) (drop (suc i) xs) r i (length-take-le i list (omega arith))
    ∙ sym (append_snoc (take i list) r (drop (suc i) xs))
    ∙ ap (λ (zs : List A). zs ++ drop (suc i) xs) (sym (take-suc list i d h))

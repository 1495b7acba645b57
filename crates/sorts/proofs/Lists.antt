-- A list copied one by one; a slice's first m, and then the rest, changed in place. Assumes nothing.
use Prim.Native.Nat.{ℕ, ◌+◌, ◌-◌, ◌≤◌, ◌<◌}
use mathlib.Core.Path.{◌≡◌, sym, ap, ap₂, ◌∙◌}
use mathlib.Core.List.{List, [], ◌∷◌, ◌++◌, append-nil}
use lib.ListN.{length, get_or, take, drop, set, drop_of_length-le, length-append, length-drop, length-set, take-append-drop}
use lib.Seq.{take_all, drop_at, take_at, take-suc, take-suc-set, drop-set-lt, drop-drop}
use native.Mathlib.Numerals.{add-one}
use native.Mathlib.Omega.{arith}

-- ---- copying: the first i are there

pub record Copying (s t₀ t : List ℕ) (i : ℕ) : Type 0 where
  pub within : i ≤ length s
  pub fits : length s ≤ length t
  pub kept : length t ≡ length t₀
  pub same : take i t ≡ take i s
  pub rest : drop i t ≡ drop i t₀

pub copying_more : (s t₀ t : List ℕ) (i : ℕ) → Copying s t₀ t i → i < length s → (t' : List ℕ) (v : ℕ) → v ≡ get_or s i 0 → t' ≡ set t i v → Copying s t₀ t' (i + 1)
copying_more s t₀ t i k h t' v e w =
    let n = k.fits in
    let h' : i < length t = omega arith in
    record {
      within = omega arith;
      fits = rw (w, length-set) n;
      kept = rw (w, length-set) k.kept;
      same = rw (w, e) (rw (add-one, take-suc-set t i (get_or s i 0) h', take-suc s i 0 h) (ap (λ (l : List ℕ). l ++ (get_or s i 0 ∷ [])) k.same));
      rest = rw w (rw (drop-set-lt (i + 1) t i v (omega arith)) (sym (drop-drop 1 i t) ∙ ap (drop 1) k.rest ∙ drop-drop 1 i t₀));
    }

pub copying_done : (s t₀ t : List ℕ) (i : ℕ) → Copying s t₀ t i → length s ≤ i → t ≡ s ++ drop (length s) t₀
copying_done s t₀ t i k h =
    let n = k.within in
    let e : i ≡ length s = omega arith in
    sym (take-append-drop i t) ∙ ap₂ (λ (x y : List ℕ). x ++ y) (k.same ∙ take_all i s h) (k.rest ∙ ap (λ (n : ℕ). drop n t₀) e)

-- ---- a slice's first m, and then the rest

-- the part from m on of what starts with m elements and goes on as S does
pub rest_of : (S Y : List ℕ) (m : ℕ) → length Y ≡ m → m ≤ length S → take (length (Y ++ drop m S) - m) (drop m (Y ++ drop m S)) ≡ drop m S
rest_of S Y m e h = rw (drop_at Y (drop m S) m e) (take_all (length (Y ++ drop m S) - m) (drop m S) (simp (length-append, length-drop) (omega arith)))

-- the whole, once that part is Z
pub whole_of : (S Y Z : List ℕ) (m : ℕ) → length Y ≡ m → m ≤ length S
    → take m (Y ++ drop m S) ++ (Z ++ drop (length (Y ++ drop m S) - m) (drop m (Y ++ drop m S))) ≡ Y ++ Z
whole_of S Y Z m e h =
    rw (take_at Y (drop m S) m e, drop_at Y (drop m S) m e)
    (ap (λ (l : List ℕ). Y ++ l) (ap (λ (l : List ℕ). Z ++ l) (drop_of_length-le (drop m S) {i = length (Y ++ drop m S) - m} (simp (length-append, length-drop) (omega arith))) ∙ append-nil Z))

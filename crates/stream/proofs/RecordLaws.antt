-- The record that a stream opens with: what the format says of it, and what the tests find; equal bytes. Assumes nothing.
use mathlib.Core.Path.{◌≡◌, refl, sym, ap, ap₂}
use mathlib.Core.Bool.{true, false, true≢false}
use mathlib.Core.List.{List, [], ◌∷◌, ◌++◌}
use Prim.Native.Nat.{ℕ, suc, ◌+◌, ◌-◌, ◌≤◌, ◌<◌}
use native.Mathlib.Omega.{arith}
use borrow.Author.Tests.{ltb-false, le-ltb, eq-eqb, eqb-true}
use lib.Dec.{eqb, ltb}
use lib.ListN.{length, take, drop, length-append, length-drop, take-append-drop}
use lib.Seq.{length-take-le, take-append_seam, drop-append_seam}
use Rattle.lists.proofs.FoldLaws.{and_both, or_none}
use Rattle.stream.specs.Bytes.{pair_of}
use Rattle.stream.specs.Format.{Record}
use Rattle.stream.specs.Records.{record_size, record_type, record_data, after_record, cut_short, same_bytes}

-- ---- the front
-- what the tests read of a record
pub record Front (t : ℕ) (d s r : List ℕ) : Type 0 where
  pub long : record_size s ≡ 4 + length d
  pub kind : record_type s ≡ t
  pub contents : record_data s ≡ d
  pub rest : after_record s ≡ r
  pub whole : cut_short s ≡ false

pub front : {t : ℕ} {d s r : List ℕ} → Record t d s r → Front t d s r
unfolding record_data after_record
front {t} {d} {s} {r} q =
    let l : record_size s ≡ 4 + length d = rw q.bytes q.long in
    let k : length s ≡ length (q.l₁ ∷ q.l₀ ∷ q.t₁ ∷ q.t₀ ∷ d ++ r) = ap length q.bytes in
    let m = length-append d r in
    let n : record_size s - 4 ≡ length d = omega arith in
    let u : record_size s ≡ suc (suc (suc (suc (length d)))) = omega arith in
    let long : ltb (record_size s) 4 ≡ false = le-ltb (record_size s) 4 (omega arith) in
    let there : ltb (length s) (record_size s) ≡ false = le-ltb (length s) (record_size s) (omega arith) in
    record {
      long = l;
      kind = rw q.bytes q.kind;
      contents = rw n (rw q.bytes (take-append_seam d r));
      rest = rw u (rw q.bytes (drop-append_seam d r));
      whole = rw (long, there);
    }

past_four : (a b c d : ℕ) (t : List ℕ) (m n : ℕ) → m ≡ suc (suc (suc (suc n))) → t ≡ take n t ++ drop m (a ∷ b ∷ c ∷ d ∷ t)
past_four a b c d t m n e = rw e (sym (take-append-drop n t))

-- what is not cut short is a record
pub opens_record : (s : List ℕ) → cut_short s ≡ false → Record (record_type s) (record_data s) s (after_record s)
unfolding record_data after_record
opens_record s e =
    let h = or_none (ltb (record_size s) 4) (ltb (length s) (record_size s)) e in
    go s (ltb-false _ _ h.0) (ltb-false _ _ h.1)
  where
    go : (s : List ℕ) → 4 ≤ record_size s → record_size s ≤ length s → Record (record_type s) (record_data s) s (after_record s)
    go [] p q = absurd (omega (arith, p, q))
    go (a ∷ []) p q = absurd (omega (arith, p, q))
    go (a ∷ b ∷ []) p q = absurd (omega (arith, p, q))
    go (a ∷ b ∷ c ∷ []) p q = absurd (omega (arith, p, q))
    go (a ∷ b ∷ c ∷ d ∷ t) p q =
        let n = pair_of a b - 4 in
        let w : pair_of a b ≡ suc (suc (suc (suc n))) = omega (arith, p) in
        let k : length (take n t) ≡ n = length-take-le n t (omega (arith, p, q)) in
        record {
          l₁ = a;
          l₀ = b;
          t₁ = c;
          t₀ = d;
          bytes = ap (λ (u : List ℕ). a ∷ b ∷ c ∷ d ∷ u) (past_four a b c d t (pair_of a b) n w);
          long = omega (arith, w, k);
          kind = refl;
        }

-- less is left after a record
pub record_shortens : {t : ℕ} {d s r : List ℕ} → Record t d s r → length r < length s
unfolding after_record
record_shortens {t} {d} {s} {r} q =
    let w = front q in
    let k = length-drop (record_size s) s in
    let e : length (after_record s) ≡ length r = ap length w.rest in
    let l = w.long in
    let h = or_none (ltb (record_size s) 4) (ltb (length s) (record_size s)) w.whole in
    let i = ltb-false (length s) (record_size s) h.1 in
    omega (arith, k, e, l, i)

-- ---- equal bytes
pub same_bytes_true : (x y : List ℕ) → same_bytes x y ≡ true → x ≡ y
unfolding same_bytes
same_bytes_true [] [] e = refl
same_bytes_true [] (b ∷ y) e = absurd (true≢false (sym e))
same_bytes_true (a ∷ x) [] e = absurd (true≢false (sym e))
same_bytes_true (a ∷ x) (b ∷ y) e =
    let h = and_both (eqb a b) (same_bytes x y) e in
    ap₂ (λ (n : ℕ) (z : List ℕ). n ∷ z) (eqb-true a b h.0) (same_bytes_true x y h.1)

pub bytes_same : (x : List ℕ) → same_bytes x x ≡ true
unfolding same_bytes
bytes_same [] = refl
bytes_same (a ∷ x) = rw (eq-eqb a a refl) (bytes_same x)

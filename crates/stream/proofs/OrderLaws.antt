-- Laws of a record: where its length and type stand, what its type, its length and its unit are where nothing is wrong. Assumes nothing.
use mathlib.Core.Path.{◌≡◌, refl, sym, ap, ap₂, ◌∙◌}
use mathlib.Core.Bool.{Bool, true, false, not, ◌&&◌, cond, true≢false}
use mathlib.Core.List.{List}
use Prim.Native.Nat.{ℕ, ◌+◌, ◌%◌}
use native.Mathlib.Omega.{arith}
use borrow.Author.Tests.{eq-eqb, eqb-true, not-false}
use lib.Dec.{eqb}
use lib.ListN.{take, drop, get_or}
use lib.Seq.{get_or-drop}
use Rattle.lists.proofs.FoldLaws.{or_none}
use Rattle.stream.specs.declared.Awaited.{Awaited}
use Rattle.stream.specs.declared.Awaited.TheVariants.{Astray}
use Rattle.stream.specs.Bytes.{pair_of, pair_at}
use Rattle.stream.specs.Format.{UNITS, XY}
use Rattle.stream.specs.Records.{record_size, record_type, asked_for, astray, misfit, right_unit, same_bytes, other_unit}
use Rattle.stream.proofs.RecordLaws.{same_bytes_true, bytes_same}

-- ---- its length and its type at a place
byte_at : (s : List ℕ) (at i j : ℕ) → j ≡ at + i → get_or s j 0 ≡ get_or (drop at s) i 0
byte_at s at i j e = ap (λ (k : ℕ). get_or s k 0) e ∙ sym (get_or-drop at s i 0)

pub size_at : (s : List ℕ) (at : ℕ) → pair_at s at ≡ record_size (drop at s)
size_at s at = ap₂ pair_of (byte_at s at 0 at (omega arith)) (byte_at s at (0 + 1) (at + 1) (omega arith))

pub type_at : (s : List ℕ) (at : ℕ) → pair_at s (at + 2) ≡ record_type (drop at s)
type_at s at = ap₂ pair_of (byte_at s at 2 (at + 2) refl) (byte_at s at (2 + 1) (at + 2 + 1) (omega arith))

-- ---- the type
pub asked_is : (k t : ℕ) (then : Awaited) → astray (asked_for k t then) ≡ false → k ≡ t
unfolding astray
asked_is k t then = go (eqb k t) refl
  where
    go : (b : Bool) → eqb k t ≡ b → astray (cond b then Astray) ≡ false → k ≡ t
    go true e q = eqb-true k t e
    go false e q = absurd (true≢false q)

pub asked_so : (k t : ℕ) (then : Awaited) → k ≡ t → asked_for k t then ≡ then
asked_so k t then e = rw (eq-eqb k t e)

-- ---- how much data
pub xy_multiple : (t n : ℕ) → t ≡ XY → misfit t n ≡ false → n % 8 ≡ 0
unfolding misfit
xy_multiple t n e q =
    let h = (or_none (eqb t UNITS && not (eqb (n + 4) 20)) (eqb t XY && not (eqb (n % 8) 0)) q).1 in
    eqb-true (n % 8) 0 (not-false _ (rw (eq-eqb t XY e) at h))

pub units_sixteen : (t n : ℕ) → t ≡ UNITS → misfit t n ≡ false → n ≡ 16
unfolding misfit
units_sixteen t n e q =
    let h = (or_none (eqb t UNITS && not (eqb (n + 4) 20)) (eqb t XY && not (eqb (n % 8) 0)) q).0 in
    let k : not (eqb (n + 4) 20) ≡ false = rw (eq-eqb t UNITS e) at h in
    let m = eqb-true (n + 4) 20 (not-false _ k) in
    omega (arith, m)

-- ---- the unit
pub unit_is : (t : ℕ) (d : List ℕ) → t ≡ UNITS → (eqb t UNITS && other_unit d) ≡ false → take 8 d ≡ right_unit
unfolding other_unit
unit_is t d e q =
    let h : not (same_bytes (take 8 d) right_unit) ≡ false = rw (eq-eqb t UNITS e) at q in
    same_bytes_true (take 8 d) right_unit (not-false _ h)

pub unit_so : (d : List ℕ) → take 8 d ≡ right_unit → other_unit d ≡ false
unfolding other_unit
unit_so d e = rw e (ap not (bytes_same right_unit))

-- One record of a stream: what reading is before it and after it. Assumes nothing.
use mathlib.Core.Path.{◌≡◌, refl}
use mathlib.Core.Bool.{true, false, cond}
use mathlib.Core.List.{List}
use Prim.Native.Nat.{ℕ, zero, suc, ◌<◌}
use native.Mathlib.Omega.{arith}
use lib.Dec.{eqb}
use lib.IntN.{ℤ}
use Rattle.accept.specs.declared.Refusal.{Refusal}
use Rattle.accept.specs.Refusals.{all_passed, given}
use Rattle.accept.proofs.TestLaws.{both_passed}
use Rattle.stream.specs.declared.Awaited.{Awaited}
use Rattle.stream.specs.Bytes.{steps_in}
use Rattle.stream.specs.Format.{XY}
use Rattle.stream.specs.Records.{record_type, record_data, after_record, asked_after, at_end}
use Rattle.gdsii.specs.Reading.{record_tested, joining_tested, all_tested, with_record, Reading, turned_down, read_as, read_by}

pub same_held : {zss yss : List (List ℤ)} → read_as zss ≡ read_as yss → zss ≡ yss
same_held e = cc

pub down_not_held : (r : Refusal) (zss : List (List ℤ)) → turned_down r ≡ read_as zss → ⊥
down_not_held r zss e = let z : ◌≡◌ {A = ℕ} 0 1 = cc in omega arith

-- nothing more is asked for
pub nothing_left : (n : ℕ) (asked : Awaited) {zss : List (List ℤ)} (s : List ℕ) {r : Reading} → 0 < n → at_end asked ≡ true → read_by n asked zss s ≡ r → read_as zss ≡ r
unfolding read_by
nothing_left zero asked s l e q = absurd (omega arith)
nothing_left (suc n) asked s l e q = rw e at q

-- a record is
pub record Next (n : ℕ) (asked : Awaited) (zss : List (List ℤ)) (s : List ℕ) (r : Reading) : Type 0 where
  pub fuel : ℕ
  pub one : n ≡ suc fuel
  pub read : given (all_tested (asked_after asked (record_type s)) zss s) (read_by fuel (asked_after asked (record_type s)) (with_record zss s) (after_record s)) turned_down ≡ r

pub one_record : (n : ℕ) {asked : Awaited} {zss : List (List ℤ)} {s : List ℕ} {r : Reading} → 0 < n → at_end asked ≡ false → read_by n asked zss s ≡ r → Next n asked zss s r
unfolding read_by
one_record zero l e q = absurd (omega arith)
one_record (suc n) l e q = record { fuel = n; one = refl; read = rw e at q }

-- all tests of a record are passed: 16 and 17, and those of its outline where it has one
pub tests_passed : (then : Awaited) (zss : List (List ℤ)) (s : List ℕ) → all_tested then zss s ≡ all_passed
    → (record_tested then s ≡ all_passed) × (cond (eqb (record_type s) XY) (joining_tested zss (steps_in (record_data s))) all_passed ≡ all_passed)
unfolding all_tested
tests_passed then zss s e = both_passed _ _ e

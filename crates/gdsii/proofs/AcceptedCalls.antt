-- What a call leaves: the set of the stream's outlines, accepted and on the grid, or a refusal with its lists as they were lent. Assumes nothing.
use Rattle.gdsii.specs.declared.Size.{Size}
use Rattle.std.proofs.Common.{Ok, Err}
use Rattle.accept.specs.Refusals.{all_passed}
use mathlib.Core.Path.{◌≡◌, refl, sym, ap, ap₂, ◌∙◌, subst}
use mathlib.Core.Bool.{Bool, true, false, cond}
use mathlib.Core.List.{List}
use Prim.Native.Nat.{ℕ, ◌*◌}
use native.Mathlib.Omega.{arith}
use lib.IntN.{ℤ}
use lib.ListN.{length, take, drop}
use lib.Seq.{take_at}
use lib.Ieee.{Float}
use Rattle.lists.specs.Lists.{at_front}
use Rattle.boundary.specs.Outline.{count}
use Rattle.accept.specs.declared.Refusal.TheVariants.{ShortBuffer}
use Rattle.accept.specs.Answers.{Outcome, in_fields, Fields}
use Rattle.accept.proofs.TestLaws.{number_above}
use Rattle.grid.specs.Grid.{OutlineOn}
use Rattle.set.specs.Tests.{set_tested}
use Rattle.gdsii.specs.Reading.{set_of, counts_of, Reading, turned_down, read_as, reading}
use Rattle.gdsii.specs.Answers.{set_size, SetLent, short_set, written, read_with, read_fields, read_call, vertices_left, counts_left}
use Rattle.gdsii.specs.Accepted.{AcceptedStream}
use Rattle.gdsii.proofs.SizeLaws.{set_even, length_counts}
use Rattle.gdsii.proofs.Theorems.{accepted_holds, holds_accepted}
use Rattle.gdsii.proofs.SetRead.{read_on_grid, read_passes}

-- the call of the stream s with the lists L answers 0: it has read the outlines zss of the format, and their set is in its lists
pub record ReadSet (s : List ℕ) (L : SetLent) (zss : List (List ℤ)) : Type 0 where
  pub accepted : AcceptedStream zss s
  pub outlines : (read_call s L).answer.value.outlines ≡ length zss
  pub vertices : vertices_left s L ≡ set_of zss
  pub counts : counts_left s L ≡ counts_of zss
  pub passed : set_tested (vertices_left s L) (counts_left s L) ≡ all_passed
  pub grid : OutlineOn (vertices_left s L)

-- ---- what an accepted stream is answered, in lists that are long enough
pub accepted_reads : (s : List ℕ) (L : SetLent) {zss : List (List ℤ)} → AcceptedStream zss s → short_set zss L ≡ false
    → read_call s L ≡ record { answer = record { number = 0; value = set_size zss }; lent = written zss L }
unfolding read_with
accepted_reads s L {zss} a h = rw (holds_accepted s zss a, h)

-- the set is at the front of the lists
front_taken : {A : Type 0} (xs out : List A) (n : ℕ) → length xs ≡ n → take n (at_front xs out) ≡ xs
unfolding at_front
front_taken xs out n e = take_at xs (drop (length xs) out) n e

abbrev front_vertices : Outcome (Fields Size) SetLent → List Float
front_vertices o = take (2 * o.answer.value.vertices) o.lent.vertices

abbrev front_counts : Outcome (Fields Size) SetLent → List ℕ
front_counts o = take o.answer.value.outlines o.lent.counts

set_left : (s : List ℕ) (L : SetLent) {zss : List (List ℤ)} → AcceptedStream zss s → short_set zss L ≡ false → ReadSet s L zss
set_left s L {zss} a h =
    let e = accepted_reads s L a h in
    let v : vertices_left s L ≡ set_of zss = ap front_vertices e ∙ front_taken (set_of zss) L.vertices (2 * count (set_of zss)) (set_even zss) in
    let c : counts_left s L ≡ counts_of zss = ap front_counts e ∙ front_taken (counts_of zss) L.counts (length zss) (length_counts zss) in
    record {
      accepted = a;
      outlines = ap (λ (o : Outcome (Fields Size) SetLent). o.answer.value.outlines) e;
      vertices = v;
      counts = c;
      passed = ap₂ set_tested v c ∙ read_passes a;
      grid = subst OutlineOn (sym v) (read_on_grid a);
    }

-- ---- every call
abbrev answered : Reading → SetLent → Outcome (Fields Size) SetLent
answered r L = in_fields read_fields (read_with r L)

-- where a list is short, or none is
abbrev answered_if : Bool → List (List ℤ) → SetLent → Outcome (Fields Size) SetLent
answered_if short zss L = in_fields read_fields (cond short (record { answer = Err ShortBuffer; lent = L }) (record { answer = Ok (set_size zss); lent = written zss L }))

-- it answers 0 only where the stream is accepted and no list is short
call_accepted : (s : List ℕ) (L : SetLent) → (read_call s L).answer.number ≡ 0 → (zss : List (List ℤ)) × (AcceptedStream zss s) × (short_set zss L ≡ false)
unfolding read_with
call_accepted s L = go (reading s) refl
  where
    long : (zss : List (List ℤ)) (b : Bool) → short_set zss L ≡ b → (answered_if b zss L).answer.number ≡ 0 → short_set zss L ≡ false
    long zss true h e = absurd (let k : ◌≡◌ {A = ℕ} 13 0 = e in omega arith)
    long zss false h e = h

    go : (r : Reading) → reading s ≡ r → (answered r L).answer.number ≡ 0 → (zss : List (List ℤ)) × (AcceptedStream zss s) × (short_set zss L ≡ false)
    go (turned_down q) h e = absurd (let k = number_above q in omega arith)
    go (read_as zss) h e = (zss, accepted_holds s zss h, long zss (short_set zss L) refl e)

pub call_reads : (s : List ℕ) (L : SetLent) → (read_call s L).answer.number ≡ 0 → (zss : List (List ℤ)) × ReadSet s L zss
call_reads s L e = let h = call_accepted s L e in (h.0, set_left s L h.1 h.2)

-- a refusal leaves the lists as they were lent, and zeros
pub refused_untouched : (s : List ℕ) (L : SetLent) → ((read_call s L).answer.number ≡ 0 → ⊥)
    → ((read_call s L).lent ≡ L) × ((read_call s L).answer.value ≡ record { outlines = 0; vertices = 0 })
unfolding read_with
refused_untouched s L = go (reading s)
  where
    untouched : Outcome (Fields Size) SetLent → Type 0
    untouched o = (o.lent ≡ L) × (o.answer.value ≡ record { outlines = 0; vertices = 0 })

    short : (zss : List (List ℤ)) (b : Bool) → ((answered_if b zss L).answer.number ≡ 0 → ⊥) → untouched (answered_if b zss L)
    short zss true n = (refl, refl)
    short zss false n = absurd (n refl)

    go : (r : Reading) → ((answered r L).answer.number ≡ 0 → ⊥) → untouched (answered r L)
    go (turned_down q) n = (refl, refl)
    go (read_as zss) n = short zss (short_set zss L) n

-- What the call leaves, from what the first pass finds. Assumes nothing.
use Rattle.std.proofs.Common.{Ok, Err}
use mathlib.Core.Path.{◌≡◌, refl, sym, ap}
use mathlib.Core.Bool.{Bool, true, false, ◌||◌}
use mathlib.Core.List.{List}
use Prim.Native.Nat.{ℕ, ◌*◌}
use native.Mathlib.Omega.{arith}
use borrow.Author.Tests.{ltb-false}
use lib.Dec.{ltb}
use lib.IntN.{ℤ}
use lib.ListN.{length}
use Rattle.lists.proofs.FoldLaws.{or_none}
use Rattle.accept.specs.declared.Refusal.{Refusal}
use Rattle.accept.specs.declared.Refusal.TheVariants.{ShortBuffer}
use Rattle.gdsii.specs.declared.Size.{Size}
use Rattle.gdsii.specs.Reading.{Reading, turned_down, read_as, reading}
use Rattle.gdsii.specs.Answers.{SetLent, set_size, measured, short_set, read_with, read_outcome}
use Rattle.gdsii.specs.Work.{SignsOf, RoomForSet, Wrote}
use Rattle.gdsii.proofs.SizeLaws.{set_even}

-- ---- refused
measured_refused : (r : Reading) (q : Refusal) → measured r ≡ Err q → r ≡ turned_down q
measured_refused (turned_down p) q e = let h : p ≡ q = cc in rw h
measured_refused (read_as zss) q e = absurd (let z : ◌≡◌ {A = ℕ} 0 1 = cc in omega arith)

pub call_refused : (s : List ℕ) (L : SetLent) {q : Refusal} → Err q ≡ measured (reading s) → record { answer = Err q; lent = L } ≡ read_outcome s L
unfolding read_with
call_refused s L {q} e = rw (measured_refused (reading s) q (sym e))

-- ---- a set is found
pub record FoundSet (r : Reading) (n : Size) : Type 0 where
  pub outlines : List (List ℤ)
  pub read : r ≡ read_as outlines
  pub size : set_size outlines ≡ n

pub measured_found : (r : Reading) (n : Size) → Ok n ≡ measured r → FoundSet r n
measured_found (turned_down q) n e = absurd (let z : ◌≡◌ {A = ℕ} 0 1 = cc in omega arith)
measured_found (read_as zss) n e = record { outlines = zss; read = refl; size = cc }

module _ (s : List ℕ) (L : SetLent) (n : Size) (h : FoundSet (reading s) n) where
  -- 13 by sizes alone
  abbrev too_short : Bool
  too_short = ltb (length L.vertices) (2 * n.vertices) || ltb (length L.counts) n.outlines

  short_is : short_set h.outlines L ≡ too_short
  short_is = rw (set_even h.outlines, ← h.size)

  pub call_short : too_short ≡ true → record { answer = Err ShortBuffer; lent = L } ≡ read_outcome s L
  unfolding read_with
  call_short e = rw (h.read, short_is, e)

  module _ (room : too_short ≡ false) where
    pub has_room : {S : List Bool} → SignsOf (reading s) S → RoomForSet s n.outlines S L
    has_room g =
        let k = or_none (ltb (length L.vertices) (2 * n.vertices)) (ltb (length L.counts) n.outlines) room in
        let a = ltb-false (length L.vertices) (2 * n.vertices) k.0 in
        let b = ltb-false (length L.counts) n.outlines k.1 in
        let e = set_even h.outlines in
        let v = ap (λ (z : Size). z.vertices) h.size in
        let o = ap (λ (z : Size). z.outlines) h.size in
        record { outlines = h.outlines; many = sym o; read = h.read; signs = g h.outlines h.read; wide = omega arith; long = omega arith }

    pub call_found : {M : SetLent} → Wrote s L M → record { answer = Ok n; lent = M } ≡ read_outcome s L
    unfolding read_with
    call_found w = rw (h.read, short_is, room, w h.outlines h.read, h.size)

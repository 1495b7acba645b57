-- Writing points to the front of a lent list: each turn writes one point, and at the end all are written. Assumes nothing.
use mathlib.Core.Path.{◌≡◌, refl, ap}
use mathlib.Core.Bool.{Bool, true, false, cond}
use mathlib.Core.List.{List, [], ◌∷◌, ◌++◌, append_assoc}
use Prim.Native.Nat.{ℕ, zero, suc, ◌+◌, ◌-◌, ◌*◌, ◌<◌}
use native.Mathlib.Numerals.{add-one}
use native.Mathlib.Omega.{arith}
use lib.ListN.{length, drop, set, length-append}
use lib.Seq.{drop-cons, set_at}
use lib.Ieee.{Float, nan}
use Rattle.boundary.specs.declared.Point.{Point}
use Rattle.lists.specs.Lists.{run, at_front}
use Rattle.boundary.specs.Outline.{count, vertex_at, vertices}
use Rattle.lists.proofs.RunLaws.{run_last, reverse_run}
use Rattle.geometry.specs.Making.{turned, coordinates_of}

numbers_append : (ps qs : List Point) → coordinates_of (ps ++ qs) ≡ coordinates_of ps ++ coordinates_of qs
unfolding coordinates_of
numbers_append [] qs = refl
numbers_append (p ∷ ps) qs = rw (numbers_append ps qs)

numbers_length : (f : ℕ → Point) (i k : ℕ) → length (coordinates_of (run f i k)) ≡ 2 * k
unfolding coordinates_of run
numbers_length f i zero = refl
numbers_length f i (suc k) = rw (numbers_length f (suc i) k) (omega arith)

pub write_more : (f : ℕ → Point) (d xs : List Float) (i : ℕ) → xs ≡ coordinates_of (run f 0 i) ++ drop (2 * i) d → 2 * i + 1 < length d → set (set xs (2 * i) (f i).x) (2 * i + 1) (f i).y ≡ coordinates_of (run f 0 (i + 1)) ++ drop (2 * (i + 1)) d
unfolding coordinates_of
write_more f d xs i e l =
    let here : 2 * i < length d = omega arith in
    let next : suc (2 * i) < length d = omega arith in
    let front : length (coordinates_of (run f 0 i)) ≡ 2 * i = numbers_length f 0 i in
    let longer : length (coordinates_of (run f 0 i) ++ ((f i).x ∷ [])) ≡ suc (2 * i) = rw (length-append, front) (omega arith) in
    let past : 2 * (i + 1) ≡ suc (suc (2 * i)) = omega arith in
    let same : 0 + i ≡ i = omega arith in
    rw (past, add-one i, add-one (2 * i), run_last f 0 i, numbers_append, same, append_assoc (coordinates_of (run f 0 i)), e, drop-cons d (2 * i) nan here, drop-cons d (suc (2 * i)) nan next, set_at (coordinates_of (run f 0 i)) _ _ _ _ front, ← append_assoc (coordinates_of (run f 0 i)) ((f i).x ∷ []), set_at (coordinates_of (run f 0 i) ++ ((f i).x ∷ [])) _ _ _ _ longer, append_assoc)

-- the point that is written at i
abbrev pub point_at : List Float → Bool → ℕ → Point
point_at v back i = vertex_at v (cond back (count v - 1 - i) i)

turned_run : (v : List Float) (back : Bool) → turned back (vertices v) ≡ run (point_at v back) 0 (count v)
unfolding turned vertices
turned_run v true = reverse_run (vertex_at v) (point_at v true) 0 (count v) (λ j l. ap (vertex_at v) (omega arith))
turned_run v false = refl

pub write_all : (v : List Float) (back : Bool) (d : List Float) → at_front (coordinates_of (turned back (vertices v))) d ≡ coordinates_of (run (point_at v back) 0 (count v)) ++ drop (2 * count v) d
unfolding at_front
write_all v back d = rw (turned_run v back, numbers_length (point_at v back) 0 (count v))

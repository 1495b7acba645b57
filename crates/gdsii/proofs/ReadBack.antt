-- Reading the plain stream of outlines that making leaves as they are gives them back. Assumes nothing.
use mathlib.Core.Path.{◌≡◌, refl, sym, ap, ap₂, ◌∙◌}
use mathlib.Core.Bool.{Bool, true, false, ◌&&◌}
use mathlib.Core.List.{List, [], ◌∷◌, ◌++◌, map, flat_map, map-append}
use Prim.Native.Nat.{ℕ, ◌+◌, ◌-◌, ◌*◌, ◌/◌, ◌%◌, ◌≤◌}
use native.Mathlib.Omega.{arith}
use borrow.Author.Tests.{ltb-false, lt-ltb, le-ltb, eq-eqb, eqb-false}
use lib.IntN.{ℤ, nat_abs}
use lib.ListN.{length, get_or, length-append, length-map}
use lib.Seq.{take-length, take-append_seam, get_or-append-add}
use lib.Ieee.{Float, nan, eq}
use Rattle.number.proofs.Compare.{→eq, same_bool}
use Rattle.number.proofs.OrderLaws.{level_both, le_level}
use Rattle.lists.specs.Lists.{run, Every, at_front}
use Rattle.lists.proofs.RunLaws.{run_at, length_run}
use Rattle.lists.proofs.FoldLaws.{any_at_lem}
use Rattle.lists.proofs.MemberLaws.{each_all}
use Rattle.boundary.specs.declared.Point.{Point}
use Rattle.boundary.specs.declared.Edge.{Edge}
use Rattle.boundary.specs.Outline.{count, vertex_at, same_point, after, edge_at, edges}
use Rattle.accept.specs.declared.Refusal.TheVariants.{NegativeArea}
use Rattle.accept.specs.Refusals.{all_passed, negative_area, shape_tested, outline_tested}
use Rattle.accept.proofs.TestLaws.{refusing_passed, Shape, shape}
use Rattle.geometry.specs.Making.{closed, kept, turned, made_of}
use Rattle.geometry.proofs.CoordinateLaws.{numbers_vertices}
use Rattle.xy.specs.Outlines.{microns_of, numbers_of, made_count}
use Rattle.xy.proofs.NumberLaws.{microns_on}
use Rattle.gdsii.specs.Reading.{set_of, counts_of, read_as, reading}
use Rattle.gdsii.specs.Accepted.{WithinReach, Makes, AcceptedStream}
use Rattle.gdsii.specs.Answers.{SetLent, set_lent, read_with, read_call}
use Rattle.gdsii.specs.Plain.{closed_steps, plain_stream}
use Rattle.gdsii.proofs.PlainLaws.{Writable, closed_within, plain_is_stream, AreBytes, plain_bytes}
use Rattle.gdsii.proofs.Theorems.{holds_accepted}

-- an outline in steps that making leaves as it is: within the reach, and tests 1 to 9 pass
pub record AsMade (zs : List ℤ) : Type 0 where
  pub within : WithinReach zs
  pub accepted : outline_tested (numbers_of zs) ≡ all_passed

-- ---- what the tests tell of it
module _ (zs : List ℤ) (m : AsMade zs) where
  tested_parts : (shape_tested (numbers_of zs) ≡ all_passed) × (negative_area (numbers_of zs) ≡ false)
  unfolding outline_tested
  tested_parts = refusing_passed (shape_tested (numbers_of zs)) NegativeArea (negative_area (numbers_of zs)) m.accepted

  as_many : length (numbers_of zs) ≡ length zs
  as_many = length-map zs microns_of

  as_writable : Writable zs
  as_writable =
      let s = shape (numbers_of zs) tested_parts.0 in
      let l = as_many in
      let e = eqb-false (length (numbers_of zs) % 2) 1 s.even in
      let f = ltb-false 4096 (count (numbers_of zs)) s.few in
      record { even = omega arith; few = omega arith; within = m.within }

  three : 3 ≤ count (numbers_of zs)
  three = ltb-false (count (numbers_of zs)) 3 (shape (numbers_of zs) tested_parts.0).enough

-- ---- making leaves it as it is
level_turned : (x y : Float) → eq x y ≡ eq y x
level_turned x y =
    same_bool (eq x y) (eq y x)
    (λ t. let h = level_both x y t in le_level y x h.1 h.0)
    (λ t. let h = level_both y x t in le_level x y h.1 h.0)

same_turned : (p q : Point) → same_point p q ≡ same_point q p
same_turned p q = ap₂ (λ (b c : Bool). b && c) (level_turned p.x q.x) (level_turned p.y q.y)

-- the last vertex does not repeat the first, its neighbour
not_closed : (v : List Float) → Shape v → closed v ≡ false
unfolding closed edges
not_closed v s =
    let n = count v in
    let h = ltb-false n 3 s.enough in
    let l = length_run (edge_at v) 0 n in
    let m : n - 1 + 1 ≡ n = omega arith in
    let z : 0 + (n - 1) ≡ n - 1 = omega arith in
    let e : get_or (run (edge_at v) 0 n) (n - 1) (edge_at v 0) ≡ edge_at v (n - 1) = run_at (edge_at v) 0 n (n - 1) (edge_at v 0) (omega arith) ∙ ap (edge_at v) z in
    let apart = any_at_lem (λ f. same_point f.a f.b) (edge_at v 0) (run (edge_at v) 0 n) (n - 1) (omega arith) s.apart in
    let last : same_point (vertex_at v (n - 1)) (vertex_at v (after n (n - 1))) ≡ false = ap (λ (f : Edge). same_point f.a f.b) (sym e) ∙ apart in
    let first : after n (n - 1) ≡ 0 = rw (eq-eqb (n - 1 + 1) n m) in
    rw (lt-ltb 1 n (omega arith)) (same_turned (vertex_at v 0) (vertex_at v (n - 1)) ∙ ap (λ (i : ℕ). same_point (vertex_at v (n - 1)) (vertex_at v i)) (sym first) ∙ last)

pub made_itself : (zs : List ℤ) → AsMade zs → made_of (numbers_of zs) ≡ numbers_of zs
unfolding made_of turned kept
made_itself zs m =
    let v = numbers_of zs in
    let t = tested_parts zs m in
    let s = shape v t.0 in
    let o = eqb-false (length v % 2) 1 s.even in
    let k : kept v ≡ v = rw (not_closed v s) (take-length v) in
    rw (k, t.1) (numbers_vertices v (omega arith))

-- ---- making drops the closing vertex
same_number : (z : ℤ) → nat_abs z ≤ 1048576 → eq (microns_of z) (microns_of z) ≡ true
same_number z h =
    let g = microns_on z h in
    same_bool (eq (microns_of z) (microns_of z)) true (λ t. tt) (λ t. →eq g.is g.is refl)

drops : (x y : Float) (v : List Float) → eq x x ≡ true → eq y y ≡ true → length v % 2 ≡ 0 → kept ((x ∷ y ∷ v) ++ (x ∷ y ∷ [])) ≡ x ∷ y ∷ v
unfolding kept closed
drops x y v p q e =
    let u = x ∷ y ∷ v in
    let w = u ++ (x ∷ y ∷ []) in
    let l : length w ≡ length u + 2 = length-append u (x ∷ y ∷ []) in
    let i : 2 * (count w - 1) ≡ length u + 0 = omega arith in
    let j : 2 * (count w - 1) + 1 ≡ length u + 1 = omega arith in
    let a : get_or w (2 * (count w - 1)) nan ≡ x = ap (λ (k : ℕ). get_or w k nan) i ∙ get_or-append-add u (x ∷ y ∷ []) 0 nan in
    let b : get_or w (2 * (count w - 1) + 1) nan ≡ y = ap (λ (k : ℕ). get_or w k nan) j ∙ get_or-append-add u (x ∷ y ∷ []) 1 nan in
    let c : closed w ≡ true = rw (lt-ltb 1 (count w) (omega arith), a, b, p, q) in
    let d : length w - 2 ≡ length u = omega arith in
    rw (c, d) (take-append_seam u (x ∷ y ∷ []))

kept_back : (zs : List ℤ) → AsMade zs → kept (numbers_of (closed_steps zs)) ≡ numbers_of zs
unfolding Every
kept_back [] m = absurd (let h = three [] m in omega arith)
kept_back (x ∷ []) m = absurd (let h = three (x ∷ []) m in omega arith)
kept_back (x ∷ y ∷ zs) m =
    let e = (as_writable (x ∷ y ∷ zs) m).even in
    let l = length-map zs microns_of in
    ap kept (map-append microns_of (x ∷ y ∷ zs) (x ∷ y ∷ []))
    ∙ drops (microns_of x) (microns_of y) (numbers_of zs) (same_number x m.within.0) (same_number y m.within.1.0) (omega arith)

-- and changes nothing else
module _ (zs : List ℤ) (m : AsMade zs) where
  made_back : made_of (numbers_of (closed_steps zs)) ≡ numbers_of zs
  unfolding made_of turned
  made_back =
      let e = (as_writable zs m).even in
      let l = as_many zs m in
      rw (kept_back zs m, (tested_parts zs m).1) (numbers_vertices (numbers_of zs) (omega arith))

  count_back : made_count (closed_steps zs) ≡ length zs / 2
  count_back = ap count (kept_back zs m) ∙ ap (λ (n : ℕ). n / 2) (as_many zs m)

  makes_back : Makes (closed_steps zs)
  makes_back = ap shape_tested (kept_back zs m) ∙ (tested_parts zs m).0

-- ---- the set
pub set_back : (zss : List (List ℤ)) → Every AsMade zss → set_of (map closed_steps zss) ≡ flat_map numbers_of zss
unfolding set_of flat_map Every
set_back [] a = refl
set_back (zs ∷ zss) a = ap₂ (λ (v w : List Float). v ++ w) (made_back zs a.0) (set_back zss a.1)

pub counts_back : (zss : List (List ℤ)) → Every AsMade zss → counts_of (map closed_steps zss) ≡ map (λ zs. length zs / 2) zss
unfolding counts_of Every
counts_back [] a = refl
counts_back (zs ∷ zss) a = ap₂ (λ (n : ℕ) (ns : List ℕ). n ∷ ns) (count_back zs a.0) (counts_back zss a.1)

-- ---- the stream
-- all of it is bytes
pub bytes_back : (zss : List (List ℤ)) → Every AsMade zss → AreBytes (plain_stream zss)
bytes_back zss a = plain_bytes zss (each_all zss as_writable a)

every_map : {A B : Type 0} (f : A → B) (P : A → Type 0) (Q : B → Type 0) → ((x : A) → P x → Q (f x)) → (xs : List A) → Every P xs → Every Q (map f xs)
unfolding Every
every_map f P Q h [] e = tt
every_map f P Q h (x ∷ xs) e = (h x e.0, every_map f P Q h xs e.1)

module _ (zss : List (List ℤ)) (a : Every AsMade zss) (few : length zss ≤ 1024) (small : length (flat_map numbers_of zss) ≤ 131072) where
  -- it is accepted
  pub read_back : AcceptedStream (map closed_steps zss) (plain_stream zss)
  read_back =
      let n = length-map zss closed_steps in
      let l = ap length (set_back zss a) in
      record {
        stream = plain_is_stream zss (each_all zss as_writable a);
        within = every_map closed_steps AsMade WithinReach (λ zs m. closed_within zs m.within) zss a;
        made = every_map closed_steps AsMade Makes makes_back zss a;
        outlines = omega arith;
        vertices = omega arith;
      }

  -- the call leaves the set at the front of the lists that it is lent
  pub call_back : (L : SetLent) → length (flat_map numbers_of zss) ≤ length L.vertices → length zss ≤ length L.counts
      → read_call (plain_stream zss) L ≡ record {
        answer = record { number = 0; value = record { outlines = length zss; vertices = length (flat_map numbers_of zss) / 2 } };
        lent = set_lent (at_front (flat_map numbers_of zss) L.vertices) (at_front (map (λ zs. length zs / 2) zss) L.counts);
      }
  unfolding read_with
  call_back L wide long =
      let r : reading (plain_stream zss) ≡ read_as (map closed_steps zss) = holds_accepted (plain_stream zss) (map closed_steps zss) read_back in
      rw (
        r,
        set_back zss a,
        counts_back zss a,
        length-map zss closed_steps,
        le-ltb (length L.vertices) (length (flat_map numbers_of zss)) wide,
        le-ltb (length L.counts) (length zss) long,
      )

-- The plain stream of outlines is bytes, and of the format with those outlines. Assumes nothing.
use mathlib.Core.Path.{◌≡◌, refl, sym, ap, ◌∙◌, subst}
use mathlib.Core.Bool.{false}
use mathlib.Core.List.{List, [], ◌∷◌, ◌++◌, map, flat_map, append_assoc}
use Prim.Native.Nat.{ℕ, suc, ◌+◌, ◌-◌, ◌*◌, ◌/◌, ◌%◌, ◌≤◌, ◌<◌}
use native.Mathlib.Omega.{arith}
use borrow.Author.Tests.{lt-ltb, le-ltb, ltb-false}
use lib.Dec.{ltb}
use lib.IntN.{ℤ, pos, negsuc, nat_abs}
use lib.ListN.{length, length-append}
use Rattle.lists.specs.Lists.{fold, any, Every, zeros}
use Rattle.lists.proofs.FoldLaws.{every_fails}
use Rattle.lists.proofs.MemberLaws.{each_all, every_append}
use Rattle.stream.specs.declared.Awaited.TheVariants.{Bgnlib, Libname, Units, Bgnstr, Strname, Element}
use Rattle.stream.specs.Bytes.{quad_of, signed_quad, steps_in}
use Rattle.stream.specs.Format.{HEADER, BGNLIB, LIBNAME, UNITS, BGNSTR, STRNAME, ENDSTR, ENDLIB, BOUNDARY, LAYER, DATATYPE, XY, ENDEL, Record, ◌⨾◌, typed, outline_of, element, elements, Stream}
use Rattle.stream.specs.Records.{right_unit}
use Rattle.gdsii.specs.Accepted.{WithinReach}
use Rattle.gdsii.specs.Plain.{two_bytes, four_of, four_bytes, record_bytes, closed_steps, element_bytes, plain_name, metres_real, plain_front, plain_end, plain_stream}
use Rattle.gdsii.proofs.Stages.{At, stages_stream}

-- an outline that an XY record can hold with a closing vertex: x and y of at most 4,096 vertices, within the reach
pub record Writable (zs : List ℤ) : Type 0 where
  pub even : length zs % 2 ≡ 0
  pub few : length zs ≤ 8192
  pub within : WithinReach zs

-- ---- four bytes
-- read back
low_back : (n : ℕ) → n < 2147483648 → signed_quad n ≡ pos n
unfolding signed_quad
low_back n h = rw (lt-ltb n 2147483648 h)

high_back : (n : ℕ) → n ≤ 1048576 → signed_quad (4294967296 - suc n) ≡ negsuc n
unfolding signed_quad
high_back n h =
    let e : 4294967296 - suc (4294967296 - suc n) ≡ n = omega arith in
    rw (le-ltb (4294967296 - suc n) 2147483648 (omega arith), lt-ltb (4294967296 - suc n) 4294967296 (omega arith)) (ap negsuc e)

four_steps : (n : ℕ) (x : List ℕ) → steps_in (four_of n ++ x) ≡ signed_quad n ∷ steps_in x
unfolding steps_in
four_steps n x =
    let e : quad_of (n / 65536 / 256) (n / 65536 % 256) (n % 65536 / 256) (n % 65536 % 256) ≡ n = omega arith in
    ap (λ (m : ℕ). signed_quad m ∷ steps_in x) e

step_back : (z : ℤ) (x : List ℕ) → nat_abs z ≤ 1048576 → steps_in (four_bytes z ++ x) ≡ z ∷ steps_in x
unfolding four_bytes
step_back (pos n) x h = four_steps n x ∙ ap (λ (w : ℤ). w ∷ steps_in x) (low_back n (omega arith))
step_back (negsuc n) x h = four_steps (4294967296 - suc n) x ∙ ap (λ (w : ℤ). w ∷ steps_in x) (high_back n (omega arith))

steps_back : (zs : List ℤ) → WithinReach zs → steps_in (flat_map four_bytes zs) ≡ zs
unfolding flat_map steps_in Every
steps_back [] w = refl
steps_back (z ∷ zs) w = step_back z (flat_map four_bytes zs) w.0 ∙ ap (λ (r : List ℤ). z ∷ r) (steps_back zs w.1)

-- how many
four_length : (z : ℤ) → length (four_bytes z) ≡ 4
unfolding four_bytes
four_length (pos n) = refl
four_length (negsuc n) = refl

steps_length : (zs : List ℤ) → length (flat_map four_bytes zs) ≡ 4 * length zs
unfolding flat_map
steps_length [] = refl
steps_length (z ∷ zs) =
    let a = length-append (four_bytes z) (flat_map four_bytes zs) in
    let f = four_length z in
    let r = steps_length zs in
    omega arith

-- ---- the closing vertex
pub closed_within : (zs : List ℤ) → WithinReach zs → WithinReach (closed_steps zs)
unfolding Every
closed_within [] w = tt
closed_within (x ∷ []) w = (w.0, (w.0, tt))
closed_within (x ∷ y ∷ zs) w = every_append (λ z. nat_abs z ≤ 1048576) (x ∷ y ∷ zs) (x ∷ y ∷ []) w (w.0, (w.1.0, tt))

closed_even : (zs : List ℤ) → length zs % 2 ≡ 0 → length (closed_steps zs) % 2 ≡ 0
closed_even [] e = refl
closed_even (x ∷ []) e = refl
closed_even (x ∷ y ∷ zs) e = let a = length-append (x ∷ y ∷ zs) (x ∷ y ∷ []) in omega arith

closed_few : (zs : List ℤ) → length (closed_steps zs) ≤ length zs + 2
closed_few [] = omega arith
closed_few (x ∷ []) = omega arith
closed_few (x ∷ y ∷ zs) = let a = length-append (x ∷ y ∷ zs) (x ∷ y ∷ []) in omega arith

-- ---- of the format
record_there : (t : ℕ) (d r : List ℕ) → Record t d (record_bytes t d ++ r) r
record_there t d r = record { l₁ = _; l₀ = _; t₁ = _; t₀ = _; bytes = refl; long = omega arith; kind = omega arith }

-- the data of an outline's XY
abbrev coordinates : List ℤ → List ℕ
coordinates zs = flat_map four_bytes (closed_steps zs)

module _ (zs : List ℤ) (w : Writable zs) where
  outline_there : (r : List ℕ) → outline_of (closed_steps zs) (record_bytes XY (coordinates zs) ++ r) r
  outline_there r =
      let l = steps_length (closed_steps zs) in
      let e = closed_even zs w.even in
      (coordinates zs, record_there XY (coordinates zs) r, omega arith, steps_back (closed_steps zs) (closed_within zs w.within))

  element_there : (r : List ℕ) → element (closed_steps zs) (element_bytes zs ++ r) r
  unfolding element_bytes
  element_there r =
      let end = record_bytes ENDEL [] in
      let outline = record_bytes XY (coordinates zs) ++ (end ++ r) in
      let datatype = record_bytes DATATYPE (two_bytes 0) ++ outline in
      let layer = record_bytes LAYER (two_bytes 0) ++ datatype in
      let front = record_bytes BOUNDARY [] ++ record_bytes LAYER (two_bytes 0) ++ record_bytes DATATYPE (two_bytes 0) ++ (two_bytes (4 + length (coordinates zs)) ++ two_bytes XY) in
      let e : element_bytes zs ++ r ≡ record_bytes BOUNDARY [] ++ layer = ap (λ (x : List ℕ). front ++ x) (append_assoc (coordinates zs) end r) in
      let t : typed LAYER layer datatype = (two_bytes 0, record_there LAYER (two_bytes 0) datatype) in
      let u : typed DATATYPE datatype outline = (two_bytes 0, record_there DATATYPE (two_bytes 0) outline) in
      let o : (outline_of (closed_steps zs) ⨾ typed ENDEL) outline r = (end ++ r, outline_there (end ++ r), ([], record_there ENDEL [] r)) in
      let there : element (closed_steps zs) (record_bytes BOUNDARY [] ++ layer) r = (layer, ([], record_there BOUNDARY [] layer), (datatype, t, (outline, u, o))) in
      subst (λ (s : List ℕ). element (closed_steps zs) s r) (sym e) there

elements_there : (zss : List (List ℤ)) (r : List ℕ) → Every Writable zss → elements (map closed_steps zss) (flat_map element_bytes zss ++ r) r
unfolding elements flat_map Every
elements_there [] r w = refl
elements_there (zs ∷ zss) r w =
    let more = flat_map element_bytes zss ++ r in
    let there : elements (map closed_steps (zs ∷ zss)) (element_bytes zs ++ more) r = (more, element_there zs w.0 more, elements_there zss r w.1) in
    subst (λ (s : List ℕ). elements (map closed_steps (zs ∷ zss)) s r) (sym (append_assoc (element_bytes zs) (flat_map element_bytes zss) r)) there

pub plain_is_stream : (zss : List (List ℤ)) → Every Writable zss → Stream right_unit (map closed_steps zss) (plain_stream zss)
unfolding plain_stream
plain_is_stream zss w =
    let yss = map closed_steps zss in
    let last = record_bytes ENDLIB [] in
    let inside = flat_map element_bytes zss ++ plain_end in
    let name = record_bytes STRNAME plain_name ++ inside in
    let structure = record_bytes BGNSTR (zeros 0 24) ++ name in
    let units = record_bytes UNITS (right_unit ++ metres_real) ++ structure in
    let title = record_bytes LIBNAME plain_name ++ units in
    let library = record_bytes BGNLIB (zeros 0 24) ++ title in
    let a : At Element yss inside = (plain_end, elements_there zss plain_end w, (last, ([], record_there ENDSTR [] last), ([], ([], record_there ENDLIB [] []), refl))) in
    let b : At Strname yss name = (inside, (plain_name, record_there STRNAME plain_name inside), a) in
    let c : At Bgnstr yss structure = (name, (zeros 0 24, record_there BGNSTR (zeros 0 24) name), b) in
    let d : At Units yss units = (structure, (right_unit ++ metres_real, record_there UNITS (right_unit ++ metres_real) structure, refl, refl), c) in
    let e : At Libname yss title = (units, (plain_name, record_there LIBNAME plain_name units), d) in
    let f : At Bgnlib yss library = (title, (zeros 0 24, record_there BGNLIB (zeros 0 24) title), e) in
    stages_stream yss (plain_stream zss) (library, (two_bytes 600, record_there HEADER (two_bytes 600) library), f)

-- ---- of bytes
abbrev pub AreBytes : List ℕ → Type 0
AreBytes x = Every (λ b. b < 256) x

-- where no number is above 255, by computing
computed_bytes : (x : List ℕ) → any (λ b. ltb 255 b) x ≡ false → AreBytes x
computed_bytes x e = each_all x (λ b h. let l = ltb-false 255 b h in omega arith) (every_fails (λ b. ltb 255 b) x e)

two_bytes_lem : (n : ℕ) → n < 65536 → AreBytes (two_bytes n)
unfolding Every
two_bytes_lem n h = (omega arith, (omega arith, tt))

four_bytes_lem : (z : ℤ) → nat_abs z ≤ 1048576 → AreBytes (four_bytes z)
unfolding Every four_bytes
four_bytes_lem (pos n) h = (omega arith, (omega arith, (omega arith, (omega arith, tt))))
four_bytes_lem (negsuc n) h = (omega arith, (omega arith, (omega arith, (omega arith, tt))))

flat_bytes : {A : Type 0} (f : A → List ℕ) (P : A → Type 0) → ((x : A) → P x → AreBytes (f x)) → (xs : List A) → Every P xs → AreBytes (flat_map f xs)
unfolding flat_map Every
flat_bytes f P h [] e = tt
flat_bytes f P h (x ∷ xs) e = every_append (λ b. b < 256) (f x) (flat_map f xs) (h x e.0) (flat_bytes f P h xs e.1)

element_bytes_lem : (zs : List ℤ) → Writable zs → AreBytes (element_bytes zs)
unfolding element_bytes any fold
element_bytes_lem zs w =
    let byte : ℕ → Type 0 = λ b. b < 256 in
    let x = coordinates zs in
    let end = record_bytes ENDEL [] in
    let front = record_bytes BOUNDARY [] ++ record_bytes LAYER (two_bytes 0) ++ record_bytes DATATYPE (two_bytes 0) in
    let long = two_bytes (4 + length x) in
    let l = steps_length (closed_steps zs) in
    let c = closed_few zs in
    let m = w.few in
    let size = two_bytes_lem (4 + length x) (omega arith) in
    let held = flat_bytes four_bytes (λ z. nat_abs z ≤ 1048576) four_bytes_lem (closed_steps zs) (closed_within zs w.within) in
    every_append byte front (long ++ two_bytes XY ++ x ++ end) (computed_bytes front refl)
    (every_append byte long (two_bytes XY ++ x ++ end) size (every_append byte (two_bytes XY) (x ++ end) (computed_bytes (two_bytes XY) refl) (every_append byte x end held (computed_bytes end refl))))

pub plain_bytes : (zss : List (List ℤ)) → Every Writable zss → AreBytes (plain_stream zss)
unfolding plain_stream any fold
plain_bytes zss w =
    let byte : ℕ → Type 0 = λ b. b < 256 in
    every_append byte plain_front (flat_map element_bytes zss ++ plain_end) (computed_bytes plain_front refl)
    (every_append byte (flat_map element_bytes zss) plain_end (flat_bytes element_bytes Writable element_bytes_lem zss w) (computed_bytes plain_end refl))

-- What the format has from each record on that is asked for. Assumes nothing.
use mathlib.Core.Path.{◌≡◌, refl}
use mathlib.Core.List.{List, [], ◌∷◌}
use Prim.Native.Nat.{ℕ}
use lib.IntN.{ℤ}
use Rattle.stream.specs.declared.Awaited.{Awaited}
use Rattle.stream.specs.declared.Awaited.TheVariants.{Header, Bgnlib, Libname, Units, Bgnstr, Strname, Element, Layer, Datatype, Xy, Endel, Endlib, Nothing, Astray}
use Rattle.stream.specs.Format.{HEADER, BGNLIB, LIBNAME, BGNSTR, STRNAME, ENDSTR, ENDLIB, BOUNDARY, LAYER, DATATYPE, ENDEL, Portion, typed, stream_units, outline_of, elements, Stream}
use Rattle.stream.specs.Records.{right_unit}

-- s is a portion, and what is left after it is as Q says
abbrev pub Then : Portion → (List ℕ → Type 0) → List ℕ → Type 0
Then P Q s = (m : List ℕ) × P s m × Q m

abbrev Anything : List ℕ → Type 0
Anything s = s ≡ s

abbrev AtEndlib : List ℕ → Type 0
AtEndlib = Then (typed ENDLIB) Anything

abbrev pub AtElement : List (List ℤ) → List ℕ → Type 0
AtElement zss = Then (elements zss) (Then (typed ENDSTR) AtEndlib)

abbrev AtEndel : List (List ℤ) → List ℕ → Type 0
AtEndel zss = Then (typed ENDEL) (AtElement zss)

abbrev pub AtXy : List (List ℤ) → List ℕ → Type 0
AtXy zss s = (zs : List ℤ) × (more : List (List ℤ)) × (zss ≡ zs ∷ more) × Then (outline_of zs) (AtEndel more) s

abbrev AtDatatype : List (List ℤ) → List ℕ → Type 0
AtDatatype zss = Then (typed DATATYPE) (AtXy zss)

abbrev AtLayer : List (List ℤ) → List ℕ → Type 0
AtLayer zss = Then (typed LAYER) (AtDatatype zss)

abbrev AtStrname : List (List ℤ) → List ℕ → Type 0
AtStrname zss = Then (typed STRNAME) (AtElement zss)

abbrev AtBgnstr : List (List ℤ) → List ℕ → Type 0
AtBgnstr zss = Then (typed BGNSTR) (AtStrname zss)

abbrev pub AtUnits : List (List ℤ) → List ℕ → Type 0
AtUnits zss = Then (stream_units right_unit) (AtBgnstr zss)

abbrev AtLibname : List (List ℤ) → List ℕ → Type 0
AtLibname zss = Then (typed LIBNAME) (AtUnits zss)

abbrev AtBgnlib : List (List ℤ) → List ℕ → Type 0
AtBgnlib zss = Then (typed BGNLIB) (AtLibname zss)

abbrev AtHeader : List (List ℤ) → List ℕ → Type 0
AtHeader zss = Then (typed HEADER) (AtBgnlib zss)

-- with the outlines zss still to come
abbrev pub At : Awaited → List (List ℤ) → List ℕ → Type 0
At Header zss s = AtHeader zss s
At Bgnlib zss s = AtBgnlib zss s
At Libname zss s = AtLibname zss s
At Units zss s = AtUnits zss s
At Bgnstr zss s = AtBgnstr zss s
At Strname zss s = AtStrname zss s
At Element zss s = AtElement zss s
At Layer zss s = AtLayer zss s
At Datatype zss s = AtDatatype zss s
At Xy zss s = AtXy zss s
At Endel zss s = AtEndel zss s
At Endlib zss s = (zss ≡ []) × AtEndlib s
At Nothing zss s = zss ≡ []
At Astray zss s = ⊥

-- ---- an element's records, one by one and together
pub grouped : (zss : List (List ℤ)) (s : List ℕ) → Then (typed BOUNDARY) (At Layer zss) s → At Element zss s
unfolding elements
grouped zss s b =
    let l = b.2 in
    let t = l.2 in
    let x = t.2 in
    let o = x.3 in
    let e = o.2 in
    let n = e.2 in
    rw x.2 (n.0, (e.0, (b.0, b.1, (l.0, l.1, (t.0, t.1, (o.0, o.1, e.1)))), n.1), n.2)

pub ungrouped : (zs : List ℤ) (more : List (List ℤ)) (s : List ℕ) → At Element (zs ∷ more) s → Then (typed BOUNDARY) (At Layer (zs ∷ more)) s
unfolding elements
ungrouped zs more s a =
    let n = a.1 in
    let e = n.1 in
    let l = e.2 in
    let t = l.2 in
    let o = t.2 in
    (e.0, e.1, (l.0, l.1, (t.0, t.1, (zs, more, refl, (o.0, o.1, (n.0, o.2, (a.0, n.2, a.2)))))))

-- no element more
pub no_more : (zss : List (List ℤ)) (s : List ℕ) → Then (typed ENDSTR) (At Endlib zss) s → At Element zss s
unfolding elements
no_more zss s t = rw t.2.0 (s, refl, (t.0, t.1, t.2.1))

pub none_more : (s : List ℕ) → At Element [] s → Then (typed ENDSTR) (At Endlib []) s
unfolding elements
none_more s h = rw h.1 (h.2.0, h.2.1, (refl, h.2.2))

-- ---- the whole stream
pub stages_stream : (zss : List (List ℤ)) (s : List ℕ) → At Header zss s → Stream right_unit zss s
stages_stream zss s h =
    let b = h.2 in
    let n = b.2 in
    let u = n.2 in
    let g = u.2 in
    let t = g.2 in
    let e = t.2 in
    let d = e.2 in
    let z = d.2 in
    (z.0, (h.0, h.1, (b.0, b.1, (n.0, n.1, (u.0, u.1, (d.0, (g.0, g.1, (t.0, t.1, (e.0, e.1, d.1))), z.1))))))

pub stream_stages : (zss : List (List ℤ)) (s : List ℕ) → Stream right_unit zss s → At Header zss s
stream_stages zss s q =
    let h = q.1 in
    let b = h.2 in
    let n = b.2 in
    let u = n.2 in
    let y = u.2 in
    let g = y.1 in
    let t = g.2 in
    let e = t.2 in
    (h.0, h.1, (b.0, b.1, (n.0, n.1, (u.0, u.1, (g.0, g.1, (t.0, t.1, (e.0, e.1, (y.0, e.2, (q.0, y.2, refl)))))))))

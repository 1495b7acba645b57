-- On the grid the signed distance of a point from any edges is, in magnitude, within 2 ^ -24 of a step of the exact distance, negative inside and positive outside. Assumes nothing.
use mathlib.Core.Path.{◌≡◌, refl, sym, ap, ◌∙◌, subst}
use mathlib.Core.Logic.{◌⊎◌, inl, inr, ⊎_elim}
use mathlib.Core.List.{List, [], ◌∷◌}
use mathlib.Core.Bool.{Bool, true, false, cond}
use Prim.Native.Nat.{ℕ, ◌^◌, ◌<◌}
use native.Mathlib.Omega.{arith}
use lib.Dec.{T}
use lib.IntN.{ℤ, pos, neg_ℤ, ◌+ℤ◌, ◌-ℤ◌, ◌*ℤ◌}
use lib.Signed.{lt_z}
use lib.ListN.{length}
use lib.Ieee.{Float, lt, eq}
use lib.Ieee.Fits.{and_i}
use Rattle.algebra.proofs.Quote.{quote}
use Rattle.algebra.specs.Order.{◌≦◌, ◌≺◌, absℤ, nat_abs_neg, nonneg_nat, ≤ℤ-of-eq, ≤ℤ-trans, ≤ℤ-antisym, ≤ℤ-or-<ℤ, <ℤ→≤ℤ, mul_pos}
use Rattle.algebra.proofs.Lin as L
use Rattle.algebra.proofs.Lin.{le_from, lt_from, eq_from, false_from}
use Rattle.algebra.proofs.Mono.{mul_mono, mul_cancel, sq_mono}
use Rattle.number.specs.Exact.{Is, zeroᶠ}
use Rattle.number.proofs.Values.{below_infinity}
use Rattle.number.proofs.Operations.{zero_is, neg_is}
use Rattle.number.proofs.Compare.{lt_is, is_lt, not_lt, →eq}
use Rattle.boundary.specs.declared.Point.{Point}
use Rattle.boundary.specs.declared.Edge.{Edge}
use Rattle.boundary.specs.Outline.{same_point}
use Rattle.boundary.specs.declared.Near.{Near}
use Rattle.boundary.specs.declared.Distance.{Distance}
use Rattle.lists.specs.Lists.{fold, any, Every, Some}
use Rattle.boundary.specs.Line.{line_near}
use Rattle.distance.specs.Nearest.{nearer, far_away, nearest_of, rounding_of, flipped, signed_of}
use Rattle.geometry.specs.Polygon.{contains_of}
use Rattle.grid.specs.Whole.{PointZ, EdgeZ, on_edge_z, boundary_z, inside_z, location_z}
use Rattle.exact.specs.Grid.{PointOn, EdgeOn, EdgesOn}
use Rattle.lists.specs.Lists.Each.{none, more}
use Rattle.grid.specs.Distance.{length_z, num_z, den_z, NoneNearer, LeastDistance}
use Rattle.exact.specs.Distance.{step, tolerance, AtMost, AtLeast, Near24, SignedNear}
use Rattle.lists.proofs.FoldLaws.{every_fails}
use Rattle.lists.proofs.MemberLaws.{same_length}
use Rattle.lists.specs.Lists.Some.{here, there}
use Rattle.exact.proofs.Location.{contains_exact}
use Rattle.grid.proofs.Apart.{zero_squares, off_edge_apart}
use Rattle.grid.proofs.LeastDistance.{den_above, least_distance, den_nonneg}
use Rattle.grid.proofs.NearestEdge.{NotAbove, not_above_least, Exactly, exact_above, exact_distance}
use Rattle.exact.proofs.EdgeDistance.{den_small, edge_near}

-- ---- edges with different ends have a length
abbrev Long : List EdgeZ → Type 0
Long fs = Every (λ f. pos 0 ≺ length_z f) fs

length_above : {e : Edge} {f : EdgeZ} → EdgeOn e f → same_point e.a e.b ≡ false → pos 0 ≺ length_z f
length_above {e} {f} E other = ⊎_elim (λ h. absurd (same (zero_squares (f.b.x -ℤ f.a.x) (f.b.y -ℤ f.a.y) h))) (λ h. h) (≤ℤ-or-<ℤ (length_z f) (pos 0))
  where
    meet : {x y : ℤ} → y -ℤ x ≡ pos 0 → x ≡ y
    meet {x} {y} e = eq_from (x ∷ y ∷ []) (L.eq e ∷ []) (search quote depth 30) (omega arith)

    same : (f.b.x -ℤ f.a.x ≡ pos 0) × (f.b.y -ℤ f.a.y ≡ pos 0) → ⊥
    same z = subst T other (and_i (eq e.a.x e.b.x) (eq e.a.y e.b.y) (→eq E.a.x.is E.b.x.is (meet z.0)) (→eq E.a.y.is E.b.y.is (meet z.1)))

lengths_above : {es : List Edge} {fs : List EdgeZ} → EdgesOn es fs → Every (λ e. same_point e.a e.b ≡ false) es → Long fs
unfolding Every
lengths_above none h = tt
lengths_above (more E r) (h, s) = (length_above E h, lengths_above r s)

-- ---- the least over the edges
-- what is at least u away is at least anything less away
less_at_least : {u w num den : ℤ} → pos 0 ≦ den → u ≦ w → AtLeast w num den → AtLeast u num den
less_at_least {u} {w} {num} {den} d0 h a = record { holds = λ k. ≤ℤ-trans (shrink tolerance k) (a.holds (≤ℤ-trans k h)) }
  where
    shrink : (p : ℤ) → p ≦ u → (u -ℤ p) *ℤ (u -ℤ p) *ℤ den ≦ (w -ℤ p) *ℤ (w -ℤ p) *ℤ den
    shrink p k = mul_mono den d0 (sq_mono {x = u -ℤ p} {y = w -ℤ p} (le_from (u ∷ p ∷ []) (L.le k ∷ []) (search quote depth 30) (omega arith)) (le_from (u ∷ w ∷ p ∷ []) (L.le h ∷ []) (search quote depth 30) (omega arith)))

-- s is 2 ^ -24 of a step: a squared distance above 0 with a denominator of at most 2 ^ 43 is more than that
too_near : (s num den : ℤ) → pos 0 ≺ s → pos 0 ≺ num → den ≦ pos (2 ^ 43) → num *ℤ ((pos (2 ^ 24) *ℤ s) *ℤ (pos (2 ^ 24) *ℤ s)) ≦ (pos 0 +ℤ s) *ℤ (pos 0 +ℤ s) *ℤ den → ⊥
too_near s num den s0 n0 d1 h =
    let ss : pos 0 ≺ s *ℤ s = mul_pos s0 s0 in
    let one : pos 1 ≦ num = le_from (num ∷ []) (L.lt n0 ∷ []) (search quote depth 30) (omega arith) in
    false_from (s ∷ num ∷ den ∷ []) (L.le h ∷ L.le (mul_mono (s *ℤ s) (<ℤ→≤ℤ ss) one) ∷ L.le (mul_mono (s *ℤ s) (<ℤ→≤ℤ ss) d1) ∷ L.lt ss ∷ []) (search quote depth 30) (omega arith)

-- ---- near the exact distance
-- u units are near the least of the edges' distances: from no edge is the point less than u - 2 ^ -24 away, and from one at most u + 2 ^ -24
record NearLeast (fs : List EdgeZ) (q : PointZ) (u : ℤ) : Type 0 where
  least : Every (λ f. AtLeast u (num_z f q) (den_z f q)) fs
  most : Some (λ f. AtMost u (num_z f q) (den_z f q)) fs

module _ {u a b c d : ℤ} (b0 : pos 0 ≺ b) (d0 : pos 0 ≺ d) where
  -- what is at most u, and 2 ^ -24 of a step, is so of a lesser fraction
  less_at_most : NotAbove a b c d → AtMost u c d → AtMost u a b
  less_at_most h k = record { holds = go (step *ℤ step) ((u +ℤ tolerance) *ℤ (u +ℤ tolerance)) (record { le = tt }) k.holds }
    where
      go : (s K : ℤ) → pos 0 ≦ s → c *ℤ s ≦ K *ℤ d → a *ℤ s ≦ K *ℤ b
      go s K s0 k = mul_cancel d (a *ℤ s) (K *ℤ b) d0
          (le_from (a ∷ b ∷ c ∷ d ∷ s ∷ K ∷ []) (L.le (mul_mono b (<ℤ→≤ℤ b0) k) ∷ L.le (mul_mono s s0 h.holds) ∷ []) (search quote depth 30) (omega arith))

  -- and what is at least that, of a greater one
  more_at_least : NotAbove c d a b → AtLeast u c d → AtLeast u a b
  more_at_least h k = record { holds = λ l. go (step *ℤ step) ((u -ℤ tolerance) *ℤ (u -ℤ tolerance)) (record { le = tt }) (k.holds l) }
    where
      go : (s K : ℤ) → pos 0 ≦ s → K *ℤ d ≦ c *ℤ s → K *ℤ b ≦ a *ℤ s
      go s K s0 k = mul_cancel d (K *ℤ b) (a *ℤ s) d0
          (le_from (a ∷ b ∷ c ∷ d ∷ s ∷ K ∷ []) (L.le (mul_mono b (<ℤ→≤ℤ b0) k) ∷ L.le (mul_mono s s0 h.holds) ∷ []) (search quote depth 30) (omega arith))

module _ (q : PointZ) {u num den : ℤ} (d0 : pos 0 ≺ den) where
  near_above : {fs : List EdgeZ} → Long fs → Every (λ f. NoneNearer f q num den) fs → Some (λ f. AtMost u (num_z f q) (den_z f q)) fs → AtMost u num den
  unfolding Every
  near_above {fs = []} _ _ s = elim s [ ]
  near_above {fs = f ∷ fs} (l, ls) (h, hs) (here m) = less_at_most d0 (den_above f q l) (not_above_least h (least_distance f q l)) m
  near_above {fs = f ∷ fs} (l, ls) (h, hs) (there m) = near_above ls hs m

  near_below : {fs : List EdgeZ} → Long fs → Every (λ f. AtLeast u (num_z f q) (den_z f q)) fs → Some (λ f. LeastDistance f q num den) fs → AtLeast u num den
  unfolding Every
  near_below {fs = []} _ _ s = elim s [ ]
  near_below {fs = f ∷ fs} (l, ls) (h, hs) (here m) = more_at_least d0 (den_above f q l) (not_above_least (least_distance f q l).none_nearer m) h
  near_below {fs = f ∷ fs} (l, ls) (h, hs) (there m) = near_below ls hs m

-- d is u units, near the least distance
record Magnitude (fs : List EdgeZ) (q : PointZ) (d : Float) : Type 0 where
  u : ℤ
  is : Is 1074 d u
  plus : pos 0 ≦ u
  near : NearLeast fs q u

module _ {p : Point} {q : PointZ} (P : PointOn p q) where
  -- the least distance of `best` and the edges
  abbrev walked : Near → List Edge → Float
  walked best es = (fold (λ best e. nearer best (line_near e p)) best es).d

  -- from `start` units on, the edges have led to d: it is near the least distance, or it is `start` still
  record Walked (start : ℤ) (fs : List EdgeZ) (d : Float) : Type 0 where
    u : ℤ
    is : Is 1074 d u
    plus : pos 0 ≦ u
    under : u ≦ start
    least : Every (λ f. AtLeast u (num_z f q) (den_z f q)) fs
    most : (u ≡ start) ⊎ Some (λ f. AtMost u (num_z f q) (den_z f q)) fs

  -- from an edge's own distance on
  taken : {d d' : Float} {f : EdgeZ} {fs : List EdgeZ} (h : Near24 d (num_z f q) (den_z f q)) → pos 0 ≺ length_z f → (w : Walked h.u fs d') → NearLeast (f ∷ fs) q w.u
  unfolding Every
  taken {f = f} h l w = record {
    least = (less_at_least (den_nonneg f q l) w.under h.below, w.least);
    most = ⊎_elim (λ same. here (subst (λ (u : ℤ). AtMost u (num_z f q) (den_z f q)) (sym same) h.above)) there w.most;
  }

  walk : {es : List Edge} {fs : List EdgeZ} {start : ℤ} (best : Near) → EdgesOn es fs → Long fs → Is 1074 best.d start → pos 0 ≦ start → Walked start fs (walked best es)
  unfolding fold Every
  walk {start = start} best none e i h = record { u = start; is = i; plus = h; under = ≤ℤ-of-eq refl; least = tt; most = inl refl }
  walk {es = e ∷ es} {fs = f ∷ fs} {start = start} best (more E r) (l, ls) i h =
      let n = edge_near E P l in
      subst (λ (b : Bool). Walked start (f ∷ fs) (walked (cond b (line_near e p) best) es)) (sym (lt_is n.is i)) (go n (lt_z n.u start) refl (walk (line_near e p) r ls n.is n.plus) (walk best r ls i h))
    where
      go : (n : Near24 (line_near e p).d (num_z f q) (den_z f q)) (b : Bool) → lt_z n.u start ≡ b → Walked n.u fs (walked (line_near e p) es) → Walked start fs (walked best es)
          → Walked start (f ∷ fs) (walked (cond b (line_near e p) best) es)
      go n true c w v = let near = taken n l w in record { u = w.u; is = w.is; plus = w.plus; under = ≤ℤ-trans w.under (<ℤ→≤ℤ (is_lt c)); least = near.least; most = inr near.most }
      go n false c w v = record {
        u = v.u;
        is = v.is;
        plus = v.plus;
        under = v.under;
        least = (less_at_least (den_nonneg f q l) (≤ℤ-trans v.under (not_lt c)) n.below, v.least);
        most = ⊎_elim inl (λ m. inr (there m)) v.most;
      }

  nearest_near : {es : List Edge} {fs : List EdgeZ} → EdgesOn es fs → Long fs → 0 < length es → Magnitude fs q (nearest_of es p).d
  unfolding nearest_of fold Every
  nearest_near none h l = absurd (omega arith)
  nearest_near {es = e ∷ es} {fs = f ∷ fs} (more E r) (l, ls) some =
      let n = edge_near E P l in
      let w = walk (line_near e p) r ls n.is n.plus in
      subst (λ (b : Bool). Magnitude (f ∷ fs) q (walked (cond b (line_near e p) (far_away p)) es)) (sym (below_infinity n.is)) (record { u = w.u; is = w.is; plus = w.plus; near = taken n l w })

  -- a point of the grid that is on no edge is more than 2 ^ -24 of a step from each
  none_at_zero : {es : List Edge} {fs : List EdgeZ} → EdgesOn es fs → Long fs → Every (λ f. on_edge_z q f ≡ false) fs → Some (λ f. AtMost (pos 0) (num_z f q) (den_z f q)) fs → ⊥
  unfolding Every
  none_at_zero none _ _ s = elim s [ ]
  none_at_zero (more {y = f} E r) (l, ls) (o, os) (here m) = too_near tolerance (num_z f q) (den_z f q) (record { lt = tt }) (off_edge_apart f q l (λ t. subst T o t)) (den_small E P l) m.holds
  none_at_zero (more E r) (l, ls) (o, os) (there m) = none_at_zero r ls os m

-- ---- the sign
flipped_is : {x : Float} {u : ℤ} (s : Bool) → Is 1074 x u → Is 1074 (flipped s x) (cond s (neg_ℤ u) u)
flipped_is true h = neg_is h
flipped_is false h = h

signed_is : (c : Near) (p : Point) (s : Bool) {u : ℤ} → Is 1074 c.d u → pos 0 ≦ u → Is 1074 (signed_of c p s).d (cond s (neg_ℤ u) u)
unfolding signed_of
signed_is c p s {u} i h = go (lt (rounding_of c.q p) c.d) (lt zeroᶠ c.d) _ (lt_is (zero_is 1074) i)
  where
    zero_flipped : (s : Bool) → pos 0 ≡ cond s (neg_ℤ (pos 0)) (pos 0)
    zero_flipped true = refl
    zero_flipped false = refl

    go : (a b : Bool) (n : Point) → b ≡ lt_z (pos 0) u → Is 1074 (cond {A = Distance} a (record { d = flipped s c.d; v = n }) (cond b (record { d = flipped s c.d; v = c.n }) (record { d = zeroᶠ; v = c.n }))).d (cond s (neg_ℤ u) u)
    go true b n e = flipped_is s i
    go false true n e = flipped_is s i
    go false false n e = subst (λ (u : ℤ). Is 1074 zeroᶠ (cond s (neg_ℤ u) u)) (≤ℤ-antisym h (not_lt (sym e))) (subst (Is 1074 zeroᶠ) (zero_flipped s) (zero_is 1074))

-- the location says on which side the point is, off the boundary
located : (b c s : Bool) → ◌≡◌ {A = ℕ} (cond b 1 (cond c 2 0)) (cond s 2 0) → (b ≡ false) × (c ≡ s)
located false true true e = (refl, refl)
located false false false e = (refl, refl)
located true c true e = absurd (omega (arith, e))
located true c false e = absurd (omega (arith, e))
located false true false e = absurd (omega (arith, e))
located false false true e = absurd (omega (arith, e))

pub distance_near : {es : List Edge} {fs : List EdgeZ} {p : Point} {q : PointZ} → EdgesOn es fs → PointOn p q → 0 < length es → any (λ e. same_point e.a e.b) es ≡ false → SignedNear fs q (signed_of (nearest_of es p) p (contains_of es p)).d
unfolding location_z boundary_z
distance_near {es} {fs} {p} {q} r P some apart = record {
  z = cond (contains_of es p) (neg_ℤ m.u) m.u;
  is = signed_is (nearest_of es p) p (contains_of es p) m.is m.plus;
  num = e.num;
  den = e.den;
  exact = e.exact;
  above = rw (size (contains_of es p)) (near_above q (exact_above e.exact) long e.exact.least m.near.most);
  below = rw (size (contains_of es p)) (near_below q (exact_above e.exact) long m.near.least e.exact.of_an_edge);
  inside = λ h. let s = sided true h in rw s.1 (minus s.0);
  outside = λ h. let s = sided false h in rw s.1 s.0;
}
  where
    long : Long fs
    long = lengths_above r (every_fails (λ e. same_point e.a e.b) es apart)

    e : Exactly fs q
    e = exact_distance q long (rw (same_length r) at some)

    m : Magnitude fs q (nearest_of es p).d
    m = nearest_near P r long some

    size : (s : Bool) → absℤ (cond s (neg_ℤ m.u) m.u) ≡ m.u
    size true = ap pos (nat_abs_neg m.u) ∙ nonneg_nat m.plus
    size false = nonneg_nat m.plus

    minus : {u : ℤ} → pos 0 ≺ u → neg_ℤ u ≺ pos 0
    minus {u} h = lt_from (u ∷ []) (L.lt h ∷ []) (search quote depth 30) (omega arith)

    off_zero : boundary_z fs q ≡ false → pos 0 ≺ m.u
    off_zero h = ⊎_elim (λ (l : m.u ≦ pos 0). absurd (none_at_zero P r long (every_fails (on_edge_z q) fs h) (subst (λ (u : ℤ). Some (λ f. AtMost u (num_z f q) (den_z f q)) fs) (≤ℤ-antisym l m.plus) m.near.most))) (λ l. l) (≤ℤ-or-<ℤ m.u (pos 0))

    sided : (s : Bool) → location_z fs q ≡ cond s 2 0 → (pos 0 ≺ m.u) × (contains_of es p ≡ s)
    sided s h = let t = located (boundary_z fs q) (inside_z fs q) s h in (off_zero t.0, contains_exact r P ∙ t.1)

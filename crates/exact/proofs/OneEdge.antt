-- One edge and one point of the grid: whether the point is on the edge, and whether a ray to its right crosses it. Assumes nothing.
use mathlib.Core.Path.{◌≡◌, refl, sym, ap, ap₂, ◌∙◌, subst}
use mathlib.Core.List.{[], ◌∷◌}
use mathlib.Core.Bool.{Bool, true, false, ◌&&◌}
use Prim.Native.Nat.{ℕ, zero, suc, ◌*◌, ◌^◌, ◌≤◌, ◌<◌}
use native.Mathlib.Nat.{le_trans, le_of_eq, add-le-add, mul-le-mul, mul_comm, one-mul, zero-lt-suc}
use native.Mathlib.Omega.{arith}
use lib.Dec.{T, lit≤}
use lib.IntN.{ℤ, pos, negsuc, nat_abs, ◌+ℤ◌, ◌-ℤ◌, ◌*ℤ◌}
use lib.Signed.{lt_z}
use lib.Ieee.{Float, binary64, unlike, add, sub, mul, div, lt}
use Rattle.algebra.proofs.Quote.{quote, ring}
use Rattle.algebra.specs.Order.{◌≦◌, ◌≺◌, ≤ℤ-of-eq, Within, within_nat_abs, le_of_within, nat_abs_mul, pos_lt, pos_le, pos_nonneg}
use Rattle.algebra.specs.Int.{*ℤ-assoc}
use Rattle.algebra.proofs.Lin.{eq, eq_from}
use Rattle.algebra.proofs.Mono.{within_mul}
use Rattle.algebra.specs.Sign.{signed, sign}
use Rattle.algebra.proofs.SignedLaws.{signed_of_sign, nat_abs_signed, mul_signed_pos}
use Rattle.number.specs.Exact.{Is, Sized, eq_z}
use Rattle.number.specs.Rounding.{Result}
use Rattle.number.proofs.Operations.{zero_is, rescale, rounds_same, div_rounds}
use Rattle.number.proofs.RoundingLaws.{rounds_exact}
use Rattle.number.proofs.ExactLaws.{add_is, sub_sized, mul_sized, add_result, div_result}
use Rattle.number.proofs.Compare.{eq_z→, →eq_z, lt_false, lt_is, eq_is}
use Rattle.boundary.specs.declared.Point.{Point}
use Rattle.boundary.specs.declared.Edge.{Edge}
use Rattle.geometry.specs.Polygon.{crosses_of, cross_of, on_edge}
use Rattle.grid.specs.Whole.{PointZ, EdgeZ, cross_z, on_edge_z, crosses_z}
use Rattle.exact.specs.Grid.{PointOn, EdgeOn}
use Rattle.grid.proofs.Between.{product_nearer}
use Rattle.exact.proofs.Between.{between_is}
use Rattle.grid.proofs.Line.{Across, across}
use Rattle.exact.proofs.Crossing.{lt_scaled, lt_beside, denominator_cleared, at_crossing, rounded_in, crossing_near}
use Rattle.grid.proofs.GridLaws.{difference}

pub product : {x y : Float} {z w : ℤ} → Sized 10 (2 ^ 21) x z → Sized 10 (2 ^ 21) y w → Sized 20 (2 ^ 42) (mul binary64 x y) (z *ℤ w)
product h g = mul_sized h g (lit≤ tt) (lit≤ tt)

module _ {e : Edge} {f : EdgeZ} {p : Point} {q : PointZ} (E : EdgeOn e f) (P : PointOn p q) where
  -- ---- on the edge
  cross_exact : Is 20 (cross_of e p) (cross_z f q)
  unfolding cross_z
  cross_exact = (sub_sized (product (difference E.b.x E.a.x) (difference P.y E.a.y)) (product (difference E.b.y E.a.y) (difference P.x E.a.x)) (lit≤ tt) (lit≤ tt)).is

  pub on_edge_exact : on_edge p e ≡ on_edge_z q f
  unfolding on_edge on_edge_z
  on_edge_exact = ap₂ ◌&&◌ (eq_is cross_exact (zero_is 20)) (ap₂ ◌&&◌ (between_is E.a.x.is E.b.x.is P.x.is) (between_is E.a.y.is E.b.y.is P.y.is))

  -- ---- the crossing, at x = n / d + b.x
  abbrev d : ℤ
  d = f.a.y -ℤ f.b.y

  abbrev n : ℤ
  n = (f.a.x -ℤ f.b.x) *ℤ (q.y -ℤ f.b.y)

  abbrev quotient : Float
  quotient = div binary64 (mul binary64 (sub binary64 e.a.x e.b.x) (sub binary64 p.y e.b.y)) (sub binary64 e.a.y e.b.y)

  -- the point is left of it, on floats and in whole numbers
  abbrev left_of : Bool
  left_of = lt p.x (add binary64 quotient e.b.x)

  abbrev left_z : Bool
  left_z = lt_z ((q.x -ℤ f.b.x) *ℤ (d *ℤ d)) (n *ℤ d)

  module _ (A : Across f.a.y f.b.y q.y) where
    -- d is i * c, where c is above 0 and i is 1 or -1
    abbrev i : ℤ
    i = signed (sign d) 1

    abbrev c : ℕ
    c = nat_abs d

    -- c times the crossing, and c times the point's x
    abbrev crossing : ℤ
    crossing = i *ℤ n +ℤ f.b.x *ℤ pos c

    abbrev point : ℤ
    point = q.x *ℤ pos c

    d_split : d ≡ i *ℤ pos c
    d_split = sym (signed_of_sign d) ∙ ap (signed (sign d)) (sym (one-mul c)) ∙ sym (mul_signed_pos (sign d) 1 c)

    i_square : i *ℤ i ≡ pos 1
    i_square = go (sign d)
      where
        go : (s : Bool) → signed s 1 *ℤ signed s 1 ≡ pos 1
        go false = refl
        go true = refl

    C : 0 < c
    C = some d A.square
      where
        some : (x : ℤ) → pos 0 ≺ x *ℤ x → 0 < nat_abs x
        some (pos zero) h = absurd h.lt
        some (pos (suc n)) h = zero-lt-suc n
        some (negsuc n) h = zero-lt-suc n

    d_is : Sized 10 (2 ^ 21) (sub binary64 e.a.y e.b.y) d
    d_is = difference E.a.y E.b.y

    n_size : nat_abs n ≤ 2 ^ 21 * c
    n_size = rw (nat_abs_mul (f.a.x -ℤ f.b.x) (q.y -ℤ f.b.y)) (mul-le-mul (difference E.a.x E.b.x).near (product_nearer f.a.y f.b.y q.y A.product))

    n_in : Within (i *ℤ n) (pos (2 ^ 21) *ℤ pos c)
    n_in = within_nat_abs (le_trans (le_of_eq (nat_abs_mul i n ∙ ap (λ (m : ℕ). m * nat_abs n) (nat_abs_signed (sign d) 1) ∙ one-mul (nat_abs n))) n_size)

    b_in : Within f.b.x (pos (2 ^ 20))
    b_in = within_nat_abs E.b.x.near

    -- in units of 2 ^ -1074
    abbrev step : ℤ
    step = pos (2 ^ 1064)

    S : pos (2 ^ 52) ≦ step
    S = record { le = tt }

    divided : Result quotient (i *ℤ n *ℤ step) (pos c)
    divided = div_result 10 10 1064 refl (sign d) (product (difference E.a.x E.b.x) (difference P.y E.b.y)).is (subst (Is 10 (sub binary64 e.a.y e.b.y)) (sym (signed_of_sign d)) d_is.is) C
        (le_trans n_size (le_trans (le_of_eq (mul_comm (2 ^ 21) c)) (mul-le-mul (le_of_eq refl) (lit≤ tt))))

    moved : Result (add binary64 quotient e.b.x) (divided.R +ℤ f.b.x *ℤ step) (pos 1)
    moved = add_result divided.is (rescale 1064 E.b.x.is)
        (le_trans (add-le-add (le_of_within (rounded_in S (pos_lt C) (pos_le d_is.near) n_in b_in divided.rnd)) (le_of_within (within_mul step (pos_nonneg (2 ^ 1064)) b_in))) (lit≤ tt))

    -- ---- at the crossing nothing is rounded: the quotient is a whole number of steps
    module _ (same : crossing ≡ point) where
      quotient_is : Is 10 quotient (q.x -ℤ f.b.x)
      quotient_is =
          let scale = ap (λ (z : ℤ). z *ℤ pos (2 ^ 10)) (sym (signed_of_sign d)) ∙ mul_signed_pos (sign d) c (2 ^ 10) in
          let divisor = subst (Is 20 (sub binary64 e.a.y e.b.y)) scale (rescale 10 d_is.is) in
          let once = div_rounds (sign d) (product (difference E.a.x E.b.x) (difference P.y E.b.y)).is divisor (omega (arith, C)) in
          rounds_exact 10 (rounds_same once (lit≤ tt) (scaled i n f.b.x (pos c) q.x (pos (2 ^ 10)) same)) (lit≤ tt) (le_trans (difference P.x E.b.x).near (lit≤ tt))
        where
          scaled : (i n b c x k : ℤ) → i *ℤ n +ℤ b *ℤ c ≡ x *ℤ c → i *ℤ n *ℤ k ≡ (x -ℤ b) *ℤ (c *ℤ k)
          scaled i n b c x k h = eq_from (i ∷ n ∷ b ∷ c ∷ x ∷ k ∷ []) (eq (ap (λ (t : ℤ). t *ℤ k) h) ∷ []) (search quote depth 30) (omega arith)

      at_exact : left_of ≡ left_z
      at_exact =
          let sum = add_is quotient_is E.b.x.is (lit≤ tt) (le_trans (add-le-add (difference P.x E.b.x).near E.b.x.near) (lit≤ tt)) in
          let back : (q.x -ℤ f.b.x) +ℤ f.b.x ≡ q.x = ring (q.x ∷ f.b.x ∷ []) (search quote depth 30) tt in
          let flat = at_crossing n d f.b.x i (pos c) q.x d_split i_square same in
          let level : n *ℤ d ≡ (q.x -ℤ f.b.x) *ℤ (d *ℤ d) = ap (λ (t : ℤ). t *ℤ d) flat ∙ *ℤ-assoc (q.x -ℤ f.b.x) d d in
          lt_is P.x.is sum ∙ lt_false (≤ℤ-of-eq back) ∙ sym (lt_false (≤ℤ-of-eq level))

    -- beside it, two roundings do not carry the crossing past the point
    beside_exact : (crossing ≡ point → ⊥) → left_of ≡ left_z
    beside_exact other =
        lt_is (rescale 1064 P.x.is) moved.is
        ∙ sym (lt_scaled (pos c) (q.x *ℤ step) moved.R (point *ℤ step) (moved.R *ℤ pos c) (pos_lt C) (ring (q.x ∷ step ∷ moved.R ∷ pos c ∷ []) (search quote depth 30) tt))
        ∙ lt_beside crossing point step (moved.R *ℤ pos c) (record { lt = tt }) (crossing_near S (pos_lt C) (pos_le d_is.near) n_in b_in divided.rnd moved.rnd) other
        ∙ sym (lt_scaled (pos c) point crossing ((q.x -ℤ f.b.x) *ℤ (d *ℤ d)) (n *ℤ d) (pos_lt C) (denominator_cleared n d f.b.x i (pos c) q.x d_split i_square))

    crossing_exact : left_of ≡ left_z
    crossing_exact = go (eq_z crossing point) refl
      where
        go : (b : Bool) → eq_z crossing point ≡ b → left_of ≡ left_z
        go true h = at_exact (eq_z→ (subst T (sym h) tt))
        go false h = beside_exact (λ same. subst T h (→eq_z same))

  pub crosses_exact : crosses_of p e ≡ crosses_z q f
  unfolding crosses_of crosses_z
  crosses_exact =
      ap₂ (λ (s t : Bool). unlike s t && left_of) (lt_is P.y.is E.b.y.is) (lt_is P.y.is E.a.y.is)
      ∙ and_same (unlike (lt_z q.y f.b.y) (lt_z q.y f.a.y)) (λ t. crossing_exact (across f.a.y f.b.y q.y t))
    where
      and_same : (b : Bool) {c d : Bool} → (T b → c ≡ d) → (b && c) ≡ (b && d)
      and_same true h = h tt
      and_same false h = refl

-- A box and a cell that share no point, and those that share one. Assumes nothing.
use mathlib.Core.Path.{◌≡◌, refl, sym, ◌∙◌, subst}
use mathlib.Core.Bool.{Bool, true, false, cond, ◌||◌}
use lib.Dec.{T}
use lib.Ieee.{Float, lt, le}
use lib.Ieee.Bits.{is_true}
use Rattle.number.proofs.OrderLaws.{below_through, through_below, le_through, le_self, le_not_below, not_below, below_le, left_not_nan, right_not_nan}
use Rattle.boundary.specs.declared.Bounds.{Bounds}
use Rattle.boundary.specs.Boxes.{Between, Around, box_fits, greater}
use Rattle.boundary.proofs.FieldLaws.{fits_ordered}
use Rattle.lists.proofs.FoldLaws.{or_none}
use Rattle.meeting.specs.Meeting.{SharedPoint, apart}

-- ---- boxes and cells inside others
or_true : (a b c d a' b' c' d' : Bool) → (a ≡ true → a' ≡ true) → (b ≡ true → b' ≡ true) → (c ≡ true → c' ≡ true) → (d ≡ true → d' ≡ true)
    → (a || (b || (c || d))) ≡ true → (a' || (b' || (c' || d'))) ≡ true
or_true true b c d a' b' c' d' p q r s e = rw (p refl)
or_true false true c d true b' c' d' p q r s e = refl
or_true false true c d false b' c' d' p q r s e = rw (q refl)
or_true false false true d true b' c' d' p q r s e = refl
or_true false false true d false true c' d' p q r s e = refl
or_true false false true d false false c' d' p q r s e = rw (r refl)
or_true false false false d true b' c' d' p q r s e = refl
or_true false false false d false true c' d' p q r s e = refl
or_true false false false d false false true d' p q r s e = refl
or_true false false false d false false false d' p q r s e = s e

low_apart : (x y z : Float) → T (le y z) → lt x y ≡ true → lt x z ≡ true
low_apart x y z h e = is_true (lt x z) (below_through x y z (subst T (sym e) tt) h)

high_apart : (x y z : Float) → T (le x y) → lt y z ≡ true → lt x z ≡ true
high_apart x y z h e = is_true (lt x z) (through_below x y z h (subst T (sym e) tt))

-- what shares no point with the cell has no box in it that does
pub apart_inside : (b a c : Bounds) → Around b a → apart b c ≡ true → apart a c ≡ true
unfolding apart
apart_inside b a c h = or_true _ _ _ _ _ _ _ _
    (low_apart c.max.x b.min.x a.min.x h.left) (high_apart a.max.x b.max.x c.min.x h.right)
    (low_apart c.max.y b.min.y a.min.y h.bottom) (high_apart a.max.y b.max.y c.min.y h.top)

-- either way round
apart_swap : (b c : Bounds) → apart b c ≡ apart c b
unfolding apart
apart_swap b c = swap (lt c.max.x b.min.x) (lt b.max.x c.min.x) (lt c.max.y b.min.y) (lt b.max.y c.min.y)
  where
    swap : (a b c d : Bool) → (a || (b || (c || d))) ≡ (b || (a || (d || c)))
    swap true true c d = refl
    swap true false c d = refl
    swap false true c d = refl
    swap false false true true = refl
    swap false false true false = refl
    swap false false false true = refl
    swap false false false false = refl

-- what shares no point with a cell shares none with a cell inside it
pub apart_within : (b c d : Bounds) → Around d c → apart b d ≡ true → apart b c ≡ true
apart_within b c d h e = apart_swap b c ∙ apart_inside d c b h (apart_swap d b ∙ e)

-- ---- what `apart` means: no point is in both
pub shared_not_apart : (b c : Bounds) → SharedPoint b c → apart b c ≡ false
unfolding apart
shared_not_apart b c s =
    let i = s.in_box in
    let j = s.in_cell in
    rw (reached i.x j.x, reached j.x i.x, reached i.y j.y, reached j.y i.y)
  where
    reached : {lo p hi lo' hi' : Float} → Between lo p hi → Between lo' p hi' → lt hi' lo ≡ false
    reached {lo} {p} {hi} {lo'} {hi'} i j = le_not_below hi' lo (le_through lo p hi' i.low j.high)

-- of one axis: where neither ends below the other begins, the greater minimum is in both
between_both : (lo hi lo' hi' : Float) → T (le lo hi) → T (le lo' hi') → lt hi' lo ≡ false → lt hi lo' ≡ false
    → Between lo (greater lo lo') hi × Between lo' (greater lo lo') hi'
between_both lo hi lo' hi' h h' e e' = go (lt lo lo') refl
  where
    go : (b : Bool) → lt lo lo' ≡ b → Between lo (cond b lo' lo) hi × Between lo' (cond b lo' lo) hi'
    go true g = (
      record { low = below_le lo lo' g; high = not_below hi lo' (right_not_nan lo hi h) (left_not_nan lo' hi' h') e' },
      record { low = le_self lo' (left_not_nan lo' hi' h'); high = h' },
    )
    go false g = (
      record { low = le_self lo (left_not_nan lo hi h); high = h },
      record {
        low = not_below lo lo' (left_not_nan lo hi h) (left_not_nan lo' hi' h') g;
        high = not_below hi' lo (right_not_nan lo' hi' h') (left_not_nan lo hi h) e;
      },
    )

-- a box and a cell that pass test 11 and are not apart share a point
pub not_apart_shared : (b c : Bounds) → T (box_fits b) → T (box_fits c) → apart b c ≡ false → SharedPoint b c
unfolding apart
not_apart_shared b c B C e =
    let e₁ = or_none (lt c.max.x b.min.x) _ e in
    let e₂ = or_none (lt b.max.x c.min.x) _ e₁.1 in
    let e₃ = or_none (lt c.max.y b.min.y) _ e₂.1 in
    let b-ordered = fits_ordered b B in
    let c-ordered = fits_ordered c C in
    let x = between_both b.min.x b.max.x c.min.x c.max.x b-ordered.0 c-ordered.0 e₁.0 e₂.0 in
    let y = between_both b.min.y b.max.y c.min.y c.max.y b-ordered.1 c-ordered.1 e₃.0 e₃.1 in
    record {
      point = record { x = greater b.min.x c.min.x; y = greater b.min.y c.min.y };
      in_box = record { x = x.0; y = y.0 };
      in_cell = record { x = x.1; y = y.1 };
    }

-- Edges with a length have an exact distance: that of the nearest of them. Assumes nothing.
use mathlib.Core.Path.{◌≡◌, ap}
use mathlib.Core.Logic.{⊎_elim}
use mathlib.Core.List.{List, [], ◌∷◌}
use Prim.Native.Nat.{◌<◌}
use native.Mathlib.Omega.{arith}
use lib.IntN.{ℤ, pos, ◌*ℤ◌}
use lib.ListN.{length}
use Rattle.algebra.proofs.Quote.{quote}
use Rattle.algebra.specs.Order.{◌≦◌, ◌≺◌, ≤ℤ-or-<ℤ, ≤ℤ-antisym, <ℤ→≤ℤ, mul_pos, sq_nonneg}
use Rattle.algebra.proofs.Lin.{le, eq, le_from}
use Rattle.algebra.proofs.Mono.{mul_mono, mul_cancel}
use Rattle.lists.specs.Lists.{Every, Some}
use Rattle.lists.specs.Lists.Some.{here, there}
use Rattle.grid.specs.Whole.{PointZ, EdgeZ}
use Rattle.grid.specs.Distance.{length_z, num_z, den_z, away_z, NoneNearer, LeastDistance, ExactDistance}
use Rattle.grid.proofs.LeastDistance.{least_distance}

-- ---- fractions: a / b is at most c / d
pub record NotAbove (a b c d : ℤ) : Type 0 where
  pub holds : a *ℤ d ≦ c *ℤ b

-- where c / d is w / n ², and a / b is not above that
not_above_square : (a b c d n w : ℤ) → pos 0 ≺ n → pos 0 ≦ d → a *ℤ (n *ℤ n) ≦ w *ℤ b → c *ℤ (n *ℤ n) ≡ w *ℤ d → NotAbove a b c d
not_above_square a b c d n w n0 d0 h e = record {
  holds = mul_cancel (n *ℤ n) (a *ℤ d) (c *ℤ b) (mul_pos n0 n0)
      (le_from (a ∷ b ∷ c ∷ d ∷ n ∷ w ∷ []) (le (mul_mono d d0 h) ∷ eq (ap (λ (t : ℤ). t *ℤ b) e) ∷ []) (search quote depth 30) (omega arith));
}

-- ---- one edge
module _ {f : EdgeZ} {q : PointZ} {a b c d : ℤ} where
  -- what no point of an edge is nearer than is at most the edge's least distance
  pub not_above_least : NoneNearer f q a b → LeastDistance f q c d → NotAbove a b c d
  not_above_least h l = not_above_square a b c d l.n (away_z f q l.m l.n) l.ratio.above (<ℤ→≤ℤ l.above) (h.holds l.ratio) l.as_near

  -- no point is nearer than less
  none_nearer_less : NotAbove a b c d → pos 0 ≺ b → pos 0 ≺ d → NoneNearer f q c d → NoneNearer f q a b
  none_nearer_less u b0 d0 h = record { holds = λ {m} {n} t. less n (away_z f q m n) (h.holds t) }
    where
      less : (n w : ℤ) → c *ℤ (n *ℤ n) ≦ w *ℤ d → a *ℤ (n *ℤ n) ≦ w *ℤ b
      less n w k = mul_cancel d (a *ℤ (n *ℤ n)) (w *ℤ b) d0
          (le_from (a ∷ b ∷ c ∷ d ∷ n ∷ w ∷ []) (le (mul_mono b (<ℤ→≤ℤ b0) k) ∷ le (mul_mono (n *ℤ n) (sq_nonneg n) u.holds) ∷ []) (search quote depth 30) (omega arith))

-- ---- the edge whose distance it is, among all
-- what follows from P and from Q of a member holds where some member has P and every one has Q
some_and_every : {A : Type 0} {P Q : A → Type 0} {R : Type 0} {xs : List A} → ((x : A) → P x → Q x → R) → Some P xs → Every Q xs → R
unfolding Every
some_and_every f (here {x = x} h) (k, ks) = f x h k
some_and_every f (there h) (k, ks) = some_and_every f h ks

module _ {fs : List EdgeZ} {q : PointZ} {a b : ℤ} (e : ExactDistance fs q a b) where
  pub exact_above : pos 0 ≺ b
  exact_above = some_and_every (λ f l h. l.above) e.of_an_edge e.least

  -- there is one exact distance only, as one fraction or another
  pub exact_unique : {c d : ℤ} → ExactDistance fs q c d → a *ℤ d ≡ c *ℤ b
  exact_unique g = ≤ℤ-antisym
      (some_and_every (λ f l h. (not_above_least h l).holds) g.of_an_edge e.least)
      (some_and_every (λ f l h. (not_above_least h l).holds) e.of_an_edge g.least)

-- ---- edges with a length have one
pub record Exactly (fs : List EdgeZ) (q : PointZ) : Type 0 where
  pub num : ℤ
  pub den : ℤ
  pub exact : ExactDistance fs q num den

every_less : (q : PointZ) {a b c d : ℤ} (fs : List EdgeZ) → NotAbove a b c d → pos 0 ≺ b → pos 0 ≺ d → Every (λ f. NoneNearer f q c d) fs → Every (λ f. NoneNearer f q a b) fs
unfolding Every
every_less q [] u b0 d0 h = tt
every_less q (f ∷ fs) u b0 d0 (h, hs) = (none_nearer_less u b0 d0 h, every_less q fs u b0 d0 hs)

-- one edge more: the lesser of its least distance and that of the others
exact_with : {q : PointZ} {f : EdgeZ} {fs : List EdgeZ} {a b c d : ℤ} → LeastDistance f q a b → ExactDistance fs q c d → Exactly (f ∷ fs) q
unfolding Every
exact_with {q} {fs = fs} {a} {b} {c} {d} l e = ⊎_elim
    (λ (h : a *ℤ d ≦ c *ℤ b). record {
      num = a;
      den = b;
      exact = record { of_an_edge = here l; least = (l.none_nearer, every_less q fs (record { holds = h }) l.above (exact_above e) e.least) };
    })
    (λ (h : c *ℤ b ≺ a *ℤ d). record {
      num = c;
      den = d;
      exact = record { of_an_edge = there e.of_an_edge; least = (none_nearer_less (record { holds = <ℤ→≤ℤ h }) (exact_above e) l.above l.none_nearer, e.least) };
    })
    (≤ℤ-or-<ℤ (a *ℤ d) (c *ℤ b))

pub exact_distance : {fs : List EdgeZ} (q : PointZ) → Every (λ f. pos 0 ≺ length_z f) fs → 0 < length fs → Exactly fs q
unfolding Every
exact_distance {fs = []} q l some = absurd (omega arith)
exact_distance {fs = f ∷ []} q (l, ls) some =
    let h = least_distance f q l in
    record { num = num_z f q; den = den_z f q; exact = record { of_an_edge = here h; least = (h.none_nearer, tt) } }
exact_distance {fs = f ∷ g ∷ fs} q (l, ls) some = exact_with (least_distance f q l) (exact_distance {fs = g ∷ fs} q ls (omega arith)).exact

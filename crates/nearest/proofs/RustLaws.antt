-- THE RUST'S WALK gives the *nearest answer*. Assumes nothing.
use Rattle.std.proofs.Common.{Option, None, Some}
use mathlib.Core.Path.{◌≡◌, refl, sym, ap, subst}
use mathlib.Core.Bool.{Bool, true, false, not, cond, ◌&&◌, ◌||◌}
use mathlib.Core.List.{List, [], ◌∷◌, ◌++◌}
use Prim.Native.Nat.{ℕ, zero, suc, ◌+◌, ◌-◌, ◌≤◌, ◌<◌}
use native.Mathlib.Decide.{ℕ_discrete}
use native.Mathlib.Omega.{arith}
use borrow.Author.Tests.{eqb-false}
use lib.Dec.{T, eqb, ltb}
use lib.ListN.{length}
use lib.Ieee.{Float, lt, le, eq, is_nan}
use lib.Ieee.Bits.{is_true}
use Rattle.number.specs.Signs.{sign_bit}
use Rattle.number.proofs.OrderLaws.{le_through, below_through, below_le, below_not_le, not_below, level_le}
use Rattle.boundary.specs.declared.Point.{Point}
use Rattle.boundary.specs.declared.Bounds.{Bounds}
use Rattle.boundary.specs.Boxes.{FieldPoint, gap_of}
use Rattle.lists.specs.Lists.{fold, times, In, Every}
use Rattle.sorts.specs.Keys.{total_less}
use Rattle.lists.proofs.MemberLaws.{each_all, every_append, every_both, times_append, in_cons, in_first, in_rest}
use Rattle.tree.specs.Tree.{Tree, leaf, inner, tree_box, index_of, items_of, EachNode}
use Rattle.nodes.specs.Layout.{extra}
use Rattle.boundary.proofs.AroundLaws.{NotNan}
use Rattle.set.specs.Set.{Outline, set_boxes, Fitting, DoubleSet}
use Rattle.search.specs.declared.Best.{Best}
use Rattle.search.specs.Least.{magnitude_at, least_of, least_in}
use Rattle.search.specs.Walk.{improved, best_of}
use Rattle.search.proofs.LeastLaws.{Upto, Among, among_this, upto_this, best_is, least_of_lem, least_only}
use Rattle.search.proofs.GapLaws.{Gapped, Nearby, magnitude_number, tree_gaps, index_has, index_covers, index_held}
use Rattle.boundary.proofs.GapLaws.{gap_number}
use Rattle.nearest.specs.Nearest.{nearest_in}
use Rattle.nearest.specs.Rust.{Waiting, waiting_for, sooner, Out, least_out, chosen, looked, opened, too_far, walk_on, walk_of}

-- ---- sums over the nodes that wait
unfoldable sum : (Waiting → ℕ) → List Waiting → ℕ
sum w [] = 0
sum w (x ∷ xs) = w x + sum w xs

sum_append : (w : Waiting → ℕ) (xs ys : List Waiting) → sum w (xs ++ ys) ≡ sum w xs + sum w ys
unfolding sum
sum_append w [] ys = omega arith
sum_append w (x ∷ xs) ys = let h = sum_append w xs ys in omega arith

-- a sum is positive where one of its parts is
sum_some : {P : Waiting → Type 0} (w : Waiting → ℕ) (xs : List Waiting) (A : Type 0) → ((x : Waiting) → P x → 0 < w x → A) → Every P xs → 0 < sum w xs → A
unfolding sum Every
sum_some w [] A f ps h = absurd (omega arith)
sum_some w (x ∷ xs) A f ps h = go (ℕ_discrete (w x) 0) (sum_some w xs A f ps.1)
  where
    go : Dec (w x ≡ 0) → (0 < sum w xs → A) → A
    go (yes e) ih = ih (omega arith)
    go (no a) ih = f x ps.0 (omega arith)

-- ---- the least is taken out
or_false : (a b : Bool) → (a || b) ≡ false → a ≡ false
or_false false b e = refl
or_false true b e = absurd (subst T e tt)

not_totally : (x y : Float) → NotNan x → NotNan y → total_less x y ≡ false → T (le y x)
unfolding total_less
not_totally x y X Y e = not_below x y X Y (or_false (lt x y) _ e)

totally_le : (x y : Float) → NotNan x → NotNan y → total_less x y ≡ true → T (le x y)
unfolding total_less
totally_le x y X Y h = go (lt x y) refl (eq x y) refl (is_nan y) refl (is_nan x) h
  where
    go : (a : Bool) → lt x y ≡ a → (b : Bool) → eq x y ≡ b → (c : Bool) → is_nan y ≡ c → (d : Bool) → (a || ((b && (sign_bit x && not (sign_bit y))) || (not d && c))) ≡ true → T (le x y)
    go true e b f c g d h = below_le x y e
    go false e true f c g d h = level_le x y f
    go false e false f true g d h = absurd (subst (λ (t : Bool). T (not t)) g Y)
    go false e false f false g true h = absurd (subst T (sym h) tt)
    go false e false f false g false h = absurd (subst T (sym h) tt)

sooner_le : (a b : Waiting) → NotNan a.gap → NotNan b.gap → sooner a b ≡ true → T (le a.gap b.gap)
sooner_le a b A B h = go (total_less a.gap b.gap) refl (total_less b.gap a.gap) refl h
  where
    go : (s : Bool) → total_less a.gap b.gap ≡ s → (t : Bool) → total_less b.gap a.gap ≡ t → (s || (not t && ltb a.node b.node)) ≡ true → T (le a.gap b.gap)
    go true e t f h = totally_le a.gap b.gap A B e
    go false e true f h = absurd (subst T (sym h) tt)
    go false e false f h = not_totally b.gap a.gap B A f

sooner_not : (a b : Waiting) → NotNan a.gap → NotNan b.gap → sooner a b ≡ false → T (le b.gap a.gap)
sooner_not a b A B h = not_totally a.gap b.gap A B (or_false (total_less a.gap b.gap) _ h)

record OutIs (P : Waiting → Type 0) (x : Waiting) (xs : List Waiting) (o : Out) : Type 0 where
  first : P o.first
  rest : Every P o.rest
  least : Every (λ y. T (le o.first.gap y.gap)) o.rest
  sums : (w : Waiting → ℕ) → w o.first + sum w o.rest ≡ w x + sum w xs

out_is : (P : Waiting → Type 0) → ((y : Waiting) → P y → NotNan y.gap) → (x : Waiting) (xs : List Waiting) → P x → Every P xs → OutIs P x xs (least_out x xs)
unfolding least_out sum Every
out_is P N x [] p qs = record { first = p; rest = tt; least = tt; sums = λ w. refl }
out_is P N x (y ∷ ys) p qs = go (least_out y ys) (out_is P N y ys qs.0 qs.1) (sooner (least_out y ys).first x) refl
  where
    go : (o : Out) → OutIs P y ys o → (s : Bool) → sooner o.first x ≡ s → OutIs P x (y ∷ ys) (cond s (record { first = o.first; rest = x ∷ o.rest }) (record { first = x; rest = o.first ∷ o.rest }))
    go o i true e = record {
      first = i.first;
      rest = (p, i.rest);
      least = (sooner_le o.first x (N o.first i.first) (N x p) e, i.least);
      sums = λ w. let h = i.sums w in omega arith;
    }
    go o i false e =
        let l = sooner_not o.first x (N o.first i.first) (N x p) e in
        record {
          first = p;
          rest = (i.first, i.rest);
          least = (l, each_all o.rest (λ y h. le_through x.gap o.first.gap y.gap l h) i.least);
          sums = λ w. let h = i.sums w in omega arith;
        }

-- ---- the walk
each_root : (P : Bounds → List ℕ → Type 0) (t : Tree) → EachNode P t → P (tree_box t) (items_of t)
unfolding EachNode items_of
each_root P (leaf b is) h = h
each_root P (inner b l r) h = h.0

abbrev size_of : Waiting → ℕ
size_of x = 1 + extra x.tree

abbrev has_of : ℕ → Waiting → ℕ
has_of i x = times i (items_of x.tree)

module _ (D : ℕ → Float) (n : ℕ) (p : Point) where
  record Good (x : Waiting) : Type 0 where
    gap : x.gap ≡ gap_of (tree_box x.tree) p
    near : EachNode (Nearby D n p) x.tree

  good_number : (x : Waiting) → Good x → NotNan x.gap
  good_number x g = rw g.gap (gap_number (tree_box x.tree) p)

  good_gap : (x : Waiting) → Good x → (i : ℕ) → 0 < has_of i x → Gapped D n p (tree_box x.tree) i
  good_gap x g i h = each_root (Nearby D n p) x.tree g.near i h

  good_le : (x : Waiting) → Good x → (i : ℕ) → 0 < has_of i x → T (le x.gap (D i))
  good_le x g i h = rw g.gap (good_gap x g i h).gap

  -- the best so far is an outline's, and it is at most the i-th
  abbrev State : Option Best → Type 0
  State None = T true
  State (Some b) = Among D (n - 1) b

  abbrev Seen : Option Best → ℕ → Type 0
  Seen None i = ⊥
  Seen (Some b) i = Upto D b i

  record Walking (f : ℕ) (ws : List Waiting) (best : Option Best) : Type 0 where
    turns : sum size_of ws ≤ f
    good : Every Good ws
    state : State best
    cover : (i : ℕ) → i < n → sum (has_of i) ws ≡ 0 → Seen best i

  module _ (some : 0 < n) (N : (k : ℕ) → k < n → NotNan (D k)) where
    numbers : (k : ℕ) → k ≤ n - 1 → NotNan (D k)
    numbers k l = N k (omega arith)

    -- ---- a leaf's items
    record Looked (best : Option Best) (is : List ℕ) (r : Option Best) : Type 0 where
      state : State r
      new : (i : ℕ) → In i is → Seen r i
      old : (i : ℕ) → Seen best i → Seen r i

    looked_at : (is : List ℕ) (b : Best) → fold (chosen D) (Some b) is ≡ Some (best_of D b is)
    unfolding fold best_of
    looked_at [] b = refl
    looked_at (k ∷ ks) b = looked_at ks (improved b k (D k))

    looked_some : (is : List ℕ) (b : Best) → Among D (n - 1) b → ((i : ℕ) → In i is → i < n) → Looked (Some b) is (fold (chosen D) (Some b) is)
    looked_some is b B h =
        let r = best_is D (n - 1) numbers is (λ i k. let l = h i k in omega arith) b B in
        rw (looked_at is b) (record { state = r.among; new = r.new; old = r.old })

    looked_is : (is : List ℕ) (best : Option Best) → State best → ((i : ℕ) → In i is → i < n) → Looked best is (fold (chosen D) best is)
    unfolding fold times
    looked_is is (Some b) s h = looked_some is b s h
    looked_is [] None s h = record { state = s; new = λ i k. absurd (omega arith); old = λ i u. u }
    looked_is (k ∷ ks) None s h =
        let l = h k (in_first k ks) in
        let b : Best = record { outline = k; distance = D k } in
        let r = looked_some ks b (among_this D (n - 1) k (omega arith)) (λ i j. h i (in_rest i k ks j)) in
        record {
          state = r.state;
          new = in_cons (λ i. Seen (fold (chosen D) (Some b) ks) i) k ks (r.old k (upto_this D k (N k l))) r.new;
          old = λ i u. absurd u;
        }

    -- ---- one turn
    turn : (f : ℕ) (t : Tree) (next : ℕ) (rest : List Waiting) (best : Option Best) → EachNode (Nearby D n p) t → Every Good rest → State best
        → ((i : ℕ) → i < n → times i (items_of t) + sum (has_of i) rest ≡ 0 → Seen best i) → 1 + extra t + sum size_of rest ≤ suc f
        → Walking f (rest ++ opened p next t) (looked D best t)
    unfolding EachNode items_of extra opened looked sum Every
    turn f (leaf b is) next rest best E G S C F =
        let l = looked_is is best S (λ i h. (E i h).within) in
        record {
          turns = let a = sum_append size_of rest [] in omega arith;
          good = every_append Good rest [] G tt;
          state = l.state;
          cover = λ i h z. let a = sum_append (has_of i) rest [] in go i h l (omega arith) (ℕ_discrete (times i is) 0);
        }
      where
        go : (i : ℕ) → i < n → Looked best is (fold (chosen D) best is) → sum (has_of i) rest ≡ 0 → Dec (times i is ≡ 0) → Seen (fold (chosen D) best is) i
        go i h l z (yes e) = l.old i (C i h (omega arith))
        go i h l z (no a) = l.new i (omega arith)
    turn f (inner b l r) next rest best E G S C F =
        let x = waiting_for p next (next + 2) l in
        let y = waiting_for p (next + 1) (next + 2 + extra l) r in
        record {
          turns = let a = sum_append size_of rest (x ∷ y ∷ []) in omega arith;
          good = every_append Good rest (x ∷ y ∷ []) G (record { gap = refl; near = E.1 }, (record { gap = refl; near = E.2 }, tt));
          state = S;
          cover = λ i h z. let a = sum_append (has_of i) rest (x ∷ y ∷ []) in let c = times_append i (items_of l) (items_of r) in C i h (omega arith);
        }

    -- ---- the end
    all_seen : (best : Option Best) → State best → ((i : ℕ) → i < n → Seen best i) → best ≡ Some (least_of D n)
    all_seen None s u = absurd (u 0 some)
    all_seen (Some b) s u = let w = s.within in ap Some (least_only D n b (least_of D n) (record { within = omega arith; is = s.is; upto = u }) (least_of_lem D n some N))

    -- the least gap is above the best
    far_seen : (best : Option Best) (x : Waiting) (xs : List Waiting) (o : Out) → OutIs Good x xs o → ((i : ℕ) → i < n → sum (has_of i) (x ∷ xs) ≡ 0 → Seen best i) → too_far best o.first.gap ≡ true → (i : ℕ) → i < n → Seen best i
    unfolding sum
    far_seen None x xs o O C e i l = absurd (subst T (sym e) tt)
    far_seen (Some b) x xs o O C e i l = go (ℕ_discrete (has_of i o.first) 0) (ℕ_discrete (sum (has_of i) o.rest) 0)
      where
        farther : T (le o.first.gap (D i)) → Upto D b i
        farther h =
            let q = below_through b.distance o.first.gap (D i) (subst T (sym e) tt) h in
            record { least = below_le b.distance (D i) (is_true (lt b.distance (D i)) q); first = λ u. absurd (below_not_le b.distance (D i) q u) }

        go : Dec (has_of i o.first ≡ 0) → Dec (sum (has_of i) o.rest ≡ 0) → Upto D b i
        go (no a) d = farther (good_le o.first O.first i (omega arith))
        go (yes z) (yes y) = C i l (let s = O.sums (has_of i) in omega arith)
        go (yes z) (no a) = sum_some (has_of i) o.rest (Upto D b i) (λ y h k. farther (le_through o.first.gap y.gap (D i) h.1 (good_le y h.0 i k))) (every_both Good (λ y. T (le o.first.gap y.gap)) o.rest O.rest O.least) (omega arith)

    walk_turn : (f : ℕ) (x : Waiting) (xs : List Waiting) (best : Option Best) (o : Out) → OutIs Good x xs o → Walking (suc f) (x ∷ xs) best
        → ((ws : List Waiting) (b : Option Best) → Walking f ws b → walk_on f D p ws b ≡ Some (least_of D n))
        → (t : Bool) → too_far best o.first.gap ≡ t → cond t best (walk_on f D p (o.rest ++ opened p o.first.next o.first.tree) (looked D best o.first.tree)) ≡ Some (least_of D n)
    unfolding sum
    walk_turn f x xs best o O W ih true e = all_seen best W.state (far_seen best x xs o O W.cover e)
    walk_turn f x xs best o O W ih false e =
        ih (o.rest ++ opened p o.first.next o.first.tree) (looked D best o.first.tree)
        (turn f o.first.tree o.first.next o.rest best O.first.near O.rest W.state
        (λ i l z. W.cover i l (let s = O.sums (has_of i) in omega arith)) (let s = O.sums size_of in let u = W.turns in omega arith))

    walk_on_lem : (f : ℕ) (ws : List Waiting) (best : Option Best) → Walking f ws best → walk_on f D p ws best ≡ Some (least_of D n)
    unfolding walk_on sum Every
    walk_on_lem zero [] best W = all_seen best W.state (λ i l. W.cover i l refl)
    walk_on_lem zero (x ∷ xs) best W = let u = W.turns in absurd (omega arith)
    walk_on_lem (suc f) [] best W = all_seen best W.state (λ i l. W.cover i l refl)
    walk_on_lem (suc f) (x ∷ xs) best W = walk_turn f x xs best (least_out x xs) (out_is Good good_number x xs W.good.0 W.good.1) W (walk_on_lem f) (too_far best (least_out x xs).first.gap) refl

-- ---- over a set
module _ (os : List Outline) (p : Point) (fit : Fitting os) (held : DoubleSet os) (P : FieldPoint p) where
  abbrev t : Tree
  t = index_of (set_boxes os)

  root_walking : 0 < length os → Walking (magnitude_at os p) (length os) p (1 + extra t) (waiting_for p 0 1 t ∷ []) None
  unfolding sum Every
  root_walking s = record {
    turns = omega arith;
    good = (record { gap = refl; near = tree_gaps os fit held p P t (index_covers os fit held) (index_held os fit held s) }, tt);
    state = tt;
    cover = λ i l z. let o = index_has os fit held i l in absurd (omega arith);
  }

  -- THE WALK gives the nearest answer
  pub walk_is : walk_of os p ≡ nearest_in os p
  unfolding walk_of nearest_in
  walk_is = go (eqb (length os) 0) refl
    where
      above : (n : ℕ) → (n ≡ 0 → ⊥) → 0 < n
      above n h = omega arith

      go : (b : Bool) → eqb (length os) 0 ≡ b → cond b None (walk_on (1 + extra t) (magnitude_at os p) p (waiting_for p 0 1 t ∷ []) None) ≡ cond b None (Some (least_in os p))
      go true e = refl
      go false e =
          let s = above (length os) (eqb-false (length os) 0 e) in
          walk_on_lem (magnitude_at os p) (length os) p s (λ k l. magnitude_number os fit held p P k (omega arith)) (1 + extra t) (waiting_for p 0 1 t ∷ []) None (root_walking s)

-- Neighbouring lines drawn as one: a clip that drops them gives the same list, and one that keeps them has the two in place of the one. Assumes nothing.
use mathlib.Core.Path.{◌≡◌, refl, sym, ap, ◌∙◌}
use mathlib.Core.List.{List, [], ◌∷◌, ◌++◌, append_assoc, flat_map}
use mathlib.Core.Bool.{Bool, true, false, not, ◌&&◌, ◌||◌, cond}
use Prim.Native.Nat.{ℕ, suc, ◌+◌}
use native.Mathlib.Omega.{arith}
use lib.ListN.{length, take, drop, length-append}
use Rattle.boundary.specs.declared.Point.{Point}
use Rattle.boundary.specs.declared.Edge.{Edge}
use Rattle.boundary.specs.Outline.{same_point}
use Rattle.lists.specs.Lists.{fold, any}
use Rattle.lists.proofs.FoldLaws.{any_append, fold_append}
use Rattle.clip.specs.declared.HalfPlane.{HalfPlane}
use Rattle.clip.specs.Clip.{Part, parts_of, parts, lead, last_kept, rotated, kept_lines, joint, onward, joined, clip_of}
use Rattle.clip.specs.Shortened.{across_both, BothDropped, BothKept, Shortened, as_it_is, outside_low, outside_high}
use Rattle.clip.proofs.PassLaws.{kept_append, parts_append}

-- the parts of two lines, or of one, between others
abbrev two : Bool → Edge → Edge → List Part → List Part
two k e f qs = record { line = e; kept = k } ∷ record { line = f; kept = k } ∷ qs

abbrev one : Bool → Edge → List Part → List Part
one k g qs = record { line = g; kept = k } ∷ qs

parts_two : (s : HalfPlane) (k : Bool) (e f : Edge) (xs ys : List Edge) → parts_of s e ≡ (record { line = e; kept = k } ∷ [])
    → parts_of s f ≡ (record { line = f; kept = k } ∷ [])
    → parts s (xs ++ (e ∷ f ∷ ys)) ≡ parts s xs ++ two k e f (parts s ys)
unfolding parts flat_map
parts_two s k e f xs ys p q = parts_append s xs (e ∷ f ∷ ys) ∙ rw (p, q)

parts_one : (s : HalfPlane) (k : Bool) (g : Edge) (xs ys : List Edge) → parts_of s g ≡ (record { line = g; kept = k } ∷ [])
    → parts s (xs ++ (g ∷ ys)) ≡ parts s xs ++ one k g (parts s ys)
unfolding parts flat_map
parts_one s k g xs ys p = parts_append s xs (g ∷ ys) ∙ rw p

-- ---- whether some part has a mark, and the mark of the last
module _ (e f g : Edge) (k : Bool) (ps qs : List Part) where
  any_themselves : (m : Bool → Bool) (b : Bool) → m k ≡ b → any (λ p. m p.kept) (two k e f []) ≡ any (λ p. m p.kept) (one k g [])
  unfolding any fold
  any_themselves m true h = rw h
  any_themselves m false h = rw h

  any_either : (m : Bool → Bool) → any (λ p. m p.kept) (ps ++ two k e f qs) ≡ any (λ p. m p.kept) (ps ++ one k g qs)
  any_either m =
      any_append (λ p. m p.kept) ps (two k e f qs)
      ∙ ap (λ b. any (λ p. m p.kept) ps || b)
      (any_append (λ p. m p.kept) (two k e f []) qs
      ∙ ap (λ b. b || any (λ p. m p.kept) qs) (any_themselves m (m k) refl)
      ∙ sym (any_append (λ p. m p.kept) (one k g []) qs))
      ∙ sym (any_append (λ p. m p.kept) ps (one k g qs))

  last_either : last_kept (ps ++ two k e f qs) ≡ last_kept (ps ++ one k g qs)
  unfolding last_kept fold
  last_either = fold_append (λ b p. p.kept) false ps (two k e f qs) ∙ sym (fold_append (λ b p. p.kept) false ps (one k g qs))

-- ---- two that are not kept: the kept lines from the first that comes in on are the same
record SameTurn (ps qs : List Part) (k l : ℕ) : Type 0 where
  after : kept_lines (drop k ps) ≡ kept_lines (drop l qs)
  front : kept_lines (take k ps) ≡ kept_lines (take l qs)

module _ (e f g : Edge) (qs : List Part) where
  kept_none : (ps : List Part) → kept_lines (ps ++ two false e f qs) ≡ kept_lines (ps ++ one false g qs)
  unfolding kept_lines flat_map
  kept_none ps = kept_append ps (two false e f qs) ∙ sym (kept_append ps (one false g qs))

  turn_none : (b : Bool) (ps : List Part)
      → SameTurn (ps ++ two false e f qs) (ps ++ one false g qs) (lead b (ps ++ two false e f qs)) (lead b (ps ++ one false g qs))
  unfolding lead kept_lines flat_map
  turn_none b [] = record { after = refl; front = refl }
  turn_none b (p ∷ ps) = by (p.kept && not b) (turn_none p.kept ps)
    where
      by : (c : Bool)
          → SameTurn (ps ++ two false e f qs) (ps ++ one false g qs) (lead p.kept (ps ++ two false e f qs)) (lead p.kept (ps ++ one false g qs))
          → SameTurn (p ∷ ps ++ two false e f qs) (p ∷ ps ++ one false g qs)
          (cond c 0 (suc (lead p.kept (ps ++ two false e f qs)))) (cond c 0 (suc (lead p.kept (ps ++ one false g qs))))
      by true rest = record { after = kept_none (p ∷ ps); front = refl }
      by false rest = record { after = rest.after; front = ap (λ ls. cond p.kept (p.line ∷ []) [] ++ ls) rest.front }

  rotated_none : (ps : List Part) → kept_lines (rotated (ps ++ two false e f qs)) ≡ kept_lines (rotated (ps ++ one false g qs))
  unfolding rotated
  rotated_none ps =
      let us : List Part = ps ++ two false e f qs in
      let vs : List Part = ps ++ one false g qs in
      let t = turn_none (last_kept vs) ps in
      rw (last_either e f g false ps qs, kept_append (drop (lead (last_kept vs) us) us), kept_append (drop (lead (last_kept vs) vs) vs), t.after, t.front)

or_last : (a : Bool) → a || true ≡ true
or_last true = refl
or_last false = refl

-- what the clip gives where some part is not kept
abbrev chosen : Bool → List Edge → List Part → List Edge
chosen dropped es ps = cond (not dropped) es (cond (not (any (λ p. p.kept) ps)) [] (joined (kept_lines (rotated ps))))

clip_chosen : (s : HalfPlane) (es : List Edge) (ps : List Part) → parts s es ≡ ps → clip_of s es ≡ chosen (any (λ p. not p.kept) ps) es ps
unfolding clip_of
clip_chosen s es ps h = rw h

some_out : (ps qs : List Part) (g : Edge) → any (λ p. not p.kept) (ps ++ one false g qs) ≡ true
unfolding any fold
some_out ps qs g =
    any_append (λ p. not p.kept) ps (one false g qs)
    ∙ ap (λ b. any (λ p. not p.kept) ps || b) (any_append (λ p. not p.kept) (one false g []) qs)
    ∙ or_last (any (λ p. not p.kept) ps)

-- DROPPED NEIGHBOURS count as one
pub dropped_as_one : (s : HalfPlane) (e f : Edge) (xs ys : List Edge) → BothDropped s e f
    → clip_of s (xs ++ (e ∷ f ∷ ys)) ≡ clip_of s (xs ++ (across_both e f ∷ ys))
dropped_as_one s e f xs ys h =
    let g : Edge = across_both e f in
    let us : List Part = parts s xs ++ two false e f (parts s ys) in
    let vs : List Part = parts s xs ++ one false g (parts s ys) in
    let out : any (λ p. not p.kept) vs ≡ true = some_out (parts s xs) (parts s ys) g in
    rw (
      clip_chosen s (xs ++ (e ∷ f ∷ ys)) us (parts_two s false e f xs ys h.first h.second),
      clip_chosen s (xs ++ (g ∷ ys)) vs (parts_one s false g xs ys h.across),
      any_either e f g false (parts s xs) (parts s ys) not,
      any_either e f g false (parts s xs) (parts s ys) (λ b. b),
      rotated_none e f g (parts s ys) (parts s xs),
      out,
    )

-- ---- two that are kept: they stand in the kept lines where the one stands
-- the two lists differ in that only
pub record TwoForOne (e f g : Edge) (us vs : List Edge) : Type 0 where
  pub ahead : List Edge
  pub behind : List Edge
  pub both : us ≡ ahead ++ (e ∷ f ∷ behind)
  pub instead : vs ≡ ahead ++ (g ∷ behind)

-- more before them, or behind
more_ahead : {e f g : Edge} {us vs : List Edge} (ls : List Edge) → TwoForOne e f g us vs → TwoForOne e f g (ls ++ us) (ls ++ vs)
more_ahead {e} {f} {g} ls h = record {
  ahead = ls ++ h.ahead;
  behind = h.behind;
  both = ap (λ xs. ls ++ xs) h.both ∙ sym (append_assoc ls h.ahead (e ∷ f ∷ h.behind));
  instead = ap (λ xs. ls ++ xs) h.instead ∙ sym (append_assoc ls h.ahead (g ∷ h.behind));
}

more_behind : {e f g : Edge} {us vs : List Edge} (ls : List Edge) → TwoForOne e f g us vs → TwoForOne e f g (us ++ ls) (vs ++ ls)
more_behind {e} {f} {g} ls h = record {
  ahead = h.ahead;
  behind = h.behind ++ ls;
  both = ap (λ xs. xs ++ ls) h.both ∙ append_assoc h.ahead (e ∷ f ∷ h.behind) ls;
  instead = ap (λ xs. xs ++ ls) h.instead ∙ append_assoc h.ahead (g ∷ h.behind) ls;
}

-- of the kept lines from there on, or of those before it
data EitherSide (e f g : Edge) (ps qs : List Part) (k l : ℕ) : Type 0 where
  from_there : TwoForOne e f g (kept_lines (drop k ps)) (kept_lines (drop l qs)) → kept_lines (take k ps) ≡ kept_lines (take l qs) → EitherSide e f g ps qs k l
  before_it : kept_lines (drop k ps) ≡ kept_lines (drop l qs) → TwoForOne e f g (kept_lines (take k ps)) (kept_lines (take l qs)) → EitherSide e f g ps qs k l

module _ (e f g : Edge) (qs : List Part) where
  kept_two : (ps : List Part) → TwoForOne e f g (kept_lines (ps ++ two true e f qs)) (kept_lines (ps ++ one true g qs))
  unfolding kept_lines flat_map
  kept_two ps = record { ahead = kept_lines ps; behind = kept_lines qs; both = kept_append ps (two true e f qs); instead = kept_append ps (one true g qs) }

  side_two : (b : Bool) (ps : List Part)
      → EitherSide e f g (ps ++ two true e f qs) (ps ++ one true g qs) (lead b (ps ++ two true e f qs)) (lead b (ps ++ one true g qs))
  unfolding lead kept_lines flat_map
  side_two true [] = before_it refl (record { ahead = []; behind = kept_lines (take (lead true qs) qs); both = refl; instead = refl })
  side_two false [] = from_there (record { ahead = []; behind = kept_lines qs; both = refl; instead = refl }) refl
  side_two b (p ∷ ps) = by (p.kept && not b) (side_two p.kept ps)
    where
      by : (c : Bool)
          → EitherSide e f g (ps ++ two true e f qs) (ps ++ one true g qs) (lead p.kept (ps ++ two true e f qs)) (lead p.kept (ps ++ one true g qs))
          → EitherSide e f g (p ∷ ps ++ two true e f qs) (p ∷ ps ++ one true g qs)
          (cond c 0 (suc (lead p.kept (ps ++ two true e f qs)))) (cond c 0 (suc (lead p.kept (ps ++ one true g qs))))
      by true rest = from_there (kept_two (p ∷ ps)) refl
      by false (from_there x y) = from_there x (ap (λ ls. cond p.kept (p.line ∷ []) [] ++ ls) y)
      by false (before_it x y) = before_it x (more_ahead (cond p.kept (p.line ∷ []) []) y)

  rotated_two : (ps : List Part) → TwoForOne e f g (kept_lines (rotated (ps ++ two true e f qs))) (kept_lines (rotated (ps ++ one true g qs)))
  unfolding rotated
  rotated_two ps =
      let us : List Part = ps ++ two true e f qs in
      let vs : List Part = ps ++ one true g qs in
      rw (last_either e f g true ps qs, kept_append (drop (lead (last_kept vs) us) us), kept_append (drop (lead (last_kept vs) vs) vs))
      (by (side_two (last_kept vs) ps))
    where
      by : {k l : ℕ} → EitherSide e f g (ps ++ two true e f qs) (ps ++ one true g qs) k l
          → TwoForOne e f g (kept_lines (drop k (ps ++ two true e f qs)) ++ kept_lines (take k (ps ++ two true e f qs)))
          (kept_lines (drop l (ps ++ one true g qs)) ++ kept_lines (take l (ps ++ one true g qs)))
      by {k} {l} (from_there x y) = rw y (more_behind (kept_lines (take l (ps ++ one true g qs))) x)
      by {k} {l} (before_it x y) = rw x (more_ahead (kept_lines (drop l (ps ++ one true g qs))) y)

-- joined, they are joined to the others as the one is
module _ (e f : Edge) (meet : same_point e.b f.a ≡ true) where
  onward_two : (start last : Point) (xs ys : List Edge)
      → TwoForOne e f (across_both e f) (onward start last (xs ++ (e ∷ f ∷ ys))) (onward start last (xs ++ (across_both e f ∷ ys)))
  unfolding onward joint
  onward_two start last [] ys = record { ahead = joint last e.a; behind = onward start f.b ys; both = rw meet; instead = refl }
  onward_two start last (x ∷ xs) ys = more_ahead (joint last x.a) (more_ahead (x ∷ []) (onward_two start x.b xs ys))

  two_joined : (xs ys : List Edge) → TwoForOne e f (across_both e f) (joined (xs ++ (e ∷ f ∷ ys))) (joined (xs ++ (across_both e f ∷ ys)))
  unfolding joined onward joint
  two_joined [] ys = record { ahead = []; behind = onward e.a f.b ys; both = rw meet; instead = refl }
  two_joined (x ∷ xs) ys = more_ahead (x ∷ []) (onward_two x.a x.b xs ys)

  joined_two : {us vs : List Edge} → TwoForOne e f (across_both e f) us vs → TwoForOne e f (across_both e f) (joined us) (joined vs)
  joined_two h = rw (h.both, h.instead) (two_joined h.ahead h.behind)

some_in : (ps qs : List Part) (g : Edge) → any (λ p. p.kept) (ps ++ one true g qs) ≡ true
unfolding any fold
some_in ps qs g =
    any_append (λ p. p.kept) ps (one true g qs)
    ∙ ap (λ b. any (λ p. p.kept) ps || b) (any_append (λ p. p.kept) (one true g []) qs)
    ∙ or_last (any (λ p. p.kept) ps)

-- KEPT NEIGHBOURS stand in the clipped list where the one does
pub kept_as_one : (s : HalfPlane) (e f : Edge) (xs ys : List Edge) → BothKept s e f
    → TwoForOne e f (across_both e f) (clip_of s (xs ++ (e ∷ f ∷ ys))) (clip_of s (xs ++ (across_both e f ∷ ys)))
kept_as_one s e f xs ys h =
    let g : Edge = across_both e f in
    let us : List Part = parts s xs ++ two true e f (parts s ys) in
    let vs : List Part = parts s xs ++ one true g (parts s ys) in
    rw (
      clip_chosen s (xs ++ (e ∷ f ∷ ys)) us (parts_two s true e f xs ys h.first h.second),
      clip_chosen s (xs ++ (g ∷ ys)) vs (parts_one s true g xs ys h.across),
      any_either e f g true (parts s xs) (parts s ys) not,
      any_either e f g true (parts s xs) (parts s ys) (λ b. b),
      some_in (parts s xs) (parts s ys) g,
    )
    (by (any (λ p. not p.kept) vs) (joined_two e f h.meet (rotated_two e f g (parts s ys) (parts s xs))))
  where
    by : {us vs : List Edge} (b : Bool) → TwoForOne e f (across_both e f) us vs
        → TwoForOne e f (across_both e f) (cond (not b) (xs ++ (e ∷ f ∷ ys)) us) (cond (not b) (xs ++ (across_both e f ∷ ys)) vs)
    by true k = k
    by false k = record { ahead = xs; behind = ys; both = refl; instead = refl }

-- ---- THE TWO CLIPS of a list with neighbours drawn as one: the first gives k lines less, and the second the same
pub record SameClips (low high : HalfPlane) (k : ℕ) (es fs : List Edge) : Type 0 where
  pub longer_by : length (clip_of low es) ≡ k + length (clip_of low fs)
  pub same_list : clip_of high (clip_of low es) ≡ clip_of high (clip_of low fs)

one_shorter : {e f g : Edge} {us vs : List Edge} → TwoForOne e f g us vs → length us ≡ suc (length vs)
one_shorter {e} {f} {g} h =
    let a = ap length h.both ∙ length-append h.ahead (e ∷ f ∷ h.behind) in
    let b = ap length h.instead ∙ length-append h.ahead (g ∷ h.behind) in
    omega (arith, a, b)

pub shortened_clips : {low high : HalfPlane} {k : ℕ} {es fs : List Edge} → Shortened low high k es fs → SameClips low high k es fs
shortened_clips as_it_is = record { longer_by = omega arith; same_list = refl }
shortened_clips {low} {high} {k} (outside_low xs ys {e} {f} d h) =
    let c = shortened_clips h in
    let same = dropped_as_one low e f xs ys d in
    record { longer_by = c.longer_by ∙ ap (λ fs. k + length fs) same; same_list = c.same_list ∙ ap (clip_of high) same }
shortened_clips {low} {high} (outside_high xs ys {e} {f} p d h) =
    let c = shortened_clips h in
    let b = kept_as_one low e f xs ys p in
    let n = one_shorter b in
    record {
      longer_by = omega (arith, c.longer_by, n);
      same_list = c.same_list ∙ ap (clip_of high) b.both ∙ dropped_as_one high e f b.ahead b.behind d ∙ sym (ap (clip_of high) b.instead);
    }

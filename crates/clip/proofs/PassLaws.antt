-- The two passes over the lines are the clip over the list of all parts; a clip that keeps every part is the list itself, and one that keeps none is empty. Assumes nothing.
use mathlib.Core.Path.{◌≡◌, refl, sym, ap, ◌∙◌}
use mathlib.Core.List.{List, [], ◌∷◌, ◌++◌, append_assoc, append-nil, flat_map}
use mathlib.Core.Bool.{Bool, true, false, not, ◌&&◌, ◌||◌, cond, true≢false}
use Prim.Native.Nat.{ℕ, suc, ◌<◌}
use native.Mathlib.Omega.{arith}
use lib.ListN.{length, take, drop}
use lib.Ieee.{Float, eq}
use Rattle.std.proofs.Common.{Some, None}
use Rattle.std.specs.Option.{is_some}
use Rattle.boundary.specs.declared.Point.{Point}
use Rattle.boundary.specs.declared.Edge.{Edge}
use Rattle.lists.specs.Lists.{fold, any}
use Rattle.boundary.specs.Line.{along_of}
use Rattle.number.specs.Exact.{zeroᶠ, one}
use Rattle.clip.specs.declared.HalfPlane.{HalfPlane}
use Rattle.clip.specs.declared.Marks.{Marks}
use Rattle.clip.specs.Clip.{point_along, coord_of, in_half_plane, crossing, crosses, Part, part_of, parts_of, parts, lead, last_kept, rotated, kept_lines, joint, onward, joined, clip_of}
use Rattle.clip.specs.Passes.{mark_at, uncut_of, marks_between, marks_of, first_part, last_part, comes_in, start_line, Path, followed, step_of, nothing, closed_path, traced}
use Rattle.lists.proofs.FoldLaws.{any_from, any_append, fold_append}

-- ---- the parts of one line
abbrev blocks : Bool → Bool → Bool → Edge → Edge → List Part
blocks c f a x y = cond c (record { line = x; kept = f } ∷ record { line = y; kept = a } ∷ []) (record { line = x; kept = f } ∷ [])

coord_at : (y : Bool) (e : Edge) (u : Float) → cond y (point_along e u).y (point_along e u).x ≡ along_of (cond y e.a.y e.a.x) (cond y e.b.y e.b.x) u
unfolding point_along
coord_at true e u = refl
coord_at false e u = refl

inside_at : (s : HalfPlane) (e : Edge) (u : Float) → in_half_plane s (point_along e u) ≡ mark_at s (coord_of s e.a) (coord_of s e.b) u
unfolding in_half_plane mark_at
inside_at s e u = rw (coord_at s.y e u)

abbrev two : Bool → Float → Bool → Bool → Bool → Marks
two c u f a w = cond c (record { cut = Some u; start_kept = f; end_kept = a }) (record { cut = None; start_kept = w; end_kept = w })

two_parts : (e : Edge) (c : Bool) (u : Float) (f a w : Bool)
    → cond c (record { line = record { a = point_along e zeroᶠ; b = point_along e u }; kept = f } ∷ record { line = record { a = point_along e u; b = point_along e one }; kept = a } ∷ []) (record { line = e; kept = w } ∷ [])
    ≡ blocks (is_some (two c u f a w).cut) (two c u f a w).start_kept (two c u f a w).end_kept (first_part (two c u f a w) e) (last_part (two c u f a w) e)
unfolding point_along along_of eq first_part last_part
two_parts e true u f a w = refl
two_parts e false u f a w = refl

two_whole : (c : Bool) (u : Float) (f a w : Bool) → is_some (two c u f a w).cut ≡ false → (two c u f a w).end_kept ≡ (two c u f a w).start_kept
two_whole true u f a w e = absurd (true≢false e)
two_whole false u f a w e = refl

abbrev marks : HalfPlane → Edge → List Part
marks s e = let m = marks_of s e in blocks (is_some m.cut) m.start_kept m.end_kept (first_part m e) (last_part m e)

pub parts_marks : (s : HalfPlane) (e : Edge) → parts_of s e ≡ marks s e
unfolding parts_of part_of marks_of marks_between uncut_of crosses
parts_marks s e = simp inside_at (two_parts e (crosses s e) (crossing s e) _ _ _)

-- a line that is not cut has one mark
whole : (s : HalfPlane) (e : Edge) → is_some (marks_of s e).cut ≡ false → (marks_of s e).end_kept ≡ (marks_of s e).start_kept
unfolding marks_of marks_between uncut_of crosses
whole s e = two_whole (crosses s e) (crossing s e) _ _ _

-- ---- whether some part has a mark
-- of a line: where its first or its last part has it
any_blocks : (q : Bool → Bool) (x y : Edge) (c f a : Bool) → (c ≡ false → a ≡ f) → any (λ p. q p.kept) (blocks c f a x y) ≡ q f || q a
unfolding any fold
any_blocks q x y true f a h = refl
any_blocks q x y false f a h = rw (h refl) (by (q f))
  where
    by : (b : Bool) → b ≡ b || b
    by true = refl
    by false = refl

module _ (s : HalfPlane) where
  pub parts_cons : (e : Edge) (es : List Edge) → parts s (e ∷ es) ≡ marks s e ++ parts s es
  unfolding parts flat_map
  parts_cons e es = rw (parts_marks s e)

  pub any_parts : (q : Bool → Bool) (e : Edge) (es : List Edge)
      → any (λ p. q p.kept) (parts s (e ∷ es)) ≡ (q (marks_of s e).start_kept || q (marks_of s e).end_kept) || any (λ p. q p.kept) (parts s es)
  any_parts q e es =
      ap (any (λ p. q p.kept)) (parts_cons e es)
      ∙ any_append (λ p. q p.kept) (marks s e) (parts s es)
      ∙ ap (λ b. b || any (λ p. q p.kept) (parts s es)) (any_blocks q _ _ _ _ _ (whole s e))

-- ---- what the first pass tells
last_from : Bool → List Part → Bool
last_from b ps = fold (λ b p. p.kept) b ps

last_blocks : (x y : Edge) (b c f a : Bool) → (c ≡ false → a ≡ f) → last_from b (blocks c f a x y) ≡ a
unfolding last_from fold
last_blocks x y b true f a h = refl
last_blocks x y b false f a h = sym (h refl)

-- where no part is kept, the last is not
none_last : (ps : List Part) → any (λ p. p.kept) ps ≡ false → last_from false ps ≡ false
unfolding last_from any fold
none_last [] h = refl
none_last (p ∷ ps) h = by p.kept h (none_last ps)
  where
    by : (b : Bool) → fold (λ c x. c || x.kept) b ps ≡ false → (any (λ p. p.kept) ps ≡ false → last_from false ps ≡ false) → last_from b ps ≡ false
    by true k rest = absurd (true≢false (sym (any_from (λ p. p.kept) true ps) ∙ k))
    by false k rest = rest k

-- where the last is kept, there is one
some_last : (ps : List Part) → last_kept ps ≡ true → last_from true ps ≡ true
unfolding last_kept last_from fold
some_last [] h = absurd (true≢false (sym h))
some_last (p ∷ ps) h = h

module _ (s : HalfPlane) where
  last_cons : (b : Bool) (e : Edge) (es : List Edge) → last_from b (parts s (e ∷ es)) ≡ last_from (marks_of s e).end_kept (parts s es)
  unfolding last_from
  last_cons b e es =
      ap (fold (λ b p. p.kept) b) (parts_cons s e es)
      ∙ fold_append (λ b p. p.kept) b (marks s e) (parts s es)
      ∙ ap (λ c. fold (λ b p. p.kept) c (parts s es)) (last_blocks _ _ b (is_some (marks_of s e).cut) (marks_of s e).start_kept (marks_of s e).end_kept (whole s e))

  -- no line comes in after a part that is not kept: none is kept
  pub no_entry_out : (es : List Edge) → start_line s false es ≡ length es → any (λ p. p.kept) (parts s es) ≡ false
  unfolding start_line any fold parts flat_map
  no_entry_out [] h = refl
  no_entry_out (e ∷ es) h = any_parts s (λ b. b) e es ∙ by (marks_of s e).start_kept (marks_of s e).end_kept (no_entry_out es) h
    where
      by : (f a : Bool) → (start_line s false es ≡ length es → any (λ p. p.kept) (parts s es) ≡ false)
          → cond (comes_in false (record { cut = None; start_kept = f; end_kept = a })) 0 (suc (start_line s a es)) ≡ suc (length es) → (f || a) || any (λ p. p.kept) (parts s es) ≡ false
      by true a rest k = absurd (omega arith)
      by false true rest k = absurd (omega arith)
      by false false rest k = rest (omega arith)

  -- nor after one that is, and the last is kept: all are
  no_entry_in : (es : List Edge) → start_line s true es ≡ length es → last_from true (parts s es) ≡ true → any (λ p. not p.kept) (parts s es) ≡ false
  unfolding start_line any fold parts flat_map
  no_entry_in [] h l = refl
  no_entry_in (e ∷ es) h l = any_parts s not e es ∙ by (marks_of s e).start_kept (marks_of s e).end_kept (no_entry_in es) h (sym (last_cons true e es) ∙ l)
    where
      out : start_line s false es ≡ length es → last_from false (parts s es) ≡ true → ⊥
      out h l = true≢false (sym l ∙ none_last (parts s es) (no_entry_out es h))

      by : (f a : Bool) → (start_line s true es ≡ length es → last_from true (parts s es) ≡ true → any (λ p. not p.kept) (parts s es) ≡ false)
          → cond (comes_in true (record { cut = None; start_kept = f; end_kept = a })) 0 (suc (start_line s a es)) ≡ suc (length es) → last_from a (parts s es) ≡ true
          → (not f || not a) || any (λ p. not p.kept) (parts s es) ≡ false
      by true true rest k l = rest (omega arith) l
      by true false rest k l = absurd (out (omega arith) l)
      by false true rest k l = absurd (omega arith)
      by false false rest k l = absurd (out (omega arith) l)

  pub no_entry_kept : (es : List Edge) → start_line s true es ≡ length es → last_kept (parts s es) ≡ true → any (λ p. not p.kept) (parts s es) ≡ false
  no_entry_kept es h l = no_entry_in es h (some_last (parts s es) l)

  -- a line comes in: a part of it is kept, and one before it is not
  pub first_entry : (b : Bool) (es : List Edge) → start_line s b es < length es → (any (λ p. p.kept) (parts s es) ≡ true) × (b ≡ true → any (λ p. not p.kept) (parts s es) ≡ true)
  unfolding start_line
  first_entry b [] h = absurd (omega arith)
  first_entry b (e ∷ es) h = rw (any_parts s (λ b. b) e es, any_parts s not e es) (by b (marks_of s e).start_kept (marks_of s e).end_kept (λ c. first_entry c es) h)
    where
      by : (b f a : Bool) → ((c : Bool) → start_line s c es < length es → (any (λ p. p.kept) (parts s es) ≡ true) × (c ≡ true → any (λ p. not p.kept) (parts s es) ≡ true))
          → cond (comes_in b (record { cut = None; start_kept = f; end_kept = a })) 0 (suc (start_line s a es)) < suc (length es)
          → ((f || a) || any (λ p. p.kept) (parts s es) ≡ true) × (b ≡ true → (not f || not a) || any (λ p. not p.kept) (parts s es) ≡ true)
      by false true a rest k = (refl, λ e. absurd (true≢false (sym e)))
      by true true true rest k = (refl, λ e. (rest true (omega arith)).1 refl)
      by true true false rest k = (refl, λ e. refl)
      by b false true rest k = (refl, λ e. refl)
      by b false false rest k = ((rest false (omega arith)).0, λ e. refl)

-- ---- the kept lines from the first that comes in on, by parts and by lines
pub kept_append : (ps qs : List Part) → kept_lines (ps ++ qs) ≡ kept_lines ps ++ kept_lines qs
unfolding kept_lines flat_map
kept_append [] qs = refl
kept_append (p ∷ ps) qs = rw (kept_append ps qs) (sym (append_assoc (cond p.kept (p.line ∷ []) []) (kept_lines ps) (kept_lines qs)))

-- xs and ys are the kept lines from there on and before it
record Turned (ps : List Part) (k : ℕ) (xs ys : List Edge) : Type 0 where
  after : kept_lines (drop k ps) ≡ xs
  front : kept_lines (take k ps) ≡ ys

module _ (x y : Edge) (qs : List Part) (xs ys : List Edge) where
  abbrev AtLine : Bool → Bool → Bool → Bool → Type 0
  AtLine b c f a = Turned (blocks c f a x y ++ qs) (lead b (blocks c f a x y ++ qs))
      (cond ((f && not b) || (a && not f)) (kept_lines (blocks c f a x y ++ qs)) xs) (cond ((f && not b) || (a && not f)) [] (kept_lines (blocks c f a x y) ++ ys))

  turned_whole : (b f : Bool) → Turned qs (lead f qs) xs ys → AtLine b false f f
  unfolding lead kept_lines flat_map
  turned_whole false true h = record { after = refl; front = refl }
  turned_whole true true h = record { after = h.after; front = rw h.front }
  turned_whole b false h = record { after = h.after; front = h.front }

  turned_blocks : (b c f a : Bool) → (c ≡ false → a ≡ f) → Turned qs (lead a qs) xs ys → AtLine b c f a
  unfolding lead kept_lines flat_map
  turned_blocks false true true a w h = record { after = refl; front = refl }
  turned_blocks true true true true w h = record { after = h.after; front = rw h.front }
  turned_blocks true true true false w h = record { after = h.after; front = rw h.front }
  turned_blocks b true false true w h = record { after = refl; front = refl }
  turned_blocks b true false false w h = record { after = h.after; front = h.front }
  turned_blocks b false f a w h = rw (w refl) (turned_whole b f (rw (w refl) at h))

module _ (s : HalfPlane) where
  drop_to : (e : Edge) (es : List Edge) (j : ℕ) (c : Bool) → kept_lines (parts s (drop (cond c 0 (suc j)) (e ∷ es))) ≡ cond c (kept_lines (marks s e ++ parts s es)) (kept_lines (parts s (drop j es)))
  drop_to e es j true = ap kept_lines (parts_cons s e es)
  drop_to e es j false = refl

  take_to : (e : Edge) (es : List Edge) (j : ℕ) (c : Bool) → kept_lines (parts s (take (cond c 0 (suc j)) (e ∷ es))) ≡ cond c [] (kept_lines (marks s e) ++ kept_lines (parts s (take j es)))
  unfolding parts flat_map kept_lines
  take_to e es j true = refl
  take_to e es j false = ap kept_lines (parts_cons s e (take j es)) ∙ kept_append (marks s e) (parts s (take j es))

  abbrev TurnedAt : Bool → List Edge → Type 0
  TurnedAt b es = Turned (parts s es) (lead b (parts s es)) (kept_lines (parts s (drop (start_line s b es) es))) (kept_lines (parts s (take (start_line s b es) es)))

  turned_none : (b : Bool) → TurnedAt b []
  unfolding start_line parts lead flat_map
  turned_none b = record { after = refl; front = refl }

  turned_cons : (b : Bool) (e : Edge) (es : List Edge) → TurnedAt (marks_of s e).end_kept es → TurnedAt b (e ∷ es)
  unfolding start_line
  turned_cons b e es h =
      let j : ℕ = start_line s (marks_of s e).end_kept es in
      let c : Bool = comes_in b (marks_of s e) in
      let k = turned_blocks (first_part (marks_of s e) e) (last_part (marks_of s e) e) (parts s es) _ _ b (is_some (marks_of s e).cut) (marks_of s e).start_kept (marks_of s e).end_kept (whole s e) h in
      rw (parts_cons s e es) (record { after = k.after ∙ sym (drop_to e es j c); front = k.front ∙ sym (take_to e es j c) })

  turned_lines : (b : Bool) (es : List Edge) → TurnedAt b es
  turned_lines b [] = turned_none b
  turned_lines b (e ∷ es) = turned_cons b e es (turned_lines (marks_of s e).end_kept es)

-- ---- the second pass: the path of the lines is that of their kept parts
write : Path → Edge → Path
write t e = followed t e true

path_blocks : (t : Path) (x y : Edge) (c f a : Bool) → followed (followed t x f) y (c && a) ≡ fold write t (kept_lines (blocks c f a x y))
unfolding write fold kept_lines flat_map followed
path_blocks t x y true true true = refl
path_blocks t x y true true false = refl
path_blocks t x y true false true = refl
path_blocks t x y true false false = refl
path_blocks t x y false true a = refl
path_blocks t x y false false a = refl

module _ (s : HalfPlane) where
  path_lines : (t : Path) (es : List Edge) → fold (step_of s) t es ≡ fold write t (kept_lines (parts s es))
  unfolding fold step_of parts flat_map kept_lines
  path_lines t [] = refl
  path_lines t (e ∷ es) =
      let ps : List Part = marks s e in
      path_lines (step_of s t e) es
      ∙ ap (λ u. fold write u (kept_lines (parts s es))) (path_blocks t _ _ (is_some (marks_of s e).cut) (marks_of s e).start_kept (marks_of s e).end_kept)
      ∙ sym (fold_append write t (kept_lines ps) (kept_lines (parts s es)))
      ∙ sym (ap (fold write t) (ap kept_lines (parts_cons s e es) ∙ kept_append ps (parts s es)))

-- closed, it is the joined lines
closed_onward : (start last : Point) (out es : List Edge) → closed_path (fold write (record { ends = Some (record { start = start; last = last }); out = out }) es) ≡ out ++ onward start last es
unfolding closed_path fold write followed onward
closed_onward start last out [] = refl
closed_onward start last out (e ∷ es) = closed_onward start e.b ((out ++ joint last e.a) ++ (e ∷ [])) es ∙ simp append_assoc

closed_joined : (es : List Edge) → closed_path (fold write nothing es) ≡ joined es
unfolding closed_path fold write followed joined
closed_joined [] = refl
closed_joined (e ∷ es) = closed_onward e.a e.b (e ∷ []) es

module _ (s : HalfPlane) where
  -- the path from the first line that comes in on, where b is the mark of the last part
  pub traced_rotated : (es : List Edge) (b : Bool) → last_kept (parts s es) ≡ b
      → traced s (drop (start_line s b es) es) (take (start_line s b es) es) ≡ joined (kept_lines (rotated (parts s es)))
  unfolding traced rotated
  traced_rotated es b h =
      let fs : List Edge = drop (start_line s b es) es in
      let gs : List Edge = take (start_line s b es) es in
      let t = turned_lines s b es in
      rw (h, path_lines s nothing fs, path_lines s (fold write nothing (kept_lines (parts s fs))) gs, ← fold_append write nothing (kept_lines (parts s fs)) (kept_lines (parts s gs)), closed_joined, kept_append (drop (lead b (parts s es)) (parts s es)), t.after, t.front)

  pub parts_append : (es fs : List Edge) → parts s (es ++ fs) ≡ parts s es ++ parts s fs
  unfolding parts flat_map
  parts_append [] fs = refl
  parts_append (e ∷ es) fs = rw (parts_append es fs) (sym (append_assoc (parts_of s e) (parts s es) (parts s fs)))

  parts_one : (e : Edge) → parts s (e ∷ []) ≡ marks s e
  unfolding parts flat_map
  parts_one e = append-nil (parts_of s e) ∙ parts_marks s e

  -- the mark of the last part is that of the last line
  pub last_line : (es : List Edge) (e : Edge) → last_kept (parts s (es ++ (e ∷ []))) ≡ (marks_of s e).end_kept
  unfolding last_kept last_from
  last_line es e =
      rw (parts_append es (e ∷ []), parts_one e, fold_append (λ b p. p.kept) false (parts s es) (marks s e))
      (last_blocks _ _ _ (is_some (marks_of s e).cut) (marks_of s e).start_kept (marks_of s e).end_kept (whole s e))

  -- where it is not kept, some part is not
  pub last_dropped : (es : List Edge) (e : Edge) → (marks_of s e).end_kept ≡ false → any (λ p. not p.kept) (parts s (es ++ (e ∷ []))) ≡ true
  last_dropped es e h =
      rw (parts_append es (e ∷ []), parts_one e, any_append (λ p. not p.kept) (parts s es) (marks s e), any_blocks not (first_part (marks_of s e) e) (last_part (marks_of s e) e) _ _ _ (whole s e), h)
      (by (any (λ p. not p.kept) (parts s es)) (not (marks_of s e).start_kept))
    where
      by : (a b : Bool) → a || (b || true) ≡ true
      by true b = refl
      by false true = refl
      by false false = refl

  -- ---- the three cases of the clip
  pub clip_all : (es : List Edge) → any (λ p. not p.kept) (parts s es) ≡ false → clip_of s es ≡ es
  unfolding clip_of
  clip_all es h = rw h

  pub clip_some : (es : List Edge) → any (λ p. not p.kept) (parts s es) ≡ true → any (λ p. p.kept) (parts s es) ≡ true → clip_of s es ≡ joined (kept_lines (rotated (parts s es)))
  unfolding clip_of
  clip_some es h k = rw (h, k)

  -- a line has a part, which is kept or not
  some_part : (es : List Edge) → any (λ p. not p.kept) (parts s es) ≡ false → any (λ p. p.kept) (parts s es) ≡ false → es ≡ []
  some_part [] h k = refl
  some_part (e ∷ es) h k = absurd (by (marks_of s e).start_kept _ _ _ _ (rw (any_parts s not e es) at h) (rw (any_parts s (λ b. b) e es) at k))
    where
      by : (f a b c d : Bool) → (not f || a) || b ≡ false → (f || c) || d ≡ false → ⊥
      by true a b c d h k = true≢false k
      by false a b c d h k = true≢false h

  pub clip_none : (es : List Edge) → any (λ p. p.kept) (parts s es) ≡ false → clip_of s es ≡ []
  unfolding clip_of
  clip_none es k = by (any (λ p. not p.kept) (parts s es)) refl
    where
      by : (d : Bool) → any (λ p. not p.kept) (parts s es) ≡ d → cond (not d) es (cond (not (any (λ p. p.kept) (parts s es))) [] (joined (kept_lines (rotated (parts s es))))) ≡ []
      by true h = rw k
      by false h = some_part es h k

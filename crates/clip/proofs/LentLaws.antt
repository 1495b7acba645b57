-- Lines in a list of numbers: those of a part of it, and what stands there once a line is written. Assumes nothing.
use mathlib.Core.Path.{◌≡◌, refl, ap, ◌∙◌}
use mathlib.Core.List.{List, [], ◌∷◌, ◌++◌, append-nil}
use mathlib.Core.Bool.{Bool, true, false, cond}
use Prim.Native.Nat.{ℕ, ◌+◌, ◌*◌, ◌≤◌, ◌<◌}
use native.Mathlib.Numerals.{add-one}
use native.Mathlib.Omega.{arith}
use Rattle.std.proofs.lemmas.List.{get_or-take}
use lib.ListN.{length, get_or, set, take, drop, length-append, length-set}
use lib.Seq.{get_or-set_same, get_or-set_other, get_or-drop, drop-set-lt}
use lib.Ieee.{Float, nan}
use Rattle.boundary.specs.declared.Edge.{Edge}
use Rattle.lists.proofs.RunLaws.{run_last, run_same, length_run}
use Rattle.lists.specs.Lists.{run}
use Rattle.clip.specs.declared.PathEnds.{PathEnds}
use Rattle.clip.specs.declared.State.{State}
use Rattle.std.proofs.Common.{Some, None, not}
use Rattle.boundary.specs.declared.Point.{Point}
use Rattle.boundary.specs.Outline.{same_point}
use Rattle.clip.specs.Clip.{joint}
use Rattle.clip.specs.Passes.{Path, if_on, joint_to, moved_of, followed, nothing, closing, closed_path}
use Rattle.clip.specs.Lent.{line_at, line_in, lines_from, put_at, Holds, Tracks}

-- ---- the lines of a part of a list, as they stand in the list
module _ (w v : List Float) (from k : ℕ) (h : (i : ℕ) → i < 4 * k → get_or v i nan ≡ get_or w (from + i) nan) where
  part_line : (i : ℕ) → i < k → line_in v 0 i ≡ line_in w from i
  part_line i l =
      let at : (d : ℕ) → d < 4 → get_or v (0 + 4 * i + d) nan ≡ get_or w (from + 4 * i + d) nan = λ d m. h (0 + 4 * i + d) (omega arith) ∙ ap (λ (j : ℕ). get_or w j nan) (omega arith) in
      let z : get_or v (0 + 4 * i) nan ≡ get_or w (from + 4 * i) nan = h (0 + 4 * i) (omega arith) ∙ ap (λ (j : ℕ). get_or w j nan) (omega arith) in
      rw (z, at 1 (omega arith), at 2 (omega arith), at 3 (omega arith))

  pub part_lines : (i m : ℕ) → i + m ≤ k → lines_from v 0 i m ≡ lines_from w from i m
  part_lines i m l = run_same (line_in v 0) (line_in w from) i m (λ j q. part_line j (omega arith))

pub first_line : (w : List Float) (i : ℕ) → line_at w (4 * i) ≡ line_in w 0 i
first_line w i = let e : 4 * i ≡ 0 + 4 * i = omega arith in ap (line_at w) e

pub slice_at : (w : List Float) (from m i : ℕ) → i < m → get_or (take m (drop from w)) i nan ≡ get_or w (from + i) nan
slice_at w from m i l = get_or-take m (drop from w) i nan l ∙ get_or-drop from w i nan

-- ---- a list of lines grows at its end
put_line : (w : List Float) (o : ℕ) (e : Edge) → o + 4 ≤ length w → line_at (put_at w o e) o ≡ e
put_line w o e l =
    let w1 : List Float = set w o e.a.x in
    let w2 : List Float = set w1 (o + 1) e.a.y in
    let w3 : List Float = set w2 (o + 2) e.b.x in
    let n1 : length w1 ≡ length w = length-set w o e.a.x in
    let n2 : length w2 ≡ length w1 = length-set w1 (o + 1) e.a.y in
    let n3 : length w3 ≡ length w2 = length-set w2 (o + 2) e.b.x in
    rw (
      get_or-set_other w3 (o + 3) o e.b.y nan (λ z. omega arith),
      get_or-set_other w2 (o + 2) o e.b.x nan (λ z. omega arith),
      get_or-set_other w1 (o + 1) o e.a.y nan (λ z. omega arith),
      get_or-set_same w o e.a.x nan (omega arith),
      get_or-set_other w3 (o + 3) (o + 1) e.b.y nan (λ z. omega arith),
      get_or-set_other w2 (o + 2) (o + 1) e.b.x nan (λ z. omega arith),
      get_or-set_same w1 (o + 1) e.a.y nan (omega arith),
      get_or-set_other w3 (o + 3) (o + 2) e.b.y nan (λ z. omega arith),
      get_or-set_same w2 (o + 2) e.b.x nan (omega arith),
      get_or-set_same w3 (o + 3) e.b.y nan (omega arith),
    )

-- what stands before a line that is stored
put_other : (w : List Float) (o j : ℕ) (e : Edge) → j < o → get_or (put_at w o e) j nan ≡ get_or w j nan
put_other w o j e l =
    let w1 : List Float = set w o e.a.x in
    let w2 : List Float = set w1 (o + 1) e.a.y in
    let w3 : List Float = set w2 (o + 2) e.b.x in
    get_or-set_other w3 (o + 3) j e.b.y nan (λ z. omega arith)
    ∙ get_or-set_other w2 (o + 2) j e.b.x nan (λ z. omega arith)
    ∙ get_or-set_other w1 (o + 1) j e.a.y nan (λ z. omega arith)
    ∙ get_or-set_other w o j e.a.x nan (λ z. omega arith)

-- what stands after it
pub put_below : (w : List Float) (o n : ℕ) (e : Edge) → o + 4 ≤ n → drop n (put_at w o e) ≡ drop n w
put_below w o n e l =
    let w1 : List Float = set w o e.a.x in
    let w2 : List Float = set w1 (o + 1) e.a.y in
    let w3 : List Float = set w2 (o + 2) e.b.x in
    drop-set-lt n w3 (o + 3) e.b.y (omega arith)
    ∙ drop-set-lt n w2 (o + 2) e.b.x (omega arith)
    ∙ drop-set-lt n w1 (o + 1) e.a.y (omega arith)
    ∙ drop-set-lt n w o e.a.x (omega arith)

line_before : (w : List Float) (to n i : ℕ) (e : Edge) → i < n → line_in (put_at w (to + 4 * n) e) to i ≡ line_in w to i
line_before w to n i e l =
    let v : List Float = put_at w (to + 4 * n) e in
    let at : (j : ℕ) → j < to + 4 * n → get_or v j nan ≡ get_or w j nan = λ j h. put_other w (to + 4 * n) j e h in
    rw (at (to + 4 * i) (omega arith), at (to + 4 * i + 1) (omega arith), at (to + 4 * i + 2) (omega arith), at (to + 4 * i + 3) (omega arith))

grown : (w : List Float) (to n : ℕ) (e : Edge) → to + 4 * n + 4 ≤ length w → lines_from (put_at w (to + 4 * n) e) to 0 (n + 1) ≡ lines_from w to 0 n ++ (e ∷ [])
grown w to n e l =
    let v : List Float = put_at w (to + 4 * n) e in
    let z : 0 + n ≡ n = omega arith in
    let same : lines_from v to 0 n ≡ lines_from w to 0 n = run_same (line_in v to) (line_in w to) 0 n (λ i h. line_before w to n i e (omega arith)) in
    rw (add-one n, run_last (line_in v to) 0 n, z, put_line w (to + 4 * n) e l, same)

-- the n lines at the front of a list stand there
pub front_lines : (room : ℕ) (w : List Float) (n : ℕ) → Holds 0 room w n (lines_from w 0 0 n)
front_lines room w n = record { count = length_run (line_in w 0) 0 n; list = λ l. refl }

-- ---- the ways in which `emit` goes
module _ {to room : ℕ} {w : List Float} {n : ℕ} {es : List Edge} (h : Holds to room w n es) where
  pub off : Holds to room w n (es ++ [])
  off = rw (append-nil es) h

  longer : (e : Edge) → length (es ++ (e ∷ [])) ≡ n + 1
  longer e = omega (arith, length-append es (e ∷ []), h.count)

  pub beyond_room : (e : Edge) → room ≤ n → Holds to room w (n + 1) (es ++ (e ∷ []))
  beyond_room e r = record { count = longer e; list = λ k. absurd (omega arith) }

  pub on : (e : Edge) → n < room → to + 4 * room ≤ length w → Holds to room (put_at w (to + 4 * n) e) (n + 1) (es ++ (e ∷ []))
  on e r f = record { count = longer e; list = λ k. grown w to n e (omega arith) ∙ ap (λ (fs : List Edge). fs ++ (e ∷ [])) (h.list (omega arith)) }

pub one_le : (b : Bool) → cond b 1 0 ≤ 1
one_le true = omega arith
one_le false = omega arith

-- ---- a path goes on, begins, and is closed
pub if_joint : (p q : Point) → if_on (not (same_point p q)) (record { a = p; b = q }) ≡ joint p q
unfolding joint
if_joint p q = by (same_point p q)
  where
    by : (b : Bool) → if_on (not b) (record { a = p; b = q }) ≡ cond b [] (record { a = p; b = q } ∷ [])
    by true = refl
    by false = refl

pub path_kept : {to room : ℕ} {w v : List Float} {s : State} {t : Path} (h : Tracks to room w s t) (e : Edge) (ends : PathEnds) (n : ℕ) → ends ≡ moved_of s.ends e
    → Holds to room v n ((t.out ++ joint_to s.ends e.a) ++ (e ∷ [])) → Tracks to room v (record { ends = Some ends; at = n }) (followed t e true)
unfolding followed
path_kept h e ends n p k = record { ends = rw (p, h.ends); held = rw h.ends at k }

pub starts : {to room : ℕ} {w : List Float} {s : State} → s ≡ record { ends = None; at = 0 } → Tracks to room w s nothing
unfolding run
starts e = rw e (record { ends = refl; held = record { count = refl; list = λ l. refl } })

pub closes : {to room : ℕ} {w v : List Float} {s : State} {t : Path} (h : Tracks to room w s t) (n : ℕ) → Holds to room v n (t.out ++ closing s.ends) → Holds to room v n (closed_path t)
unfolding closed_path
closes h n k = rw h.ends at k

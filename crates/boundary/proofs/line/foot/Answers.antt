-- `boundary::line::foot` meets its contract: its branches are the choices of `param_of` and `along_of`. Assumes nothing.
use mathlib.Core.Path.{◌≡◌, sym, ◌∙◌}
use mathlib.Core.Bool.{true, false}
use lib.Ieee.{Float, binary64, of_bits, add, sub, mul, div, lt, eq}
use Rattle.number.specs.Exact.{zeroᶠ, one}
use Rattle.number.specs.Signs.{clamp_of}
use Rattle.boundary.specs.declared.Point.{Point}
use Rattle.boundary.specs.declared.Edge.{Edge}
use Rattle.boundary.specs.Line.{way_of, squares_of, param_of, along_of, ahead_of, foot_of}
use Rattle.boundary.proofs.line.foot.Goals as goal
use Rattle.boundary.proofs.line.foot.Goals.{then-l2+else-clamps_to_one+else-clamps_to_itself, else-l2}

-- how far p is along the edge, of its length
abbrev share_of : Edge → Point → Float
share_of e p =
    let w = way_of e in
    div binary64 (add binary64 (mul binary64 (sub binary64 p.x e.a.x) w.x) (mul binary64 (sub binary64 p.y e.a.y) w.y)) (squares_of w)

abbrev clamped : Edge → Point → Float
clamped e p = clamp_of (share_of e p) zeroᶠ one

module _ (e : Edge) (p : Point) where
  abbrev ahead_on : Float → Point
  ahead_on t = record { x = ahead_of e.a.x e.b.x t; y = ahead_of e.a.y e.b.y t }

  foot_end : lt zeroᶠ (squares_of (way_of e)) ≡ true → eq (clamped e p) one ≡ true → e.b ≡ foot_of e p
  unfolding foot_of param_of along_of
  foot_end h k = rw (h, k)

  foot_short : lt zeroᶠ (squares_of (way_of e)) ≡ true → eq (clamped e p) one ≡ false → (t : Float) → clamped e p ≡ t → ahead_on t ≡ foot_of e p
  unfolding foot_of param_of along_of
  foot_short h k t c = rw (h, k, c)

  -- an edge of no length has only its start
  foot_alone : lt zeroᶠ (squares_of (way_of e)) ≡ false → ahead_on zeroᶠ ≡ foot_of e p
  unfolding foot_of param_of along_of eq
  foot_alone h = rw h

pub returns-then-clamps_to_one : goal.returns-then-clamps_to_one
unfolding of_bits
returns-then-clamps_to_one c =
    let d = c in
    let q = d in
    let s = q.args in
    let len = rw (q.squares-l2.ensures, q.way-w.ensures) at d.if-l2.true in
    foot_end s.e s.p len (rw (q.squares-l2.ensures, q.way-w.ensures) at (sym c.clamps_to_one.ensures ∙ c.if-clamps_to_one.true))

pub returns-then-clamps_to_itself : goal.returns-then-clamps_to_itself
unfolding of_bits
returns-then-clamps_to_itself c =
    let b = c in
    let d = b in
    let q = d in
    let s = q.args in
    let len = rw (q.squares-l2.ensures, q.way-w.ensures) at d.if-l2.true in
    let short = rw (q.squares-l2.ensures, q.way-w.ensures) at (sym b.clamps_to_one.ensures ∙ b.if-clamps_to_one.false) in
    let own = rw (q.squares-l2.ensures, q.way-w.ensures) at (c.clamps_to_itself.ensures.0 c.if-clamps_to_itself.true) in
    rw (c.ahead.ensures, q.squares-l2.ensures, q.way-w.ensures) (foot_short s.e s.p len short (share_of s.e s.p) own)

pub returns : goal.returns
unfolding of_bits
returns c =
    let s = c.args in
    c.ahead-2.ensures
    ∙ elim c.if-l2.branch [
      | then-l2+else-clamps_to_one+else-clamps_to_itself w ↦
          foot_short s.e s.p (rw (c.squares-l2.ensures, c.way-w.ensures) at w.if-l2.true)
          (rw (c.squares-l2.ensures, c.way-w.ensures) at (sym w.clamps_to_one.ensures ∙ w.if-clamps_to_one.false)) zeroᶠ
          (rw (c.squares-l2.ensures, c.way-w.ensures) at (w.clamps_to_itself.ensures.1 w.if-clamps_to_itself.false))
      | else-l2 w ↦ foot_alone s.e s.p (rw (c.squares-l2.ensures, c.way-w.ensures) at w.if-l2.false)
    ]

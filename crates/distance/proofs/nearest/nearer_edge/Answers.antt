-- `distance::nearest::nearer_edge` meets its contract: an edge that is left out is not nearer, and squared distances that differ clearly tell which wins. Assumes nothing.
use mathlib.Core.Path.{sym, ◌∙◌}
use Rattle.boundary.specs.Line.{foot_of, line_near}
use Rattle.distance.specs.Search.{found_of, length_to}
use Rattle.boundary.proofs.KnownLaws.{owned_point, owned_edge}
use Rattle.distance.proofs.SearchLaws.{left_out, clear_farther, farther_loses, nearer_wins, near_finite}
use Rattle.distance.proofs.nearest.nearer_edge.Goals as goal

pub returns-then-best-gap_squares : goal.returns-then-best-gap_squares
returns-then-best-gap_squares c =
    let a = c.args in
    let far = rw (c.gap_squares.ensures, c.requires.3) at c.if-best-gap_squares.true in
    let E = owned_edge c.well_formed.1.0 c.requires.0 in
    let P = owned_point c.well_formed.1.1.1.0 c.requires.1 in
    let loses = farther_loses a.i (line_near a.e a.p).d a.best.i (length_to a.p a.best.q) (left_out E P a.best.q c.requires.2 far) in
    (rw loses, c.requires.2, near_finite E P)

pub returns-then-best-squares_to : goal.returns-then-best-squares_to
unfolding found_of line_near
returns-then-best-squares_to c =
    let s = c in
    let a = s.args in
    let far = rw (c.squares_to.ensures, c.found-f.ensures.0, s.requires.3) at c.if-best-squares_to.true in
    let loses = farther_loses a.i (line_near a.e a.p).d a.best.i (length_to a.p a.best.q) (clear_farther a.p a.best.q (foot_of a.e a.p) s.requires.2 c.found-f.ensures.1 far) in
    (rw loses, s.requires.2, c.found-f.ensures.2)

pub returns-then-f-squares_to : goal.returns-then-f-squares_to
unfolding found_of line_near
returns-then-f-squares_to c =
    let s = c in
    let a = s.args in
    let e = c.found-f.ensures in
    let far = rw (c.squares_to-2.ensures, e.0) at c.if-f-squares_to.true in
    let wins = nearer_wins a.i (line_near a.e a.p).d a.best.i (length_to a.p a.best.q) (clear_farther a.p (foot_of a.e a.p) a.best.q e.1 s.requires.2 far) in
    (rw (e.0, wins), rw e.0 e.1, e.2)

pub is_better-requires : goal.is_better-requires
unfolding found_of
is_better-requires c =
    (rw c.found-f.ensures.0 c.found-f.ensures.1, c.requires.2)

pub returns-then-is_better : goal.returns-then-is_better
unfolding found_of line_near
returns-then-is_better c =
    let f = c.found-f.ensures in
    let near = rw f.0 at (sym c.is_better.ensures ∙ c.if-is_better.true) in
    (rw (f.0, near), rw f.0 f.1, f.2)

pub returns : goal.returns
unfolding found_of line_near
returns c =
    let near = rw c.found-f.ensures.0 at (sym c.is_better.ensures ∙ c.if-is_better.false) in
    (rw near, c.requires.2, c.found-f.ensures.2)

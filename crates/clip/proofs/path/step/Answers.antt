-- `clip::path::step` meets its contract: a line that is not cut is its own first part, and has no second. Assumes nothing.
use Rattle.std.proofs.Common.{◌≡◌, ◌∙◌, Some, None, arith}
use lib.Ieee.{Float}
use Rattle.boundary.specs.declared.Edge.{Edge}
use Rattle.clip.specs.declared.HalfPlane.{HalfPlane}
use Rattle.clip.specs.declared.Marks.{Marks}
use Rattle.clip.specs.Passes.{marks_of, first_part, last_part, Path, followed, step_of}
use Rattle.clip.proofs.path.step.Goals as goal

-- the parts of a line that is not cut, and of one that is
uncut_step : (s : HalfPlane) (t : Path) (e : Edge) (m : Marks) → m ≡ marks_of s e → m.cut ≡ None → step_of s t e ≡ followed t e m.start_kept
unfolding step_of followed first_part
uncut_step s t e m h k = rw (← h, k)

cut_step : (s : HalfPlane) (t : Path) (e : Edge) (m : Marks) {u : Float} → m ≡ marks_of s e → m.cut ≡ Some u
    → step_of s t e ≡ followed (followed t (first_part m e) m.start_kept) (last_part m e) m.end_kept
unfolding step_of
cut_step s t e m h k = rw (← h, k)

pub returns-in-None : goal.returns-in-None
returns-in-None c =
    let m = c.marked-m in
    let a = c.args in
    (omega (arith, c.follow.ensures.0), c.follow.ensures.1, λ t h. rw (uncut_step a.side t a.e m.result m.ensures c.in-None.is) (c.follow.ensures.2 t h))

pub returns-in-Some : goal.returns-in-Some
returns-in-Some c =
    let m = c.marked-m in
    let a = c.args in
    let next = rw c.follow-a.auto.out at c.follow-in-Some.ensures in
    (omega (arith, c.follow-in-Some.ensures.0, c.follow-a.ensures.0), next.1 ∙ c.follow-a.ensures.1, λ t h. rw (cut_step a.side t a.e m.result m.ensures c.in-Some.is, ← c.second.ensures, ← c.first.ensures) (next.2 _ (c.follow-a.ensures.2 t h)))

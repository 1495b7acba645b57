-- `boxes::widen` meets its contract: the boxes so far stand at the front, and so do their centres' coordinates. Assumes nothing.
use Rattle.boundary.specs.Boxes.{widened_of}
use mathlib.Core.List.{flat_map}
use Rattle.boundary.specs.declared.Point.{Point}
use Rattle.lists.proofs.StoreLaws.{sets_more, flat_more}
use Rattle.boxes.specs.BoxLists.{box_count, box_numbers, wide_at, centre_of, widened_in}
use Rattle.lists.specs.Lists.{run}
use native.Mathlib.Omega.{arith}
use mathlib.Core.Path.{◌≡◌, refl, ap, ◌∙◌}
use Rattle.boxes.proofs.widen.Goals as goal

pub loop-i-init : goal.loop-i-init
unfolding run flat_map
loop-i-init c = (refl, refl, refl)

pub loop-i-preserved : goal.loop-i-preserved
unfolding wide_at
loop-i-preserved c =
    let boxes = c.args.boxes.now in
    let inv = c.loop-i.invariant in
    let wide : c.widened-b.result ≡ wide_at boxes c.loop-i.i = c.widened-b.ensures ∙ ap widened_of c.box_at.ensures in
    let centre : c.centre-c.result ≡ centre_of (wide_at boxes c.loop-i.i) = c.centre-c.ensures ∙ ap centre_of wide in (
      flat_more box_numbers 4 (λ _. refl) _ _ _ (wide_at boxes) _ _ inv.0 wide c.put_box.ensures,
      sets_more _ _ _ (λ j. (centre_of (wide_at boxes j)).x) _ _ inv.1 (ap (λ (p : Point). p.x) centre) c.put.ensures,
      sets_more _ _ _ (λ j. (centre_of (wide_at boxes j)).y) _ _ inv.2 (ap (λ (p : Point). p.y) centre) c.put-in-loop-i.ensures,
    )

pub returns : goal.returns
unfolding widened_in
returns c =
    let inv = c.loop-i.invariant in
    let n : c.loop-i.i ≡ box_count c.args.boxes.now = omega arith in
    rw (← n, inv.0, inv.1, inv.2)

-- `clip::halves::clip_some` meets its contract. Assumes nothing.
use Rattle.std.proofs.Common.{refl, sym, ◌∙◌, true≢false, arith}
use Rattle.clip.specs.Lent.{half_in}
use Rattle.clip.proofs.HalvesLaws.{half_fits, found_all, found_none, found_out, found_below, found_dropped, found_traced}
use Rattle.clip.proofs.StageLaws.{all_inside, all_outside, some_inside, short}
use Rattle.clip.proofs.halves.clip_some.Goals as goal

pub returns-in-AllKept : goal.returns-in-AllKept
returns-in-AllKept c =
    let a = c.args in
    let l = half_fits a.w.now (half_in a.w.now) a.c.n _ a.c.second (omega arith) c.requires.1 c.place-from.ensures in
    let d = rw c.place-from.ensures at (found_all a.w.now c.place-from.result a.c.n l a.s c.requires.0 (sym c.first_pass.ensures ∙ c.in-AllKept.is)) in
    record {
      same = refl;
      rest = refl;
      staged = λ long es h. let f = short h c.requires.1 in rw f (all_inside _ _ es (rw f at h) (rw ((h.held f).list c.requires.1) at d));
      untouched = λ es h k. record { unwritten = refl; stands = refl };
    }

pub returns-in-NoneKept : goal.returns-in-NoneKept
returns-in-NoneKept c =
    let a = c.args in
    let e = sym c.first_pass.ensures ∙ c.in-NoneKept.is in
    let l = half_fits a.w.now (half_in a.w.now) a.c.n _ a.c.second (omega arith) c.requires.1 c.place-from.ensures in
    let d = rw c.place-from.ensures at (found_out a.w.now c.place-from.result a.c.n l a.s c.requires.0 e) in
    let k = rw c.place-from.ensures at (found_none a.w.now c.place-from.result a.c.n l a.s c.requires.0 e) in
    record {
      same = refl;
      rest = refl;
      staged = λ long es h. let f = short h c.requires.1 in rw f (all_outside _ _ es _ (rw ((h.held f).list c.requires.1) at k));
      untouched = λ es h k. absurd (true≢false (sym (rw ((h.held refl).list c.requires.1) at d) ∙ k));
    }

pub retrace-requires : goal.retrace-requires
retrace-requires c =
    let a = c.args in
    let l = half_fits a.w.now (half_in a.w.now) a.c.n _ a.c.second (omega arith) c.requires.1 c.place-from.ensures in
    (c.requires.1, found_below a.w.now c.place-from.result a.c.n l a.s c.requires.0 _ _ (sym c.first_pass.ensures ∙ c.in-StartsAt.is))

pub returns-in-StartsAt : goal.returns-in-StartsAt
returns-in-StartsAt c =
    let a = c.args in
    let e = sym c.first_pass.ensures ∙ c.in-StartsAt.is in
    let l = half_fits a.w.now (half_in a.w.now) a.c.n _ a.c.second (omega arith) c.requires.1 c.place-from.ensures in
    let d = rw c.place-from.ensures at (found_dropped a.w.now c.place-from.result a.c.n l a.s c.requires.0 _ _ e) in
    let t = rw (← (rw c.place-from.ensures at (found_traced a.w.now c.place-from.result a.c.n l a.s c.requires.0 _ _ e))) at c.retrace.ensures.1 in
    record {
      same = c.retrace.auto.w;
      rest = c.retrace.ensures.0;
      staged = λ long es h. let f = short h c.requires.1 in rw f (some_inside _ _ es _ _ (rw ((h.held f).list c.requires.1) at t));
      untouched = λ es h k. absurd (true≢false (sym (rw ((h.held refl).list c.requires.1) at d) ∙ k));
    }

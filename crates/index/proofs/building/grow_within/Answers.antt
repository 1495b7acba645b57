-- `index::building::grow_within` meets its contract. Assumes nothing.
use Rattle.std.proofs.Common.{ℕ, List, [], ◌∷◌, ◌++◌, drop, replicate, ap, arith}
use Rattle.std.proofs.lemmas.List.{length-replicate}
use lib.Seq.{length-take-le, length_front}
use lib.Ieee.{Float, of_bits, binary64}
use Rattle.boxes.specs.BoxLists.{box_count, WideLists, widened_in}
use Rattle.index.proofs.GrowLaws.{numbers_ascend, grown_all}
use Rattle.index.proofs.building.grow_within.Goals as goal

pub build-requires : goal.build-requires
build-requires g c =
    let P = c.requires in
    let A = P.0 in
    let s = A.size in
    let i = A.items in
    let f = length_front c.args.items.now c.count_up.new.items (box_count c.args.boxes.now) c.count_up.auto.items in
    let l = length-take-le (box_count c.args.boxes.now) (c.count_up.new.items ++ drop (box_count c.args.boxes.now) c.args.items.now) (omega arith) in
    let w = length-replicate {A = ℕ} g.row.N 0 in
    (numbers_ascend c.args.items.now c.count_up.new.items (box_count c.args.boxes.now) (omega arith) c.count_up.ensures, record { room = omega arith; items = omega arith; own = omega arith; free = omega arith })

pub returns : goal.returns
unfolding widened_in
returns g c =
    let a = c.args in
    let P = c.requires in
    let A = P.0 in
    let s = A.size in
    let w = c.widen.ensures in
    let zero = of_bits binary64 0 in
    let lw = c.as_flattened_mut-wide.ensures.len in
    let ln = length-replicate {A = List Float} g.row.N (zero ∷ zero ∷ zero ∷ zero ∷ []) in
    let lx = length-replicate g.row.N zero in
    grown_all a.boxes.now A.whole _ c.widen.new.wide (replicate g.row.N zero) c.widen.new.xs (replicate g.row.N zero) c.widen.new.ys
    (ap (λ (o : WideLists). o.wide) w) (ap (λ (o : WideLists). o.xs) w) (ap (λ (o : WideLists). o.ys) w) (omega arith) (omega arith) (omega arith) a.corners.now _ a.links.now _ a.items.now c.count_up.new.items c.build.new.list _
    (omega arith) A.corners A.links A.items c.count_up.ensures c.build.ensures

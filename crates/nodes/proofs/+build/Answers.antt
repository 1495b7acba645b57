-- `nodes::build` meets its contract. Assumes nothing.
use Rattle.tree.proofs.ArrangedLaws.{first_ascends, second_ascends}
use Rattle.nodes.proofs.LayoutLaws.{extra_below}
use Rattle.nodes.proofs.BuildLaws.{rest_length, grown_leaf, grown_inner}
use Rattle.boxes.specs.BoxLists.{box_at, point_in}
use lib.ListN.{length, take}
use lib.Seq.{length-take-le}
use native.Mathlib.Omega.{arith}
use Prim.Native.Nat.{ℕ, ◌/◌}
use mathlib.Core.List.{List}
use mathlib.Core.Path.{◌≡◌}
use Rattle.nodes.proofs.+build.Goals as goal

pub returns-then-n-le4 : goal.returns-then-n-le4
returns-then-n-le4 t c =
    let a = c.args in
    let left = c.settle.ensures in
    grown_leaf (box_at a.entries.wide.now) (point_in a.entries.xs.now a.entries.ys.now) a.list.now a.place.at a.place.node a.place.next a.corners.now a.links.now _ _ _ left.0 left.1 c.if-n-le4.true

pub build-free-requires : goal.build-free-requires
build-free-requires t c =
    let a = c.args in
    let is : List ℕ = a.list.now in
    let S : List ℕ = c.settle.new.list in
    let k : length S ≡ length is = c.settle.auto.list in
    let w = c.settle.auto.work in
    let e = c.decreases in
    let R = c.requires.1 in
    let h = c.if-n-le4.false in
    let l = length-take-le (length is / 2) S (omega arith) in
    (omega arith, (first_ascends (point_in a.entries.xs.now a.entries.ys.now) is S c.settle.ensures.1 h, record { room = omega arith; items = omega arith; own = omega arith; free = omega arith }))

pub build-requires : goal.build-requires
build-requires t c =
    let a = c.args in
    let is : List ℕ = a.list.now in
    let S : List ℕ = c.settle.new.list in
    let Y : List ℕ = c.build-free.new.list in
    let k : length S ≡ length is = c.settle.auto.list in
    let y : length Y ≡ length (take (length is / 2) S) = c.build-free.auto.list in
    let w = c.build-free.auto.work in
    let v = c.settle.auto.work in
    let e = c.decreases in
    let R = c.requires.1 in
    let h = c.if-n-le4.false in
    let l = length-take-le (length is / 2) S (omega arith) in
    let z = rest_length S Y (length is / 2) (omega arith) y in
    let f = c.build-free.ensures.free in
    let x = extra_below (box_at a.entries.wide.now) (point_in a.entries.xs.now a.entries.ys.now) (take (length is / 2) S) (omega arith) in
    (omega arith, (second_ascends (point_in a.entries.xs.now a.entries.ys.now) is S c.settle.ensures.1 h Y y, record { room = omega arith; items = omega arith; own = omega arith; free = omega arith }))

pub returns : goal.returns
returns t c =
    let a = c.args in
    let left = c.settle.ensures in
    grown_inner (box_at a.entries.wide.now) (point_in a.entries.xs.now a.entries.ys.now) a.list.now a.place.at a.place.node a.place.next a.corners.now a.links.now
    c.settle.new.corners c.settle.new.links c.settle.new.list left.0 left.1
    c.build-free.result c.build.result c.build-free.new.list c.build.new.list
    c.build-free.new.corners c.build.new.corners c.build-free.new.links c.build.new.links
    c.if-n-le4.false c.build-free.auto.list c.build-free.ensures c.build.ensures

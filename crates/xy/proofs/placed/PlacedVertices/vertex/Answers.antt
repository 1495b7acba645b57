-- `xy::placed::Placed::vertex` meets its contract. Assumes nothing.
use Prim.Native.Nat.{◌+◌, ◌*◌, ◌<◌}
use borrow.Author.Rules.{rules}
use native.Mathlib.Omega.{arith}
use Rattle.stream.proofs.StepLaws.{small_same}
use Rattle.xy.proofs.NumberLaws.{step_near, count_from, vertex_from_lem}
use Rattle.xy.proofs.placed.PlacedVertices.vertex.Goals as goal

pub overflow_mul-i : goal.overflow_mul-i
overflow_mul-i c =
    let p = c.args.self in
    let w = p.in_reach.within in
    let k = count_from p.s.now p.from p.n w in
    search rules

pub step_at-requires : goal.step_at-requires
step_at-requires c =
    let p = c.args.self in
    let w = p.in_reach.within in
    let k = count_from p.s.now p.from p.n w in
    omega arith

pub overflow_mul-i-2 : goal.overflow_mul-i-2
overflow_mul-i-2 c =
    let p = c.args.self in
    let w = p.in_reach.within in
    let k = count_from p.s.now p.from p.n w in
    search rules

pub overflow_add-i : goal.overflow_add-i
overflow_add-i c =
    let p = c.args.self in
    let w = p.in_reach.within in
    let k = count_from p.s.now p.from p.n w in
    search rules

pub step_at-requires-2 : goal.step_at-requires-2
step_at-requires-2 c =
    let p = c.args.self in
    let w = p.in_reach.within in
    let k = count_from p.s.now p.from p.n w in
    omega arith

pub returns : goal.returns
returns c =
    let p = c.args.self in
    let k = count_from p.s.now p.from p.n p.in_reach.within in
    let below : c.args.i < p.n = omega (arith, k, c.requires) in
    let y = c.step_at-2.ensures in
    let x = c.step_at.ensures in
    let near = step_near p.s.now p.from p.n p.in_reach in
    rw (
      vertex_from_lem p.s.now p.from p.n p.in_reach.within c.args.i below,
      c.microns-2.ensures,
      small_same _ y.small,
      y.near (near (2 * c.args.i + 1) (omega arith)),
      c.microns.ensures,
      small_same _ x.small,
      x.near (near (2 * c.args.i) (omega arith)),
    )

-- `clip::halves::retrace` meets its contract. Assumes nothing.
use Rattle.std.proofs.Common.{◌-◌, ◌∙◌, arith}
use Rattle.clip.specs.Lent.{half_in}
use Rattle.clip.proofs.HalvesLaws.{room_taken, past_halves, from_first, from_second, in_first, in_second}
use Rattle.clip.proofs.halves.retrace.Goals as goal

pub returns-then-c : goal.returns-then-c
returns-then-c c =
    let a = c.args in
    let n = a.c.n in
    let half = half_in a.w.now in
    let xs = c.split_at_mut-first.result.0.now in
    let rest = c.split_at_mut-first.result.1.now in
    let ys = c.split_at_mut-second.result.0.now in
    let zs = c.split_at_mut-second.result.1.now in
    let p = c.split_at_mut-first.ensures in
    let q = c.split_at_mut-second.ensures in
    let out = c.trace.new.out in
    let r = room_taken n ys (omega (arith, q.front_len)) in
    let one = from_second half a.w.now xs rest ys zs p.value q.value p.front_len q.front_len n a.start (n - a.start) (omega arith) (omega arith) in
    let two = from_second half a.w.now xs rest ys zs p.value q.value p.front_len q.front_len n 0 a.start (omega arith) (omega arith) in
    let h = in_first half a.w.now xs rest ys zs p.value q.value p.front_len q.front_len out c.trace.result (c.trace.auto.out ∙ p.front_len) c.trace.ensures.1 in
    rw c.if-c.true (past_halves half a.w.now xs rest ys zs p.value q.value p.front_len q.front_len out ys (c.trace.auto.out ∙ p.front_len) q.front_len, rw (r, one, two) at h)

pub returns-else-c : goal.returns-else-c
returns-else-c c =
    let a = c.args in
    let n = a.c.n in
    let half = half_in a.w.now in
    let xs = c.split_at_mut-first.result.0.now in
    let rest = c.split_at_mut-first.result.1.now in
    let ys = c.split_at_mut-second.result.0.now in
    let zs = c.split_at_mut-second.result.1.now in
    let p = c.split_at_mut-first.ensures in
    let q = c.split_at_mut-second.ensures in
    let out = c.trace-else-c.new.out in
    let r = room_taken n xs (omega (arith, p.front_len)) in
    let one = from_first half a.w.now xs rest ys zs p.value q.value p.front_len q.front_len n a.start (n - a.start) (omega arith) (omega arith) in
    let two = from_first half a.w.now xs rest ys zs p.value q.value p.front_len q.front_len n 0 a.start (omega arith) (omega arith) in
    let h = in_second half a.w.now xs rest ys zs p.value q.value p.front_len q.front_len out c.trace-else-c.result (c.trace-else-c.auto.out ∙ q.front_len) c.trace-else-c.ensures.1 in
    rw c.if-c.false (past_halves half a.w.now xs rest ys zs p.value q.value p.front_len q.front_len xs out p.front_len (c.trace-else-c.auto.out ∙ q.front_len), rw (r, one, two) at h)

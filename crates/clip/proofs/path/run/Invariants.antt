-- `clip::path::run` meets its contract: the lines so far have been written as a path. Assumes nothing.
use Prim.Native.Nat.{◌+◌, ◌*◌, ◌≤◌, ◌<◌}
use Rattle.clip.specs.Passes.{Path, step_of}
use Rattle.clip.specs.Lent.{room_of, line_in, RestKept, Tracks}
use Rattle.clip.proofs.RoundLaws.{ComesAt, fold_round}
use Rattle.clip.proofs.path.run.Given as goal

abbrev pub invariant-loop : goal.invariant-loop
invariant-loop l = (l.i < l.n) × ComesAt l.start l.n l.counter l.i × (l.now.at ≤ l.initial.now.at + 4 * l.counter) × RestKept l.initial.out l.out
    × ((t : Path) → Tracks 0 (room_of l.initial.out) l.initial.out l.initial.now t → Tracks 0 (room_of l.initial.out) l.out l.now (fold_round (step_of l.side) (line_in l.lines 0) l.start l.n t l.counter))

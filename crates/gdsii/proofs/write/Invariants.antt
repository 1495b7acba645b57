-- `gdsii::write` meets its contract: what is left of an accepted stream is accepted; a turn passes one record. Assumes nothing.
use Prim.Native.Nat.{◌-◌}
use lib.ListN.{length}
use Rattle.gdsii.proofs.WriteLaws.{Writing}
use Rattle.gdsii.proofs.write.Given as goal

abbrev pub invariant-loop-done : goal.invariant-loop-done
invariant-loop-done l = Writing l.s l.outlines l.signs l.initial.vertices l.initial.counts l.at l.done l.vertices l.counts

abbrev pub decreases-loop-done : goal.decreases-loop-done
decreases-loop-done l = length l.s - l.at

-- `gdsii::measure` meets its contract: what is left gives the whole answer; a turn reads one record. Assumes nothing.
use Prim.Native.Nat.{◌-◌}
use lib.ListN.{length}
use Rattle.gdsii.proofs.MeasureLaws.{Measuring}
use Rattle.gdsii.proofs.measure.Given as goal

abbrev pub invariant-loop-asked : goal.invariant-loop-asked
invariant-loop-asked l = Measuring l.s l.asked l.at l.done l.signs

abbrev pub decreases-loop-asked : goal.decreases-loop-asked
decreases-loop-asked l = length l.s - l.at

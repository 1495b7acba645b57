-- `pivot::seek` ends: each call has one round fewer.
use Rattle.pivot.proofs.+seek.Given as goal

abbrev pub decreases-seek : goal.decreases-seek
decreases-seek l = l.rounds

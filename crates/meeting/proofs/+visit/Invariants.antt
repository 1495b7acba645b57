-- `meeting::visit` ends: its measure is the depth.
use Rattle.meeting.proofs.+visit.Given as goal

abbrev pub decreases-visit : goal.decreases-visit
decreases-visit l = l.depth

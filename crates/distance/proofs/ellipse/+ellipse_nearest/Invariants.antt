-- `distance::ellipse::ellipse_nearest` calls itself at most once, since after the swap the first axis is not the shorter one.
use Rattle.std.proofs.Common.{cond}
use lib.Ieee.{lt}
use Rattle.distance.proofs.ellipse.+ellipse_nearest.Given as goal

-- 1 where the axes are to be swapped, and 0 where they are not
abbrev pub decreases-ellipse_nearest : goal.decreases-ellipse_nearest
decreases-ellipse_nearest l = cond (lt l.a l.b) 1 0

-- `ellipse::ellipse_fits` meets its contract. Assumes nothing.
use Rattle.ellipse.specs.Ellipse.{ellipse_fits}
use Rattle.ellipse.proofs.ellipse_fits.Goals as goal

pub returns : goal.returns
unfolding ellipse_fits
returns c =
    rw (c.offset_fits-2.ensures, c.offset_fits.ensures, c.axis_fits-2.ensures, c.axis_fits.ensures)

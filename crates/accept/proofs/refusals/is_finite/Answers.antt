-- `accept::refusals::is_finite` meets its contract. Assumes nothing.
use mathlib.Core.Path.{◌≡◌, refl}
use mathlib.Core.Bool.{true, false, ◌&&◌}
use lib.Ieee.{Float, nan, inf, fin, lt, neg, div, of_bits}
use lib.Ieee.Scale.{finite}
use Rattle.accept.proofs.refusals.is_finite.Goals as goal

between-infinities : (x : Float) → (lt (inf true) x && lt x (inf false)) ≡ finite x
unfolding lt
between-infinities nan = refl
between-infinities (inf true) = refl
between-infinities (inf false) = refl
between-infinities (fin s m e) = refl

pub returns : goal.returns
unfolding div neg of_bits
returns c = between-infinities c.args.x

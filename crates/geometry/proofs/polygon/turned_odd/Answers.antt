-- `geometry::polygon::turned_odd` meets its contract. Assumes nothing.
use mathlib.Core.Path.{◌≡◌, refl}
use mathlib.Core.Bool.{Bool, true, false}
use lib.Ieee.{unlike}
use Rattle.geometry.specs.Polygon.{crosses_of}
use Rattle.geometry.proofs.polygon.turned_odd.Goals as goal

pub returns-then-up-was : goal.returns-then-up-was
unfolding crosses_of
returns-then-up-was c =
    let t = c in
    let s = t in
    rw (c.vertex_at-b.ensures, c.vertex_at-a.ensures, ← s.requires.2, ← s.requires.3, t.if-up-was.true)

-- an edge that does not count
same : (b : Bool) → b ≡ unlike b false
same true = refl
same false = refl

pub returns : goal.returns
unfolding crosses_of
returns c = rw (← c.requires.2, ← c.requires.3, c.if-up-was.false) (same c.args.odd)

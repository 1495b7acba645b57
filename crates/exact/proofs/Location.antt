-- On the grid containment and location are exactly those of whole-number geometry. Assumes nothing.
use mathlib.Core.Path.{◌≡◌, refl}
use mathlib.Core.List.{List}
use mathlib.Core.Bool.{Bool, false}
use lib.Ieee.{unlike}
use Rattle.boundary.specs.declared.Point.{Point}
use Rattle.boundary.specs.declared.Edge.{Edge}
use Rattle.lists.specs.Lists.{fold, any, odd_many}
use Rattle.geometry.specs.Polygon.{crosses_of, contains_of, on_edge, locate_of}
use Rattle.grid.specs.Whole.{PointZ, EdgeZ, boundary_z, crosses_z, inside_z, location_z}
use Rattle.exact.specs.Grid.{PointOn, EdgesOn}
use Rattle.lists.specs.Lists.Each.{none, more}
use Rattle.lists.proofs.MemberLaws.{any_each}
use Rattle.exact.proofs.OneEdge.{on_edge_exact, crosses_exact}

module _ {p : Point} {q : PointZ} (P : PointOn p q) where
  boundary_exact : {es : List Edge} {fs : List EdgeZ} → EdgesOn es fs → any (on_edge p) es ≡ boundary_z fs q
  unfolding boundary_z
  boundary_exact r = any_each (λ e f E. on_edge_exact E P) r

  -- from b on
  inside_from : {es : List Edge} {fs : List EdgeZ} (b : Bool) → EdgesOn es fs → fold (λ b e. unlike b (crosses_of p e)) b es ≡ fold (λ b f. unlike b (crosses_z q f)) b fs
  unfolding fold
  inside_from b none = refl
  inside_from b (more {y = f} E r) = rw (crosses_exact E P) (inside_from (unlike b (crosses_z q f)) r)

pub contains_exact : {es : List Edge} {fs : List EdgeZ} {p : Point} {q : PointZ} → EdgesOn es fs → PointOn p q → contains_of es p ≡ inside_z fs q
unfolding contains_of odd_many inside_z
contains_exact r P = inside_from P false r

pub location_exact : {es : List Edge} {fs : List EdgeZ} {p : Point} {q : PointZ} → EdgesOn es fs → PointOn p q → locate_of es p ≡ location_z fs q
unfolding locate_of location_z
location_exact r P = rw (boundary_exact P r, contains_exact r P)

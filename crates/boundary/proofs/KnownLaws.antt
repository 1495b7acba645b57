-- What owning a point or an edge tells: the format holds its numbers. Assumes nothing.
use mathlib.Core.Path.{◌≡◌, sym, subst}
use mathlib.Core.Bool.{true}
use mathlib.Core.List.{List}
use lib.Dec.{T}
use lib.Ieee.Fits.{and_l, and_r}
use mir.Val.{Val}
use denote.Laws.{Is as Owned}
use Rattle.boundary.specs.declared.Point.{Point}
use Rattle.boundary.specs.declared.Edge.{Edge}
use Rattle.boundary.specs.Boxes.{point_in_field, edge_in_field, FieldPoint, FieldEdge}
use Rattle.boundary.proofs.FieldLaws.{double_point_field}
use Rattle.boundary.specs.contracts.Point as point
use Rattle.boundary.specs.contracts.Edge as edge

point_tested : {p : Point} {vs : List Val} → Owned point.the_row p vs → T (point_in_field p) → FieldPoint p
point_tested o t = double_point_field (record { x = subst T (sym o.1.1.0.1) tt; y = subst T (sym o.1.1.1.0.1) tt }) t

-- so one that passes the test of the field is of the field
pub owned_point : {p : Point} {vs : List Val} → Owned point.the_row p vs → point_in_field p ≡ true → FieldPoint p
owned_point o e = point_tested o (subst T (sym e) tt)

pub owned_edge : {e : Edge} {vs : List Val} → Owned edge.the_row e vs → edge_in_field e ≡ true → FieldEdge e
owned_edge {e} o h =
    let t = subst T (sym h) tt in
    record { a = point_tested o.1.1.0 (and_l (point_in_field e.a) (point_in_field e.b) t); b = point_tested o.1.1.1.0 (and_r (point_in_field e.a) (point_in_field e.b) t) }

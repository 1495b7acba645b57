-- Demand 3 of one outline that the tests accept and one point, on the grid. Assumes nothing.
use mathlib.Core.Path.{◌≡◌}
use mathlib.Core.List.{List}
use lib.Ieee.{Float}
use Rattle.boundary.specs.declared.Point.{Point}
use Rattle.boundary.specs.Outline.{edges}
use Rattle.distance.specs.Nearest.{nearest_of, signed_of}
use Rattle.accept.specs.Area.{area_of}
use Rattle.geometry.specs.Polygon.{contains_of}
use Rattle.accept.specs.Refusals.{all_passed, ◌refusing◌when◌, given, outline_tested}
use Rattle.geometry.specs.Answers.{outline_query_tested, area_answer, locate_answer, contains_answer, distance_answer}
use Rattle.grid.specs.Grid.{OutlineOn}
use Rattle.grid.specs.Whole.{PointZ}
use Rattle.exact.specs.Grid.{PointOn}
use Rattle.exact.specs.OneOutline.{OutlineExact}
use Rattle.exact.proofs.Area.{area_exact}
use Rattle.exact.proofs.Location.{location_exact, contains_exact}
use Rattle.exact.proofs.Distance.{distance_near}
use Rattle.exact.proofs.WholeEdges.{edges_on}
use Rattle.accept.proofs.TestLaws.{shape, outline_shape_passed}
use Rattle.exact.proofs.Tests.{grid_in_field}
use Rattle.boundary.proofs.OutlineLaws.{few_edges, some_edges}

pub grid_exact : {o : List Float} {p : Point} {q : PointZ} → OutlineOn o → outline_tested o ≡ all_passed → PointOn p q → OutlineExact o p q
unfolding area_answer outline_query_tested locate_answer contains_answer distance_answer given ◌refusing◌when◌
grid_exact {o} {p} g e P =
    let s = shape o (outline_shape_passed o e) in
    let w = edges_on g in
    record {
      whole = w.0;
      on = w.1;
      area = area_of (edges o);
      area_answer_lem = rw e;
      area_exact = area_exact w.1 (few_edges o s.few);
      location = rw (e, grid_in_field P.x, grid_in_field P.y, location_exact w.1 P);
      containment = rw (e, grid_in_field P.x, grid_in_field P.y, contains_exact w.1 P);
      distance = signed_of (nearest_of (edges o) p) p (contains_of (edges o) p);
      distance_answer_lem = rw (e, grid_in_field P.x, grid_in_field P.y);
      distance_near = distance_near w.1 P (some_edges o s.enough) s.apart;
    }

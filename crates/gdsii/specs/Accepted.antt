-- What is accepted, said of the format and not of the reader (document 02, U3). Definitions only.
use Rattle.std.specs.Prelude.{◌≡◌, List, ℕ, ◌≤◌, ℤ, nat_abs, length}
use Rattle.lists.specs.Lists.{Every}
use Rattle.boundary.specs.Outline.{count}
use Rattle.accept.specs.Refusals.{all_passed, shape_tested}
use Rattle.geometry.specs.Making.{kept}
use Rattle.stream.specs.Format.{Stream}
use Rattle.stream.specs.Records.{right_unit}
use Rattle.xy.specs.Outlines.{numbers_of}
use Rattle.gdsii.specs.Reading.{set_of}

-- no coordinate is beyond ±1,048,576 steps
abbrev pub WithinReach : List ℤ → Type 0
WithinReach zs = Every (λ z. nat_abs z ≤ 1048576) zs

-- making accepts the outline
abbrev pub Makes : List ℤ → Type 0
Makes zs = shape_tested (kept (numbers_of zs)) ≡ all_passed

-- s is of the format with the right unit, its coordinates are in range, making accepts its outlines, and the set is within its sizes
pub record AcceptedStream (zss : List (List ℤ)) (s : List ℕ) : Type 0 where
  pub stream : Stream right_unit zss s
  pub within : Every WithinReach zss
  pub made : Every Makes zss
  pub outlines : length zss ≤ 1024
  pub vertices : count (set_of zss) ≤ 65536

-- All that the nearest query leaves: its answer, and the index buffer that it works in. Definitions only.
use Rattle.std.specs.Prelude.{List, ℕ, Option, Ok, Err, Float}
use Rattle.accept.specs.Refusals.{Answer}
use Rattle.search.specs.declared.Best.{Best}
use Rattle.boundary.specs.declared.Point.{Point}
use Rattle.accept.specs.Answers.{Outcome, in_fields}
use Rattle.index.specs.Buffer.{IndexBuffer}
use Rattle.set.specs.Set.{outlines_of}
use Rattle.set.specs.Answers.{query_outcome}
use Rattle.nearest.specs.declared.NearestFields.{NearestFields}
use Rattle.nearest.specs.Nearest.{nearest_in, nearest_fields}

-- over the set that v and cs are, at p, with the index buffer B
unfoldable pub nearest_outcome : List Float → List ℕ → Point → IndexBuffer → Outcome (Answer (Option Best)) IndexBuffer
nearest_outcome v cs p B = query_outcome v cs p B (Ok (nearest_in (outlines_of v cs) p)) Err

-- the same, with the answer in its fields
unfoldable pub nearest_call : List Float → List ℕ → Point → IndexBuffer → Outcome NearestFields IndexBuffer
nearest_call v cs p B = in_fields nearest_fields (nearest_outcome v cs p B)

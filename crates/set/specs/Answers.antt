-- What the work of a query over a set needs, and what the query leaves. Definitions only.
use Rattle.std.specs.Prelude.{◌≡◌, List, ℕ, ◌*◌, ◌≤◌, ◌<◌, length, get_or, Float}
use Rattle.boundary.specs.declared.Point.{Point}
use Rattle.accept.specs.declared.Refusal.{Refusal}
use Rattle.accept.specs.Answers.{Outcome}
use Rattle.accept.specs.Refusals.{given}
use Rattle.boxes.specs.BoxLists.{box_at}
use Rattle.tree.specs.Tree.{index_of}
use Rattle.index.specs.Buffer.{IndexBuffer, cleared, corner_places, link_places, item_places, Stands}
use Rattle.set.specs.Set.{Outline, start_of, outlines_of, set_box, set_boxes, Fit, Fitting}
use Rattle.set.specs.Tests.{set_query_tested}

-- ---- all that a query leaves, with the index buffer B to work in
-- work that is done: its answer, and the buffer cleared
abbrev pub worked : {A : Type 0} → A → IndexBuffer → Outcome A IndexBuffer
worked a B = record { answer = a; lent = cleared B }

-- a query that answers a: where the tests are not passed, the refusal, and the buffer as it was
unfoldable pub query_outcome : {A : Type 0} → List Float → List ℕ → Point → IndexBuffer → A → (Refusal → A) → Outcome A IndexBuffer
query_outcome v cs p B a refused = given (set_query_tested v cs p B) (worked a B) (λ r. record { answer = refused r; lent = B })

-- ---- what the work asks
-- a set that passes the tests, and an index buffer
pub record Ready (v : List Float) (cs : List ℕ) (B : IndexBuffer) : Type 0 where
  pub fit : Fit v cs
  pub fitting : Fitting (outlines_of v cs)
  pub corners : corner_places ≤ length B.corners
  pub links : link_places ≤ length B.links
  pub items : item_places ≤ length B.items

-- S holds how many vertices stand before each outline
pub record Starts (cs S : List ℕ) : Type 0 where
  pub each : (k : ℕ) → k < length cs → get_or S k 0 ≡ start_of cs k

-- of a set that has an outline, lists that are long enough for them, and for the outlines' boxes
pub record SetSpace (cs S : List ℕ) (X : List Float) : Type 0 where
  pub some : 0 < length cs
  pub starts : length cs ≤ length S
  pub boxes : 4 * length cs ≤ length X

-- X holds the box of each outline
pub record Boxed (os : List Outline) (X : List Float) : Type 0 where
  pub each : (k : ℕ) → k < length os → box_at X k ≡ set_box os k

-- the index of the set stands in the buffer, where the set has an outline
abbrev pub Indexed : List Outline → IndexBuffer → Type 0
Indexed os B = 0 < length os → Stands B 0 (index_of (set_boxes os))

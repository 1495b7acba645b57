-- What the work of a call for many points asks and leaves. Inner: no export's promise speaks of it. Definitions only.
use Rattle.std.specs.Prelude.{◌≡◌, false, List, ℕ, ◌≤◌, ◌<◌, length, Float}
use Rattle.boundary.specs.Outline.{count, vertex_at}
use Rattle.set.specs.Set.{outlines_of}
use Rattle.set.specs.Answers.{Ready, Boxed}
use Rattle.search.specs.Walk.{Asked}
use Rattle.many.specs.Answers.{AnswerLists, ManyLent, point_places, any_bad_point, answers_of, leaving}

-- a set and points that pass the tests, and lists that are long enough
pub record ManyReady (v : List Float) (cs : List ℕ) (ps : List Float) (L : ManyLent) : Type 0 where
  pub ready : Ready v cs L.buffer
  pub points : any_bad_point ps ≡ false
  pub few : count ps ≤ point_places
  pub outlines : point_places ≤ length L.lists.outlines
  pub distances : point_places ≤ length L.lists.distances

-- both lists have a place for each point
abbrev pub RoomFor : List Float → AnswerLists → Type 0
RoomFor ps L = (count ps ≤ length L.outlines) × (count ps ≤ length L.distances)

-- what it leaves over a set that has an outline
unfoldable pub many_left : List Float → List ℕ → List Float → ManyLent → ManyLent
many_left v cs ps L = leaving (answers_of (outlines_of v cs) ps) L

-- a set that has an outline and may be asked about each of the points, with its starts in S and its boxes in X
pub record AllAsked (v : List Float) (cs S : List ℕ) (X ps : List Float) : Type 0 where
  pub some : 0 < length cs
  pub few : count ps ≤ point_places
  pub boxed : Boxed (outlines_of v cs) X
  pub each : (i : ℕ) → i < count ps → Asked v cs S (vertex_at ps i)

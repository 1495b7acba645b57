-- The search for the nearest outline: what it reads, and how it takes the better of two. Definitions only.
use Rattle.std.specs.Prelude.{◌≡◌, Bool, true, false, cond, ◌&&◌, ◌||◌, List, ℕ, ◌+◌, ◌*◌, ◌≤◌, ◌<◌, ltb, length, Float}
use Rattle.std.specs.Float.{inf}
use Rattle.std.specs.Float.Ieee.{lt, eq}
use Rattle.number.specs.Hypot.{Short}
use Rattle.boundary.specs.declared.Point.{Point}
use Rattle.boundary.specs.declared.Edge.{Edge}
use Rattle.boundary.specs.declared.Bounds.{Bounds}
use Rattle.boundary.specs.Boxes.{PointOf, Around, point_in_field, widened_of, gap_squares_of, DoubleBox}
use Rattle.boundary.specs.Line.{less_point, squares_of}
use Rattle.distance.specs.Search.{length_to}
use Rattle.lists.specs.Lists.{fold, In}
use Rattle.search.specs.declared.Entry.{Entry}
use Rattle.search.specs.Heap.{Pushed}
use Rattle.boxes.specs.BoxLists.{box_at}
use Rattle.tree.specs.Tree.{Tree, items_of, EachNode}
use Rattle.nodes.specs.Layout.{extra}
use Rattle.index.specs.Buffer.{IndexBuffer, Stands}
use Rattle.set.specs.Set.{Outline, start_of, outlines_of, set_box, Fitting, DoubleSet}
use Rattle.set.specs.Answers.{Starts}
use Rattle.search.specs.declared.Best.{Best}
use Rattle.search.specs.declared.Kept.{Kept}

-- outline k, at the distance d, is better: it is nearer, or as near and of a lower number
abbrev pub wins : Best → ℕ → Float → Bool
wins best k d = lt d best.distance || (eq d best.distance && ltb k best.outline)

unfoldable pub improved : Best → ℕ → Float → Best
unfolding lt eq
improved best k d = cond (wins best k d) (record { outline = k; distance = d }) best

-- what is kept, and outline k, at the distance d, where it is better; `far` goes with it
unfoldable pub kept_with : Kept → ℕ → Float → Float → Kept
unfolding lt eq
kept_with kept k d far = cond (wins kept.best k d) (record { best = record { outline = k; distance = d }; far = far }) kept

-- before the first look: the outline past the last of n, infinitely far
abbrev pub none_kept : ℕ → Kept
none_kept n = record { best = record { outline = n; distance = inf false }; far = inf false }

-- every point whose squared distance from p is above `far` is farther than the best
pub record Clear (p : Point) (kept : Kept) : Type 0 where
  pub farther : (q : Point) → PointOf Short (less_point p q) → lt kept.far (squares_of (less_point p q)) ≡ true → lt kept.best.distance (length_to p q) ≡ true

-- the best of it and the outlines listed, whose magnitudes are D
unfoldable pub best_of : (ℕ → Float) → Best → List ℕ → Best
unfolding fold improved
best_of D best ks = fold (λ b k. improved b k (D k)) best ks

-- a set of `f64`s that passed the tests, with the numbers of the vertices before each outline in a list, and a point of the field
pub record Asked (v : List Float) (cs ss : List ℕ) (p : Point) : Type 0 where
  pub within : 2 * start_of cs (length cs) ≤ length v
  pub starts : Starts cs ss
  pub fitting : Fitting (outlines_of v cs)
  pub held : DoubleSet (outlines_of v cs)
  pub point : point_in_field p ≡ true

-- the item i below a node with the box b is an outline's number, and the box is around that outline's widened box
pub record Covered (os : List Outline) (b : Bounds) (i : ℕ) : Type 0 where
  pub within : i < length os
  pub around : Around b (widened_of (set_box os i))

-- an index of the set stands in the buffer: any tree of at most 511 nodes, wherever they are, whose leaves have every outline's number, and whose boxes cover the outlines below them
pub record Searched (os : List Outline) (B : IndexBuffer) : Type 0 where
  pub tree : Tree
  pub stands : Stands B 0 tree
  pub few : 1 + extra tree ≤ 511
  pub has : (i : ℕ) → i < length os → In i (items_of tree)
  pub covers : EachNode (λ b is. (i : ℕ) → In i is → Covered os b i) tree
  pub held : EachNode (λ b _. DoubleBox b) tree

-- both of two entries came into the heap f of n, which became k
pub record Opened (f : ℕ → Entry) (n : ℕ) (x y : Entry) (k : ℕ → Entry) : Type 0 where
  pub between : ℕ → Entry
  pub first : Pushed f n x between
  pub second : Pushed between (n + 1) y k

-- the entry of the node n: its gap is how far p is outside its box, squared
abbrev pub entry_for : List Float → Point → ℕ → Entry
entry_for C p n = record { gap = gap_squares_of (box_at C n) p; node = n }

-- the edge from a box's lower left corner to its upper right one
abbrev pub diagonal_of : Bounds → Edge
diagonal_of b = record { a = b.min; b = b.max }

-- The search of an index of a set begins with the root, and ends with the *nearest answer*. Assumes nothing.
use mathlib.Core.Path.{◌≡◌, sym}
use mathlib.Core.List.{List}
use Prim.Native.Nat.{ℕ, ◌≤◌, ◌<◌}
use native.Mathlib.Omega.{arith}
use lib.ListN.{length}
use lib.Ieee.{Float}
use Rattle.boundary.specs.declared.Point.{Point}
use Rattle.boundary.specs.Boxes.{FieldPoint}
use Rattle.search.specs.declared.Entry.{Entry}
use Rattle.search.specs.Heap.{Pushed}
use Rattle.boundary.proofs.AroundLaws.{NotNan}
use Rattle.index.specs.Buffer.{IndexBuffer}
use Rattle.set.specs.Set.{Outline, Fitting, DoubleSet, outlines_of, Fit}
use Rattle.search.specs.declared.Best.{Best}
use Rattle.search.specs.Least.{magnitude_at, least_in}
use Rattle.search.specs.Walk.{none_kept, Searched, entry_for}
use Rattle.search.proofs.LeastLaws.{Upto, Among, least_of_lem, least_only}
use Rattle.search.proofs.GapLaws.{Nearby, set_magnitude, past_magnitude, magnitude_number, tree_gaps, index_searched}
use Rattle.search.proofs.LookLaws.{none_clear}
use Rattle.search.proofs.WaitLaws.{tree_at, read_stands, waits_of}
use Rattle.search.proofs.SearchLaws.{ReadyNode, size_of, holds_of, Searching, searching_first, search_least}
use Rattle.set.specs.Answers.{Indexed}
use Rattle.number.specs.Exact.{Doubles}
use Rattle.set.proofs.SetLaws.{outlines_length, doubles_outlines}

-- 511, the number of nodes that an index buffer has places for: no tree there is deeper
abbrev pub most : ℕ
most = 511

module _ (os : List Outline) (fit : Fitting os) (held : DoubleSet os) (p : Point) (P : FieldPoint p) where
  abbrev D : ℕ → Float
  D = magnitude_at os p

  pub magnitude_numbers : (k : ℕ) → k ≤ length os → NotNan (D k)
  magnitude_numbers = magnitude_number os fit held p P

  -- ---- the root
  module _ (B : IndexBuffer) (X : Searched os B) where
    root_is : tree_at B most 0 ≡ X.tree
    root_is = let f = X.few in read_stands B X.tree most 0 X.stands (omega arith)

    root_ready : ReadyNode B most p D (length os) (entry_for B.corners p 0)
    root_ready = let f = X.few in waits_of B most p (Nearby D (length os) p) X.tree 0 X.stands (omega arith) (tree_gaps os fit held p P X.tree X.covers X.held)

    root_size : size_of B most p D (length os) (entry_for B.corners p 0) ≤ 511
    unfolding size_of
    root_size = rw root_is X.few

    root_has : (i : ℕ) → i < length os → 0 < holds_of B most p D (length os) i (entry_for B.corners p 0)
    unfolding holds_of
    root_has i l = rw root_is (X.has i l)

    -- before the first turn there is no best: it counts as the outline past the last, infinitely far
    pub set_search_first : (f g : ℕ → Entry) → Pushed f 0 (entry_for B.corners p 0) g → Searching B most p D (length os) g 1 (none_kept (length os))
    set_search_first f g H = searching_first B most p D (length os) H root_ready root_size root_has (record { within = omega arith; is = sym (past_magnitude os fit held p P) }) (none_clear p (length os))

    -- THE ANSWER
    pub set_search_end : 0 < length os → (best : Best) → Among D (length os) best → ((i : ℕ) → i < length os → Upto D best i) → best ≡ least_in os p
    set_search_end some best A u =
        least_only D (length os) best (least_in os p)
        (search_least B most p D (length os) some (set_magnitude os fit held p P 0 some).finite (past_magnitude os fit held p P) A u)
        (least_of_lem D (length os) some (λ k l. magnitude_numbers k (omega arith)))

-- the index of a set that a query has built is one that the search takes
pub indexed_searched : (v : List Float) (cs : List ℕ) (B : IndexBuffer) → Fit v cs → Fitting (outlines_of v cs) → Doubles v → 0 < length cs → Indexed (outlines_of v cs) B → Searched (outlines_of v cs) B
indexed_searched v cs B fit fitting held some indexed =
    let n = outlines_length v cs in
    let s : 0 < length (outlines_of v cs) = omega arith in
    index_searched (outlines_of v cs) fitting (doubles_outlines v cs fit held) s B (indexed s)

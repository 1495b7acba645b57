-- `nearest` in the Rust's own names and order (document 01, index.rs): nodes wait, the least by gap, then by number, is taken out, and the walk ends where its gap is above the best. Definitions only.
use Rattle.search.specs.declared.Best.{Best}
use Rattle.std.specs.Prelude.{Bool, false, not, cond, ◌&&◌, ◌||◌, List, [], ◌∷◌, ◌++◌, ℕ, zero, suc, ◌+◌, eqb, ltb, length, Float, Option, None, Some}
use Rattle.std.specs.Float.Ieee.{lt}
use Rattle.boundary.specs.declared.Point.{Point}
use Rattle.boundary.specs.Boxes.{gap_of}
use Rattle.lists.specs.Lists.{fold}
use Rattle.sorts.specs.Keys.{total_less}
use Rattle.tree.specs.Tree.{Tree, leaf, inner, tree_box, index_of}
use Rattle.nodes.specs.Layout.{extra}
use Rattle.set.specs.Set.{Outline, set_boxes}
use Rattle.search.specs.Least.{magnitude_of, magnitude_at}
use Rattle.search.specs.Walk.{improved}

-- a node that waits: its gap, its number, the first number of those below it, and its tree
pub record Waiting : Type 0 where
  pub gap : Float
  pub node : ℕ
  pub next : ℕ
  pub tree : Tree

abbrev pub waiting_for : Point → ℕ → ℕ → Tree → Waiting
waiting_for p n next t = record { gap = gap_of (tree_box t) p; node = n; next = next; tree = t }

-- a is taken out before b: by gap, then by number
abbrev pub sooner : Waiting → Waiting → Bool
sooner a b = total_less a.gap b.gap || (not (total_less b.gap a.gap) && ltb a.node b.node)

-- the least, and the others
pub record Out : Type 0 where
  pub first : Waiting
  pub rest : List Waiting

unfoldable pub least_out : Waiting → List Waiting → Out
unfolding total_less
least_out x [] = record { first = x; rest = [] }
least_out x (y ∷ ys) =
    let o = least_out y ys in
    cond (sooner o.first x) (record { first = o.first; rest = x ∷ o.rest }) (record { first = x; rest = o.first ∷ o.rest })

-- outline k is looked at
abbrev pub chosen : (ℕ → Float) → Option Best → ℕ → Option Best
chosen D None k = Some (record { outline = k; distance = D k })
chosen D (Some b) k = Some (improved b k (D k))

-- a leaf's items in order; an inner node has none of its own
unfoldable pub looked : (ℕ → Float) → Option Best → Tree → Option Best
unfolding fold improved
looked D best (leaf b is) = fold (chosen D) best is
looked D best (inner b l r) = best

-- an inner node's children
unfoldable pub opened : Point → ℕ → Tree → List Waiting
unfolding extra gap_of
opened p next (leaf b is) = []
opened p next (inner b l r) = waiting_for p next (next + 2) l ∷ waiting_for p (next + 1) (next + 2 + extra l) r ∷ []

-- what waits after a turn: the others, and what the least opens
abbrev pub waiting_after : Point → Out → List Waiting
waiting_after p o = o.rest ++ opened p o.first.next o.first.tree

-- the gap is above the best
abbrev pub too_far : Option Best → Float → Bool
too_far None g = false
too_far (Some b) g = lt b.distance g

-- as many turns as f at most
unfoldable pub walk_on : ℕ → (ℕ → Float) → Point → List Waiting → Option Best → Option Best
unfolding lt least_out looked opened
walk_on zero D p ws best = best
walk_on (suc f) D p [] best = best
walk_on (suc f) D p (x ∷ xs) best =
    let o = least_out x xs in
    let later = walk_on f D p (waiting_after p o) (looked D best o.first.tree) in
    cond (too_far best o.first.gap) best later

-- from the root on: each node is taken out once at most
unfoldable pub walk_of : List Outline → Point → Option Best
unfolding walk_on extra index_of set_boxes magnitude_of gap_of
walk_of os p =
    let t = index_of (set_boxes os) in
    cond (eqb (length os) 0) None (walk_on (1 + extra t) (magnitude_at os p) p (waiting_for p 0 1 t ∷ []) None)

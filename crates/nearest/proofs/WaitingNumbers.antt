-- THE NODES THAT WAIT in the Rust's walk have the layout's numbers, at every turn. Assumes nothing.
use mathlib.Core.Path.{◌≡◌, refl, sym, ap, ◌∙◌}
use mathlib.Core.Bool.{Bool, true, false, cond}
use mathlib.Core.List.{List, [], ◌∷◌, ◌++◌, append_assoc, append-nil}
use Prim.Native.Nat.{ℕ, ◌+◌}
use native.Mathlib.Omega.{arith}
use lib.ListN.{length, drop, take-append-drop}
use lib.Seq.{take_at, drop_at, drop-drop}
use Rattle.boundary.specs.declared.Point.{Point}
use Rattle.lists.specs.Lists.{Every}
use Rattle.lists.proofs.MemberLaws.{every_append}
use Rattle.sorts.specs.Keys.{total_less}
use Rattle.tree.specs.Tree.{Tree, leaf, inner, items_of}
use Rattle.nodes.specs.Layout.{extra, node_of, nodes_below, nodes_of}
use Rattle.nodes.proofs.LayoutLaws.{length_below}
use Rattle.nearest.specs.Rust.{Waiting, waiting_for, sooner, Out, least_out, opened}
use Rattle.nearest.specs.Numbers.{StandFrom, Numbered, WaitsAt, at_start, after_turn}

-- ---- parts of a list
module _ {A : Type 0} (zs : List A) (n : ℕ) where
  stand_of : (xs rest : List A) → drop n zs ≡ xs ++ rest → StandFrom zs n xs
  stand_of xs rest e = rw e (take_at xs rest (length xs) refl)

  stand_rest : (xs : List A) → StandFrom zs n xs → drop n zs ≡ xs ++ drop (length xs) (drop n zs)
  stand_rest xs e = sym (take-append-drop (length xs) (drop n zs)) ∙ ap (λ (l : List A). l ++ drop (length xs) (drop n zs)) e

-- of two lists that stand one after the other, the first and the second
module _ {A : Type 0} (zs : List A) (n : ℕ) (xs ys : List A) (e : StandFrom zs n (xs ++ ys)) where
  all_from : drop n zs ≡ xs ++ (ys ++ drop (length (xs ++ ys)) (drop n zs))
  all_from = stand_rest zs n (xs ++ ys) e ∙ append_assoc xs ys _

  stand_first : StandFrom zs n xs
  stand_first = stand_of zs n xs _ all_from

  stand_second : (k : ℕ) → k ≡ n + length xs → StandFrom zs k ys
  stand_second k h =
      stand_of zs k ys _
      (ap (λ (i : ℕ). drop i zs) h ∙ sym (drop-drop (length xs) n zs) ∙ ap (drop (length xs)) all_from ∙ drop_at xs _ (length xs) refl)

-- a list from its front on
stand_all : {A : Type 0} (xs : List A) → StandFrom xs 0 xs
stand_all xs = stand_of xs 0 xs [] (sym (append-nil xs))

-- ---- the root, and what a node opens
module _ (p : Point) (root : Tree) where
  pub root_numbered : Numbered root (waiting_for p 0 1 root)
  unfolding nodes_of
  root_numbered = record { place = 0; items = stand_all (items_of root); own = refl; lower = stand_all (nodes_below root 0 1) }

  pub opened_numbered : (w : Waiting) → Numbered root w → Every (Numbered root) (opened p w.next w.tree)
  unfolding opened Every nodes_below items_of
  opened_numbered w h = go w.tree w.next h.place h.items h.lower
    where
      go : (t : Tree) (next place : ℕ) → StandFrom (items_of root) place (items_of t) → StandFrom (nodes_of root) next (nodes_below t place next)
          → Every (Numbered root) (opened p next t)
      go (leaf b is) next place i s = tt
      go (inner b l r) next place i s =
          let second = place + length (items_of l) in
          let free = next + 2 + extra l in
          let x = node_of l place (next + 2) in
          let y = node_of r second free in
          let lowest = nodes_below l place (next + 2) ++ nodes_below r second free in
          let both = stand_second (nodes_of root) next (x ∷ y ∷ []) lowest s (next + 2) refl in
          let more = stand_second (nodes_of root) next (x ∷ []) (y ∷ lowest) s (next + 1) refl in
          let n = length_below l place (next + 2) in (
            record {
              place = place;
              items = stand_first (items_of root) place (items_of l) (items_of r) i;
              own = stand_first (nodes_of root) next (x ∷ []) (y ∷ lowest) s;
              lower = stand_first (nodes_of root) (next + 2) (nodes_below l place (next + 2)) (nodes_below r second free) both;
            },
            (
              record {
                place = second;
                items = stand_second (items_of root) place (items_of l) (items_of r) i second refl;
                own = stand_first (nodes_of root) (next + 1) (y ∷ []) lowest more;
                lower = stand_second (nodes_of root) (next + 2) (nodes_below l place (next + 2)) (nodes_below r second free) both free (omega arith);
              },
              tt,
            ),
          )

-- ---- the least is taken out: what holds of all holds of it and of the others, and the other way round
-- one step of it: o is what is taken out of the entries after x, and s says whether its first is sooner
abbrev out_with : Waiting → Bool → Out → Out
out_with x s o = cond s (record { first = o.first; rest = x ∷ o.rest }) (record { first = x; rest = o.first ∷ o.rest })

module _ (P : Waiting → Type 0) where
  -- no entry is invented
  pub out_invents_none : (x : Waiting) (xs : List Waiting) → Every P (x ∷ xs) → Every P ((least_out x xs).first ∷ (least_out x xs).rest)
  unfolding least_out Every total_less
  out_invents_none x [] h = h
  out_invents_none x (y ∷ ys) h = go (least_out y ys) (sooner (least_out y ys).first x) (out_invents_none y ys h.1)
    where
      go : (o : Out) (s : Bool) → Every P (o.first ∷ o.rest) → Every P ((out_with x s o).first ∷ (out_with x s o).rest)
      go o true k = (k.0, (h.0, k.1))
      go o false k = (h.0, k)

  -- none is lost
  pub out_loses_none : (x : Waiting) (xs : List Waiting) → Every P ((least_out x xs).first ∷ (least_out x xs).rest) → Every P (x ∷ xs)
  unfolding least_out Every total_less
  out_loses_none x [] h = h
  out_loses_none x (y ∷ ys) h = go (least_out y ys) (sooner (least_out y ys).first x) (out_loses_none y ys) h
    where
      go : (o : Out) (s : Bool) → (Every P (o.first ∷ o.rest) → Every P (y ∷ ys)) → Every P ((out_with x s o).first ∷ (out_with x s o).rest)
          → Every P (x ∷ y ∷ ys)
      go o true f k = (k.1.0, f (k.0, k.1.1))
      go o false f k = (k.0, f k.1)

-- NUMBERED: every entry that waits at a turn of the walk
pub waits_numbered : (p : Point) (root : Tree) {ws : List Waiting} → WaitsAt p root ws → Every (Numbered root) ws
unfolding Every
waits_numbered p root at_start = (root_numbered p root, tt)
waits_numbered p root (after_turn {x = x} {xs = xs} h) =
    let o = least_out x xs in
    let k = out_invents_none (Numbered root) x xs (waits_numbered p root h) in
    every_append (Numbered root) o.rest (opened p o.first.next o.first.tree) k.1 (opened_numbered p root o.first k.0)

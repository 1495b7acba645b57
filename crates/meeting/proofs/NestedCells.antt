-- Of two cells, one inside the other, over one tree: what the inner lists is what the outer lists with some leaves left out. Assumes nothing.
use mathlib.Core.Path.{◌≡◌, refl, sym, ◌∙◌}
use mathlib.Core.Bool.{Bool, true, false, cond, true≢false}
use mathlib.Core.List.{[]}
use Rattle.boundary.specs.declared.Bounds.{Bounds}
use Rattle.boundary.specs.Boxes.{Around}
use Rattle.lists.specs.Lists.{Sublist}
use Rattle.lists.proofs.SublistLaws.{sublist_self, sublist_none, sublist_append}
use Rattle.tree.specs.Tree.{Tree, leaf, inner}
use Rattle.meeting.specs.Meeting.{apart, meeting_of}
use Rattle.meeting.proofs.ApartLaws.{apart_within}

module _ (c d : Bounds) (inside : Around d c) where
  pub meeting_sublist : (t : Tree) → Sublist (meeting_of c t) (meeting_of d t)
  unfolding meeting_of
  meeting_sublist (leaf b is) = go (apart b c) (apart b d) refl refl
    where
      go : (x y : Bool) → apart b c ≡ x → apart b d ≡ y → Sublist (cond x [] is) (cond y [] is)
      go true y e f = sublist_none (cond y [] is)
      go false false e f = sublist_self is
      go false true e f = absurd (true≢false (sym (apart_within b c d inside f) ∙ e))
  meeting_sublist (inner b l r) = sublist_append (meeting_sublist l) (meeting_sublist r)

-- A loop walked backwards: what is summed up over its edges, in any order, is summed up over the same edges with their ends exchanged. Assumes nothing.
use mathlib.Core.Path.{◌≡◌, refl, ap, ◌∙◌}
use mathlib.Core.List.{List, [], ◌∷◌, ◌++◌, reverse, reverse-cons}
use Rattle.lists.proofs.FoldLaws.{fold_last}
use Rattle.lists.specs.Lists.{fold}
use Rattle.exact.proofs.Loop.{path, loop}

-- `free`: the order of two members does not matter. `turn`: an edge from b to a counts for `h` of what the edge from a to b counts for
module _ {A B S : Type 0} (join : A → A → B) (f : S → B → S) (h : S → S) (free : (s : S) (x y : B) → f (f s x) y ≡ f (f s y) x) (turn : (s : S) (a b : A) → f (h s) (join b a) ≡ h (f s (join a b))) where
  path_last : (p z r : A) (ps : List A) → path join p (ps ++ (r ∷ [])) z ≡ path join p ps r ++ (join r z ∷ [])
  unfolding path
  path_last p z r [] = refl
  path_last p z r (q ∷ ps) = ap (λ xs. join p q ∷ xs) (path_last q z r ps)

  path_reversed : (s : S) (p z : A) (ps : List A) → fold f (h s) (path join z (reverse ps) p) ≡ h (fold f s (path join p ps z))
  unfolding fold path
  path_reversed s p z [] = turn s p z
  path_reversed s p z (r ∷ ps) =
      ap (λ qs. fold f (h s) (path join z qs p)) (reverse-cons r ps)
      ∙ ap (fold f (h s)) (path_last z p r (reverse ps))
      ∙ fold_last f free (h s) (join r p) (path join z (reverse ps) r)
      ∙ ap (λ t. fold f t (path join z (reverse ps) r)) (turn s p r)
      ∙ path_reversed (f s (join p r)) r z ps

  -- the loop may begin at its last point
  loop_last : (s : S) (p : A) (ps : List A) → fold f s (loop join (ps ++ (p ∷ []))) ≡ fold f s (path join p ps p)
  unfolding fold path loop
  loop_last s p [] = refl
  loop_last s p (q ∷ ps) = ap (fold f s) (path_last q q p ps) ∙ fold_last f free s (join p q) (path join q ps p)

  pub loop_reversed : (s : S) (ps : List A) → fold f (h s) (loop join (reverse ps)) ≡ h (fold f s (loop join ps))
  unfolding fold loop
  loop_reversed s [] = refl
  loop_reversed s (p ∷ ps) = ap (λ qs. fold f (h s) (loop join qs)) (reverse-cons p ps) ∙ loop_last (h s) p (reverse ps) ∙ path_reversed s p p ps

-- The index of a set, built in a lent index buffer: it stands there, and clearing leaves zeros in its place. Assumes nothing.
use mathlib.Core.Path.{◌≡◌}
use mathlib.Core.List.{List}
use Prim.Native.Nat.{ℕ, ◌*◌, ◌≤◌}
use native.Mathlib.Omega.{arith}
use lib.ListN.{length, take}
use lib.Seq.{sets}
use lib.Ieee.{Float}
use Rattle.tree.specs.Tree.{Tree, index_of}
use Rattle.index.specs.Buffer.{IndexBuffer, holding, grown, cleared}
use Rattle.index.proofs.GrowLaws.{grown_lent, holding_cleared}
use Rattle.index.proofs.IndexCovers.{index_stands}
use Rattle.set.specs.Set.{Outline, outlines_of, set_boxes}
use Rattle.set.specs.Answers.{Ready, Indexed}
use Rattle.set.proofs.SetLaws.{outlines_length, boxes_tested_lem}
use Rattle.set.proofs.AskLaws.{boxes_size, boxes_front, boxes_accepted}

module _ (v : List Float) (cs : List ℕ) (B : IndexBuffer) where
  abbrev os : List Outline
  os = outlines_of v cs

  abbrev set_tree : Tree
  set_tree = index_of (set_boxes os)

  -- what is built over the boxes, put at the front of X, is the set's index
  pub grown_set : (X₀ X : List Float) → 4 * length cs ≤ length X₀ → X ≡ sets X₀ 0 (set_boxes os) → (k : ℕ) (D : IndexBuffer)
      → record { answer = k; lent = D } ≡ grown (index_of (take (4 * length cs) X)) B → D ≡ holding set_tree B
  grown_set X₀ X room e k D g = grown_lent set_tree B (rw (boxes_front v cs X₀ X room e) at g)

  module _ (ready : Ready v cs B) (D : IndexBuffer) (held : D ≡ holding set_tree B) where
    pub set_indexed : Indexed os D
    set_indexed some =
        let n = outlines_length v cs in
        let l = boxes_size v cs in
        rw held (index_stands (set_boxes os) B (boxes_tested_lem os ready.fitting) (λ z. omega arith))

    pub set_cleared : cleared D ≡ cleared B
    set_cleared = rw held (holding_cleared (set_boxes os) B (boxes_accepted v cs B ready))

-- A local array in memory: whole, and its elements side by side. It says nothing of the crate. Assumes `Logic`.
use mathlib.Core.Path.{◌≡◌, refl}
use Prim.Native.Nat.{ℕ}
use mathlib.Core.List.{List, [], ◌∷◌}
use lib.ListN.{length}
use seplogic.Ra.Ura.{Ura}
use base.Fraction.{full_share}
use mir.Syntax.{ty_array}
use mir.Val.{Val}
use base.Logic.{ent, sep}
use base.Fml.{fsep, fat, froom}
use types.Logic.{Logic, sem}
use types.Kit.{‵, ◌$◌, ◌∵◌, !, qed, move, use1, drop, rewrite, fsplit, fjoin, fpick, fpack, feq_l, feq_i, done}
use types.Run.{forget}
use types.Share.{arr_parts}
use denote.RattleType.{RattleType}
use denote.Memory.{cell_at, lone, part_at, part_of, shares}
use denote.Array.{Array, array_val}
use denote.ArrayMemory.{Single, Array-apart, Array-whole}
use denote.Index.{row}

module _ {M : Type 1} {𝓤 : Ura M} (𝓛 : Logic 𝓤) (R : RattleType) (n : ℕ) where
  -- an array that was written whole is its elements
  pub local_apart : Single R.mir → (xs : List R.Denot) (v : Val) (b : ℕ) → ent 𝓤 (sep 𝓤 (sem 𝓛 (fat full_share (ty_array (lone R.mir) n) b 0 v)) (sem 𝓛 ((Array R n).own_val xs (v ∷ [])))) (sem 𝓛 (row R full_share xs b 0))
  unfolding part_of
  local_apart one xs v b =
      qed 𝓛 (‵ (fat full_share (ty_array (lone R.mir) n) b 0 v) ∷ ‵ ((Array R n).own_val xs (v ∷ [])) ∷ []) ∵
      use1 𝓛 (‵ (cell_at full_share (ty_array (lone R.mir) n ∷ []) (v ∷ []) b 0)) (𝓛.laws.at_raw full_share (ty_array (lone R.mir) n) b 0 v) $ fjoin ! $
      fpack ! (List Val) (λ vs. fsep (cell_at full_share (ty_array (lone R.mir) n ∷ []) vs b 0) ((Array R n).own_val xs vs)) (v ∷ []) $
      use1 𝓛 (‵ ((arr_parts (shares R) n).part full_share xs b 0)) (Array-apart 𝓛 R full_share one n xs b 0) $ fsplit ! $ drop ! $ done !

  -- its elements are the array's memory
  pub local_room : (xs : List R.Denot) (b : ℕ) → length xs ≡ n → ent 𝓤 (sem 𝓛 (row R full_share xs b 0)) (sem 𝓛 (froom (ty_array (lone R.mir) n) b 0))
  unfolding part_of
  local_room xs b l =
      qed 𝓛 (‵ (row R full_share xs b 0) ∷ []) ∵ feq_i ! ℕ (length xs) n l $ fjoin ! $
      use1 𝓛 (‵ (part_at (Array R n) full_share xs b 0)) (Array-whole 𝓛 R full_share n xs b 0) $
      fpick ! (λ vs. fsplit ! $ move ! (1 ∷ []) $ fpick ! (λ us. fsplit ! $ fsplit ! $ feq_l ! (λ e. drop ! $ drop ! $
      rewrite ! 0 (λ (ws : List Val). ‵ (cell_at full_share (ty_array (lone R.mir) n ∷ []) ws b 0)) e refl $
      use1 𝓛 (‵ (fat full_share (ty_array (lone R.mir) n) b 0 (array_val us))) (𝓛.laws.raw_at full_share (ty_array (lone R.mir) n) b 0 (array_val us)) $ forget ! 0 refl $ done !)))

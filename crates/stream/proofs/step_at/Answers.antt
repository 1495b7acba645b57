-- `stream::step_at` meets its contract: four bytes, read as a number of 32 bits, are the signed number. Assumes nothing.
use mathlib.Core.Path.{◌≡◌, ◌∙◌, ap}
use Prim.Native.Nat.{ℕ, ◌+◌, ◌*◌, ◌<◌}
use native.Mathlib.Omega.{arith}
use mir.Syntax.{w32}
use mir.Val.{to_z}
use Rattle.stream.specs.Bytes.{quad_of}
use Rattle.stream.proofs.StepLaws.{step_stands}
use Rattle.stream.proofs.step_at.Goals as goal

below : {a b c d : ℕ} → a < 256 → b < 256 → c < 256 → d < 256 → quad_of a b c d < 4294967296
below p q r s = omega (arith, p, q, r, s)

-- the same number, byte by byte
apart : (a b c d : ℕ) → a * 16777216 + b * 65536 + c * 256 + d ≡ quad_of a b c d
apart a b c d = omega arith

pub returns : goal.returns
returns c =
    let f = c.type_inv.s in
    step_stands _ _ _ (below (f _).fits (f _).fits (f _).fits (f _).fits) (c.from_be_bytes.ensures ∙ ap (λ n. to_z w32 n) (apart _ _ _ _)) c.from.ensures

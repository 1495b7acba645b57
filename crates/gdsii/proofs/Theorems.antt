-- A stream is read just where it is accepted, and the outlines read are those that it has in the format. Assumes nothing.
use mathlib.Core.Path.{◌≡◌, sym, ap, ◌∙◌, subst}
use mathlib.Core.List.{List, []}
use Prim.Native.Nat.{ℕ, suc}
use native.Mathlib.Omega.{arith}
use lib.IntN.{ℤ}
use lib.ListN.{length}
use Rattle.accept.specs.declared.Refusal.{Refusal}
use Rattle.stream.specs.declared.Awaited.TheVariants.{Header}
use Rattle.gdsii.specs.Reading.{Reading, turned_down, read_as, reading}
use Rattle.gdsii.specs.Accepted.{AcceptedStream}
use Rattle.gdsii.proofs.PassedLaws.{none_small}
use Rattle.gdsii.proofs.Stages.{stages_stream, stream_stages}
use Rattle.gdsii.proofs.Sound.{not_holding, Rest, sound}
use Rattle.gdsii.proofs.Complete.{complete_all}

-- what is read is accepted
pub accepted_holds : (s : List ℕ) (zss : List (List ℤ)) → reading s ≡ read_as zss → AcceptedStream zss s
unfolding reading
accepted_holds s zss q = go (sound (suc (length s)) Header [] s zss q)
  where
    go : Rest Header [] s zss → AcceptedStream zss s
    go r =
        let z = r.small none_small in
        let e : zss ≡ r.rest = r.whole in
        let a : AcceptedStream r.rest s =
        record {
          stream = stages_stream r.rest s r.form;
          within = r.within;
          made = r.made;
          outlines = rw (sym e) z.outlines;
          vertices = rw (sym e) z.vertices;
        }
        in
        subst (λ (yss : List (List ℤ)). AcceptedStream yss s) (sym e) a

-- what is accepted is read
pub holds_accepted : (s : List ℕ) (zss : List (List ℤ)) → AcceptedStream zss s → reading s ≡ read_as zss
unfolding reading
holds_accepted s zss a =
    complete_all (suc (length s)) zss s (omega arith) (stream_stages zss s a.stream) a.within a.made (record { outlines = a.outlines; vertices = a.vertices })

-- a stream has the outlines of one set at most
abbrev outlines_of : Reading → List (List ℤ)
outlines_of (turned_down r) = []
outlines_of (read_as zss) = zss

pub one_reading : (s : List ℕ) {zss yss : List (List ℤ)} → AcceptedStream zss s → AcceptedStream yss s → zss ≡ yss
one_reading s {zss} {yss} a b = ap outlines_of (sym (holds_accepted s zss a) ∙ holds_accepted s yss b)

-- what is refused is not accepted, with whatever outlines
pub refused_none : (s : List ℕ) (r : Refusal) → reading s ≡ turned_down r → (zss : List (List ℤ)) → AcceptedStream zss s → ⊥
refused_none s r e zss a = not_holding (sym e ∙ holds_accepted s zss a)

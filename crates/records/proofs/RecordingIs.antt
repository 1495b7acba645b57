-- The machine value of a number, a count and 511 node records side by side, field by field. Assumes nothing.
use mathlib.Core.Path.{◌≡◌, refl, sym, ap, subst, ◌∙◌}
use mathlib.Core.List.{List, [], ◌∷◌, map}
use Prim.Native.Nat.{ℕ, ◌<◌, ◌^◌}
use lib.ListN.{length-map}
use mir.Syntax.{w32, w64}
use mir.Val.{Val, vint, vstruct, vcons, vnil, of_list}
use denote.RattleType.{RattleType}
use denote.Laws.{Is}
use denote.Shadow.{shadow}
use denote.Array.{Array, each}
use denote.Steps.{only}
use denote.Struct.Field.{u32-field, usize-field, array_field}
use denote.Struct.Declared.{Declared, row}
use denote.Struct.Record.{Record, Done, Done-prop, declared}
use denote.Struct.Tuple.{tuple_name}
use denote.Struct.Laws.{u32-laws, usize-laws, array_laws}
use denote.Struct.Laws as LL
use Rattle.nodes.specs.declared.Node.{Node}
use Rattle.nodes.specs.contracts.Node as T
use Rattle.nodes.proofs.Node.TheLaws as T'

pub record Recording : Type 0 where
  pub number : ℕ
  pub count : ℕ
  pub list : List Node

-- laid out as a `u32`, a `usize` and a `[Node; 511]`
abbrev struct : Record
struct = record {
  name = tuple_name 3;
  args = [];
  types = [];
  parts = u32-field ∷ usize-field ∷ array_field T.the_field 511 ∷ [];
  D = Recording;
  as_values = λ r. (r.number, (r.count, (r.list, tt)));
  Ghost = λ v. Done;
  ghosts = λ r. tt;
  make = λ v g. record { number = v.0; count = v.1.0; list = v.1.1.0 };
  eta = λ r. refl;
  beta = λ v g. refl;
}

abbrev the_type : Declared
the_type = declared struct (λ v. Done-prop)

abbrev pub the_row : RattleType
the_row = row the_type

abbrev the_laws : LL.Laws the_type
the_laws = (u32-laws, (usize-laws, (array_laws T.the_field T'.the_field_laws 511, tt)))

-- the machine value of its list
abbrev pub list_val : Recording → Val
list_val r = vstruct (of_list (map T'.lowered r.list))

-- nodes as the list has them, and as records
each_node : (xs : List Node) (us : List Val) → shadow (each _ (T.the_field).row.own_val (map (T.the_field).into xs) us) → shadow (each Node (T.the_row).own_val xs us)
each_node [] [] s = s
each_node [] (u ∷ us) s = absurd s
each_node (x ∷ xs) [] s = absurd s
each_node (x ∷ xs) (u ∷ us) s = (s.0, each_node xs us s.1)

nodes_are : (xs : List Node) (vs : List Val) → Is (Array (T.the_field).row 511) (map (T.the_field).into xs) vs → Is (Array T.the_row 511) xs vs
nodes_are xs vs p = (p.0, ((p.1.0.0, sym (length-map xs (T.the_field).into) ∙ p.1.0.1), each_node xs p.0 p.1.1))

pub list_is : (r : Recording) (vs : List Val) → Is the_row r vs → Is (Array T.the_row 511) r.list (list_val r ∷ [])
list_is r vs is =
    let p = (LL.owed the_type the_laws r vs is).1.1.0 in
    let e = (array_laws T.the_field T'.the_field_laws 511).low-is r.list _ p in
    subst (λ (ws : List Val). Is (Array T.the_row 511) r.list ws) e (nodes_are r.list _ p)

pub recording_is : (r : Recording) (v : Val) → Is the_row r (v ∷ []) → v ≡ vstruct (vcons (vint w32 r.number) (vcons (vint w64 r.count) (vcons (list_val r) vnil)))
recording_is r v is = ap only (LL.Tells-lowered struct (λ v. Done-prop) the_laws r (v ∷ []) is)

pub number_small : (r : Recording) (vs : List Val) → Is the_row r vs → r.number < 2 ^ 32
number_small r vs is = (LL.owed the_type the_laws r vs is).0.1

pub count_small : (r : Recording) (vs : List Val) → Is the_row r vs → r.count < 2 ^ 64
count_small r vs is = (LL.owed the_type the_laws r vs is).1.0.1

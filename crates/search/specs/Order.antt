-- The order of the entries that wait (document 01, index.rs: `nearest`): by gap, then by node number. Definitions only.
use Rattle.std.specs.Prelude.{Bool, not, ◌&&◌, ◌||◌, T, ltb}
use Rattle.std.specs.Float.Ieee.{lt, eq, is_nan}
use Rattle.search.specs.declared.Entry.{Entry}

-- a is taken before b
unfoldable pub entry_before : Entry → Entry → Bool
unfolding lt eq
entry_before a b = lt a.gap b.gap || (eq a.gap b.gap && ltb a.node b.node)

-- the gap is no NaN
abbrev pub NumberGap : Entry → Type 0
NumberGap a = T (not (is_nan a.gap))

infix 4 ◌≼◌
-- b is not before a, and both gaps are numbers
pub record ◌≼◌ (a b : Entry) : Type 0 where
  pub left : NumberGap a
  pub right : NumberGap b
  pub order : T (not (entry_before b a))

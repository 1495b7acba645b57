-- `clip::scan::first_pass` meets its contract: the lines so far do not come in, and the lines that are left give the start. Assumes nothing.
use mathlib.Core.Path.{◌≡◌}
use Prim.Native.Nat.{◌+◌, ◌-◌}
use Rattle.clip.specs.Passes.{marks_of, start_line}
use Rattle.clip.specs.Lent.{line_in, lines_from}
use Rattle.clip.proofs.scan.first_pass.Given as goal

abbrev pub invariant-loop-i : goal.invariant-loop-i
invariant-loop-i l = l.i + start_line l.s l.before (lines_from l.lines 0 l.i (l.n - l.i)) ≡ start_line l.s (marks_of l.s (line_in l.lines 0 (l.n - 1))).end_kept (lines_from l.lines 0 0 l.n)

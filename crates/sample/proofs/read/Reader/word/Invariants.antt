-- `sample::read::Reader::word` answers with no empty word: what it has read so far is none either.
use Rattle.std.proofs.Common.{◌<◌, IfSome}
use Rattle.sample.proofs.read.Reader.word.Given as goal

abbrev pub invariant-loop : goal.invariant-loop
invariant-loop g l = IfSome l.word (λ word. 0 < word.len)

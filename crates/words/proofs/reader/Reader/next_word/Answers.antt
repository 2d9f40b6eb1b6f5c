use Rattle.std.proofs.Common.{arith}
use Rattle.words.proofs.WordLaws.{next_some, next_none, after_none}
use Rattle.words.proofs.reader.Reader.next_word.Goals as goal

pub returns-then-length-eq0-clause-none : goal.returns-then-length-eq0-clause-none
returns-then-length-eq0-clause-none c = after_none _ _ c.args.self.now.column _ _ c.spaces-gap.ensures.is c.word_length-length.ensures.is c.if-length-eq0.true _

pub returns-then-length-eq0-clause-ahead : goal.returns-then-length-eq0-clause-ahead
returns-then-length-eq0-clause-ahead c = next_none _ _ c.args.self.now.column _ _ c.spaces-gap.ensures.is c.word_length-length.ensures.is c.if-length-eq0.true

pub returns-clause-ahead : goal.returns-clause-ahead
returns-clause-ahead c = next_some _ _ c.args.self.now.column _ _ c.spaces-gap.ensures.is c.word_length-length.ensures.is (omega arith)

-- A line has no more words than bytes.
use Rattle.std.proofs.Common.{arith, inl}
use Rattle.text.proofs.Words.{words_few}
use Rattle.text.proofs.pieces.count_words.Goals as goal

pub count-requires-clause-fits : goal.count-requires-clause-fits
count-requires-clause-fits c = inl (omega (arith, words_few c.args.line.now))

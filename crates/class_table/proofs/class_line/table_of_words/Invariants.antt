use Rattle.class_table.proofs.Words.{SoFar}
use Rattle.class_table.proofs.class_line.table_of_words.Given as goal

abbrev pub invariant-loop-word : goal.invariant-loop-word
invariant-loop-word l = SoFar l.fn.words l.word-iterator l.numbers.items l.too_many

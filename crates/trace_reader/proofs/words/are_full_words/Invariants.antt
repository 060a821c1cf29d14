use Rattle.std.{proofs.Common.{◌≡◌, ◌++◌, map, false}, specs.List.{list_any}}
use Rattle.line_text.specs.Lines.{words}
use Rattle.trace_reader.specs.TraceLine.{is_empty_word}
use Rattle.trace_reader.proofs.words.are_full_words.Given as goal

abbrev pub invariant-loop-word : goal.invariant-loop-word
invariant-loop-word l = record {
  words : words l.line ≡ map (λ w. w.now) l.all.items ++ l.word-iterator;
  full : list_any is_empty_word (map (λ w. w.now) l.all.items) ≡ false;
}

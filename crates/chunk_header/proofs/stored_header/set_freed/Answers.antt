use Rattle.heap_theory.specs.Header.Standing.{Freed}
use Rattle.chunk_header.proofs.LinkedHeaders.{one_word}
use Rattle.chunk_header.proofs.stored_header.set_freed.Goals as goal

pub returns : goal.returns
returns c =
    let its = c.set_word.ensures in
    one_word (λ standing. Freed) c.args.memory.now c.set_word.new.self c.args.granule c.args.next c.word_of_freed-word.result c.word.result
    c.word.ensures (c.word_of_freed-word.ensures 0) its.written its.word its.others its.memory

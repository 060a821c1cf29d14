use Rattle.std.{proofs.Common.{◌≡◌, ◌+◌, ◌*◌, ap, sym, ◌∙◌, arith, rules, inl}, specs.Int.{w64, to_le_bytes}}
use Rattle.heap_theory.proofs.HeaderWords.{header_at-elsewhere, header_of-words, with_header-words}
use Rattle.heap_theory.specs.Header.{first_word, second_word, header_of, header_at, with_header}
use Rattle.machine_theory.specs.Memory.{word_at, written}
use Rattle.chunk_header.specs.HeaderView.{seen}
use Rattle.chunk_header.proofs.stored_header.write.Goals as goal

pub returns : goal.returns
unfolding header_at
returns c =
    let g = c.args.granule in
    let old = c.args.memory.now in
    let new = c.set_word-2.new.self in
    let header = seen c.args.header.now in
    let at : 16 * g + 0 ≡ 16 * g = omega arith in
    let first : word_at new (16 * g) ≡ first_word header =
    ap (word_at new) (sym at) ∙ c.set_word-2.ensures.others.word (16 * g + 0) (inl (omega arith))
    ∙ c.set_word.ensures.word ∙ c.first_word.ensures.word in
    let second : word_at new (16 * g + 8) ≡ second_word header = c.set_word-2.ensures.word in
    let written_is : new ≡ with_header old g header =
    c.set_word-2.ensures.written
    ∙ ap (written (16 * g + 8) (to_le_bytes w64 (second_word header)))
    (c.set_word.ensures.written ∙ (λ i. written (at i) (to_le_bytes w64 (c.first_word.ensures.word i)) old))
    ∙ sym (with_header-words old g header) in
    record {
      written = written_is;
      read = (λ i. header_of (first i) (second i)) ∙ header_of-words header c.first_word.ensures.fits;
      headers = λ k other. ap (λ memory. header_at memory k) written_is ∙ header_at-elsewhere old g k header other;
      others = search rules;
      memory = c.set_word-2.ensures.memory;
    }

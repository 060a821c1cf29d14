use Rattle.std.{proofs.Common.{◌≡◌, ◌+◌, ◌*◌, ap, sym, ◌∙◌, arith, inl}, specs.Int.{w64, to_le_bytes}}
use Rattle.heap_theory.{proofs.HeaderWords.{header_at-elsewhere, header_of-words, with_header-words}, specs.Header.Standing.{Quarantined}}
use Rattle.heap_theory.specs.Header.{FitsWords, first_word, second_word, header_of, header_at, with_header}
use Rattle.machine_theory.specs.Memory.{word_at, written}
use Rattle.chunk_header.proofs.{LinkedHeaders.{word_relinked}, Rewrites.{both_words}}
use Rattle.chunk_header.proofs.stored_header.set_quarantined.Goals as goal

pub returns : goal.returns
unfolding header_at
returns c =
    let g = c.args.granule in
    let old = c.args.memory.now in
    let new = c.set_word-2.new.self in
    let header = record (header_at old g) { standing = Quarantined; next = 0; mark = c.args.mark } in
    let at : 16 * g + 0 ≡ 16 * g = omega arith in
    let word = c.word_of_quarantined-word.ensures 0 ∙ word_relinked (λ standing. Quarantined) old g 0 c.word.result 0 c.word.ensures in
    let first : word_at new (16 * g) ≡ first_word header =
    ap (word_at new) (sym at) ∙ c.set_word-2.ensures.others.word (16 * g + 0) (inl (omega arith))
    ∙ c.set_word.ensures.word ∙ word in
    let second : word_at new (16 * g + 8) ≡ second_word header = c.set_word-2.ensures.word in
    let fits : FitsWords header = record {
      size = omega arith;
      tag = omega arith;
      class = c.requires.class;
      next = omega arith;
      mark = c.ranges.mark.fits;
    } in
    let written_is : new ≡ with_header old g header =
    c.set_word-2.ensures.written
    ∙ ap (written (16 * g + 8) (to_le_bytes w64 (second_word header)))
    (c.set_word.ensures.written ∙ (λ i. written (at i) (to_le_bytes w64 (word i)) old))
    ∙ sym (with_header-words old g header) in
    record {
      written = written_is;
      read = (λ i. header_of (first i) (second i)) ∙ header_of-words header fits;
      headers = λ k other. ap (λ memory. header_at memory k) written_is ∙ header_at-elsewhere old g k header other;
      others = both_words old c.set_word.new.self new g c.set_word.ensures.others c.set_word-2.ensures.others;
      memory = c.set_word-2.ensures.memory;
    }

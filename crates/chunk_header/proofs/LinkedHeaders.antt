-- A first word that is written makes another header, with the mark that stands there.
use Rattle.std.{proofs.Common.{◌≡◌, ℕ, ◌+◌, ◌*◌, List, ap, subst, sym, ◌∙◌, inr, arith}, specs.Int.{w64, to_le_bytes}}
use Rattle.machine_theory.specs.Memory.{Granule, IsMemory, word_at, written}
use Rattle.granule_memory.specs.Changes.{ChangesOnlyBytes}
use Rattle.heap_theory.proofs.HeaderWords.{header_at-elsewhere, with_header-words}
use Rattle.heap_theory.specs.Header.{Standing, first_word, header_of, header_at, with_header}
use Rattle.chunk_header.proofs.{FirstWords.{header_of-relinked, relinked}, Rewrites.{word_written_over}}
use Rattle.chunk_header.specs.HeaderWrite.{WritesHeader}

-- the first word of the header in granule g with another standing and link, by the first word that was read
pub word_relinked : (standing : Standing → Standing) (memory : List Granule) (g next word second : ℕ) → word ≡ word_at memory (16 * g + 0) →
    first_word (relinked standing next (header_of word second)) ≡ first_word (relinked standing next (header_at memory g))
unfolding header_at
word_relinked standing memory g next word second read = grind arith

-- the word that is written makes that header; the second word is not written, since it would not change
pub one_word : (standing : Standing → Standing) (old new : List Granule) (g next word before : ℕ) → before ≡ word_at old (16 * g + 0)
    → word ≡ first_word (relinked standing next (header_of before 0)) → new ≡ written (16 * g + 0) (to_le_bytes w64 word) old
    → word_at new (16 * g + 0) ≡ word → ChangesOnlyBytes old new (16 * g + 0) (16 * g + 0 + 8) → IsMemory new
    → WritesHeader old new g 8 (relinked standing next (header_at old g))
unfolding header_at
one_word standing old new g next word before was is writes reads others memory =
    let header = relinked standing next (header_at old g) in
    let at : 16 * g + 0 ≡ 16 * g = omega arith in
    let word_is : word ≡ first_word header = is ∙ word_relinked standing old g next before 0 was in
    let first : word_at new (16 * g) ≡ first_word header = ap (word_at new) (sym at) ∙ reads ∙ word_is in
    let second : word_at new (16 * g + 8) ≡ header.mark = others.word (16 * g + 8) (inr (omega arith)) in
    let written_is : new ≡ with_header old g header =
    grind (arith, word_written_over, with_header-words) in
    record {
      written = written_is;
      read = (λ i. header_of (first i) (second i)) ∙ header_of-relinked standing (word_at old (16 * g)) (word_at old (16 * g + 8)) next;
      headers = λ k other. ap (λ memory. header_at memory k) written_is ∙ header_at-elsewhere old g k header other;
      others = subst (λ k. ChangesOnlyBytes old new k (k + 8)) at others;
      memory = memory;
    }

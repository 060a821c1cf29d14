use Rattle.std.proofs.{Common.{◌≡◌, ◌%◌, ◌^◌, arith, bit_and}, lemmas.Nat.{and_mask}}
use Rattle.chunk_header.proofs.FirstWords.{first_word-quarantined}
use Rattle.chunk_header.proofs.words.word_of_quarantined.Goals as goal

pub returns : goal.returns
returns c = λ second.
    let masked : bit_and c.args.first 4294967295 ≡ c.args.first % 2 ^ 32 = and_mask c.args.first 32 in
    let word = first_word-quarantined c.args.first second in
    let code = c.code_of.ensures.code in
    omega arith

use Rattle.std.proofs.{Common.{◌≡◌, ◌%◌, ◌^◌, arith, bit_and}, lemmas.Nat.{and_mask}}
use Rattle.chunk_header.proofs.FirstWords.{first_word-freed}
use Rattle.chunk_header.proofs.words.word_of_freed.Goals as goal

pub returns : goal.returns
returns c = λ second.
    let masked : bit_and c.args.first 4294967295 ≡ c.args.first % 2 ^ 32 = and_mask c.args.first 32 in
    let word = first_word-freed c.args.first second c.args.next in
    let from = c.from.ensures in
    let fits = c.ranges.next.fits in
    omega arith

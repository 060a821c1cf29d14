use Rattle.heap_theory.proofs.HeadersAgree.{header_words_stay}
use Rattle.heap_theory.proofs.laws.headers.law_header_words.Goals as goal

pub returns : goal.returns
returns c = header_words_stay

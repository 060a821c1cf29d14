use Rattle.memchr.specs.Find.{Nowhere, Passes, is_byte}
use Rattle.line_text.proofs.search.first_place.Given as goal

abbrev pub invariant-loop-place : goal.invariant-loop-place
invariant-loop-place l = Nowhere (Passes (is_byte l.byte) l.bytes) 0 l.place

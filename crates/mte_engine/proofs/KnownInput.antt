-- Where the source knows its bytes, an answer to what it gave is one to all that was to come.
use Rattle.std.proofs.Common.{◌≡◌, ℕ, ◌≤◌, Bool, ltb, List, length, Option, Some, Result, refl}
use Rattle.std.proofs.{Common.{arith, append-nil, subst}, lemmas.List.{length-append}}
use Rattle.std.specs.Io.KnownBytes.{Consumes, IsAtEnd}
use Rattle.byte_streams.specs.{Streams.{SourceState}, Transfer.{HasEnded, most_input}}
use Rattle.mte_engine.specs.{Outcome.{Answer, AnswersGiven, AnswersInput}, declared.fault.InputFault.{InputFault}}

all_read : (all input : List ℕ) (after : Option (List ℕ)) → Consumes (Some all) after input → IsAtEnd after → all ≡ input
all_read all input after bytes end = grind (arith, append-nil)

no_longer : (all input : List ℕ) (after : Option (List ℕ)) → Consumes (Some all) after input → length input ≤ length all
no_longer all input after bytes = grind (arith, length-append)

by_length : (answers : List ℕ → Result Answer InputFault → Type 0) (all input : List ℕ) (source' : SourceState)
    (answer : Result Answer InputFault) → Consumes (Some all) source'.remaining input → AnswersInput answers input answer
    → (length input ≤ most_input → HasEnded source') → (long : Bool) → ltb most_input (length input) ≡ long → AnswersInput answers all answer
by_length answers all input source' answer read given ended long short = grind (arith, all_read, no_longer)

pub answers_all : (answers : List ℕ → Result Answer InputFault → Type 0) (source source' : SourceState) (all : List ℕ)
    (answer : Result Answer InputFault) → source.remaining ≡ Some all → AnswersGiven answers source source' answer
    → AnswersInput answers all answer
answers_all answers source source' all answer knows given =
    by_length answers all given.0 source' answer
    (subst (λ (known : Option (List ℕ)). Consumes known source'.remaining given.0) knows given.1.known) given.2 given.3 _ refl

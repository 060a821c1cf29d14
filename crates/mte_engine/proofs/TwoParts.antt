-- From the two parts of an input, in one text or in two, to the answer.
use Rattle.std.proofs.Common.{◌≡◌, ℕ, Bool, true, false, MatchBool, List, [], ◌∷◌, Result, Ok, Err, refl}
use Rattle.mte_engine.specs.{Outcome.{Answer, GivesAnswer, GivesFault}, Parts.{AnswersPart, EndsPart, GivesPart, alone, both_parts}}
use Rattle.mte_engine.specs.declared.{engine.Status.{Status}, fault.AnswerError.{AnswerError}, fault.InputFault.{InputFault}}
use Rattle.mte_engine.specs.declared.fault.AnswerError.TheVariants.{OutOfMemory, Input}

-- ---- a part that no line follows in its text

module _ {A : Type 0} (part : Result A InputFault) (fault : InputFault) where
  pub part_alone : (x : A) (others : List (List ℕ)) → part ≡ Ok x → others ≡ [] → alone part others fault ≡ Ok x
  part_alone x others read none = rw none read

  pub part_refused : (others : List (List ℕ)) (error : AnswerError) → GivesPart {A = A} (Err error) part
      → GivesPart {A = A} (Err error) (alone part others fault)
  part_refused [] error gives = gives
  part_refused (line ∷ ls) OutOfMemory gives = tt
  part_refused (line ∷ ls) (Input refused) gives = rw gives refl

  pub others_refused : (x : A) (others : List (List ℕ)) (error : AnswerError) → part ≡ Ok x → EndsPart others fault (Err error)
      → GivesPart {A = A} (Err error) (alone part others fault)
  others_refused x [] error read ended = absurd (ended.0 refl)
  others_refused x (line ∷ ls) OutOfMemory read ended = tt
  others_refused x (line ∷ ls) (Input refused) read ended = let same : refused ≡ fault = cc in rw (read, same) refl

-- ---- two parts

module _ {A B : Type 0} (first : Result A InputFault) (second : Result B InputFault) (says : A × B → Answer → Type 0) where
  pub first_refused : (error : AnswerError) → GivesPart {A = A} (Err error) first
      → GivesFault (AnswersPart (both_parts first second) says) error
  first_refused OutOfMemory gives = tt
  first_refused (Input fault) gives = rw gives refl

  pub then_answered : {O : Type 0} (left : O → List ℕ) (x : A) → first ≡ Ok x → (result : Result (O × Status) AnswerError)
      → GivesAnswer left (AnswersPart second (λ y. says (x, y))) result
      → GivesAnswer left (AnswersPart (both_parts first second) says) result
  then_answered left x read (Ok answered) gives = ((x, gives.0), rw (read, gives.1) refl, gives.2)
  then_answered left x read (Err OutOfMemory) gives = tt
  then_answered left x read (Err (Input fault)) gives = rw (read, gives) refl

-- ---- one answer or another

module _ {O : Type 0} (left : O → List ℕ) (one other : Result Answer InputFault → Type 0) where
  pub one_answers : (over : Bool) → over ≡ true → (result : Result (O × Status) AnswerError) → GivesAnswer left one result
      → GivesAnswer left (λ answer. MatchBool over (one answer) (other answer)) result
  one_answers true is result gives = gives
  one_answers false is result gives = absurd cc

  pub other_answers : (over : Bool) → over ≡ false → (result : Result (O × Status) AnswerError) → GivesAnswer left other result
      → GivesAnswer left (λ answer. MatchBool over (one answer) (other answer)) result
  other_answers true is result gives = absurd cc
  other_answers false is result gives = gives

-- a fault of both
pub either_refused : (one other : Result Answer InputFault → Type 0) (over : Bool) (error : AnswerError) → GivesFault one error
    → GivesFault other error → GivesFault (λ answer. MatchBool over (one answer) (other answer)) error
either_refused one other true error is_one is_other = is_one
either_refused one other false error is_one is_other = is_other

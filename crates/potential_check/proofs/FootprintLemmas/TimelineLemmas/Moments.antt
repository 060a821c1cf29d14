-- The numbers that the words of a line name.
use Rattle.std.proofs.Common.{◌≡◌, ℕ, ◌+◌, ◌≤◌, ◌<◌, List, [], ◌∷◌, ◌++◌, length, Some, None, option_map}
use Rattle.std.proofs.{Common.{arith, append_assoc, append-nil, length-append}, lemmas.Bool.{le-leb}}
use Rattle.line_text.specs.Numbers.{number_of}
use Rattle.tuner_theory.specs.declared.most_snapshots.TheConstants.{MOST_SNAPSHOTS}
use Rattle.potential_check.specs.Footprints.Timelines.MomentsLine.{moment_of, moments_from, moments_of_words}

-- What was read of all words: these numbers, and then those of the rest.
pub record ReadSoFar (all rest : List (List ℕ)) (next : ℕ) (numbers : List ℕ) : Type 0 where
  pub read : moments_from 0 all ≡ option_map (λ ns. numbers ++ ns) (moments_from next rest)
  pub size : length all ≡ length numbers + length rest

pub read-more : (all rest new : List (List ℕ)) (next : ℕ) (numbers word : List ℕ) (n : ℕ) → ReadSoFar all rest next numbers
    → rest ≡ word ∷ new → Some n ≡ moment_of next (number_of word) → ReadSoFar all new (n + 1) (numbers ++ n ∷ [])
unfolding moments_from
read-more all rest new next numbers word n so_far parts is = grind (arith, append_assoc, length-append)

-- a word that names no number
pub read-faulty : (all rest new : List (List ℕ)) (next : ℕ) (numbers word : List ℕ) → ReadSoFar all rest next numbers
    → rest ≡ word ∷ new → None ≡ moment_of next (number_of word) → moments_of_words all ≡ None
unfolding moments_from
read-faulty all rest new next numbers word so_far parts is = grind arith

-- all words
pub read-all : (all rest : List (List ℕ)) (next : ℕ) (numbers : List ℕ) → ReadSoFar all rest next numbers → rest ≡ []
    → 0 < length numbers → length numbers ≤ MOST_SNAPSHOTS → moments_of_words all ≡ Some numbers
unfolding moments_from
read-all all rest next numbers so_far end some few = grind (arith, append-nil, le-leb)

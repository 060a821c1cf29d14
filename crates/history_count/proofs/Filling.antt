-- Reading the numbers of a line, word by word, into their places.
use Rattle.std.proofs.Common.{◌≡◌, ◌≢◌, ℕ, ◌+◌, ◌<◌, Bool, true, false, nat_lt, List, [], ◌∷◌, ◌++◌, length, map, set, take, drop, Option}
use Rattle.std.proofs.Common.{Some, None, option_map, slice_get, refl, sym, ◌∙◌, arith, append_assoc, append-nil, length-append}
use Rattle.std.proofs.lemmas.List.{map-append, take_more_set}
use Rattle.class_table.specs.NamedLines.{numbers_of}
use Rattle.line_text.specs.{Numbers.{classified, number_of}, declared.number.Number.{Number}}
use Rattle.history_count.specs.LineView.{capped}

-- ---- the next word

pub record IsNextWord (old new : List (List ℕ)) (read : Number) : Type 0 where
  pub word : List ℕ
  pub parts : old ≡ word ∷ new
  pub says : read ≡ classified (number_of word)

pub next_word : (old new : List (List ℕ)) (read : Number) → Some read ≡ option_map (λ word. classified (number_of word)) (slice_get old 0)
    → new ≡ drop 1 old → IsNextWord old new read
next_word old new read is also = grind arith

abbrev no_read : Option Number
no_read = None

pub no_next_word : (old : List (List ℕ)) → no_read ≡ option_map (λ word. classified (number_of word)) (slice_get old 0) → old ≡ []
no_next_word [] none = refl
no_next_word (w ∷ ws) none = absurd cc

-- ---- the numbers so far

-- The numbers of all words, where those in front were read.
abbrev numbers_on : List ℕ → List (List ℕ) → Option (List ℕ)
numbers_on front ws = option_map (λ ns. front ++ ns) (numbers_of ws)

number_more : (front : List ℕ) (w : List ℕ) (rest : List (List ℕ)) (n : ℕ) → number_of w ≡ Some n
    → numbers_on front (w ∷ rest) ≡ numbers_on (front ++ n ∷ []) rest
unfolding numbers_of
number_more front w rest n is = grind (arith, option_map, append_assoc)

-- where all words before it were numbers, a word that is none
pub none_on : (all rest new : List (List ℕ)) (front w : List ℕ) → numbers_of all ≡ numbers_on front rest → rest ≡ w ∷ new → number_of w ≡ None
    → numbers_of all ≡ None
unfolding numbers_of
none_on all rest new front w so_far parts none = so_far ∙ rw (parts, none) refl

-- the number that was read of a word
pub read_number : (o : Option ℕ) (number : ℕ) → Some number ≡ option_map capped o → (n : ℕ) × (o ≡ Some n) × (number ≡ capped n)
read_number o number is = grind arith

pub no_number : (o : Option ℕ) (read : Option ℕ) → read ≡ None → read ≡ option_map capped o → o ≡ None
no_number o read is also = grind arith

-- ---- the places

pub record FillsSoFar (all rest : List (List ℕ)) (place : ℕ) (filled : List ℕ) : Type 0 where
  pub front : List ℕ
  pub read : numbers_of all ≡ numbers_on front rest
  pub size : length front ≡ place
  pub put : take place filled ≡ map capped front

-- a number more
pub fills-more : (all rest new : List (List ℕ)) (place : ℕ) (filled w : List ℕ) (n number : ℕ)
    → FillsSoFar all rest place filled → rest ≡ w ∷ new → number_of w ≡ Some n → number ≡ capped n → place < length filled
    → FillsSoFar all new (place + 1) (set filled place number)
fills-more all rest new place filled w n number so_far parts is capped_is room = record {
  front = so_far.front ++ n ∷ [];
  read = so_far.read ∙ rw parts (number_more so_far.front w new n is);
  size = omega (arith, length-append so_far.front (n ∷ []), so_far.size);
  put =
      grind (arith, take_more_set, map-append);
}

-- no word more: there are too few
pub fills-few : (all rest : List (List ℕ)) (place : ℕ) (filled : List ℕ) → FillsSoFar all rest place filled → rest ≡ [] → place < length filled
    → (numbers : List ℕ) × (numbers_of all ≡ Some numbers) × (length numbers ≢ length filled)
unfolding numbers_of
fills-few all rest place filled so_far none more = grind (arith, append-nil)

-- ---- the words after the places

pub record EndsSoFar (all rest : List (List ℕ)) (is_too_long : Bool) : Type 0 where
  pub front : List ℕ
  pub read : numbers_of all ≡ numbers_on front rest
  pub long : is_too_long ≡ nat_lt 0 (length front)

-- a number more
pub ends-more : (all rest new : List (List ℕ)) (is_too_long : Bool) (w : List ℕ) (n : ℕ) → EndsSoFar all rest is_too_long → rest ≡ w ∷ new
    → number_of w ≡ Some n → EndsSoFar all new true
ends-more all rest new is_too_long w n so_far parts is = record {
  front = so_far.front ++ n ∷ [];
  read = so_far.read ∙ rw parts (number_more so_far.front w new n is);
  long = grind (arith, length-append);
}

-- no word more
pub ends-all : (all rest : List (List ℕ)) (is_too_long : Bool) → EndsSoFar all rest is_too_long → rest ≡ [] → is_too_long ≡ false
    → numbers_of all ≡ Some []
unfolding numbers_of
ends-all all rest is_too_long so_far none short = so_far.read ∙ rw (none, empty so_far.front (sym short ∙ so_far.long)) refl
  where
    empty : (front : List ℕ) → false ≡ nat_lt 0 (length front) → front ≡ []
    empty [] none = refl
    empty (n ∷ ns) none = grind arith

-- or words came
pub ends-longer : (all rest : List (List ℕ)) (is_too_long : Bool) → EndsSoFar all rest is_too_long → rest ≡ [] → is_too_long ≡ true
    → (numbers : List ℕ) × (numbers_of all ≡ Some numbers) × (length numbers ≢ 0)
unfolding numbers_of
ends-longer all rest is_too_long so_far none long = grind (arith, append-nil)

-- The line of an event: the event is read from it, and from no other line.
use Rattle.std.proofs.Common.{◌≡◌, ℕ, ◌≤◌, ◌<◌, ◌^◌, false, List, [], ◌∷◌, length, Option, Some, None, option_map, refl}
use Rattle.std.proofs.{Common.{arith, codes, inl, inr}}
use Rattle.std.{proofs.lemmas.Bool.Decides.{eqb_tells}, proofs.lemmas.Slice.Eq.{bytes_eq-Decides}, specs.Fmt.{decimal}}
use Rattle.std.specs.Str.{bytes_eq}
use Rattle.class_table.{proofs.LawLemmas.{plain_name}}
use Rattle.line_text.{proofs.LawLemmas.{text_laws as laws}, specs.Lines.{IsFullLine}, specs.Numbers.{number_of}}
use Rattle.tuner_theory.specs.declared.size_event.{SizeEvent.{SizeEvent}, SizeEvent.TheVariants.{Request, Free}}
use Rattle.history_count.specs.Timelines.{Runs.{large_size, size_of}, TimelineText.{counted_size, event_in, event_line, size_in, size_word}}

-- ---- sizes

large_is_no_number : number_of (codes "large") ≡ None
unfolding number_of
large_is_no_number = refl

minus_is_no_number : (word : List ℕ) → number_of (45 ∷ word) ≡ None
unfolding number_of
minus_is_no_number word = refl

nothing_is_no_number : number_of [] ≡ None
unfolding number_of
nothing_is_no_number = refl

-- a word that spells a number is not `large`
number_is_not_large : (word : List ℕ) (n : ℕ) → number_of word ≡ Some n → bytes_eq word (codes "large") ≡ false
number_is_not_large word n is = grind (arith, bytes_eq-Decides, large_is_no_number)

-- a size is read from its word,
pub size_in-word : (n : ℕ) → n ≤ large_size → size_in (size_word n) ≡ Some n
size_in-word n le = grind (arith, laws, number_is_not_large)

pub record IsSizeWord (word : List ℕ) (n : ℕ) : Type 0 where
  pub small : n ≤ large_size
  pub spelled : word ≡ size_word n

-- a counted size that a word spells is read from it
pub size_in-counted : (word : List ℕ) (n : ℕ) → counted_size (number_of word) ≡ Some n → size_in word ≡ Some n
size_in-counted word n is = grind (arith, number_is_not_large)

-- and from no other.
pub size_in-read : (word : List ℕ) (n : ℕ) → size_in word ≡ Some n → IsSizeWord word n
size_in-read word n e = grind (arith, bytes_eq-Decides, laws)

-- ---- events

minus_is_no_size : (word : List ℕ) → size_in (45 ∷ word) ≡ None
minus_is_no_size word = rw minus_is_no_number refl

nothing_is_no_size : size_in [] ≡ None
nothing_is_no_size = rw nothing_is_no_number refl

pub request_in : (line : List ℕ) (n : ℕ) → size_in line ≡ Some n → event_in line ≡ Some (Request n)
request_in line n is = grind (arith, nothing_is_no_size, eqb_tells, minus_is_no_size)

pub free_in : (word : List ℕ) (n : ℕ) → size_in word ≡ Some n → event_in (45 ∷ word) ≡ Some (Free n)
free_in word n is = rw is refl

-- An event is read from its line,
pub event_in-line : (event : SizeEvent) → size_of event ≤ large_size → event_in (event_line event) ≡ Some event
event_in-line (Request n) le = request_in (size_word n) n (size_in-word n le)
event_in-line (Free n) le = rw (size_in-word n le) refl

pub record IsEventLine (line : List ℕ) (event : SizeEvent) : Type 0 where
  pub small : size_of event ≤ large_size
  pub spelled : line ≡ event_line event

request-read : (line : List ℕ) (o : Option ℕ) (event : SizeEvent) → size_in line ≡ o → option_map (λ n. Request n) o ≡ Some event
    → IsEventLine line event
request-read line o event is e = grind (arith, size_in-read)

-- and from no other.
pub event_in-read : (line : List ℕ) (event : SizeEvent) → event_in line ≡ Some event → IsEventLine line event
event_in-read [] event e = absurd cc
event_in-read (b ∷ word) event e = elim (eqb_tells b 45) [
  | inl same ↦ grind (arith, size_in-read)
  | inr differs ↦ request-read (b ∷ word) (size_in (b ∷ word)) event refl (rw differs.0 at e)
]

-- ---- they are lines, and not empty

decimal-some : (n : ℕ) → n < 2 ^ 64 → 0 < length (decimal n)
unfolding number_of
decimal-some n small = grind (arith, laws)

size_word-full : (n : ℕ) → n ≤ large_size → IsFullLine (size_word n)
size_word-full n le = elim (eqb_tells n large_size) [
  | inl same ↦ rw same.0 (let name = plain_name (codes "large") refl (omega arith) in (name.line, omega arith))
  | inr differs ↦
      let small : n < 2 ^ 64 = omega (arith, le) in
      rw differs.0 ((laws.word n small).0, decimal-some n small)
]

pub event_line-full : (event : SizeEvent) → size_of event ≤ large_size → IsFullLine (event_line event)
event_line-full event le = grind (arith, size_word-full)

use Rattle.std.proofs.Common.{Some, ap, ◌∙◌, ◌≡◌, ℕ, List, Option, option_and_then, slice_get, arith}
use Rattle.std.specs.Option.{option_map}
use Rattle.line_text.{proofs.LawLemmas.{short_is_number}, specs.Lines.{words}, specs.Pairs.{short_pair_of}}
use Rattle.profile_count.{proofs.EntryLines.{number_is_not_large}, specs.ProfileText.{entry_of, size_entry}}
use Rattle.profile_count.proofs.entry.next_entry.Goals as goal

-- The entry of a line that was read as two numbers.
abbrev pair_is : ℕ → ℕ → Option (ℕ × ℕ) → Type 0
pair_is m n read = Some (m, n) ≡ read

both : (x y : Option ℕ) (m n : ℕ) → pair_is m n (option_and_then (λ i. option_map (λ k. (i, k)) y) x) → (x ≡ Some m) × (y ≡ Some n)
both x y m n is = grind arith

entry_of-pair : (next size count : ℕ) (ws : List (List ℕ)) → pair_is size count (short_pair_of ws) →
    entry_of next 0 ws ≡ size_entry next size count
entry_of-pair next size count ws is = grind (arith, both, short_is_number, number_is_not_large)

-- the entry of the first line, which was read as two numbers
first_entry : (next size count : ℕ) (ls : List (List ℕ)) →
    pair_is size count (option_and_then (λ line. short_pair_of (words line)) (slice_get ls 0))
    → Some (size_entry next size count) ≡ option_map (λ line. entry_of next 0 (words line)) (slice_get ls 0)
first_entry next size count ls e = grind (arith, entry_of-pair)

pub returns-clause-entry : goal.returns-clause-entry
returns-clause-entry c =
    rw c.if-large-eq0.true (ap Some c.size_entry.ensures.entry
    ∙ first_entry c.args.next c.in-Some.size c.in-Some.count c.args.lines.now c.in-Some.ensures.numbers)

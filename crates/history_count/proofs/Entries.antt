-- The entry of a line by the numbers that were read of it.
use Rattle.std.proofs.Common.{◌≡◌, ℕ, ◌≤◌, Bool, true, false, ◌&&◌, List, [], ◌∷◌, length, map, Option, Some, Ok, Err, leb, ltb, eqb, refl}
use Rattle.std.proofs.{Common.{arith, All}, lemmas.Bool.{eq-eqb, eqb-true, le-leb}}
use Rattle.std.proofs.lemmas.{Grind.{common_steps}, List.Elements.{All-head, All-tail}}
use Rattle.profile_count.specs.declared.fault.ProfileFault.TheVariants.{CountOutOfRange, NotAscending}
use Rattle.tuner_theory.specs.Profiles.{greatest_count}
use Rattle.history_count.specs.Histories.{greatest_of}
use Rattle.history_count.specs.HistoryText.{Entry, are_few, are_in_range, entry_with, entry_with_numbers, is_in_order, is_some_counted}
use Rattle.history_count.specs.{LineView.{Fills, capped}, declared.fault.HistoryFault.TheVariants.{Counted}}
use Rattle.history_count.specs.declared.line.Subject.{Subject}

-- ---- numbers as 32 bits hold them

few-capped : (numbers : List ℕ) → are_few (map capped numbers) ≡ are_few numbers
few-capped [] = refl
few-capped (n ∷ ns) = grind (arith, few-capped ns)

some-capped : (numbers : List ℕ) → is_some_counted (map capped numbers) ≡ is_some_counted numbers
some-capped [] = refl
some-capped (n ∷ ns) = grind (arith, some-capped ns)

and_parts : (a b : Bool) → (a && b) ≡ true → (a ≡ true) × (b ≡ true)
and_parts a b is = grind arith

few-same : (numbers : List ℕ) → are_few numbers ≡ true → map capped numbers ≡ numbers
few-same [] few = refl
few-same (n ∷ ns) few = grind (arith, few-same ns)

-- ---- their greatest

few-greatest : (counts : List ℕ) → are_few counts ≡ leb (greatest_of counts) greatest_count
few-greatest [] = refl
few-greatest (n ∷ ns) = grind (arith, few-greatest ns)

some-greatest : (counts : List ℕ) → is_some_counted counts ≡ ltb 0 (greatest_of counts)
some-greatest [] = refl
some-greatest (n ∷ ns) = grind (arith, some-greatest ns)

pub range_greatest : (counts : List ℕ) (most : ℕ) → most ≡ greatest_of counts
    → are_in_range counts ≡ (leb most greatest_count && ltb 0 most)
range_greatest counts most is = rw (is, few-greatest counts, some-greatest counts) refl

-- ---- the entry

-- What was filled in are the numbers.
pub record IsFilled (o : Option (List ℕ)) (count : ℕ) (filled : List ℕ) : Type 0 where
  pub numbers : List ℕ
  pub read : o ≡ Some numbers
  pub size : length numbers ≡ count
  pub is : filled ≡ map capped numbers

pub filled-ok : (u : Unit {0}) (o : Option (List ℕ)) (count : ℕ) (filled : List ℕ) → Fills (Ok u) filled count o → IsFilled o count filled
filled-ok u o count filled is = grind arith

module _ (o : Option (List ℕ)) (count next : ℕ) (subject : Subject) (filled : List ℕ) (is : IsFilled o count filled) where
  in_range : are_in_range filled ≡ are_in_range is.numbers
  in_range = grind (arith, few-capped, some-capped)

  pub entry-not_ascending : is_in_order next subject ≡ false
      → entry_with_numbers count next (Some subject) o ≡ Err (Counted NotAscending)
  entry-not_ascending order = rw (is.read, eq-eqb (length is.numbers) count is.size, order) refl

  pub entry-out_of_range : is_in_order next subject ≡ true → are_in_range filled ≡ false
      → entry_with_numbers count next (Some subject) o ≡ Err (Counted CountOutOfRange)
  entry-out_of_range order range = grind (arith, in_range)

  pub entry-filled : is_in_order next subject ≡ true → are_in_range filled ≡ true
      → entry_with_numbers count next (Some subject) o ≡ Ok (record { subject = subject; counts = filled })
  entry-filled order range = grind (arith, in_range, few-same)

-- ---- counts in range

pub few-all : (counts : List ℕ) → are_few counts ≡ true → All (λ count. count ≤ greatest_count) counts
few-all counts is = grind (arith, common_steps)

pub few-from_all : (counts : List ℕ) → All (λ count. count ≤ greatest_count) counts → are_few counts ≡ true
few-from_all [] small = refl
few-from_all (n ∷ ns) small =
    rw (
      le-leb n greatest_count (All-head (λ count. count ≤ greatest_count) n ns small),
      few-from_all ns (All-tail (λ count. count ≤ greatest_count) n ns small),
    ) refl

-- What is read as an entry has counts in range, one for each snapshot, and its size is in order.
pub record IsGood (count next : ℕ) (entry : Entry) : Type 0 where
  pub size : length entry.counts ≡ count
  pub order : is_in_order next entry.subject ≡ true
  pub few : All (λ count. count ≤ greatest_count) entry.counts
  pub some : is_some_counted entry.counts ≡ true

pub entry_with-good : (count next : ℕ) (subject : Subject) (counts : List ℕ) (entry : Entry)
    → entry_with count next subject counts ≡ Ok entry → (record { subject = subject; counts = counts } ≡ entry) × IsGood count next entry
entry_with-good count next subject counts entry e = grind (arith, eqb, and_parts, eqb-true, few-all)

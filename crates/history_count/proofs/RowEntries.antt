-- The entry of a line by the numbers of its row.
use Rattle.std.proofs.Common.{◌≡◌, ℕ, ◌<◌, ◌≤◌, Bool, false, List, [], ◌∷◌, length, map, Some, Err, refl, ap, subst, ◌∙◌}
use Rattle.std.{proofs.lemmas.Bool.{le-leb, lt-leb}, proofs.lemmas.List.{length-map}, specs.Prelude.{Result}}
use Rattle.class_table.specs.{NamedLines.{numbers_of}, Sizes.{largest_counted}}
use Rattle.line_text.specs.{Lines.{words}, Rows.{AreRowWords, SpellNumbers}}
use Rattle.profile_count.{proofs.LawLemmas.{number_is_not_large}, specs.declared.fault.ProfileFault.TheVariants.{BadLine}}
use Rattle.history_count.specs.{HistoryText.{entry_of, entry_with}, LineView.{GivesEntry, GivesNextEntry, capped}}
use Rattle.history_count.specs.declared.fault.{HistoryFault.{HistoryFault}, HistoryFault.TheVariants.{Counted}}
use Rattle.history_count.specs.declared.line.{Subject.{Subject}, Subject.TheVariants.{Size}}

-- The numbers that words spell.
record AreSpelled (ws : List (List ℕ)) (xs : List ℕ) : Type 0 where
  pub numbers : List ℕ
  pub read : numbers_of ws ≡ Some numbers
  pub is : xs ≡ map capped numbers

spelled : (ws : List (List ℕ)) (xs : List ℕ) → SpellNumbers ws xs → AreSpelled ws xs
unfolding numbers_of
spelled [] [] are = record { numbers = []; read = refl; is = refl }
spelled (w ∷ ws) (x ∷ xs) are =
    let rest = spelled ws xs are.1 in
    record {
      numbers = are.0.0 ∷ rest.numbers;
      read = rw (are.0.1, rest.read) refl;
      is = ap (λ (y : ℕ). y ∷ xs) are.0.2 ∙ ap (λ (ys : List ℕ). capped are.0.0 ∷ ys) rest.is;
    }
spelled [] (x ∷ xs) are = absurd are
spelled (w ∷ ws) [] are = absurd are

-- a row whose first number is no size
pub row-no_size : (ws : List (List ℕ)) (count next size : ℕ) (counts : List ℕ) → AreRowWords ws size counts → largest_counted < size
    → entry_of count next false ws ≡ Err (Counted BadLine)
row-no_size [] count next size counts row large = absurd row
row-no_size (word ∷ ws) count next size counts row large =
    rw (number_is_not_large word size row.0, row.0, lt-leb size largest_counted large) refl

-- The numbers of a row whose first is a size.
pub record IsSizeRow (ws : List (List ℕ)) (next size : ℕ) (counts : List ℕ) : Type 0 where
  pub numbers : List ℕ
  pub is : counts ≡ map capped numbers
  pub entry : entry_of (length counts) next false ws ≡ entry_with (length numbers) next (Size size) numbers

pub row-size : (ws : List (List ℕ)) (next size : ℕ) (counts : List ℕ) → AreRowWords ws size counts → size ≤ largest_counted
    → IsSizeRow ws next size counts
row-size [] next size counts row small = absurd row
row-size (word ∷ ws) next size counts row small =
    let are = spelled ws counts row.1 in
    let count : length counts ≡ length are.numbers = ap length are.is ∙ length-map are.numbers capped in
    record {
      numbers = are.numbers;
      is = are.is;
      entry = rw (number_is_not_large word size row.0, row.0, le-leb size largest_counted small, are.read, count) refl;
    }

-- ---- the next line

pub words-next : (read : Result Subject HistoryFault) (counts : List ℕ) (count next : ℕ) (is_ended : Bool) (old new : List (List ℕ))
    (line : List ℕ) → old ≡ line ∷ new → GivesEntry read counts (entry_of count next is_ended (words line))
    → GivesNextEntry (Some read) counts count next is_ended old new
words-next read counts count next is_ended old new line parts gives = rw parts (gives, refl)

-- The line of which the next entry was read.
pub record IsTaken (read : Result Subject HistoryFault) (counts : List ℕ) (count next : ℕ) (is_ended : Bool) (old new : List (List ℕ))
    : Type 0 where
  pub line : List ℕ
  pub parts : old ≡ line ∷ new
  pub gives : GivesEntry read counts (entry_of count next is_ended (words line))

pub entry-taken : (read : Result Subject HistoryFault) (counts : List ℕ) (count next : ℕ) (is_ended : Bool) (old new : List (List ℕ))
    → GivesNextEntry (Some read) counts count next is_ended old new → IsTaken read counts count next is_ended old new
entry-taken read counts count next is_ended [] new gives = absurd gives
entry-taken read counts count next is_ended (line ∷ old) new gives =
    record { line = line; parts = rw gives.1 refl; gives = gives.0 }

pub gives-at : (read wanted : Result Subject HistoryFault) (counts : List ℕ) (count next : ℕ) (is_ended : Bool)
    (old new : List (List ℕ)) (taken : IsTaken read counts count next is_ended old new) → read ≡ wanted
    → GivesEntry wanted counts (entry_of count next is_ended (words taken.line))
gives-at read wanted counts count next is_ended old new taken e =
    let P : Result Subject HistoryFault → Type 0 = λ r. GivesEntry r counts (entry_of count next is_ended (words taken.line)) in
    subst P e taken.gives

-- Appending lines to a text, and words to a line.
use Rattle.std.proofs.Common.{◌≡◌, ℕ, ◌+◌, List, [], ◌∷◌, ◌++◌, map, take, get_or, Some, refl, sym, ap, ◌∙◌, append-nil, append_assoc}
use Rattle.std.proofs.{Common.{arith, slice_get}, lemmas.List.{map-append, take_more}, lemmas.List.Concat.{flat_map-append}}
use Rattle.std.{proofs.lemmas.Option.{get_or_from_slice_get, slice_get_within}, specs.Fmt.{decimal}}
use Rattle.line_text.specs.Lines.{ended, text_of}
use Rattle.class_table.specs.NamedLines.{named_line}
use Rattle.potential_check.specs.Spaced.{spaced}

-- ---- a line's words, one after the other

pub named_line-spaced : (name numbers : List ℕ) → named_line name numbers ≡ name ++ spaced numbers
named_line-spaced name [] = sym (append-nil name)
named_line-spaced name (n ∷ numbers) = ap (λ (rest : List ℕ). name ++ 32 ∷ rest) (named_line-spaced (decimal n) numbers)

-- one row more
pub rows_text-more : (name : List ℕ) (rows : List (List ℕ)) (i : ℕ) (row : List ℕ) → slice_get rows i ≡ Some row
    → text_of (map (named_line name) (take (i + 1) rows)) ≡ text_of (map (named_line name) (take i rows)) ++ ended (named_line name row)
rows_text-more name rows i row is =
    let here : get_or rows i [] ≡ row = get_or_from_slice_get rows i row [] is in
    let more : take (i + 1) rows ≡ take i rows ++ row ∷ [] = take_more rows i [] (slice_get_within rows i row is) ∙ rw here refl in
    grind (arith, map-append, flat_map-append, append-nil)

-- the lines before the rows, part by part
pub head-appended : (old a b c d table limit stated : List ℕ) (steps forced : List (List ℕ)) → a ≡ old ++ ended table
    → b ≡ a ++ text_of (limit ∷ steps) → c ≡ b ++ text_of forced → d ≡ c ++ ended stated
    → d ≡ old ++ text_of (table ∷ limit ∷ steps ++ (forced ++ stated ∷ []))
head-appended old a b c d table limit stated steps forced is_a is_b is_c is_d = grind (arith, append_assoc, flat_map-append, append-nil)

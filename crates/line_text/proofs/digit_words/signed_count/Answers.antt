use Rattle.std.{proofs.Common.{ℕ, ◌≡◌, ◌<◌, ◌∙◌, Option, Some, None, IfSome, MatchOption}, specs.Char.{is_ascii_digit}}
use Rattle.std.specs.List.{prefix_len}
use Rattle.line_text.{proofs.SignedWord.{length-unsigned, mask-unsigned}, specs.Numbers.{unsigned}}
use Rattle.line_text.proofs.digit_words.signed_count.Goals as goal

counted : (all : ℕ) (o : Option ℕ) → MatchOption o (8 ≡ all) (λ count. (count ≡ all) × (count < 8)) → IfSome o (λ count. (count ≡ all) × (count < 8))
counted all None is = tt
counted all (Some count) is = is

weaker : (P Q : ℕ → Type 0) (o : Option ℕ) → ((count : ℕ) → P count → Q count) → IfSome o P → IfSome o Q
weaker P Q None more is = tt
weaker P Q (Some count) more is = more count is

pub returns-clause-count : goal.returns-clause-count
returns-clause-count c =
    let signed = c.args.is_signed in
    let bytes = c.args.bytes.now in
    let all = prefix_len is_ascii_digit (unsigned signed bytes) in
    let mask = mask-unsigned signed bytes c.no_digits.result c.told-bytes c.requires c.no_digits.ensures in
    weaker _ _ c.first_other.result (λ count is. is.0)
    (counted all c.first_other.result
    (c.first_other.ensures (unsigned signed bytes) (length-unsigned signed bytes ∙ c.told-bytes) (rw c.from.ensures mask.is)))

pub returns-clause-few : goal.returns-clause-few
returns-clause-few c =
    let signed = c.args.is_signed in
    let bytes = c.args.bytes.now in
    let all = prefix_len is_ascii_digit (unsigned signed bytes) in
    let mask = mask-unsigned signed bytes c.no_digits.result c.told-bytes c.requires c.no_digits.ensures in
    weaker _ _ c.first_other.result (λ count is. is.1)
    (counted all c.first_other.result
    (c.first_other.ensures (unsigned signed bytes) (length-unsigned signed bytes ∙ c.told-bytes) (rw c.from.ensures mask.is)))

use Rattle.std.{proofs.Common.{◌≡◌, ℕ, ◌∙◌, List, take, ap, arith}, proofs.lemmas.List.{take-take}, specs.Char.{is_ascii_digit}}
use Rattle.std.specs.{List.{prefix_len}, Str.Parse.{digits_value}}
use Rattle.line_text.proofs.LeadingDigits.{prefix_len-take}
use Rattle.line_text.proofs.near_digits.near_digits.Goals as goal

pub returns-then-count-lt8 : goal.returns-then-count-lt8
returns-then-count-lt8 c =
    let bytes = c.args.bytes.now in
    let count = c.leading_eight-count.result.0 in
    let is : count ≡ prefix_len is_ascii_digit (take 8 bytes) =
    c.leading_eight-count.ensures.count ∙ ap (prefix_len is_ascii_digit) c.in-Some.ensures.cases.same in (
      omega (arith, is, prefix_len-take bytes 8, c.if-count-lt8.true),
      omega (arith, c.if-count-lt8.true),
      c.leading_eight-count.ensures.value ∙ ap (λ (first : List ℕ). digits_value 10 (take count first)) c.in-Some.ensures.cases.same
          ∙ ap (digits_value 10) (take-take count 8 bytes (omega (arith, c.if-count-lt8.true))),
    )

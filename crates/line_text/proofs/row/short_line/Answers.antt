use Rattle.std.proofs.Common.{◌≡◌, ◌+◌, ◌<◌, ℕ, List, [], ◌∷◌, ◌++◌, Some, length, drop, get_or, arith, ap, refl, sym, ◌∙◌, add-one}
use Rattle.std.{proofs.Common.{drop-cons}, proofs.lemmas.Grind.{common_steps}, proofs.lemmas.List.{drop-drop}, specs.Char.{is_ascii_digit}}
use Rattle.std.specs.{Int.{from_bool}, List.{prefix_len}}
use Rattle.line_text.{proofs.FirstRows.{after-ended, row-ended, row-first}, specs.Numbers.{leading_digits, leading_number_of}}
use Rattle.line_text.specs.Rows.{IsRowSoFar}
use Rattle.line_text.proofs.row.short_line.Goals as goal

-- the digits in front of a text, and what comes after them
row : (text : List ℕ) (n digits : ℕ) → leading_number_of text ≡ Some n → digits ≡ prefix_len is_ascii_digit text
    → IsRowSoFar text (drop digits text) n []
row text n digits number same =
    let cut : text ≡ leading_digits text ++ drop digits text = grind (arith, common_steps, same) in
    row-first text (drop digits text) n (sym number) cut

-- the newline is where the digits end
newline : (text : List ℕ) (start end digits : ℕ) → end ≡ start + digits → end < length text → get_or text end 0 ≡ 10
    → drop digits (drop start text) ≡ 10 ∷ drop (end + 1) text
newline text start end digits is lt newline-is =
    drop-drop digits start text ∙ ap (λ (k : ℕ). drop k text) (sym is) ∙ rw (drop-cons text end 0, add-one, newline-is) refl

pub returns-clause-number : goal.returns-clause-number
returns-clause-number c =
    let text = c.args.text.now in
    let start = from_bool c.args.is_signed in
    let word = drop start text in
    let digits = prefix_len is_ascii_digit word in
    let ensures = c.in_ok-number.ensures in
    row-ended word (drop digits word) c.in_ok-number.number [] (row word c.in_ok-number.number digits ensures.number refl)
    (drop (c.in_ok-number.end + 1) text)
    (newline text start c.in_ok-number.end digits ensures.end ensures.within c.if-text-end-ne10.false)

pub returns-clause-after : goal.returns-clause-after
returns-clause-after c =
    let text = c.args.text.now in
    let start = from_bool c.args.is_signed in
    let word = drop start text in
    let digits = prefix_len is_ascii_digit word in
    let ensures = c.in_ok-number.ensures in
    after-ended word (drop digits word) c.in_ok-number.number [] (row word c.in_ok-number.number digits ensures.number refl)
    (drop (c.in_ok-number.end + 1) text)
    (newline text start c.in_ok-number.end digits ensures.end ensures.within c.if-text-end-ne10.false)

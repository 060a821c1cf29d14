use Rattle.std.proofs.Common.{◌*◌, ◌+◌, ◌<◌, ◌≤◌, ◌≡◌, List, ℕ, arith, get_or, length, take}
use Rattle.std.{proofs.lemmas.List.{take_more, take_rest}, specs.Char.{digit_char}}
use Rattle.line_text.specs.Hexadecimal.{hex}
use Rattle.trace_reader.proofs.one_pass.byte.Goals as goal

two_digits : (text : List ℕ) (high low : ℕ) → 2 ≤ length text → high < 16 → low < 16 → get_or text 0 0 ≡ digit_char high
    → get_or text 1 0 ≡ digit_char low → take 2 text ≡ hex (16 * high + low)
two_digits text high low some big small first second = grind (arith, take_more)

pub returns-clause-spelled : goal.returns-clause-spelled
returns-clause-spelled c =
    let text = c.args.text.now in
    let high : c.hex_value-high.result < 16 = omega arith in
    let low : c.hex_value-low.result < 16 = omega arith in
    let word = two_digits text c.hex_value-high.result c.hex_value-low.result (omega arith) high low
    (c.hex_value-high.ensures high) (c.hex_value-low.ensures low) in
    rw take_rest (grind arith)

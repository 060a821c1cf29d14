use Rattle.std.proofs.Common.{◌≡◌, ◌+◌, ◌-◌, ◌/◌, ◌%◌, ◌^◌, ◌≤◌, ◌++◌, ◌∙◌, length, take, ap, sym, append_assoc, length-take-le, arith}
use Rattle.std.specs.Fmt.{decimal}
use Rattle.replay_core.proofs.{TwoDigits.{decimal_four_more}, Written.{written_to}}
use Rattle.replay_core.proofs.event_numbers.EventNumbers.put_next.Goals as goal

pub returns-then-last-lt10000-clause-text : goal.returns-then-last-lt10000-clause-text
returns-then-last-lt10000-clause-text c =
    let numbers = c.args.self.now in
    let before = take c.args.at c.args.text.now in
    let most : 10000 ≤ c.args.number = omega (arith, c.if-last-lt10000.true, numbers.some, numbers.few, numbers.whole) in
    let same : numbers.from / 10000 ≡ c.args.number / 10000 = omega (arith, c.if-last-lt10000.true, numbers.some, numbers.few, numbers.whole) in
    let last : (c.args.number + (2 ^ 64 - numbers.from)) % 2 ^ 64 ≡ c.args.number % 10000 =
    omega (arith, c.if-last-lt10000.true, numbers.some, numbers.few, numbers.whole) in
    let whole : take (c.args.at + length numbers.front) c.put.new.text ≡ before ++ numbers.front =
    ap (λ n. take n c.put.new.text) (sym c.put.ensures.end) ∙ c.put.ensures.text in
    let front : take (c.args.at + numbers.len) c.put.new.text ≡ before ++ decimal (c.args.number / 10000) =
    written_to c.put.new.text before numbers.front c.args.at numbers.len (length numbers.front)
    (length-take-le c.args.at c.args.text.now (omega (arith, c.requires))) (omega (arith, numbers.short)) whole
    ∙ ap (λ digits. before ++ digits) (numbers.digits ∙ ap decimal same) in
    rw (c.put_four.ensures.text, front, decimal_four_more c.args.number most c.ranges.number.fits, last) (simp append_assoc)

use Rattle.std.proofs.{Common.{◌≡◌, ◌-◌, ◌/◌, ◌%◌, ◌≤◌, ◌∙◌, length, take, ap, sym, subst, length-take-le, arith}, lemmas.List.{take-take}}
use Rattle.std.{proofs.lemmas.Fmt.{length-decimal-le}, specs.Fmt.{decimal}}
use Rattle.replay_core.proofs.event_numbers.EventNumbers.renew.Goals as goal

pub invariant_of-self : goal.invariant_of-self
invariant_of-self c =
    let front = c.args.number / 10000 in
    let len = c.put_number-len.result in
    let is : take len c.put_number-len.new.text ≡ decimal front = c.put_number-len.ensures.text in
    let short : len ≤ 8 =
    subst (λ n. n ≤ 8) (ap length (sym is) ∙ length-take-le len c.put_number-len.new.text (omega (arith, c.put_number-len.ensures.end)))
    (length-decimal-le 8 front (omega arith) (omega arith) (omega arith)) in
    let same : front ≡ (c.args.number - c.args.number % 10000) / 10000 = omega arith in
    let eight : c.put.result ≡ 8 = omega (arith, c.put.ensures.end, length-take-le 8 c.put_number-len.new.text (omega arith)) in
    let copied : take 8 c.put.new.text ≡ take 8 c.put_number-len.new.text = ap (λ n. take n c.put.new.text) (sym eight) ∙ c.put.ensures.text in
    record {
      some = omega arith;
      few = omega arith;
      whole = omega arith;
      short = short;
      digits = sym (take-take len 8 c.put.new.text short) ∙ ap (take len) copied ∙ take-take len 8 c.put_number-len.new.text short ∙ is ∙ ap decimal same;
    }

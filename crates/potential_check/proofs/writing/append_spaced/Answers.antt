use Rattle.std.proofs.Common.{rules, ◌≡◌, ℕ, suc, ◌+◌, ◌-◌, ◌<◌, ◌≤◌, List, ◌++◌, length, get_or, drop, refl, ◌∙◌, arith, add-one}
use Rattle.std.proofs.{Common.{drop-cons, length-drop}, Math.ListN.{set}, lemmas.Fmt.{length-decimal-le}, lemmas.List.{drop-set, take_all}}
use Rattle.std.specs.Fmt.{decimal}
use Rattle.potential_check.specs.Spaced.{spaced}
use Rattle.potential_check.proofs.writing.append_spaced.Goals as goal

-- one number more, before those that are written
written-more : (numbers before after : List ℕ) (i index start at first : ℕ) → index ≡ suc i → first ≡ suc at → i < length numbers
    → at < length after → drop start before ≡ spaced (drop index numbers)
    → drop first after ≡ decimal (get_or numbers i 0) ++ drop start before → drop at (set after at 32) ≡ spaced (drop i numbers)
written-more numbers before after i index start at first is_index is_first within room was now =
    let rest : drop (at + 1) after ≡ decimal (get_or numbers i 0) ++ spaced (drop (suc i) numbers) =
    rw (add-one, ← is_first) (now ∙ rw (was, is_index) refl) in
    rw (drop-set after at 32 room, rest, drop-cons numbers i 0 within) refl

few : (n : ℕ) → n < 18446744073709551616 → length (decimal n) ≤ 20
few n fits = length-decimal-le 20 n (omega arith) (omega arith) fits

pub write_digits-start-requires : goal.write_digits-start-requires
write_digits-start-requires c = grind (arith, few)

pub overflow_sub-start : goal.overflow_sub-start
overflow_sub-start c = grind (arith, few)

pub loop-index-preserved : goal.loop-index-preserved
loop-index-preserved c =
    let short = few (get_or c.args.numbers.now (c.loop-index.index - 1) 0) (omega (arith, c.type_inv.numbers (c.loop-index.index - 1))) in
    record {
      written = written-more c.args.numbers.now c.loop-index.buffer c.write_digits-start.new.buf (c.loop-index.index - 1) c.loop-index.index
          c.loop-index.start (c.write_digits-start.result - 1) c.write_digits-start.result (omega arith) (omega arith) (omega arith)
          (omega arith) c.loop-index.invariant.written c.write_digits-start.ensures.written;
      room = omega arith;
      within = omega arith;
      size = search rules;
    }

pub returns-clause-written : goal.returns-clause-written
returns-clause-written c = grind (arith, length-drop, take_all)

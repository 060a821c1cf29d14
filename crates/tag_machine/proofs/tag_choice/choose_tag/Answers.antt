use Rattle.std.{proofs.Common.{◌≡◌, ℕ, true, ◌+◌, ◌-◌, ◌%◌, sym, ap, ◌∙◌, arith, slice_index}, specs.Int.Count.{ones}}
use Rattle.machine_theory.specs.Tags.{is_excluded, choose_tag}
use Rattle.tag_machine.proofs.{Choice.{mask_some, chosen_none, chosen_here, chosen_on}, MaskBits.{length-set_bits}}
use Rattle.tag_machine.proofs.tag_choice.choose_tag.Goals.{else-offset-eq0-via-then-offset-eq0+else-not-is_excluded}
use Rattle.tag_machine.{proofs.tag_choice.choose_tag.Goals.{else-offset-eq0-via-else-offset-eq0}, specs.MaskBits.{set_bits}}
use Rattle.tag_machine.proofs.tag_choice.choose_tag.Goals as goal

pub returns-then-allowed-eq0-clause-chosen : goal.returns-then-allowed-eq0-clause-chosen
returns-then-allowed-eq0-clause-chosen c =
    sym (chosen_none c.args.tag c.args.exclude c.allowed_tags_above-allowed.result (omega arith) c.allowed_tags_above-allowed.ensures c.args.offset
    c.if-allowed-eq0.true)

pub returns-then-not-is_excluded-clause-chosen : goal.returns-then-not-is_excluded-clause-chosen
returns-then-not-is_excluded-clause-chosen c =
    sym (chosen_here c.args.tag c.args.exclude c.allowed_tags_above-allowed.result (omega arith) c.allowed_tags_above-allowed.ensures
    c.if-allowed-eq0.false (sym c.is_excluded.ensures ∙ c.if-not-is_excluded.true))
    ∙ ap (λ o. choose_tag c.args.tag o c.args.exclude) (sym c.if-offset-eq0.true)

pub nonzero_rem-skipped : goal.nonzero_rem-skipped
nonzero_rem-skipped c =
    let some =
    mask_some c.args.tag c.args.exclude c.allowed_tags_above-allowed.result (omega arith) c.allowed_tags_above-allowed.ensures
    c.if-allowed-eq0.false in
    omega (arith, c.count_set_bits.ensures, some)

pub nth_set_bit-requires : goal.nth_set_bit-requires
nth_set_bit-requires c =
    let some =
    mask_some c.args.tag c.args.exclude c.allowed_tags_above-allowed.result (omega arith) c.allowed_tags_above-allowed.ensures
    c.if-allowed-eq0.false in
    omega (arith, length-set_bits c.allowed_tags_above-allowed.result (omega arith))

pub returns-clause-chosen : goal.returns-clause-chosen
returns-clause-chosen c =
    let out : c.args.offset ≡ 0 → is_excluded c.args.exclude c.args.tag ≡ true = λ none. elim c.else-offset-eq0.branch [
      | else-offset-eq0-via-then-offset-eq0+else-not-is_excluded w ↦ sym w.is_excluded.ensures ∙ w.if-not-is_excluded.false
      | else-offset-eq0-via-else-offset-eq0 w ↦ absurd (w.if-offset-eq0.false none)
    ] in
    let place : c.nth_set_bit.result ≡ slice_index (set_bits c.allowed_tags_above-allowed.result) ((c.args.offset - 1) % ones c.allowed_tags_above-allowed.result) =
    c.nth_set_bit.ensures.place
    ∙ ap (λ n. slice_index (set_bits c.allowed_tags_above-allowed.result) (c.from.result % n)) c.count_set_bits.ensures
    ∙ ap (λ o. slice_index (set_bits c.allowed_tags_above-allowed.result) (o % ones c.allowed_tags_above-allowed.result))
    (c.from.ensures ∙ c.saturating_sub.ensures) in
    grouped c.args.tag c.nth_set_bit.result ∙ ap (λ k. (c.args.tag + (1 + k)) % 16) place
    ∙ sym (chosen_on c.args.tag c.args.exclude c.allowed_tags_above-allowed.result (omega arith) c.allowed_tags_above-allowed.ensures c.args.offset
    c.if-allowed-eq0.false out)
  where
    grouped : (tag k : ℕ) → (tag + 1 + k) % 16 ≡ (tag + (1 + k)) % 16
    grouped tag k = omega arith

use Rattle.std.proofs.{Common.{arith, refl, sym, ◌∙◌}, lemmas.Grind.{common_steps}}
use Rattle.mte_c.proofs.commands.calls.call.Goals as goal

pub returns-then-has_two_texts : goal.returns-then-has_two_texts
returns-then-has_two_texts c = record {
  refused = λ answer. grind (arith, common_steps);
  ran = λ input. record {
    ran = λ _. rw (sym c.has_two_texts.ensures ∙ c.if-has_two_texts.true) (grind (arith, common_steps));
    refused = λ none. absurd (none (c.if-not-is_valid.ensures.0 refl));
  };
  left = λ input. c.call_texts.ensures.left;
}

pub returns : goal.returns
returns c = record {
  refused = λ answer. grind (arith, common_steps);
  ran = λ input. record {
    ran = λ _. rw (sym c.has_two_texts.ensures ∙ c.if-has_two_texts.false) (grind (arith, common_steps));
    refused = λ none. absurd (none (c.if-not-is_valid.ensures.0 refl));
  };
  left = λ input. c.call_parts.ensures.left;
}

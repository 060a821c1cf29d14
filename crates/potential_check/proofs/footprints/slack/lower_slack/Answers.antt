use Rattle.std.proofs.Common.{◌≡◌, ◌≢◌, ◌+◌, ◌-◌, ◌*◌, ◌<◌, ℕ, List, length, slice_index, slice_set, arith, inl, inr, ◌∙◌}
use Rattle.std.proofs.lemmas.{Bool.{cases_eq}, List.{get_or-set_other, get_or-set_same, length-set}}
use Rattle.potential_check.specs.declared.footprints.slack.TheConstants.{BLOCK}
use Rattle.potential_check.proofs.footprints.slack.lower_slack.Goals as goal

pub loop-block-preserved : goal.loop-block-preserved
loop-block-preserved c =
    let block : ℕ = c.loop-block.block in
    let slack : List ℕ = c.loop-block.slack in
    let value : ℕ = c.saturating_sub.result in
    let after : c.args.place + 1 < BLOCK * block = omega (arith, c.loop-block.auto.block) in
    let before : BLOCK * block < c.args.places = omega (arith, c.loop-block-test.true) in
    let inside : block < length slack = omega (arith, before, c.requires.long, c.loop-block.invariant.size) in
    let same : slice_index (slice_set slack block value) block ≡ slice_index slack block - c.least_growth-growth.result =
    get_or-set_same slack block value 0 inside ∙ c.saturating_sub.ensures in
    let other : (b : ℕ) → b ≢ block → slice_index (slice_set slack block value) b ≡ slice_index slack b =
    λ b differs. get_or-set_other slack block b value 0 differs in
    let grown = c.least_growth-growth.ensures.grown (omega (arith, c.min.ensures)) in
    record {
      size = length-set slack block value ∙ c.loop-block.invariant.size;
      less = grind arith;
      grown = grind arith;
      lost = λ b past to. elim (cases_eq b block) [
        | inl here ↦ grind arith
        | inr differs ↦ let it = c.loop-block.invariant.lost b past (omega arith) in (it.0, it.1, it.2, other b differs ∙ it.3)
      ];
      first = λ b le. other b (λ here. omega (arith, here)) ∙ c.loop-block.invariant.first b le;
      others = λ b le. other b (λ here. omega (arith, here)) ∙ c.loop-block.invariant.others b (omega arith);
    }

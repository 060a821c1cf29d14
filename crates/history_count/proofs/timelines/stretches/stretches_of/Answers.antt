use Rattle.std.proofs.{Common.{ℕ, List, ◌++◌, [], ◌∷◌, arith, ap, ◌∙◌}, lemmas.List.{with_items_is}}
use Rattle.tuner_theory.specs.Lists.{lists_of}
use Rattle.history_count.proofs.{CutLines.{few-lines}, TimelineLemmas.Columns.{column-none, stretches-more}}
use Rattle.history_count.proofs.timelines.stretches.stretches_of.Goals as goal

pub overflow_mul-len : goal.overflow_mul-len
overflow_mul-len c = grind (arith, few-lines)

pub loop-from-init : goal.loop-from-init
loop-from-init c = grind (arith, column-none)

pub loop-from-preserved : goal.loop-from-preserved
loop-from-preserved c =
    let sizes = c.args.requested.now.sizes.items in
    let before = c.loop-from.stretches in
    let counted = with_items_is c.loop-from.counts c.count_stretch.new.counts (c.count_stretch.auto.counts ∙ c.deref_mut.ensures.len)
    ∙ c.count_stretch.ensures.counts in
    let most_is = with_items_is c.in_ok-most.most c.count_stretch.new.most (c.count_stretch.auto.most ∙ c.deref_mut-in-loop-from.ensures.len) in
    let starts_are = c.in_ok-add_stretch.ensures.starts in
    let before_are = c.in_ok-add_stretch.ensures.before
    ∙ ap (λ (row : List ℕ). lists_of before.before.items ++ row ∷ []) (c.deref-in-loop-from-2.ensures.value ∙ counted) in
    let most_are = c.in_ok-add_stretch.ensures.most ∙ ap (λ (row : List ℕ). lists_of before.most.items ++ row ∷ []) most_is in
    record {
      within = omega arith;
      counts = counted;
      stretches = rw (starts_are, before_are, most_are)
          (stretches-more c.args.events.now sizes c.loop-from.from _ before.starts.items (lists_of before.before.items)
          (lists_of before.most.items) c.count_stretch.new.most c.loop-from.invariant.stretches (omega arith) (omega arith)
          c.count_stretch.ensures.most);
    }

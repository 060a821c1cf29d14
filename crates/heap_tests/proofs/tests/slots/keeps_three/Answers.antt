use Rattle.std.proofs.Common.{ℕ, ◌<◌, ◌∷◌, [], List, subst, ⊎_elim, arith, rules, Contains}
use Rattle.class_table.specs.Layout.{Partition}
use Rattle.heap_theory.{proofs.ListSearch.{Contains-cases}, specs.Region.{Region, region_of}}
use Rattle.quarantine_core.{proofs.LawLemmas.{one_queue_is_shown}, specs.Queue.{Queue, AreQueued, IsOutside}}
use Rattle.heap_tests.proofs.tests.slots.keeps_three.Goals as goal

-- the links show one queue alone
outside : (value : Queue) (layout : Partition) (region : Region) (queue : List ℕ) (s : ℕ) → AreQueued value layout region queue →
    (Contains queue s → ⊥) → IsOutside value layout region s
outside value layout region queue s is none = λ other shown there.
    none (subst (λ q. Contains q s) (one_queue_is_shown value layout region other queue shown is) there)

not_in_one : (s : ℕ) → 0 < s → Contains {X = ℕ} (0 ∷ []) s → ⊥
not_in_one s after there = ⊎_elim (λ same. omega (arith, same)) (λ none. omega (arith, none.1)) (Contains-cases 0 [] s there)

not_in_two : Contains {X = ℕ} (0 ∷ 1 ∷ []) 2 → ⊥
not_in_two there = ⊎_elim (λ same. omega (arith, same)) (λ later.
    ⊎_elim (λ same. omega (arith, same)) (λ none. omega (arith, none.1)) (Contains-cases 1 [] 2 later)) (Contains-cases 0 (1 ∷ []) 2 there)

pub put-requires-2 : goal.put-requires-2
put-requires-2 g c =
    let one : AreQueued c.keeps_all.new.quarantine c.args.layout.now (region_of c.args.layout.now c.keeps_all.new.memory) (0 ∷ []) =
    c.keeps_all.ensures.queued (0 ∷ []) (c.put.ensures.queued [] c.requires.empty) in
    record {
      region = search rules;
      linked = (0 ∷ [], one);
      slot = search rules;
      outside = outside _ _ _ _ _ one (not_in_one 1 (omega arith));
      next = search rules;
      bytes = search rules;
    }

pub put-requires-3 : goal.put-requires-3
put-requires-3 g c =
    let two : AreQueued c.keeps_all-2.new.quarantine c.args.layout.now (region_of c.args.layout.now c.keeps_all-2.new.memory)
    (0 ∷ 1 ∷ []) = c.keeps_all-2.ensures.queued (0 ∷ 1 ∷ []) (c.put-2.ensures.queued (0 ∷ [])
    (c.keeps_all.ensures.queued (0 ∷ []) (c.put.ensures.queued [] c.requires.empty))) in
    record {
      region = search rules;
      linked = (0 ∷ 1 ∷ [], two);
      slot = search rules;
      outside = outside _ _ _ _ _ two not_in_two;
      next = search rules;
      bytes = search rules;
    }

pub returns-clause-queued : goal.returns-clause-queued
returns-clause-queued g c = c.put-3.ensures.queued (0 ∷ 1 ∷ []) (c.keeps_all-2.ensures.queued (0 ∷ 1 ∷ [])
    (c.put-2.ensures.queued (0 ∷ []) (c.keeps_all.ensures.queued (0 ∷ []) (c.put.ensures.queued [] c.requires.empty))))

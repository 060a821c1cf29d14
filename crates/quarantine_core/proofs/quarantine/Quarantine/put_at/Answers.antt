use Rattle.std.proofs.Common.{◌≡◌, ◌≢◌, ◌+◌, ◌-◌, ◌<◌, [], ◌∷◌, ◌++◌, arith, sym, add-one, ap, ◌∙◌, subst}
use Rattle.class_table.specs.Layout.{slot_count}
use Rattle.heap_theory.proofs.Regions.{length-headers_of, other_link}
use Rattle.quarantine_core.proofs.{Queued.{last_within, put_first, put_at_end}, TheoryLemmas.{links_stay}}
use Rattle.quarantine_core.proofs.quarantine.Quarantine.put_at.Goals.{then-self-eq0, else-self-eq0}
use Rattle.quarantine_core.proofs.quarantine.Quarantine.put_at.Goals as goal

pub set_link_at-requires-clause-slot : goal.set_link_at-requires-clause-slot
set_link_at-requires-clause-slot c =
    let same : c.self.inside.back ≡ c.args.self.now.back = ap (λ q. q.back) c.self.view_is in
    let some : c.args.self.now.back ≢ 0 = λ none. c.if-self-eq0.false (same ∙ none) in
    subst (λ back. back - 1 < slot_count c.args.layout.now) (sym same)
    (last_within c.args.self.now c.args.layout.now _ c.requires.can.linked.0 c.requires.can.linked.1 some)

pub set_link_at-requires-clause-start : goal.set_link_at-requires-clause-start
set_link_at-requires-clause-start c =
    let start : c.self.inside.back_start ≡ c.args.self.now.back_start = ap (λ q. q.back_start) c.self.view_is in
    let back : c.args.self.now.back ≡ c.self.inside.back = sym (ap (λ q. q.back) c.self.view_is) in
    start ∙ c.requires.can.linked.1.back_start (c.self.inside.back - 1) (omega (arith, back, c.if-self-eq0.false))

pub returns-clause-queued : goal.returns-clause-queued
returns-clause-queued c = λ queue old.
    let front : c.self.inside.front ≡ c.args.self.now.front = ap (λ q. q.front) c.self.view_is in
    let back : c.args.self.now.back ≡ c.self.inside.back = sym (ap (λ q. q.back) c.self.view_is) in
    let held : c.self.inside.held + c.from.result ≡ c.args.self.now.held + c.args.bytes =
    omega (arith, ap (λ q. q.held) c.self.view_is, c.from.ensures) in
    elim c.if-self-eq0.branch [
      | then-self-eq0 w ↦
          rw (w.self-inside-is, w.memory-is)
          (put_first c.args.self.now _ c.args.layout.now _ queue c.args.slot c.args.bytes c.requires.start old
          (back ∙ w.if-self-eq0.true) c.requires.can.slot c.requires.can.next c.requires.can.bytes (omega arith) (omega arith) held)
      | else-self-eq0 w ↦
          rw (w.self-inside-is, w.memory-is)
          (put_at_end c.args.self.now _ c.args.layout.now _ _ queue (c.self.inside.back - 1) c.args.slot
          (c.args.slot + 1) c.args.bytes c.requires.start old (length-headers_of c.args.layout.now c.args.memory.now)
          (omega (arith, back, w.if-self-eq0.false)) w.set_link_at.ensures.region (omega arith) c.requires.can.slot (c.requires.can.outside queue old)
          c.requires.can.next c.requires.can.bytes
          front (omega arith) held)
    ]

pub returns-clause-after : goal.returns-clause-after
returns-clause-after c = λ last is.
    let back : c.args.self.now.back ≡ c.self.inside.back = sym (ap (λ q. q.back) c.self.view_is) in
    elim c.if-self-eq0.branch [
      | then-self-eq0 w ↦ absurd (omega (arith, back, is, w.if-self-eq0.true))
      | else-self-eq0 w ↦ (let place : c.self.inside.back - 1 ≡ last = omega (arith, back, is) in
          rw (w.memory-is, ← place) (rw add-one at w.set_link_at.ensures))
    ]

pub returns-clause-lists : goal.returns-clause-lists
returns-clause-lists c = λ front list outside linked.
    let back : c.args.self.now.back ≡ c.self.inside.back = sym (ap (λ q. q.back) c.self.view_is) in
    elim c.if-self-eq0.branch [
      | then-self-eq0 w ↦ rw w.memory-is linked
      | else-self-eq0 w ↦
          rw w.memory-is
          (links_stay _ _ front list
          (λ r there. other_link _ (c.self.inside.back - 1) _ w.set_link_at.ensures.region r
          (λ is. outside r there (omega (arith, back, w.if-self-eq0.false)))) linked)
    ]

pub returns-clause-linked : goal.returns-clause-linked
returns-clause-linked c = (c.requires.can.linked.0 ++ c.args.slot ∷ [], returns-clause-queued c c.requires.can.linked.0 c.requires.can.linked.1)

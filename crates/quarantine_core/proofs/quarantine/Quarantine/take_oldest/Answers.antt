use Rattle.std.proofs.{Common.{◌∷◌, drop, sym, subst, ◌≡◌, ◌-◌, ◌*◌, ◌≤◌, arith, ap, ◌∙◌, ◌<◌, Contains}, lemmas.Grind.{common_steps}}
use Rattle.class_table.specs.Layout.{block_bytes, slot_count, slot_of}
use Rattle.heap_theory.proofs.Regions.{other_link}
use Rattle.quarantine_core.proofs.{Queued.{first_within, oldest_held, some_held, take_oldest}, TheoryLemmas.{links_stay}}
use Rattle.quarantine_core.{proofs.quarantine.Quarantine.take_oldest.Goals.{then-next-eq0, else-next-eq0}, specs.Queue.{AreQueued}}
use Rattle.quarantine_core.proofs.quarantine.Quarantine.take_oldest.Goals as goal

pub overflow_sub-slot : goal.overflow_sub-slot
overflow_sub-slot c =
    let first = first_within c.args.self.now c.args.layout.now _ c.requires.linked.0 c.requires.linked.1 c.requires.some in
    omega (arith, first.0, ap (λ q. q.front) c.self.view_is)

pub slot-place-requires : goal.slot-place-requires
slot-place-requires c =
    let first = first_within c.args.self.now c.args.layout.now _ c.requires.linked.0 c.requires.linked.1 c.requires.some in
    omega (arith, first.1, ap (λ q. q.front) c.self.view_is)

pub overflow_sub-self : goal.overflow_sub-self
overflow_sub-self c =
    oldest_held c.args.self.now c.args.layout.now _ c.requires.linked.0 c.self.inside.front c.from.result c.self.inside.held
    c.requires.linked.1 c.requires.some (ap (λ q. q.front) c.self.view_is)
    (c.from.ensures ∙ ap (λ n. 16 * n) c.slot-place.ensures.class) (ap (λ q. q.held) c.self.view_is)

pub returns-clause-oldest : goal.returns-clause-oldest
returns-clause-oldest c =
    let front : c.args.self.now.front ≡ c.self.inside.front = sym (ap (λ q. q.front) c.self.view_is) in
    let block : c.from.result ≡ block_bytes (slot_of c.args.layout.now (c.self.inside.front - 1)) =
    c.from.ensures ∙ ap (λ n. 16 * n) c.slot-place.ensures.class in
    let all : c.self.inside.held ≡ c.args.self.now.held = ap (λ q. q.held) c.self.view_is in
    let within : c.from.result ≤ c.self.inside.held =
    oldest_held c.args.self.now c.args.layout.now _ c.requires.linked.0 c.self.inside.front c.from.result c.self.inside.held
    c.requires.linked.1 c.requires.some (ap (λ q. q.front) c.self.view_is) block all in
    record {
      slot =
          subst (λ f. f - 1 < slot_count c.args.layout.now) front
          (first_within c.args.self.now c.args.layout.now _ c.requires.linked.0 c.requires.linked.1 c.requires.some).1;
      first = λ queue old.
          subst (λ f. queue ≡ (f - 1) ∷ drop 1 queue) front
          (some_held c.args.self.now c.args.layout.now _ queue old c.requires.some);
      queued = λ queue old.
          elim c.if-next-eq0.branch [
            | then-next-eq0 w ↦
                rw w.self-inside-is
                (take_oldest c.args.self.now _ c.args.layout.now _ _
                (c.self.inside.front - 1) c.unlink-next.result queue old c.unlink-next.ensures.link.region c.unlink-next.ensures.was
                (omega arith) (λ zero. omega arith) (λ other. absurd (other w.if-next-eq0.true)) (ap (λ q. q.back_start) c.self.view_is)
                (omega arith))
            | else-next-eq0 w ↦
                rw w.self-inside-is
                (take_oldest c.args.self.now _ c.args.layout.now _ _
                (c.self.inside.front - 1) c.unlink-next.result queue old c.unlink-next.ensures.link.region c.unlink-next.ensures.was
                (omega arith) (λ zero. absurd (w.if-next-eq0.false zero)) (λ other. ap (λ q. q.back) c.self.view_is)
                (ap (λ q. q.back_start) c.self.view_is) (omega arith))
          ];
      value = grind (arith, common_steps);
      held =
          elim c.if-next-eq0.branch [
            | then-next-eq0 w ↦ rw w.self-inside-is (omega arith)
            | else-next-eq0 w ↦ rw w.self-inside-is (omega arith)
          ];
      link = c.unlink-next.ensures.link;
      others = λ front list outside linked.
          links_stay _ _ front list
          (λ r there. other_link _ (c.self.inside.front - 1) 0 c.unlink-next.ensures.link.region r
          (λ is. outside (subst (Contains list) is there))) linked;
    }

pub returns-clause-linked : goal.returns-clause-linked
returns-clause-linked c =
    let old = c.args.self.now in
    let front : c.args.self.now.front ≡ c.self.inside.front = sym (ap (λ q. q.front) c.self.view_is) in
    let first : c.requires.linked.0 ≡ (c.self.inside.front - 1) ∷ drop 1 c.requires.linked.0 =
    subst (λ f. c.requires.linked.0 ≡ (f - 1) ∷ drop 1 c.requires.linked.0) front
    (some_held old c.args.layout.now _ c.requires.linked.0 c.requires.linked.1 c.requires.some) in (
      drop 1 c.requires.linked.0,
      (returns-clause-oldest c).queued (drop 1 c.requires.linked.0)
          (subst (AreQueued old c.args.layout.now _) first c.requires.linked.1),
    )

-- When each answer of an access is given.
use Rattle.std.proofs.Common.{◌≡◌, ◌≢◌, ℕ, ◌<◌, ◌∷◌, ◌++◌, [], true, not, List, length, refl, sym, ap, ◌∙◌, subst, inl, inr, arith, Some}
use Rattle.std.{proofs.Common.{None, Option, ◌↔◌, ◌==◌, replicate, slice_get, option_map, IsSome, ℤ}, specs.List.{find}}
use Rattle.std.proofs.lemmas.{Bool.{cases_Bool, cases_eq, cond-true, false≢true}, List.{length-replicate}}
use Rattle.machine_theory.specs.{Access.{IsMapped, IsTagFault, access_fault, is_mapped, stored, tag_fault, touched}, Memory.{tag_at}}
use Rattle.machine_theory.specs.{Address.{logical_tag, moved_by, Touches}, declared.fault.Fault.{Fault}}
use Rattle.machine_theory.specs.declared.fault.Fault.TheVariants.{Unmapped, TagCheck}
use Rattle.trace_event.specs.declared.event.{Event.{Event}, Event.TheVariants.{Store}}
use Rattle.heap_theory.specs.{Calls.{store_step}, GranuleKinds.{place_kind}}
use Rattle.heap_theory.specs.{State.{Heap}}
use Rattle.replay_theory.specs.AccessLaws.{IsAnswerTo, IsAnswered, AccessesAreAnswered}
use Rattle.replay_theory.specs.Replay.{Replay, Answer, IsFaultAnswer, variable, heap_after, replay_after, access_answer}
use Rattle.replay_theory.specs.Replay.{answer_of, answers, replay_of}
use Rattle.replay_theory.specs.Replay.Answer.{Silent, NotMapped, TagFault}
use Rattle.replay_theory.proofs.TheoryLemmas as laws

-- ---- the three answers of an access

module _ (h : Heap) (address len : ℕ) (done : Answer) (no_fault : IsFaultAnswer done → ⊥) where
  unmapped_answer : (IsMapped (length h.memory) address len → ⊥) → IsAnswerTo h address len done NotMapped
  unmapped_answer never = grind arith

  tag_answer : (g m p : ℕ) → IsTagFault h.memory address len g m p → IsAnswerTo h address len done (TagFault g m p (place_kind h g))
  tag_answer g m p t = grind arith

  done_answer : IsMapped (length h.memory) address len → ((g : ℕ) → Touches address len g → tag_at h.memory g ≡ logical_tag address) →
      IsAnswerTo h address len done done
  done_answer mapped each = grind arith

  pub access_is_answered : 0 < len → IsAnswerTo h address len done (access_answer h done (access_fault h.memory address len))
  unfolding access_fault
  access_is_answered some = elim (cases_Bool (is_mapped (length h.memory) address len)) [
    | inl t ↦ by_tags (mapped_test.0 t) (find (λ g. not (tag_at h.memory g == logical_tag address)) (touched address len))
        (cond-true (is_mapped (length h.memory) address len) tags (Some Unmapped) t)
    | inr f ↦ grind (arith, unmapped_answer)
  ]
    where
      Answers : Option Fault → Type 0
      Answers o = IsAnswerTo h address len done (access_answer h done o)

      tags : Option Fault
      tags = tag_fault h.memory (logical_tag address) (touched address len)

      mapped_test : (is_mapped (length h.memory) address len ≡ true) ↔ IsMapped (length h.memory) address len
      mapped_test = laws.mapped_test (length h.memory) address len

      -- without a fault there is no granule of another tag
      same_tag : access_fault h.memory address len ≡ None → (g : ℕ) → Touches address len g → tag_at h.memory g ≡ logical_tag address
      same_tag is g touches = elim (cases_eq (tag_at h.memory g) (logical_tag address)) [
        | inl same ↦ same
        | inr differs ↦ absurd (false≢true (subst IsSome is (laws.other_tag_faults h.memory address len g touches differs)))
      ]

      by_tags : IsMapped (length h.memory) address len → (o : Option ℕ) →
          access_fault h.memory address len ≡ option_map (λ g. TagCheck g (tag_at h.memory g) (logical_tag address)) o →
          IsAnswerTo h address len done (access_answer h done (access_fault h.memory address len))
      by_tags mapped None is = subst Answers (sym is) (done_answer mapped (same_tag is))
      by_tags mapped (Some g) is = subst Answers (sym is)
          (tag_answer g (tag_at h.memory g) (logical_tag address)
          ((laws.tag_fault_names h.memory address len g (tag_at h.memory g) (logical_tag address) some).0 is))

-- ---- events

pub event_is_answered : (replay : Replay) (event : Event) → IsAnswered replay event (answer_of replay event)
unfolding answer_of
event_is_answered r event = grind (arith, access_is_answered)

pub store_is_done : (replay : Replay) (v : ℕ) (off : ℤ) (len byte : ℕ) → let address = moved_by (variable replay v) off in
    let answer = answer_of replay (Store v off len byte) in let after = heap_after replay (Store v off len byte) in (answer ≡ Silent → after
    ≡ record replay.heap { memory = stored replay.heap.memory address (replicate len byte) }) × (answer ≢ Silent → after ≡ replay.heap)
unfolding answer_of heap_after store_step
store_is_done r v off len byte = grind (arith, length-replicate)

-- ---- whole traces

pub answer_at : (first : Replay) (before : List Event) (e : Event) (after : List Event) →
    slice_get (answers first (before ++ e ∷ after)) (length before) ≡ Some (answer_of (replay_of first before) e)
unfolding answers replay_of
answer_at first [] e after = refl
answer_at first (event ∷ before) e after = answer_at (replay_after first event) before e after

pub accesses_are_answered : (first : Replay) (events : List Event) → AccessesAreAnswered first events
accesses_are_answered first events before after e is = (
  answer_of (replay_of first before) e,
  ap (λ all. slice_get (answers first all) (length before)) is ∙ answer_at first before e after,
  event_is_answered (replay_of first before) e,
)

pub ruleset access_laws = (event_is_answered, store_is_done)

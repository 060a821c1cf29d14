use Rattle.std.proofs.{Common.{subst, sym, inl, inr, length}, lemmas.Bool.{cases_lt}}
use Rattle.class_table.{proofs.Words.{faulty, room, no_room, too_many_read, few_read, number_is, no_number}, specs.Faults.{Gives}}
use Rattle.class_table.proofs.class_line.table_of_words.Goals as goal

pub returns-in_default-clause-exact : goal.returns-in_default-clause-exact
returns-in_default-clause-exact c =
    faulty _ _ _ _ _ _ c.loop-word.invariant c.in-Some.ensures.steps (no_number _ c.in_default.ensures.number)

pub loop-word-preserved : goal.loop-word-preserved
loop-word-preserved c =
    let number = number_is _ _ c.in-Some-capped_number_in.ensures.number in
    let clipped = number.2 in
    elim (cases_lt (length c.loop-word.numbers.items) 32) [
      | inl fits ↦
          let kept = c.append_if_room-too_many.ensures.room fits in
          rw (kept.0, kept.1, clipped) (room _ _ _ _ _ _ number.0 c.loop-word.invariant c.in-Some.ensures.steps number.1 fits)
      | inr full ↦
          let kept = c.append_if_room-too_many.ensures.full full in
          rw (kept.0, kept.1) (no_room _ _ _ _ _ _ number.0 c.loop-word.invariant c.in-Some.ensures.steps number.1 full)
    ]

pub returns-then-too_many-clause-exact : goal.returns-then-too_many-clause-exact
returns-then-too_many-clause-exact c = too_many_read _ _ _ c.in-None.ensures.steps.0 (rw c.if-too_many.true at c.loop-word.invariant)

pub returns-clause-exact : goal.returns-clause-exact
returns-clause-exact c =
    let read = few_read _ _ _ c.in-None.ensures.steps.0 (rw c.if-too_many.false at c.loop-word.invariant) in
    subst (Gives c.from_few.result) (sym read) c.from_few.ensures.exact

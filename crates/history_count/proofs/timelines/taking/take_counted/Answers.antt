use Rattle.std.proofs.{Common.{length, Some, ap, arith, true, false, ◌<◌, ◌∙◌}, lemmas.List.{length-drop}}
use Rattle.tuner_theory.specs.Profiles.{greatest_count}
use Rattle.history_count.proofs.TimelineLemmas.OnePass.{counted-line, follows, taken-event, taken-fault}
use Rattle.history_count.specs.declared.timelines.fault.TimelineFault.TheVariants.{NotLive}
use Rattle.history_count.proofs.timelines.taking.take_counted.Goals as goal

pub count-requires-clause-few : goal.count-requires-clause-few
count-requires-clause-few c =
    omega (arith, c.deref.ensures.len, c.loop-turn.invariant.len, c.room_in-turn-end.ensures.few c.loop-turn._turn c.loop-turn-test.true)

pub loop-turn-preserved : goal.loop-turn-preserved
loop-turn-preserved c =
    let events = c.loop-turn.events.items in
    let next = counted-line c.loop-turn.lines c.next_counted.new.lines c.in-Some.event c.in-Some.ensures.event c.in-Some.ensures.taken in
    let room : length events < greatest_count =
    grind arith in
    let found = rw c.deref.ensures.value at c.if-not-count.ensures.found in
    let live = rw c.deref.ensures.value at c.if-not-count.ensures.live in
    record {
      taken = rw c.push_reserved.ensures.items
          (taken-event c.args.events.now.items events c.loop-turn.live c.args.lines.now c.loop-turn.lines c.next_counted.new.lines
          c.loop-turn.invariant.taken (Some c.in-Some.event) c.in-Some.event c.count.new.live next
          (follows events c.in-Some.event true room found) live);
      fewer = omega (arith, ap length c.in-Some.ensures.taken, length-drop 1 c.loop-turn.lines, c.loop-turn.invariant.fewer);
      len = omega (arith, c.push_reserved.ensures.len, c.loop-turn.invariant.len);
      capacity = c.push_reserved.ensures.capacity ∙ c.loop-turn.invariant.capacity;
    }

pub returns-in_default-clause-taken : goal.returns-in_default-clause-taken
returns-in_default-clause-taken c = rw c.in_default.ensures.kept c.loop-turn.invariant.taken

pub returns-then-not-count-clause-taken : goal.returns-then-not-count-clause-taken
returns-then-not-count-clause-taken c =
    let events = c.loop-turn.events.items in
    let next = counted-line c.loop-turn.lines c.next_counted.new.lines c.in-Some.event c.in-Some.ensures.event c.in-Some.ensures.taken in
    let room : length events < greatest_count =
    omega (
      arith,
      ap length c.deref.ensures.value,
      c.deref.ensures.len,
      c.loop-turn.invariant.len,
      c.room_in-turn-end.ensures.few c.loop-turn._turn c.loop-turn-test.true,
    ) in
    let found = rw c.deref.ensures.value at c.if-not-count.ensures.found in
    taken-fault c.args.events.now.items events c.loop-turn.live c.args.lines.now c.loop-turn.lines c.next_counted.new.lines
    c.loop-turn.invariant.taken (Some c.in-Some.event) NotLive c.count.new.live next (follows events c.in-Some.event false room found)

pub returns-then-not-count-clause-fewer : goal.returns-then-not-count-clause-fewer
returns-then-not-count-clause-fewer c = grind arith

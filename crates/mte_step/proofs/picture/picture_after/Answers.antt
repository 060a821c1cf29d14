use Rattle.std.proofs.Common.{◌≡◌, ◌∙◌, List, ap, arith, length, rules, subst, take, ℕ, Ok}
use Rattle.mte_step.{proofs.picture.picture_after.Goals.{then-tags-granules-via-then-tags-granules}, specs.Picture.{IsDrawn}}
use Rattle.mte_step.proofs.picture.picture_after.Goals.{then-tags-granules-via-else-tags-granules+then-kinds-granules}
use Rattle.mte_step.specs.Pictured.{read_of}
use Rattle.heap_theory.specs.{Config.{layout_for, IsConfig}, Sound.{IsSoundHeap}, declared.config.Config.{Config}}
use Rattle.replay_theory.proofs.{Answered.{stored_part}, LayoutStays.{layout_of_run}, RunKept.{IsRunWith-run}}
use Rattle.replay_theory.specs.Replay.{Replay, first_replay, replay_of}
use Rattle.trace_event.specs.declared.event.Event.{Event}
use Rattle.class_table.{proofs.LawLemmas.{read_line_is_spelled}, specs.ClassLine.{table_of_line}, specs.Layout.{IsPartition, Partition}}
use Rattle.mte_step.proofs.picture.picture_after.Goals as goal

-- A heap in a replay has as many granules as its configuration says.
granules_of_replay : (config : Config) (line table : List ℕ) (events : List Event) → IsConfig config → table_of_line line ≡ Ok table
    → length (replay_of (first_replay (layout_for config table) config.seed config.quarantine) events).heap.memory ≡ config.granules
granules_of_replay config line table events is spelled =
    let layout : Partition = layout_for config table in
    let partition : IsPartition layout =
    record { table = (read_line_is_spelled line table spelled).1; least = is.granules.0; most = is.granules.1 } in
    let sound =
    subst (λ (r : Replay). IsSoundHeap r.heap) (stored_part layout config.seed config.quarantine events)
    (IsRunWith-run layout config.seed config.quarantine events partition).sound.heap in
    sound.long ∙ ap (λ (l : Partition). l.granules) (layout_of_run layout config.seed config.quarantine events)

pub returns-then-tags-granules-clause-pictured : goal.returns-then-tags-granules-clause-pictured
returns-then-tags-granules-clause-pictured c =
    let begun = c.in_ok-stepper.ensures in
    let first = first_replay (layout_for c.args.config begun.1.table) c.args.config.seed c.args.config.quarantine in
    let events = take c.args.count c.in_ok-stepper.stepper.reader.events in
    let reached : c.advance.new.stepper.replay.replay ≡ replay_of first events =
    c.advance.ensures ∙ ap (λ (r : Replay). replay_of r events) begun.1.first in
    let long : length c.advance.new.stepper.replay.replay.heap.memory ≡ c.args.config.granules =
    ap (λ (r : Replay). length r.heap.memory) reached
    ∙ granules_of_replay c.args.config c.args.line.now begun.1.table events begun.0 begun.1.spelled in
    λ _. (
      rw begun.1.spelled (search rules),
      begun.1.ended,
      λ room.
          elim c.then-tags-granules.branch [
            | then-tags-granules-via-then-tags-granules w ↦ omega (arith, w.if-tags-granules.true, c.granules-granules.ensures, long, room.0)
            | then-tags-granules-via-else-tags-granules+then-kinds-granules w ↦
                omega (arith, w.if-kinds-granules.true, c.granules-granules.ensures, long, room.1)
          ],
    )

pub returns-clause-pictured : goal.returns-clause-pictured
returns-clause-pictured c =
    let begun = c.in_ok-stepper.ensures in
    let first = first_replay (layout_for c.args.config begun.1.table) c.args.config.seed c.args.config.quarantine in
    let events = take c.args.count c.in_ok-stepper.stepper.reader.events in
    let reached : c.advance.new.stepper.replay.replay ≡ replay_of first events =
    c.advance.ensures ∙ ap (λ (r : Replay). replay_of r events) begun.1.first in
    let long : length c.advance.new.stepper.replay.replay.heap.memory ≡ c.args.config.granules =
    ap (λ (r : Replay). length r.heap.memory) reached
    ∙ granules_of_replay c.args.config c.args.line.now begun.1.table events begun.0 begun.1.spelled in
    let whole : c.advance.new.stepper.replay.replay ≡ replay_of first (take c.args.count (read_of c.args.trace.now).events) =
    reached ∙ ap (λ (es : List Event). replay_of first (take c.args.count es)) begun.1.events in (
      begun.0,
      (omega (arith, c.if-tags-granules.false, c.granules-granules.ensures, long), omega (arith, c.if-kinds-granules.false, c.granules-granules.ensures, long)),
      record {
        table = begun.1.table;
        spelled = begun.1.spelled;
        ended = begun.1.ended;
        drawn = subst (λ (r : Replay). IsDrawn r.heap c.draw.new.tags c.draw.new.kinds) whole c.draw.ensures;
      },
    )

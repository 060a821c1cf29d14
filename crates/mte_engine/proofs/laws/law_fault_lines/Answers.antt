use Rattle.history_count.proofs.TimelineLemmas.LawLemmas.{first_fault_is_refused, spelled_timeline_is_read, timeline_is_spelled}
use Rattle.history_count.specs.HistoryText.{SpellsHistory, history_of_lines}
use Rattle.history_count.specs.Timelines.TimelineText.{SpellsTimeline, timeline_of_lines, head_line}
use Rattle.profile_count.specs.ProfileText.{SpellsProfile, profile_of_lines}
use Rattle.mte_engine.proofs.FaultLines.{after_table_at_first, alone_at_first, check_profile_at_first, profile_is_part, replay_at_first}
use Rattle.mte_engine.proofs.{FaultLines.{shown_with_line, IsPart}, HistoryFaultLines.{check_fit_history_at_first, history_is_part}}
use Rattle.mte_engine.specs.{Parts.{history_part, profile_part, timeline_part}, declared.fault.InputFault.TheVariants.{Timeline}}
use Rattle.std.proofs.{Common.{◌≡◌, ◌+◌, [], refl}, lemmas.Bool.{le-ltb}}
use Rattle.line_text.specs.{Lines.{lines}, LineSteps.{read_lines}}
use Rattle.mte_engine.proofs.laws.law_fault_lines.Goals as goal

-- A timeline as a part of an input: its first fault is in the line of the refusal.

-- the timeline without events
shortest_spelled : SpellsTimeline head_line []
unfolding lines read_lines
shortest_spelled = timeline_is_spelled head_line [] refl

timeline_is_part : IsPart SpellsTimeline timeline_of_lines timeline_part
timeline_is_part = record {
  spelled = timeline_is_spelled;
  is_read = spelled_timeline_is_read;
  first = λ text n fault refused. (first_fault_is_refused text n).0 (fault, refused);
  example = head_line;
  value = [];
  is_example = shortest_spelled;
  whole = λ n x. refl;
  refused = λ n f fault e. let is : fault ≡ Timeline (n + f.0) f.1 = cc in rw is refl;
}

pub returns-clause-shown : goal.returns-clause-shown
returns-clause-shown c = shown_with_line

pub returns-clause-score : goal.returns-clause-score
returns-clause-score c = λ options text fault small answers.
    after_table_at_first SpellsProfile profile_of_lines profile_part profile_is_part text fault (rw (le-ltb 1 options.first_lines small) at answers)

pub returns-clause-tune : goal.returns-clause-tune
returns-clause-tune c = λ options. alone_at_first SpellsProfile profile_of_lines profile_part profile_is_part

pub returns-clause-check : goal.returns-clause-check
returns-clause-check c = λ options text n fault none answers. check_profile_at_first options text n fault (rw none at answers)

pub returns-clause-replay : goal.returns-clause-replay
returns-clause-replay c = replay_at_first

pub returns-clause-footprint : goal.returns-clause-footprint
returns-clause-footprint c = after_table_at_first SpellsHistory history_of_lines history_part history_is_part

pub returns-clause-fit : goal.returns-clause-fit
returns-clause-fit c = λ limit step forced text fault. (
  alone_at_first SpellsHistory history_of_lines history_part history_is_part text fault,
  alone_at_first SpellsTimeline timeline_of_lines timeline_part timeline_is_part text fault,
)

pub returns-clause-footprint_over : goal.returns-clause-footprint_over
returns-clause-footprint_over c = after_table_at_first SpellsTimeline timeline_of_lines timeline_part timeline_is_part

pub returns-clause-check_fit : goal.returns-clause-check_fit
returns-clause-check_fit c = check_fit_history_at_first

use Rattle.std.proofs.Common.{◌≡◌, ◌+◌, ◌-◌, ◌≤◌, ◌++◌, drop, length, take}
use Rattle.mte_engine.specs.ReportFrom.{AreFewEvents, report_from}
use Rattle.mte_engine.proofs.report.write_lines.Given as goal

abbrev pub invariant-lines : goal.invariant-lines
invariant-lines l = record {
  report :
      take l.end l.text ++ report_from l.replay (drop l.done l.events) ≡ take l.from l.initial.text ++ report_from l.fn.replay l.events;
  few : AreFewEvents l.replay (drop l.done l.events);
  done : l.done ≤ length l.events;
  room : l.end ≤ l.full + 160;
}

abbrev pub decreases-lines : goal.decreases-lines
decreases-lines l = length l.events - l.done

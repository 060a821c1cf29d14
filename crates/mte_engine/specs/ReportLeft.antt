-- What is still to be written of a report: its buffer, and then what was not replayed yet.
use Rattle.std.specs.Prelude.{ℕ, List, ◌++◌, drop, take}
use Rattle.mte_engine.specs.{ReportFrom.{report_unless}, declared.report.Report.{Report}}

-- the bytes that are ready in the buffer, and what was not replayed yet
abbrev pub report_left : Report → List ℕ
report_left r = drop r.written (take r.filled r.buffer.items) ++ report_unless r.is_whole r.replay r.reader.events

-- How a fault of a trace's line is shown: by its code and its name.
use Rattle.std.specs.Prelude.{ℕ, List, codes}
use Rattle.trace_reader.specs.declared.fault.TraceFault.{TraceFault}
use Rattle.trace_reader.specs.declared.fault.TraceFault.TheVariants.{BadWord, BadNumber, OutOfRange, LineTooLong, TooManyEvents}

abbrev pub shown_trace_fault : TraceFault → List ℕ
shown_trace_fault BadWord = codes "70 BadWord"
shown_trace_fault BadNumber = codes "71 BadNumber"
shown_trace_fault OutOfRange = codes "72 OutOfRange"
shown_trace_fault LineTooLong = codes "73 LineTooLong"
shown_trace_fault TooManyEvents = codes "74 TooManyEvents"

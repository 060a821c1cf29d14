-- How a fault of a timeline's line is shown: by its code and its name.
use Rattle.std.specs.Prelude.{ℕ, List, codes}
use Rattle.history_count.specs.declared.timelines.fault.{TimelineFault.{TimelineFault}, TimelineFault.TheVariants.{BadTimeline, NotLive}}

abbrev pub shown_timeline_fault : TimelineFault → List ℕ
shown_timeline_fault BadTimeline = codes "37 BadTimeline"
shown_timeline_fault NotLive = codes "38 NotLive"

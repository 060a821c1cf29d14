-- The event that a kept event stands for.
use Rattle.std.specs.Prelude.{◌+◌, ◌/◌, ◌%◌}
use Rattle.trace_event.specs.declared.event.{Event.{Event}, Event.TheVariants.{Malloc, Calloc, Realloc, Free, Load, Store, Addg, Subg}}
use Rattle.trace_event.specs.declared.event.TheConstants.Event.{LONGEST_ACCESS}
use Rattle.trace_reader.specs.declared.kept_event.KeptEvent.{KeptEvent}
use Rattle.trace_reader.specs.declared.kept_event.KeptEvent.TheVariants.{Realloc as KeptRealloc, Free as KeptFree, Load as KeptLoad}
use Rattle.trace_reader.specs.declared.kept_event.KeptEvent.TheVariants.{Store as KeptStore, Addg as KeptAddg, Subg as KeptSubg}
use Rattle.trace_reader.specs.declared.kept_event.KeptEvent.TheVariants.{Malloc as KeptMalloc, Calloc as KeptCalloc}

abbrev pub event_of : KeptEvent → Event
event_of (KeptMalloc v n) = Malloc v n
event_of (KeptCalloc v n) = Calloc v n
event_of (KeptRealloc v n) = Realloc v n
event_of (KeptFree v) = Free v
event_of (KeptLoad len v off) = Load v off len
event_of (KeptStore byte v_and_len off) = Store (v_and_len / LONGEST_ACCESS) off (v_and_len % LONGEST_ACCESS + 1) byte
event_of (KeptAddg u6 v w u4) = Addg v w u6 u4
event_of (KeptSubg u6 v w u4) = Subg v w u6 u4

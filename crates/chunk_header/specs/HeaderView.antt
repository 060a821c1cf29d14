-- Which header of the theory a value is.
use Rattle.heap_theory.specs.Header.{Standing, Header as TheHeader}
use Rattle.heap_theory.specs.Header.Standing.{Fresh as IsFresh, Live as IsLive, Quarantined as IsQuarantined, Freed as IsFreed}
use Rattle.chunk_header.specs.declared.header.{Header.{Header}, State.{State}, State.TheVariants.{Fresh, Live, Quarantined, Freed}}

abbrev pub standing_seen : State → Standing
standing_seen Fresh = IsFresh
standing_seen Live = IsLive
standing_seen Quarantined = IsQuarantined
standing_seen Freed = IsFreed

-- the header that a value is
abbrev pub seen : Header → TheHeader
seen header = record {
  standing = standing_seen header.state;
  size = header.size;
  tag = header.tag;
  class = header.class;
  next = header.next;
  mark = header.mark;
}

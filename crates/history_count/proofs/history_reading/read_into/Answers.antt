use Rattle.std.proofs.Common.{◌≡◌, ◌+◌, ◌≤◌, ℕ, suc, Bool, Ok, List, length, true, sym, ap, ◌∙◌, arith, add-one, refl}
use Rattle.std.proofs.lemmas.{Bool.{false≢true, leb-true}, List.{with_items_is}}
use Rattle.line_text.specs.Lines.{words}
use Rattle.profile_count.proofs.LawLemmas.{length-zeros}
use Rattle.history_count.proofs.{Columns.{with_counts-length}, EntryLines.{entry_line-read}, Peaks.{empty-length, zeros-small}}
use Rattle.history_count.proofs.{LineByLine.{entry_read, line_faulty, line_read, no_line}, RowEntries.{entry-taken, gives-at}}
use Rattle.history_count.specs.{Histories.{with_counts}, HistoryText.{Entry, Reading, entry_of, history_from, next_entry}}
use Rattle.history_count.specs.declared.line.Subject.TheVariants.{Large, Size}
use Rattle.history_count.proofs.history_reading.read_into.Goals as goal

-- what was read so far
abbrev reading : List (List ℕ) → List ℕ → ℕ → Bool → Reading
reading snapshots large next is_ended =
    record { history = record { snapshots = snapshots; large = large }; next = next; is_ended = is_ended }

pub lines-init : goal.lines-init
lines-init g c = grind (arith, length-zeros, empty-length, zeros-small)

pub add-requires-clause-can_take : goal.add-requires-clause-can_take
add-requires-clause-can_take g c =
    let r = reading c.lines.invariant.snapshots c.lines.large.items c.lines.next c.lines.is_ended in
    let counts = c.next_entry.new.counts in
    let taken = entry-taken c.in-Some.read counts _ _ _ _ _ c.in-Some.ensures in
    let gives = gives-at _ _ _ _ _ _ _ _ taken c.in-Ok.is in
    let places : length c.deref_mut.result.now ≡ length r.history.snapshots =
    omega (arith, ap length c.deref_mut.ensures.value, c.lines.invariant.places, c.lines.invariant.width) in
    let size : ℕ = c.in-Size.size in
    let is = entry_read r taken.line _ _ (Size size) counts places gives c.in-Size.is in
    let read = entry_line-read _ _ _ taken.line _ is in
    let items = with_items_is c.lines.counts counts (omega arith) in
    record {
      snapshots = c.lines.invariant.snapshots;
      next = c.lines.next;
      taken = c.lines.invariant.taken;
      order = leb-true r.next size read.next_is.good.order;
      width = sym (ap length (c.deref.ensures.value ∙ items) ∙ read.next_is.good.size);
    }

pub add-requires-clause-in_range : goal.add-requires-clause-in_range
add-requires-clause-in_range g c =
    let r = reading c.lines.invariant.snapshots c.lines.large.items c.lines.next c.lines.is_ended in
    let counts = c.next_entry.new.counts in
    let taken = entry-taken c.in-Some.read counts _ _ _ _ _ c.in-Some.ensures in
    let gives = gives-at _ _ _ _ _ _ _ _ taken c.in-Ok.is in
    let places : length c.deref_mut.result.now ≡ length r.history.snapshots =
    omega (arith, ap length c.deref_mut.ensures.value, c.lines.invariant.places, c.lines.invariant.width) in
    let is = entry_read r taken.line _ _ (Size c.in-Size.size) counts places gives c.in-Size.is in
    let items = with_items_is c.lines.counts counts (omega arith) in
    rw (c.deref.ensures.value ∙ items) (entry_line-read _ _ _ taken.line _ is).next_is.good.few

pub lines-preserved-in-Size : goal.lines-preserved-in-Size
lines-preserved-in-Size g c =
    let snapshots = c.lines.invariant.snapshots in
    let r = reading snapshots c.lines.large.items c.lines.next c.lines.is_ended in
    let counts = c.next_entry.new.counts in
    let taken = entry-taken c.in-Some.read counts _ _ _ _ _ c.in-Some.ensures in
    let gives = gives-at _ _ _ _ _ _ _ _ taken c.in-Ok.is in
    let line = taken.line in
    let size : ℕ = c.in-Size.size in
    let entry : Entry = record { subject = Size size; counts = counts } in
    let places : length c.deref_mut.result.now ≡ length r.history.snapshots =
    omega (arith, ap length c.deref_mut.ensures.value, c.lines.invariant.places, c.lines.invariant.width) in
    let is : next_entry r line ≡ Ok entry = entry_read r line _ _ (Size size) counts places gives c.in-Size.is in
    let read = entry_line-read _ _ _ line entry is in
    let order : r.next ≤ size = leb-true r.next size read.next_is.good.order in
    let items = with_items_is c.lines.counts counts (omega arith) in
    let given : c.deref.result.now ≡ counts = c.deref.ensures.value ∙ items in
    let width : length snapshots ≡ length c.deref.result.now = sym (ap length given ∙ read.next_is.good.size) in
    let before = c.lines.invariant.lines_of_sizes read.open_still in
    record {
      snapshots = with_counts snapshots size c.deref.result.now;
      classes = c.in_ok-add-in-Size.ensures.classes ∙ c.lines.invariant.classes;
      taken = c.in_ok-add-in-Size.ensures.taken snapshots c.lines.next c.lines.invariant.taken order width;
      rest = c.lines.invariant.rest ∙ line_read (c.lines.number + 1) r _ _ line entry taken.parts is
          ∙ ap (λ (counts : List ℕ). history_from (c.lines.number + 1 + 1)
          (reading (with_counts snapshots size counts) c.lines.large.items (suc size) r.is_ended) c.next_entry.new.lines) (sym given)
          ∙ ap (λ (next : ℕ). history_from (c.lines.number + 1 + 1)
          (reading (with_counts snapshots size c.deref.result.now) c.lines.large.items next r.is_ended) c.next_entry.new.lines) (sym (add-one size));
      width = with_counts-length snapshots size c.deref.result.now ∙ c.lines.invariant.width;
      few = c.lines.invariant.few;
      places = rw items (read.next_is.good.size ∙ c.lines.invariant.width);
      sizes = omega (arith, read.next_is.subject);
      lines = omega (arith, before, order);
      lines_of_sizes = λ e. omega (arith, before, order);
    }

pub lines-preserved : goal.lines-preserved
lines-preserved g c =
    let snapshots = c.lines.invariant.snapshots in
    let r = reading snapshots c.lines.large.items c.lines.next c.lines.is_ended in
    let counts = c.next_entry.new.counts in
    let taken = entry-taken c.in-Some.read counts _ _ _ _ _ c.in-Some.ensures in
    let gives = gives-at _ _ _ _ _ _ _ _ taken c.in-Ok.is in
    let line = taken.line in
    let entry : Entry = record { subject = Large; counts = counts } in
    let places : length c.deref_mut.result.now ≡ length r.history.snapshots =
    omega (arith, ap length c.deref_mut.ensures.value, c.lines.invariant.places, c.lines.invariant.width) in
    let is : next_entry r line ≡ Ok entry = entry_read r line _ _ Large counts places gives c.in-Large.is in
    let read = entry_line-read _ _ _ line entry is in
    let items = with_items_is c.lines.counts counts (omega arith) in
    let given : c.deref-in-Large.result.now ≡ counts = c.deref-in-Large.ensures.value ∙ items in
    let large : c.copy_from_slice.new.self.items ≡ counts = c.copy_from_slice.ensures.items ∙ given in
    record {
      snapshots = snapshots;
      classes = c.lines.invariant.classes;
      taken = c.lines.invariant.taken;
      rest = c.lines.invariant.rest ∙ line_read (c.lines.number + 1) r _ _ line entry taken.parts is
          ∙ ap (λ (large : List ℕ). history_from (c.lines.number + 1 + 1) (reading snapshots large r.next true) c.next_entry.new.lines) (sym large);
      width = sym (ap length large ∙ read.next_is.good.size);
      few = rw large read.next_is.good.few;
      places = rw (items, large) refl;
      sizes = c.lines.invariant.sizes;
      lines = omega (arith, c.lines.invariant.lines_of_sizes read.open_still);
      lines_of_sizes = λ e. absurd (false≢true (sym e));
    }

pub returns-in-Err-clause-read : goal.returns-in-Err-clause-read
returns-in-Err-clause-read g c =
    let r = reading c.lines.invariant.snapshots c.lines.large.items c.lines.next c.lines.is_ended in
    let taken = entry-taken c.in-Some.read c.next_entry.new.counts _ _ _ _ _ c.in-Some.ensures in
    let line = taken.line in
    let gives = gives-at _ _ _ _ _ _ _ _ taken c.in-Err.is in
    let places : length c.deref_mut.result.now ≡ length r.history.snapshots =
    omega (arith, ap length c.deref_mut.ensures.value, c.lines.invariant.places, c.lines.invariant.width) in
    c.lines.invariant.rest
    ∙ line_faulty (c.lines.number + 1) r _ _ line _ taken.parts
    (ap (λ n. entry_of n r.next r.is_ended (words line)) (sym places) ∙ gives)

pub returns-clause-read : goal.returns-clause-read
returns-clause-read g c = grind (arith, no_line)

use Rattle.std.proofs.Common.{◌∙◌, sym, ap}
use Rattle.history_count.specs.HistoryText.{history_of_lines}
use Rattle.history_count.proofs.history_reading.footprint_of_text.Goals as goal

pub returns : goal.returns
returns c =
    let read = c.in_ok-read_into.ensures.read in
    let table = c.in_ok-read_into.ensures.classes ∙ c.in_ok-sums.ensures.table in (
      record { snapshots = read.snapshots; large = c.in_ok-read_into.field-0.items },
      ap history_of_lines (sym c.lines_in-lines.ensures) ∙ c.in_ok-count.ensures.read ∙ read.is,
      rw (sym table) (c.finish.ensures read.snapshots read.next read.taken),
    )

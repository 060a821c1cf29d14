use Rattle.std.proofs.Common.{refl, arith}
use Rattle.raw_region.proofs.Windows.{overlaid}
use Rattle.raw_region.proofs.short_fill.fill_run.Goals as goal

pub returns-then-bytes-from : goal.returns-then-bytes-from
returns-then-bytes-from c =
    overlaid 32 c.args.bytes.now c.args.bytes.now c.put_window.new.bytes c.put_window-then-bytes-from.new.bytes c.window_at-rest.result
    c.args.from c.args.to c.args.value c.requires.0 (omega arith) (omega arith) (omega arith) refl c.put_window.ensures
    c.window_at-rest.ensures c.put_window-then-bytes-from.ensures

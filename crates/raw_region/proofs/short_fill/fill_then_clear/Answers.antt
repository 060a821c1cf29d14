use Rattle.std.proofs.Common.{arith}
use Rattle.raw_region.proofs.{Windows.{overlaid_twice}, Written.{filled_twice}}
use Rattle.raw_region.proofs.short_fill.fill_then_clear.Goals as goal

pub returns-then-to-from-le-HALF : goal.returns-then-to-from-le-HALF
returns-then-to-from-le-HALF c =
    overlaid_twice 16 c.args.bytes.now c.put_half.new.bytes c.put_half-then-to-from-le-HALF.new.bytes
    c.put_half-then-to-from-le-HALF-2.new.bytes c.half_at-rest.result c.args.from c.args.middle c.args.to c.args.value c.requires.0
    (omega arith) c.requires.1 (omega arith) (omega arith) c.put_half.ensures c.put_half-then-to-from-le-HALF.ensures
    c.half_at-rest.ensures c.put_half-then-to-from-le-HALF-2.ensures

pub returns-then-bytes-from : goal.returns-then-bytes-from
returns-then-bytes-from c =
    overlaid_twice 32 c.args.bytes.now c.put_window.new.bytes c.put_window-then-bytes-from.new.bytes
    c.put_window-then-bytes-from-2.new.bytes c.window_at-rest.result c.args.from c.args.middle c.args.to c.args.value c.requires.0
    (omega arith) c.requires.1 (omega arith) (omega arith) c.put_window.ensures c.put_window-then-bytes-from.ensures
    c.window_at-rest.ensures c.put_window-then-bytes-from-2.ensures

pub returns-then-middle-to : goal.returns-then-middle-to
returns-then-middle-to c = grind (arith, filled_twice)

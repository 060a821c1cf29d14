use Rattle.std.proofs.Common.{sym, ◌∙◌}
use Rattle.raw_region.proofs.Written.{written_twice}
use Rattle.raw_region.proofs.region.RawRegion.fill_then_clear.Goals as goal

pub returns : goal.returns
returns c =
    let r = c.requires in
    (rw c.as_mut_slice.ensures.value at c.fill_then_clear.ensures)
    ∙ sym (written_twice c.args.self.now c.args.from c.args.middle c.args.to c.args.b 0 r.0 r.1 r.2)

use Rattle.std.proofs.Common.{ℕ, slice_set, ap, ◌∙◌, Vec}
use Rattle.std.{specs.Vec.{with_item}, specs.declared.alloc.Global.{Global}}
use Rattle.tuner_theory.{proofs.Lists.{set-lists}, specs.Lists.{lists_of}}
use Rattle.history_count.proofs.counted_lines.set_count.Goals as goal

pub returns : goal.returns
returns c =
    let columns = c.args.columns.now.items in
    ap (λ (column : Vec ℕ Global). lists_of (slice_set columns c.args.t (with_item column c.args.line c.args.count))) c.index_mut.ensures.value
    ∙ set-lists columns c.args.t c.args.line c.args.count c.index_mut.result.now c.requires.column

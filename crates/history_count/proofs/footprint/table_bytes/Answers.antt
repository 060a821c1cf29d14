use Rattle.std.proofs.{Common.{arith}, lemmas.Option.{get_or_from_slice_get, slice_get_within}}
use Rattle.tuner_theory.specs.Lists.{lists_of}
use Rattle.history_count.proofs.ClassByClass.{by_lines-all, by_lines-more, by_lines-none, by_lines-small}
use Rattle.history_count.proofs.CutLines.{few-lines}
use Rattle.history_count.proofs.footprint.table_bytes.Goals as goal

pub loop-number-init : goal.loop-number-init
loop-number-init c = grind (arith, by_lines-none)

pub line_from-next-requires-clause-below : goal.line_from-next-requires-clause-below
line_from-next-requires-clause-below c = grind (arith, get_or_from_slice_get)

pub most_between-requires-clause-stop : goal.most_between-requires-clause-stop
most_between-requires-clause-stop c = grind (arith, few-lines)

pub overflow_mul-total : goal.overflow_mul-total
overflow_mul-total c =
    let table = c.args.table.now in
    let class = c.class-class in
    let cut = rw c.class_end.ensures at c.line_from-next.ensures.cut in
    let small = by_lines-small c.args.sizes.now (lists_of c.args.columns.now) table c.requires.sizes c.requires.columns.long
    c.requires.snapshots c.len-number-end.ensures.legal c.loop-number.number c.loop-number.line c.loop-number.total class.result
    c.loop-number.invariant (slice_get_within table _ _ class.ensures.class) (get_or_from_slice_get table _ _ 0 class.ensures.class)
    c.line_from-next.result cut c.from-block_bytes.result c.most_between.result (omega (arith, c.from-block_bytes.ensures, c.from.ensures))
    c.most_between.ensures.most in
    omega arith

pub overflow_add-total : goal.overflow_add-total
overflow_add-total c =
    let table = c.args.table.now in
    let class = c.class-class in
    let cut = rw c.class_end.ensures at c.line_from-next.ensures.cut in
    let small = by_lines-small c.args.sizes.now (lists_of c.args.columns.now) table c.requires.sizes c.requires.columns.long
    c.requires.snapshots c.len-number-end.ensures.legal c.loop-number.number c.loop-number.line c.loop-number.total class.result
    c.loop-number.invariant (slice_get_within table _ _ class.ensures.class) (get_or_from_slice_get table _ _ 0 class.ensures.class)
    c.line_from-next.result cut c.from-block_bytes.result c.most_between.result (omega (arith, c.from-block_bytes.ensures, c.from.ensures))
    c.most_between.ensures.most in
    omega arith

pub loop-number-preserved : goal.loop-number-preserved
loop-number-preserved c =
    let table = c.args.table.now in
    let class = c.class-class in
    let cut = rw c.class_end.ensures at c.line_from-next.ensures.cut in
    by_lines-more c.args.sizes.now (lists_of c.args.columns.now) table c.requires.sizes c.requires.columns.long
    c.requires.snapshots c.len-number-end.ensures.legal c.loop-number.number c.loop-number.line c.loop-number.total class.result
    c.loop-number.invariant (slice_get_within table _ _ class.ensures.class) (get_or_from_slice_get table _ _ 0 class.ensures.class)
    c.line_from-next.result cut c.from-block_bytes.result c.most_between.result (omega (arith, c.from-block_bytes.ensures, c.from.ensures))
    c.most_between.ensures.most

pub returns : goal.returns
returns c =
    let all = by_lines-all c.args.sizes.now (lists_of c.args.columns.now) c.args.table.now c.requires.sizes c.requires.columns.long
    c.requires.snapshots c.len-number-end.ensures.legal c.loop-number.number c.loop-number.line c.loop-number.total c.loop-number.invariant
    (omega (arith, c.len-number-end.ensures.len)) in
    record { footprint = all.0; small = all.1 }

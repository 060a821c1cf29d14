use Rattle.std.proofs.{Common.{◌≡◌, ◌<◌, ◌+◌, [], ◌∷◌, length, get_or, drop, refl, arith, add-one}, Math.Seq.{drop-cons}}
use Rattle.tuner_theory.{proofs.Lists.{lists-length, row-read_at}, specs.Lists.{lists_of}}
use Rattle.history_count.specs.Histories.{blocks_from}
use Rattle.history_count.proofs.footprint.most_between.Goals as goal

pub blocks_between-requires-clause-size : goal.blocks_between-requires-clause-size
blocks_between-requires-clause-size c =
    let lists = lists_of c.args.columns.now in
    let inside : c.loop-t.t < length lists = omega (arith, lists-length c.args.columns.now) in
    let read = row-read_at c.args.columns.now c.loop-t.t c.index-columns-t.result c.deref.result.now inside
    c.index-columns-t.is c.deref.ensures.value in
    rw read (c.requires.long c.loop-t.t [] inside)

pub blocks_between-requires-clause-few : goal.blocks_between-requires-clause-few
blocks_between-requires-clause-few c = λ k.
    let lists = lists_of c.args.columns.now in
    let inside : c.loop-t.t < length lists = omega (arith, lists-length c.args.columns.now) in
    let read = row-read_at c.args.columns.now c.loop-t.t c.index-columns-t.result c.deref.result.now inside
    c.index-columns-t.is c.deref.ensures.value in
    rw read (c.requires.few c.loop-t.t [] inside k)

pub loop-t-preserved : goal.loop-t-preserved
loop-t-preserved c =
    let lists = lists_of c.args.columns.now in
    let blocks = blocks_from c.args.start c.args.stop in
    let t = c.loop-t.t in
    let inside : t < length lists = omega (arith, lists-length c.args.columns.now) in
    let read = row-read_at c.args.columns.now t c.index-columns-t.result c.deref.result.now inside
    c.index-columns-t.is c.deref.ensures.value in
    let parts : drop t lists ≡ get_or lists t [] ∷ drop (t + 1) lists = rw (add-one, drop-cons lists t [] inside) refl in
    grind arith

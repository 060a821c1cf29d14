use Rattle.std.proofs.Common.{◌≡◌, ◌*◌, ◌∙◌, ℕ, get_or, length, replicate, sym, ap, add-one, arith}
use Rattle.std.proofs.lemmas.Option.{get_or_from_slice_get}
use Rattle.history_count.specs.Histories.{greatest_of}
use Rattle.history_count.proofs.SumsOfClasses.{closed-small, holds-closed, zeros-are}
use Rattle.history_count.proofs.class_sums.ClassSums.close.Goals as goal

-- what the class takes, by its blocks
taken : (bytes class most given : ℕ) → bytes ≡ 16 * class → most ≡ given → bytes * most ≡ 16 * class * given
taken bytes class most given is same = rw (is, same) (omega arith)

pub overflow_mul-self : goal.overflow_mul-self
overflow_mul-self c = grind (arith, get_or_from_slice_get, closed-small)

pub overflow_add-self : goal.overflow_add-self
overflow_add-self c = grind (arith, get_or_from_slice_get, closed-small)

pub returns-clause-holds : goal.returns-clause-holds
returns-clause-holds c = λ snapshots next holds.
    let sums = c.args.self.now in
    let class = get_or_from_slice_get sums.table.now _ _ 0 c.class-class.ensures.class in
    let product = taken c.from-block_bytes.result (get_or sums.table.now sums.number 0) c.most_of.result (greatest_of sums.blocks.items)
    (omega (arith, c.from-block_bytes.ensures, c.from.ensures, class)) (c.most_of.ensures ∙ ap greatest_of c.deref.ensures.value) in
    rw (add-one sums.number, product)
    (holds-closed sums.table.now c.requires.legal sums.number sums.total sums.blocks.items sums.peaks snapshots next holds c.requires.class
    c.fill.new.self.items (c.fill.ensures.items (λ y e. e) ∙ ap (λ (n : ℕ). replicate n 0) (sym c.deref.ensures.len ∙ ap length c.deref.ensures.value) ∙ zeros-are _))

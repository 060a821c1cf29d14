use Rattle.std.{proofs.Common.{[], ◌∷◌, ◌++◌, map, ap, ◌∙◌, sym, arith}, specs.List.{range_with_len}}
use Rattle.std.proofs.lemmas.List.FromFn.{length-map-range_with_len, map-range_with_len_more}
use Rattle.class_table.specs.Layout.{first_slot}
use Rattle.tagged_heap.proofs.fresh_slots.first_slots.Goals as goal

pub push-requires : goal.push-requires
push-requires c = grind (arith, length-map-range_with_len)

pub loop-number-preserved : goal.loop-number-preserved
loop-number-preserved c =
    c.push.ensures.items ∙ ap (λ xs. xs ++ c.first_slot.result ∷ []) c.loop-number.invariant
    ∙ ap (λ n. map (first_slot c.args.layout.now) (range_with_len 0 c.loop-number.number) ++ n ∷ []) c.first_slot.ensures.first
    ∙ sym (map-range_with_len_more (first_slot c.args.layout.now) 0 c.loop-number.number c.loop-number.number (omega arith))

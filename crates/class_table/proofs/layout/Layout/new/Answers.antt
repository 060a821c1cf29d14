use Rattle.std.proofs.{Common.{◌≡◌, ◌/◌, ◌^◌, length, get_or, arith, ◌∙◌, ap, subst}, lemmas.Option.{get_or_from_slice_get}}
use Rattle.class_table.proofs.{ClassOf.{firsts_of-ascending}, Counted.{counts_by_shift}, FirstSlots.{first_slot-few}}
use Rattle.class_table.proofs.{LayoutSoFar.{IsFilled-more, classes_all, firsts_all, length-numbers}, LeastClass.{ascending_classes}}
use Rattle.class_table.proofs.{Slots.{slots_of_classes_are_all}, layout.Layout.new.Goals.{After-shift_for-slot_shift}}
use Rattle.class_table.specs.{Counts.{AreCounts}, Layout.{IsPartition, slot_count}}
use Rattle.class_table.proofs.layout.Layout.new.Goals as goal

pub push-requires-in-loop-number : goal.push-requires-in-loop-number
push-requires-in-loop-number c =
    let numbers = length-numbers _ _ _ _ _ c.loop-number.invariant in
    (omega arith, omega (arith, numbers, c.len-number-end.ensures.len, c.len-number-end.ensures.legal.few))

pub loop-number-preserved : goal.loop-number-preserved
loop-number-preserved c =
    let class : get_or c.args.table.now c.loop-number.number 0 ≡ c.class.result =
    get_or_from_slice_get c.args.table.now c.loop-number.number c.class.result 0 c.class.ensures.class in
    rw (
      c.push.ensures.items,
      c.push-in-loop-number.ensures.items,
      c.from-class.ensures,
      ← class,
      c.share_of_each-share.ensures,
      c.len.ensures.len,
    )
    (IsFilled-more _ _ _ _ _ c.loop-number.invariant (omega (arith, c.len-number-end.ensures.len)))

pub overflow_add-slots : goal.overflow_add-slots
overflow_add-slots c =
    let more = loop-number-preserved c in
    grind (arith, first_slot-few)

pub push-requires-2 : goal.push-requires-2
push-requires-2 c =
    let numbers = length-numbers _ _ _ _ _ c.loop-number.invariant in
    (omega arith, omega (arith, numbers, c.len-number-end.ensures.len, c.len-number-end.ensures.legal.few))

pub counts_at-requires-clause-ascending : goal.counts_at-requires-clause-ascending
counts_at-requires-clause-ascending c =
    let all : c.loop-number.number ≡ length c.args.table.now = omega (arith, c.len-number-end.ensures.len) in
    rw (c.deref.ensures.0, classes_all _ _ _ _ _ c.loop-number.invariant all) (ascending_classes c.args.table.now c.len.ensures.legal.ascending)

pub counts_at-requires-2-clause-ascending : goal.counts_at-requires-2-clause-ascending
counts_at-requires-2-clause-ascending c =
    let all : c.loop-number.number ≡ length c.args.table.now = omega (arith, c.len-number-end.ensures.len) in
    rw (c.deref-2.ensures.0, c.push-2.ensures.items, firsts_all _ _ _ _ _ c.loop-number.invariant all)
    (firsts_of-ascending (record { classes = c.args.table.now; granules = c.args.granules }))

-- the number of all slots
slots_are : (c : After-shift_for-slot_shift) → slot_count (record { classes = c.args.table.now; granules = c.args.granules }) ≡ c.loop-number.slots
slots_are c = grind (arith, slots_of_classes_are_all)

pub shift_for-slot_shift-requires : goal.shift_for-slot_shift-requires
shift_for-slot_shift-requires c =
    let is : IsPartition (record { classes = c.args.table.now; granules = c.args.granules }) =
    record { table = c.len.ensures.legal; least = c.requires.least; most = c.requires.most } in
    omega (
      arith,
      c.loop-number.invariant.slots,
      first_slot-few (record { classes = c.args.table.now; granules = c.args.granules }) c.loop-number.number is,
    )

pub invariant_of-result : goal.invariant_of-result
invariant_of-result c =
    let all : c.loop-number.number ≡ length c.args.table.now = omega (arith, c.len-number-end.ensures.len) in
    let classes : c.loop-number.classes.items ≡ c.args.table.now = classes_all _ _ _ _ _ c.loop-number.invariant all in
    rw classes (record {
      partition = record { table = c.len.ensures.legal; least = c.requires.least; most = c.requires.most };
      share = c.share_of_each-share.ensures ∙ ap (λ n. c.args.granules / n) c.len.ensures.len;
      firsts = c.push-2.ensures.items ∙ firsts_all _ _ _ _ _ c.loop-number.invariant all;
      class_counts = subst (AreCounts c.counts_at.result 1) (c.deref.ensures.0 ∙ classes) c.counts_at.ensures;
      slot_counts =
          let shift = c.shift_for-slot_shift.result in
          subst (AreCounts c.counts_at-2.result (2 ^ shift)) c.deref-2.ensures.0
          (counts_by_shift _ _ shift c.shift_for-slot_shift.ensures.shift c.counts_at-2.ensures);
      slot_shift = c.shift_for-slot_shift.ensures.shift;
      reach = rw (slots_are (goal.at.invariant_of-result c).After-shift_for-slot_shift) c.shift_for-slot_shift.ensures.reach;
    })

use Rattle.std.proofs.Common.{◌+◌, ◌/◌, ◌%◌, ◌<◌, length, get_or, refl, sym, ◌∙◌}
use Rattle.class_table.proofs.SlotAt.{none_without_share, none_past_shares, some_in_share, place_in_share, none_after_slots, place_fits}
use Rattle.class_table.proofs.{SlotAt.{place_after}, layout.Layout.place_at.Goals.{Else-number-classes, Then-slot-first_slot}}
use Rattle.class_table.specs.Layout.{share_of}
use Rattle.class_table.proofs.layout.Layout.place_at.Goals as goal

pub returns-then-share-eq0-clause-none : goal.returns-then-share-eq0-clause-none
returns-then-share-eq0-clause-none c =
    sym (none_without_share c.args.self.now c.args.granule c.share-share.ensures.partition
    (sym c.share-share.ensures.share ∙ c.if-share-eq0.true))

pub returns-then-number-classes-clause-none : goal.returns-then-number-classes-clause-none
returns-then-number-classes-clause-none c =
    sym (none_past_shares c.args.self.now c.args.granule c.share-share.ensures.partition
    (rw (← c.share-share.ensures.share, ← c.classes.ensures.classes) c.if-number-classes.true))

-- the granule's share is that of a class
within : (c : Else-number-classes) → c.args.granule / share_of c.args.self.now < length c.args.self.now.classes
within c = rw (← c.share-share.ensures.share, ← c.classes.ensures.classes) c.if-number-classes.false

-- its slot is one of that class
fits : (c : Then-slot-first_slot) →
    c.args.granule % share_of c.args.self.now / get_or c.args.self.now.classes (c.args.granule / share_of c.args.self.now) 0
    < share_of c.args.self.now / get_or c.args.self.now.classes (c.args.granule / share_of c.args.self.now) 0
fits c =
    rw (← c.share-share.ensures.share, ← c.class-class.ensures.class)
    (place_fits c.args.self.now c.share-share.result (c.args.granule / c.share-share.result) c.class-class.result
    (c.args.granule % c.share-share.result / c.class-class.result) c.first_slot.result c.first_slot-2.result
    c.share-share.ensures.share c.class-class.ensures.class (rw (← c.classes.ensures.classes) c.if-number-classes.false)
    c.first_slot.ensures.first c.first_slot-2.ensures.first c.if-slot-first_slot.true)

pub returns-then-slot-first_slot-clause-some : goal.returns-then-slot-first_slot-clause-some
returns-then-slot-first_slot-clause-some c =
    let in_class = within (goal.at.returns-then-slot-first_slot-clause-some c).Else-number-classes in
    sym (some_in_share c.args.self.now c.args.granule (c.first_slot.result + c.args.granule % c.share-share.result / c.class-class.result)
    c.share-share.ensures.partition in_class (fits c)
    (rw (c.first_slot.ensures.first, c.class-class.ensures.class, c.share-share.ensures.share) refl))

pub returns-then-slot-first_slot-clause-place : goal.returns-then-slot-first_slot-clause-place
returns-then-slot-first_slot-clause-place c =
    let in_class = within (goal.at.returns-then-slot-first_slot-clause-place c).Else-number-classes in
    rw (c.first_slot.ensures.first, c.class-class.ensures.class, c.share-share.ensures.share)
    (place_in_share c.args.self.now c.args.granule in_class (fits c))

pub returns-else-slot-first_slot-clause-none : goal.returns-else-slot-first_slot-clause-none
returns-else-slot-first_slot-clause-none c =
    let after =
    place_after c.args.self.now c.share-share.result (c.args.granule / c.share-share.result) c.class-class.result
    (c.args.granule % c.share-share.result / c.class-class.result) c.first_slot.result c.first_slot-2.result
    c.share-share.ensures.share c.class-class.ensures.class (rw (← c.classes.ensures.classes) c.if-number-classes.false)
    c.first_slot.ensures.first c.first_slot-2.ensures.first c.if-slot-first_slot.false in
    let in_class = within (goal.at.returns-else-slot-first_slot-clause-none c).Else-number-classes in
    sym (none_after_slots c.args.self.now c.args.granule c.share-share.ensures.partition in_class
    (rw (← c.share-share.ensures.share, ← c.class-class.ensures.class) after))

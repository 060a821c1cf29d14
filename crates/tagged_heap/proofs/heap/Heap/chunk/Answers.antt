use Rattle.std.proofs.{Common.{◌≡◌, inl, inr, sym, ap, ◌∙◌, Some, slice_get}, lemmas.Option.{slice_get_within, get_or_from_slice_get}}
use Rattle.class_table.specs.Layout.{slot_of}
use Rattle.chunk_header.specs.HeaderView.{seen as header_seen, standing_seen}
use Rattle.heap_theory.specs.{Header.{Header, Standing, class_number}, Region.{region_of, header_in, next_in}, State.{state_at}}
use Rattle.heap_theory.specs.Header.Standing.{Fresh as IsFresh, Live as IsLive, Quarantined as IsQuarantined, Freed as IsFreed}
use Rattle.tagged_heap.proofs.{Kept.{region_is, class_few}, NamedChunks.{misplaced, chunk_not_live, chunk_wrong_tag, chunk_live, live}}
use Rattle.tagged_heap.{proofs.heap.Heap.chunk.Goals.{After-header-header, After-from-number}, specs.HeapFields.{state_of}}
use Rattle.tagged_heap.specs.Representation.{header_from}
use Rattle.tagged_heap.proofs.TheoryLemmas as laws
use Rattle.tagged_heap.proofs.heap.Heap.chunk.Goals as goal

-- the header of the slot that the pointer names
shows : (c : After-header-header) →
    header_seen c.header-header.result
    ≡ header_from c.self.inside.layout c.self.invariant.kept.from c.in-Some.slot (state_at (state_of c.self.inside) c.in-Some.slot)
    (next_in (region_of c.self.inside.layout c.self.inside.machine.memory) c.in-Some.slot)
shows c =
    c.header-header.ensures.header ∙ ap (λ m. header_in (region_of c.self.inside.layout m) c.in-Some.slot) c.memory.ensures
    ∙ c.self.invariant.kept.headers.headers c.in-Some.slot c.in-Some.ensures.slot.0

pub returns-in_default-clause-err : goal.returns-in_default-clause-err
returns-in_default-clause-err c =
    rw (← c.self.view_is) (misplaced (state_of c.self.inside) c.args.p c.self.invariant.kept.sound c.in_default.ensures.none)

pub header-header-requires-clause-region : goal.header-header-requires-clause-region
header-header-requires-clause-region c = rw c.memory.ensures (region_is c.self.invariant.kept)

pub header-header-requires-clause-class : goal.header-header-requires-clause-class
header-header-requires-clause-class c =
    let inside = c.in-Some.ensures.slot.0 in
    rw (c.memory.ensures, c.self.invariant.kept.headers.headers c.in-Some.slot inside)
    (class_few (state_of c.self.inside) c.in-Some.slot c.self.invariant.kept.sound inside)

pub returns-in-Fresh-clause-err : goal.returns-in-Fresh-clause-err
returns-in-Fresh-clause-err c =
    rw (← c.self.view_is)
    (chunk_not_live (state_of c.self.inside) c.args.p c.in-Some.slot c.self.invariant.kept.from _ c.self.invariant.kept.sound
    c.in-Some.ensures.slot (shows (goal.at.returns-in-Fresh-clause-err c).After-header-header)
    (λ live. elim c.in-Fresh.is [
      | inl is ↦ let e : ◌≡◌ {A = Standing} IsFresh IsLive = sym (ap standing_seen is) ∙ live in cc
      | inr (inl is) ↦ let e : ◌≡◌ {A = Standing} IsQuarantined IsLive = sym (ap standing_seen is) ∙ live in cc
      | inr (inr is) ↦ let e : ◌≡◌ {A = Standing} IsFreed IsLive = sym (ap standing_seen is) ∙ live in cc
    ]))

pub returns-then-header-logical_tag-clause-err : goal.returns-then-header-logical_tag-clause-err
returns-then-header-logical_tag-clause-err c =
    rw (← c.self.view_is)
    (chunk_wrong_tag (state_of c.self.inside) c.args.p c.in-Some.slot c.self.invariant.kept.from _ c.self.invariant.kept.sound
    c.in-Some.ensures.slot (shows (goal.at.returns-then-header-logical_tag-clause-err c).After-header-header)
    (ap standing_seen c.in-Live.is) (λ same. c.if-header-logical_tag.true (sym same ∙ sym c.logical_tag.ensures.tag)))

pub returns-clause-ok : goal.returns-clause-ok
returns-clause-ok c =
    rw (c.from.ensures, ← c.self.view_is)
    (chunk_live (state_of c.self.inside) c.args.p c.in-Some.slot c.self.invariant.kept.from _ c.self.invariant.kept.sound
    c.in-Some.ensures.slot (shows (goal.at.returns-clause-ok c).After-header-header)
    (ap standing_seen c.in-Live.is) (sym c.logical_tag.ensures.tag ∙ sym c.if-header-logical_tag.false))

-- the number of the slot's class
number_is : (c : After-from-number) → c.header-header.result.class ≡ class_number c.self.inside.layout c.in-Some.slot →
    slice_get c.self.inside.layout.classes c.from-number.result ≡ Some (slot_of c.self.inside.layout c.in-Some.slot).class
number_is c header =
    rw (c.from-number.ensures, header) (laws.class_number_is c.self.inside.layout c.in-Some.slot c.in-Some.ensures.slot.0)

pub class-class-requires : goal.class-class-requires
class-class-requires c =
    let at = goal.at.class-class-requires c in
    slice_get_within _ _ _ (number_is at.After-from-number (ap (λ (x : Header). x.class) (shows at.After-header-header)))

pub returns-clause-live : goal.returns-clause-live
returns-clause-live c =
    let at = goal.at.returns-clause-live c in
    let number = number_is at.After-from-number (ap (λ (x : Header). x.class) (shows at.After-header-header)) in
    rw (c.from.ensures, ← c.self.view_is) (record {
      slot = c.in-Some.ensures.slot.0;
      start = c.in-Some.ensures.start;
      class = c.class-class.ensures.class ∙ get_or_from_slice_get c.self.inside.layout.classes c.from-number.result _ 0 number;
      number = number;
      numbered = c.from-number.ensures ∙ ap (λ (x : Header). x.class) (shows at.After-header-header);
      live = live (state_of c.self.inside) c.args.p c.in-Some.slot c.self.invariant.kept.from _ c.self.invariant.kept.sound
          c.in-Some.ensures.slot (shows at.After-header-header) (ap standing_seen c.in-Live.is);
    })

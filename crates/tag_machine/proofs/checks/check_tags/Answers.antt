use Rattle.std.proofs.{Common.{◌+◌, ◌*◌, ◌≤◌, length, sym, ap, inl, inr, arith}, lemmas.Bool.{cases_lt}}
use Rattle.machine_theory.{proofs.AccessLaws.{inside_succeeds, tag_fault_names}, specs.Access.{IsMapped, IsTagFault, ok_unless}}
use Rattle.machine_theory.specs.Address.{place_of, region_start}
use Rattle.tag_machine.proofs.Touched.{touches, touched_from, touched_to}
use Rattle.tag_machine.proofs.checks.check_tags.Goals as goal

pub returns-then-memory_tag-pointer_tag : goal.returns-then-memory_tag-pointer_tag
returns-then-memory_tag-pointer_tag c =
    let memory = c.args.memory.now in
    let g = c.loop-granule.granule in
    let mapped : IsMapped (length memory) c.args.address c.args.len = c.requires.mapped in
    let from : region_start ≤ place_of c.args.address = mapped.from in
    let to : place_of c.args.address + c.args.len ≤ region_start + 16 * length memory = mapped.to in
    let fault : IsTagFault memory c.args.address c.args.len g c.tag-memory_tag.result c.logical_tag-pointer_tag.result = record {
      mapped = mapped;
      touches = touches c.args.address c.args.len g from (omega arith) (omega arith) (omega arith);
      memory_tag_is = c.tag-memory_tag.ensures.tag;
      pointer_tag_is = c.logical_tag-pointer_tag.ensures.tag;
      differs = c.if-memory_tag-pointer_tag.true;
      least = λ k t other. elim (cases_lt k g) [
        | inr here ↦ here
        | inl before ↦ absurd (other (c.loop-granule.invariant k (touched_from c.args.address c.args.len k t) before))
      ];
    } in
    sym (ap ok_unless ((tag_fault_names memory c.args.address c.args.len g c.tag-memory_tag.result c.logical_tag-pointer_tag.result
    (omega arith)).1 fault))

pub returns : goal.returns
returns c =
    let mapped : IsMapped (length c.args.memory.now) c.args.address c.args.len = c.requires.mapped in
    sym (ap ok_unless (inside_succeeds c.args.memory.now c.args.address c.args.len (omega arith) mapped
    (λ g t. c.loop-granule.invariant g (touched_from c.args.address c.args.len g t)
    (omega (arith, touched_to c.args.address c.args.len g t)))))

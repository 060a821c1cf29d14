-- An access that succeeds touches no header, so it reads what is seen.
use Rattle.std.proofs.Common.{◌≡◌, take, sym, ap, ◌∙◌, subst, inl, inr, OnOk}
use Rattle.machine_theory.specs.Access.{access_fault, ok_unless, loaded}
use Rattle.tagged_heap.{proofs.PayloadWritten.{tagged_access, load_seen, fault_cases}, specs.HeapFields.{state_of}}
use Rattle.tagged_heap.proofs.heap.Heap.load_into.Goals as goal

pub returns-clause-ok : goal.returns-clause-ok
returns-clause-ok c =
    let i = c.self.inside in
    let k = c.self.invariant.kept in
    let len = c.args.len in
    let read_bytes = take len c.load_into.new.buf in
    rw (← c.self.view_is) (elim (fault_cases (access_fault i.machine.memory c.args.address len)) [
      | inl none ↦
          let tagged = tagged_access k c.args.address len (rw (← c.self.view_is) at c.requires.tagged) none in
          let read =
          subst (λ r. OnOk r (read_bytes ≡ loaded i.machine.memory c.args.address len)) (c.load_into.ensures.answer ∙ ap ok_unless none)
          c.load_into.ensures.ok in
          subst (λ r. OnOk r (read_bytes ≡ loaded (state_of i).memory c.args.address len))
          (sym (c.load_into.ensures.answer ∙ ap ok_unless none))
          (read ∙ load_seen k c.args.address len tagged none)
      | inr some ↦
          subst (λ r. OnOk r (read_bytes ≡ loaded (state_of i).memory c.args.address len))
          (sym (c.load_into.ensures.answer ∙ ap ok_unless some.1)) tt
    ])

-- An access that succeeds touches no header, so it reads what is seen.
use Rattle.std.proofs.Common.{◌≡◌, length, refl, sym, ap, ◌∙◌, subst, inl, inr, OnOk}
use Rattle.machine_theory.specs.Access.{access_fault, ok_unless, loaded}
use Rattle.heap_theory.proofs.HeadersAgree.{header_words_stay}
use Rattle.tagged_heap.{proofs.PayloadWritten.{tagged_access, load_seen, fault_cases}, specs.HeapFields.{state_of}}
use Rattle.tagged_heap.proofs.heap.Heap.load.Goals as goal

pub returns-clause-ok : goal.returns-clause-ok
returns-clause-ok c =
    let i = c.self.inside in
    let k = c.self.invariant.kept in
    let len = length c.args.buf.now in
    rw (← c.self.view_is) (elim (fault_cases (access_fault i.machine.memory c.args.address len)) [
      | inl none ↦
          let tagged = tagged_access k c.args.address len (rw (← c.self.view_is) at c.requires.tagged) none in
          let read =
          subst (λ r. OnOk r (c.load.new.buf ≡ loaded i.machine.memory c.args.address len)) (c.load.ensures.answer ∙ ap ok_unless none)
          c.load.ensures.ok in
          subst (λ r. OnOk r (c.load.new.buf ≡ loaded (state_of i).memory c.args.address len))
          (sym (c.load.ensures.answer ∙ ap ok_unless none))
          (read ∙ load_seen k c.args.address len tagged none)
      | inr some ↦
          subst (λ r. OnOk r (c.load.new.buf ≡ loaded (state_of i).memory c.args.address len))
          (sym (c.load.ensures.answer ∙ ap ok_unless some.1)) tt
    ])

pub returns-clause-headers : goal.returns-clause-headers
returns-clause-headers c =
    header_words_stay c.args.self.now.state c.args.self.now.state
    (record { layout = refl; states = refl; total = refl; quarantine = refl })

-- What a store leaves of a heap: the machine answers `result` and is `new` after it.
use Rattle.std.proofs.Common.{◌≡◌, ℕ, ◌<◌, ◌≤◌, List, length, refl, sym, ap, ◌∙◌, subst, inl, inr, Some, None, OnErr, OnOk, All, Result}
use Rattle.machine_theory.specs.{Access.{access_fault, ok_unless, stored}, Address.{byte_of, place_of}, Machine.{Machine}}
use Rattle.machine_theory.specs.declared.fault.Fault.{Fault}
use Rattle.heap_theory.{proofs.HeadersAgree.{header_words_stay}, specs.HeapInMemory.{HaveSameSlots, HeaderWordsStay}}
use Rattle.heap_theory.specs.HeapTags.{IsTaggedOrUnmapped}
use Rattle.tagged_heap.proofs.PayloadWritten.{access_outside, tagged_access, fault_cases, written_held, written_shown}
use Rattle.tagged_heap.specs.{HeapAtRest.{HeapAndFrees, IsAtRest}, HeapFields.{state_of, seen, parts_of, IsHeld}}
use Rattle.tagged_heap.specs.declared.heap.Heap.TheInside.{Inside}

-- a heap with another machine
abbrev around : Inside → Machine → Inside
around i machine = record i { machine = machine }

abbrev with_stored : ℕ → List ℕ → HeapAndFrees → HeapAndFrees
with_stored address bytes v = record v { state = record v.state { memory = stored v.state.memory address bytes } }

module _ {i : Inside} (held : IsHeld i) (address : ℕ) (bytes : List ℕ) (some : 1 ≤ length bytes)
    (tagged : IsTaggedOrUnmapped (state_of i) address (length bytes)) (fit : All (λ b. b < 256) bytes) (new : Machine)
    {result : Result (Unit {0}) Fault} (answer : result ≡ ok_unless (access_fault i.machine.memory address (length bytes)))
    (ok : OnOk result (new ≡ record i.machine { memory = stored i.machine.memory address bytes }))
    (err : OnErr result (new ≡ i.machine)) where
  -- a store that succeeds
  record IsStored : Type 0 where
    pub keeps : IsHeld (around i new)
    pub shown : seen (around i new) ≡ with_stored address bytes (seen i)

  is_stored : access_fault i.machine.memory address (length bytes) ≡ None → IsStored
  is_stored none =
      let after = stored i.machine.memory address bytes in
      let machine : new ≡ record i.machine { memory = after } =
      subst (λ r. OnOk r (new ≡ record i.machine { memory = after })) (answer ∙ ap ok_unless none) ok in
      let spared =
      access_outside held.kept address bytes some (tagged_access held.kept address (length bytes) tagged none) none in
      let shown = written_shown held (byte_of (place_of address)) bytes refl spared fit in
      record {
        keeps =
            subst (λ (machine : Machine). IsHeld (around i machine)) (sym machine)
            (subst (λ h. IsAtRest h i.frees (record (parts_of i) { memory = after }) i.counters.items) (sym shown)
            (written_held held (byte_of (place_of address)) bytes refl spared fit));
        shown = ap (λ (machine : Machine). seen (around i machine)) machine ∙ (λ k. record { state = shown k; frees = i.frees });
      }

  machine_stays : (f : Fault) → access_fault i.machine.memory address (length bytes) ≡ Some f → new ≡ i.machine
  machine_stays f some = subst (λ r. OnErr r (new ≡ i.machine)) (answer ∙ ap ok_unless some) err

  pub store_held : IsHeld (around i new)
  store_held = elim (fault_cases (access_fault i.machine.memory address (length bytes))) [
    | inl none ↦ (is_stored none).keeps
    | inr some ↦ rw (machine_stays some.0 some.1) held
  ]

  pub store_shown : OnOk result (seen (around i new) ≡ with_stored address bytes (seen i))
  store_shown = elim (fault_cases (access_fault i.machine.memory address (length bytes))) [
    | inl none ↦ rw (answer, none) (is_stored none).shown
    | inr some ↦ rw (answer, some.1) tt
  ]

  -- the layout, the slots, the total and the limit stay
  pub headers_stay : HeaderWordsStay (state_of i) (state_of (around i new))
  headers_stay =
      header_words_stay (state_of i) (state_of (around i new)) (elim (fault_cases (access_fault i.machine.memory address (length bytes))) [
        | inl none ↦ same (seen i) (is_stored none).shown
        | inr some ↦ rw (machine_stays some.0 some.1) (record { layout = refl; states = refl; total = refl; quarantine = refl })
      ])
    where
      same : (v : HeapAndFrees) → seen (around i new) ≡ with_stored address bytes v → HaveSameSlots v.state (state_of (around i new))
      same v e = record {
        layout = ap (λ (v : HeapAndFrees). v.state.layout) e;
        states = ap (λ (v : HeapAndFrees). v.state.states) e;
        total = ap (λ (v : HeapAndFrees). v.state.total) e;
        quarantine = ap (λ (v : HeapAndFrees). v.state.quarantine) e;
      }

use Rattle.std.proofs.{Common.{◌≡◌, ℕ, ◌<◌, ◌≤◌, List, length, All, replicate, sym, subst, ap, ◌∙◌}, lemmas.List.{length-replicate}}
use Rattle.std.proofs.lemmas.List.Elements.{All-replicate}
use Rattle.machine_theory.specs.Access.{access_fault, ok_unless}
use Rattle.heap_theory.specs.HeapTags.{IsTaggedOrUnmapped}
use Rattle.tagged_heap.proofs.{Stores.{store_held, store_shown, headers_stay}, heap.Heap.store_run.Goals.{After-store_run}}
use Rattle.tagged_heap.specs.HeapFields.{state_of}
use Rattle.tagged_heap.proofs.heap.Heap.store_run.Goals as goal

-- the bytes that are stored
module _ (c : After-store_run) where
  abbrev run : List ℕ
  run = replicate c.args.count c.args.byte

  long : length run ≡ c.args.count
  long = length-replicate {A = ℕ} c.args.count c.args.byte

  some : 1 ≤ length run
  some = subst (λ n. 1 ≤ n) (sym long) c.requires.count.0

  tagged : IsTaggedOrUnmapped (state_of c.self.inside) c.args.address (length run)
  tagged =
      subst (IsTaggedOrUnmapped (state_of c.self.inside) c.args.address) (sym long) (rw (← c.self.view_is) at c.requires.tagged)

  fit : All (λ b. b < 256) run
  fit = All-replicate (λ b. b < 256) c.args.count c.args.byte c.ranges.byte.fits

  answer : c.store_run.result ≡ ok_unless (access_fault c.self.inside.machine.memory c.args.address (length run))
  answer = c.store_run.ensures.answer ∙ ap (λ n. ok_unless (access_fault c.self.inside.machine.memory c.args.address n)) (sym long)

pub invariant_of-self : goal.invariant_of-self
invariant_of-self c =
    let at = (goal.at.invariant_of-self c).After-store_run in
    store_held c.self.invariant c.args.address (run at) (some at) (tagged at) (fit at) _ (answer at) c.store_run.ensures.ok c.store_run.ensures.err

pub returns-clause-ok : goal.returns-clause-ok
returns-clause-ok c =
    let at = (goal.at.returns-clause-ok c).After-store_run in
    rw (← c.self.view_is)
    (store_shown c.self.invariant c.args.address (run at) (some at) (tagged at) (fit at) _ (answer at) c.store_run.ensures.ok
    c.store_run.ensures.err)

pub returns-clause-headers : goal.returns-clause-headers
returns-clause-headers c =
    let at = (goal.at.returns-clause-headers c).After-store_run in
    rw (← c.self.view_is)
    (headers_stay c.self.invariant c.args.address (run at) (some at) (tagged at) (fit at) _ (answer at) c.store_run.ensures.ok
    c.store_run.ensures.err)

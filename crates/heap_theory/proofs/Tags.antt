-- The tag that is drawn for a slot is one that it may take, and not the one that it was last given out with.
use Rattle.std.proofs.Common.{◌≢◌, ℕ, ◌^◌, ◌<◌, arith, bit_or}
use Rattle.std.proofs.lemmas.Bool.{eqb-true, eqb-false}
use Rattle.machine_theory.specs.Instructions.{drawn_tag}
use Rattle.heap_theory.specs.{Calls.{parity_exclude, next_tag}, Sound.{IsTagOf}, State.{Heap, state_at, last_tag}}
use Rattle.heap_theory.proofs.TheoryLemmas as laws

module _ where
  drawn : (s last tag seed : ℕ) → tag < 16 →
      IsTagOf s (drawn_tag tag seed (bit_or (parity_exclude s) (2 ^ last)))
      × (drawn_tag tag seed (bit_or (parity_exclude s) (2 ^ last)) ≢ last)
  drawn s last tag seed below = grind (arith, laws.odd_drawn, eqb-true, laws.even_drawn, eqb-false)

  pub IsTagOf-next_tag : (h : Heap) (s : ℕ) → h.tag < 16 → IsTagOf s (next_tag h s)
  IsTagOf-next_tag h s below = (drawn s (last_tag (state_at h s)) h.tag h.seed below).0

  pub next_tag-differs : (h : Heap) (s : ℕ) → h.tag < 16 → next_tag h s ≢ last_tag (state_at h s)
  next_tag-differs h s below = (drawn s (last_tag (state_at h s)) h.tag h.seed below).1

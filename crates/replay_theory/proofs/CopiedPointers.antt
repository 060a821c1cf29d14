-- ADDG and SUBG by 0 and 0 leave an address as it is, if its tag is not 0.
use Rattle.std.proofs.Common.{◌≡◌, ◌≢◌, ℕ, zero, suc, ◌^◌, ◌<◌, List, false, length, sym, subst, inr, arith, Some, None}
use Rattle.std.proofs.{Common.{Option}, lemmas.Bool.{cond-false, eqb-true, false_from_ne_true}, lemmas.List.{get_or-set_same}}
use Rattle.machine_theory.specs.{Address.{logical_tag, with_tag}, Instructions.{addg, subg}, Tags.{allowed_after, choose_tag, is_excluded}}
use Rattle.heap_theory.specs.{Sound.{IsSoundHeap}, State.{Heap}}
use Rattle.replay_theory.specs.{Hardening.{HasGeneration, PointersAreCopied}, Replay.{variable, heap_after, variables_after, replay_after}}
use Rattle.replay_theory.specs.Run.{Run, Generation, generations_after, moved_generation, run_after}
use Rattle.replay_theory.specs.SoundRun.{IsAddressOf, IsSoundRun, IsSoundVariable}
use Rattle.trace_event.specs.declared.event.Event.TheVariants.{Addg, Subg}
use Rattle.replay_theory.proofs.TheoryLemmas as laws

tag_stays : (tag : ℕ) → tag < 16 → tag ≢ 0 → choose_tag tag 0 1 ≡ tag
unfolding choose_tag
tag_stays tag below some =
    let free : is_excluded 1 tag ≡ false = laws.other_tags_are_allowed 0 tag some in
    let few : 0 < length (allowed_after tag 1) = laws.some_tag_is_allowed tag 1 tag below below free in
    grind (arith, cond-false, false_from_ne_true, eqb-true)

own_tag : (a : ℕ) → with_tag a (logical_tag a) ≡ a
own_tag a = omega arith

addg-copies : (a : ℕ) → a < 2 ^ 64 → logical_tag a ≢ 0 → addg a 0 0 ≡ a
unfolding addg
addg-copies a small some = grind (arith, own_tag, small, tag_stays, laws.tag_fits)

subg-copies : (a : ℕ) → a < 2 ^ 64 → logical_tag a ≢ 0 → subg a 0 0 ≡ a
unfolding subg
subg-copies a small some = grind (arith, own_tag, small, tag_stays, laws.tag_fits)

-- an address with a generation
module _ (h : Heap) (times : List ℕ) (sound : IsSoundHeap h) (a s time : ℕ) (i : IsAddressOf h times a s time) where
  tagged : logical_tag a ≢ 0
  tagged none = let some : 0 < logical_tag a = i.tag.not_zero in omega arith

  small : a < 2 ^ 64
  small = grind (arith, laws.tag_fits)

  pub addg-address : addg a 0 0 ≡ a
  addg-address = addg-copies a small tagged

  pub subg-address : subg a 0 0 ≡ a
  subg-address = subg-copies a small tagged

-- a variable that is set by ADDG or SUBG is right
module _ (h : Heap) (times : List ℕ) (sound : IsSoundHeap h) (move : ℕ → ℕ → ℕ → ℕ)
    (some : (a u6 u4 : ℕ) → logical_tag (move a u6 u4) ≢ 0)
    (copies : (a s time : ℕ) → IsAddressOf h times a s time → move a 0 0 ≡ a) where
  untagged : (a u6 u4 : ℕ) → IsSoundVariable h times (move a u6 u4) None
  untagged a u6 u4 = record { null_or_tagged = inr (some a u6 u4); follows = tt }

  pub IsSoundVariable-moved : (a u6 u4 : ℕ) (g : Option Generation) → IsSoundVariable h times a g →
      IsSoundVariable h times (move a u6 u4) (moved_generation g u6 u4)
  IsSoundVariable-moved a zero zero None i = untagged a zero zero
  IsSoundVariable-moved a zero zero (Some g) i =
      subst (λ x. IsSoundVariable h times x (Some g)) (sym (copies a g.slot g.time i.follows)) i
  IsSoundVariable-moved a zero (suc u4) g i = untagged a zero (suc u4)
  IsSoundVariable-moved a (suc u6) u4 g i = untagged a (suc u6) u4

-- a copy
module _ (w : Run) (sound : IsSoundRun w) where
  address_of : (v s time : ℕ) → HasGeneration w v s time → IsAddressOf w.replay.heap w.times (variable w.replay v) s time
  address_of v s time has = grind arith

  pub addg_copies : PointersAreCopied (λ v w. Addg v w 0 0) w
  unfolding run_after replay_after heap_after variables_after generations_after
  addg_copies v x s time within has =
      let same = addg-address w.replay.heap w.times sound.heap (variable w.replay x) s time (address_of x s time has) in
      grind (arith, get_or-set_same)

  pub subg_copies : PointersAreCopied (λ v w. Subg v w 0 0) w
  unfolding run_after replay_after heap_after variables_after generations_after
  subg_copies v x s time within has =
      let same = subg-address w.replay.heap w.times sound.heap (variable w.replay x) s time (address_of x s time has) in
      grind (arith, get_or-set_same)

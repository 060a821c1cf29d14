-- One event more.
use Rattle.std.proofs.Common.{◌≡◌, ◌≢◌, ℕ, ◌+◌, ◌-◌, ◌*◌, ◌^◌, ◌<◌, ◌≤◌, ◌⊎◌, Bool, true, false, List, length, replicate, slice_get}
use Rattle.std.proofs.Common.{sum_by, take, max, slice_index, slice_set, get_or, cond, eqb, arith, refl, ap, sym, subst, ◌∙◌, inl, inr}
use Rattle.std.proofs.{Common.{All, Some, None, IsSome}, Math.Nat.{max-eq_left}, lemmas.Bool.Decides.{eqb_tells}}
use Rattle.std.proofs.lemmas.{Bool.{cases_lt, eq-eqb, le-ltb, lt-ltb}, List.Kept.{AllPairs-from_increasing}}
use Rattle.std.proofs.lemmas.List.{ext_get_or, get_or-map, get_or-replicate, get_or-set_same, get_or-set_other, get_or_default, length-map}
use Rattle.std.proofs.lemmas.{List.{length-replicate, length-set, set-get_or}, List.Sums.{sum_by_more}}
use Rattle.std.proofs.lemmas.Option.{get_or_from_slice_get, slice_get-get_or, slice_get_within}
use Rattle.std.specs.Option.{option_and_then}
use Rattle.class_table.{proofs.LawLemmas.{number_gives_class}, specs.Sizes.{largest_counted}}
use Rattle.class_table.specs.Tables.{IsLegalTable, class_for, class_number_for}
use Rattle.tuner_theory.proofs.TimelineBlocks.{blocks-none, blocks-step, comes_at, free-goes, goes_at, large-does-nothing, most_to-above}
use Rattle.tuner_theory.{proofs.TimelineBlocks.{most_to-all, most_to-more, request-comes}, specs.Histories.{most}}
use Rattle.tuner_theory.specs.{Footprint.{blocks, is_class_of}, Timelines.{IsTimeline, moments}}
use Rattle.tuner_theory.specs.declared.size_event.{SizeEvent.{SizeEvent}, SizeEvent.TheVariants.{Request, Free}}
use Rattle.history_count.specs.Timelines.LiveBlocks.{AreFirsts, AreKnown, AreLive, class_bytes, first_moved, most_blocks}
use Rattle.history_count.specs.Timelines.Runs.{after_event, may_come, size_of}

-- what an event does to the counts of one class
record IsStep (k comes goes live most first newer greater newest : ℕ) : Type 0 where
  balance : newer + goes ≡ live + comes
  slow : newer ≤ live + 1
  raised : greater ≡ max most newer
  moved : most < newer → newest ≡ k + 1
  stays : newer ≤ most → newest ≡ first

live-step : (events : List SizeEvent) (classes : List ℕ) (k : ℕ) (d : SizeEvent) (live most firsts newer greater newest : List ℕ)
    → IsTimeline events → k < length events → AreLive events classes k live most firsts → length newer ≡ length classes
    → length greater ≡ length classes → length newest ≡ length classes
    → ((j : ℕ) → j < length classes → let class = slice_index classes j in let event = get_or events k d in
    IsStep k (comes_at classes class event) (goes_at classes class event) (slice_index live j) (slice_index most j) (slice_index firsts j)
    (slice_index newer j) (slice_index greater j) (slice_index newest j))
    → AreLive events classes (k + 1) newer greater newest
live-step events classes k d live most firsts newer greater newest timeline lt are newer-len greater-len newest-len step = grind (arith, most_to-more, most_to-above, blocks-step)

-- ---- the class of a size by its number

found-class : (classes : List ℕ) (n number class : ℕ) → class_number_for classes n ≡ Some number → number < length classes
    → is_class_of classes class n ≡ eqb (slice_index classes number) class
found-class classes n number class is lt = grind (arith, number_gives_class, slice_get-get_or)

own-class : (classes : List ℕ) (n number : ℕ) → class_number_for classes n ≡ Some number → number < length classes
    → is_class_of classes (slice_index classes number) n ≡ true
own-class classes n number is lt = found-class classes n number (slice_index classes number) is lt ∙ eq-eqb _ _ refl

other-class : (classes : List ℕ) (n number j : ℕ) → IsLegalTable 1 classes → class_number_for classes n ≡ Some number
    → number < length classes → j < length classes → j ≢ number → is_class_of classes (slice_index classes j) n ≡ false
other-class classes n number j legal is lt within other =
    found-class classes n number (slice_index classes j) is lt
    ∙ elim (eqb_tells (slice_index classes number) (slice_index classes j)) [
      | inl same ↦ grind (arith, AllPairs-from_increasing)
      | inr differs ↦ differs.0
    ]

no-class : (classes : List ℕ) (n class : ℕ) → class_number_for classes n ≡ None → is_class_of classes class n ≡ false
no-class classes n class is = grind (arith, number_gives_class)

pub number_gives_none : (classes : List ℕ) (n : ℕ) → class_number_for classes n ≡ None → class_for classes n ≡ None
number_gives_none classes n is = number_gives_class n classes ∙ ap (option_and_then (slice_get classes)) is

pub number_serves : (classes : List ℕ) (n number : ℕ) → class_number_for classes n ≡ Some number → number < length classes
    → IsSome (class_for classes n)
number_serves classes n number is lt =
    rw (number_gives_class n classes ∙ ap (option_and_then (slice_get classes)) is ∙ slice_get-get_or classes number 0 lt) refl

moved-other : (b : Bool) (number j moment : ℕ) (firsts : List ℕ) → j ≢ number
    → slice_index (cond b (slice_set firsts number moment) firsts) j ≡ slice_index firsts j
moved-other b number j moment firsts other = grind (arith, get_or-set_other)

-- ---- one event more

request_step : (events : List SizeEvent) (classes : List ℕ) (k n number : ℕ) (d : SizeEvent) (live most firsts : List ℕ) → IsTimeline events
    → k < length events → IsLegalTable 1 classes → AreLive events classes k live most firsts → get_or events k d ≡ Request n
    → n ≤ largest_counted → class_number_for classes n ≡ Some number → number < length classes
    → AreLive events classes (k + 1) (slice_set live number (slice_index live number + 1))
    (slice_set most number (max (slice_index most number) (slice_index live number + 1)))
    (first_moved (slice_index most number) (slice_index live number + 1) number (k + 1) firsts)
request_step events classes k n number d live most firsts timeline lt legal are event counted is inside =
    live-step events classes k d live most firsts (slice_set live number (slice_index live number + 1))
    (slice_set most number (max (slice_index most number) (slice_index live number + 1)))
    (first_moved (slice_index most number) (slice_index live number + 1) number (k + 1) firsts) timeline lt are
    (length-set live number (slice_index live number + 1) ∙ are.live_len)
    (length-set most number (max (slice_index most number) (slice_index live number + 1)) ∙ are.most_len)
    (grind (arith, length-set))
    (λ j within.
    let moves = request-comes classes (slice_index classes j) n counted in
    rw (event, moves.0, moves.1) (elim (eqb_tells j number) [
      | inl same ↦ grind (arith, own-class, get_or-set_same, lt-ltb)
      | inr differs ↦ grind (arith, other-class, get_or-set_other, moved-other)
    ]))

-- a block that is freed was live
free_live : (events : List SizeEvent) (classes : List ℕ) (k n number : ℕ) (d : SizeEvent) (live most firsts : List ℕ) → IsTimeline events
    → k < length events → AreLive events classes k live most firsts → get_or events k d ≡ Free n
    → n ≤ largest_counted → class_number_for classes n ≡ Some number → number < length classes → 1 ≤ slice_index live number
free_live events classes k n number d live most firsts timeline lt are event counted is inside =
    let class = slice_index classes number in
    let moves = free-goes classes class n counted in
    grind (arith, blocks-step, own-class)

free_step : (events : List SizeEvent) (classes : List ℕ) (k n number : ℕ) (d : SizeEvent) (live most firsts : List ℕ) → IsTimeline events
    → k < length events → IsLegalTable 1 classes → AreLive events classes k live most firsts → get_or events k d ≡ Free n
    → n ≤ largest_counted → class_number_for classes n ≡ Some number → number < length classes
    → AreLive events classes (k + 1) (slice_set live number (slice_index live number - 1)) most firsts
free_step events classes k n number d live most firsts timeline lt legal are event counted is inside =
    live-step events classes k d live most firsts (slice_set live number (slice_index live number - 1)) most firsts timeline lt are
    (length-set live number (slice_index live number - 1) ∙ are.live_len) are.most_len are.firsts_len
    (λ j within.
    let moves = free-goes classes (slice_index classes j) n counted in
    rw (event, moves.0, moves.1) (elim (eqb_tells j number) [
      | inl same ↦ rw (
        same.1,
        own-class classes n number is inside,
        get_or-set_same live number (slice_index live number - 1) 0 (omega (arith, are.live_len)),
      ) (record {
        balance = omega (arith, free_live events classes k n number d live most firsts timeline lt are event counted is inside);
        slow = omega arith;
        raised = omega (arith, are.below number inside);
        moved = λ up. absurd (omega (arith, are.below number inside));
        stays = λ kept. refl;
      })
      | inr differs ↦ grind (arith, other-class, get_or-set_other)
    ]))

still-step : (events : List SizeEvent) (classes : List ℕ) (k : ℕ) (d : SizeEvent) (live most firsts : List ℕ) → IsTimeline events
    → k < length events → AreLive events classes k live most firsts
    → ((class : ℕ) → comes_at classes class (get_or events k d) ≡ goes_at classes class (get_or events k d))
    → AreLive events classes (k + 1) live most firsts
still-step events classes k d live most firsts timeline lt are still =
    live-step events classes k d live most firsts live most firsts timeline lt are are.live_len are.most_len are.firsts_len
    (omega arith)

-- what has no class, or is large, changes nothing
unserved_request_step : (events : List SizeEvent) (classes : List ℕ) (k n : ℕ) (d : SizeEvent) (live most firsts : List ℕ)
    → IsTimeline events → k < length events → AreLive events classes k live most firsts → get_or events k d ≡ Request n
    → (largest_counted < n) ⊎ (class_number_for classes n ≡ None) → AreLive events classes (k + 1) live most firsts
unserved_request_step events classes k n d live most firsts timeline lt are event unserved =
    still-step events classes k d live most firsts timeline lt are (grind (arith, large-does-nothing, no-class))

unserved_free_step : (events : List SizeEvent) (classes : List ℕ) (k n : ℕ) (d : SizeEvent) (live most firsts : List ℕ)
    → IsTimeline events → k < length events → AreLive events classes k live most firsts → get_or events k d ≡ Free n
    → (largest_counted < n) ⊎ (class_number_for classes n ≡ None) → AreLive events classes (k + 1) live most firsts
unserved_free_step events classes k n d live most firsts timeline lt are event unserved =
    still-step events classes k d live most firsts timeline lt are (λ class.
    rw event (elim (cases_lt largest_counted n) [
      | inl large ↦ let none = (large-does-nothing classes class n large).1 in omega (arith, none.0, none.1)
      | inr counted ↦ grind (arith, no-class)
    ]))

-- ---- before any event, and after all

-- an event of either kind, of a size that has a class,
module _ (events : List SizeEvent) (classes : List ℕ) (k number : ℕ) (live most firsts : List ℕ) (timeline : IsTimeline events)
    (lt : k < length events) (are : AreLive events classes k live most firsts) (inside : number < length classes) where
  pub event_live : (event : SizeEvent) → get_or events k (Request 0) ≡ event → size_of event ≤ largest_counted
      → class_number_for classes (size_of event) ≡ Some number → may_come event (slice_index live number)
  event_live (Request n) is counted its = tt
  event_live (Free n) is counted its = free_live events classes k n number (Request 0) live most firsts timeline lt are is counted its inside

  pub event_step : (event : SizeEvent) → IsLegalTable 1 classes → get_or events k (Request 0) ≡ event → size_of event ≤ largest_counted
      → class_number_for classes (size_of event) ≡ Some number
      → let newer = after_event event (slice_index live number) in
      AreLive events classes (k + 1) (slice_set live number newer) (slice_set most number (max (slice_index most number) newer))
      (first_moved (slice_index most number) newer number (k + 1) firsts)
  event_step (Request n) legal is counted its =
      request_step events classes k n number (Request 0) live most firsts timeline lt legal are is counted its inside
  event_step (Free n) legal is counted its =
      let below : slice_index live number - 1 ≤ slice_index most number = omega (arith, are.below number inside) in
      rw (max-eq_left below, set-get_or most number 0, le-ltb (slice_index most number) (slice_index live number - 1) below)
      (free_step events classes k n number (Request 0) live most firsts timeline lt legal are is counted its inside)

-- and of one that has none.
pub unserved_step : (events : List SizeEvent) (classes : List ℕ) (k : ℕ) (event : SizeEvent) (live most firsts : List ℕ)
    → IsTimeline events → k < length events → AreLive events classes k live most firsts → get_or events k (Request 0) ≡ event
    → (largest_counted < size_of event) ⊎ (class_number_for classes (size_of event) ≡ None) → AreLive events classes (k + 1) live most firsts
unserved_step events classes k (Request n) live most firsts timeline lt are is none =
    unserved_request_step events classes k n (Request 0) live most firsts timeline lt are is none
unserved_step events classes k (Free n) live most firsts timeline lt are is none =
    unserved_free_step events classes k n (Request 0) live most firsts timeline lt are is none

pub nothing_live : (events : List SizeEvent) (classes : List ℕ) → AreLive events classes 0 (replicate (length classes) 0)
    (replicate (length classes) 0) (replicate (length classes) 0)
nothing_live events classes = grind (arith, length-replicate, get_or-replicate, blocks-none)

module _ (events : List SizeEvent) (classes : List ℕ) (k : ℕ) (live counted firsts : List ℕ) (all : k ≡ length events)
    (so_far : AreLive events classes k live counted firsts) where
  are : AreLive events classes (length events) live counted firsts
  are = subst (λ (moment : ℕ). AreLive events classes moment live counted firsts) all so_far

  pub all_counted : counted ≡ most_blocks events classes
  all_counted =
      ext_get_or 0 counted (most_blocks events classes)
      (are.most_len ∙ sym (length-map classes (λ class. most (blocks classes class) (moments events))))
      (grind (arith, most_to-all, get_or-map))

  pub all_small : All (λ count. count ≤ length events) counted
  all_small j d lt = grind (arith, get_or_default)

  pub all_first : AreFirsts events classes firsts
  all_first = grind (arith, most_to-all)

-- ---- the bytes of one class more

pub bytes_more : (events : List SizeEvent) (classes counted : List ℕ) (number total class bytes count : ℕ)
    → counted ≡ most_blocks events classes → slice_get classes number ≡ Some class → bytes ≡ 16 * class
    → count ≡ get_or counted number count → total ≡ sum_by (class_bytes events classes) (take number classes)
    → total + bytes * count ≡ sum_by (class_bytes events classes) (take (number + 1) classes)
bytes_more events classes counted number total class bytes count all found bytes-is read so-far =
    let within : number < length classes = slice_get_within classes number class found in
    let here : get_or classes number 0 ≡ class = get_or_from_slice_get classes number class 0 found in
    grind (arith, get_or-map, sum_by_more)

-- ---- the classes that are known

pub known-none : (classes : List ℕ) → AreKnown classes (replicate (2 ^ 16) 255)
known-none classes = record {
  len = length-replicate {A = ℕ} (2 ^ 16) 255;
  counted = λ n lt some. absurd (some (get_or-replicate {A = ℕ} (2 ^ 16) n 255 0 lt));
  number = λ n lt some. absurd (some (get_or-replicate {A = ℕ} (2 ^ 16) n 255 0 lt));
  within = λ n lt some. absurd (some (get_or-replicate {A = ℕ} (2 ^ 16) n 255 0 lt));
}

pub known-more : (classes known : List ℕ) (n number : ℕ) → AreKnown classes known → n ≤ largest_counted
    → class_number_for classes n ≡ Some number → number < length classes → AreKnown classes (slice_set known n number)
known-more classes known n number are counted found inside = grind (arith, length-set, get_or-set_other, get_or-set_same)

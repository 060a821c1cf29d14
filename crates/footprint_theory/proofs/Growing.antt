-- A timeline that grows: what is live after its last event, and the most that was live at a moment.
use Rattle.std.proofs.Common.{◌≡◌, ℕ, zero, suc, ◌+◌, ◌-◌, ◌≤◌, List, [], ◌∷◌, ◌++◌, length, map, max, get_or, ap, ◌∙◌, add-one}
use Rattle.std.{proofs.Common.{arith}, proofs.lemmas.List.{length_push, take-append-le, take_all}, specs.List.{range_with_len}}
use Rattle.class_table.specs.Sizes.{largest_counted}
use Rattle.tuner_theory.proofs.{TimelineBlocks.{most_to-all, most_to-more}, Timelines.{live-at}}
use Rattle.tuner_theory.specs.{Histories.{most}, Timelines.{freed, moments, most_to, requested, snapshot_at}}
use Rattle.tuner_theory.specs.declared.size_event.SizeEvent.{SizeEvent}

-- what is live after all events
abbrev pub last_snapshot : List SizeEvent → List ℕ
last_snapshot events = snapshot_at events (length events)

pub last-at : (events : List SizeEvent) (n d : ℕ) → n ≤ largest_counted →
    get_or (last_snapshot events) n d ≡ requested events n - freed events n
last-at events n d le =
    live-at events (length events) n d le ∙ ap (λ es. requested es n - freed es n) (take_all (length events) events (omega arith))

-- the moments before stay
pub same-before : (past rest : List SizeEvent) (m : ℕ) → m ≤ length past → snapshot_at (past ++ rest) m ≡ snapshot_at past m
unfolding snapshot_at
same-before past rest m le =
    ap (λ es. map (λ n. requested es n - freed es n) (range_with_len 0 (largest_counted + 1))) (take-append-le m past rest le)

most-before : (f : List ℕ → ℕ) (past rest : List SizeEvent) (m : ℕ) → m ≤ length past → most_to f (past ++ rest) m ≡ most_to f past m
most-before f past rest zero le = ap (λ s. max (f s) 0) (same-before past rest 0 le)
most-before f past rest (suc m) le =
    omega (
      arith,
      most_to-more f (past ++ rest) m,
      most_to-more f past m,
      most-before f past rest m (omega arith),
      ap f (same-before past rest (suc m) le),
    )

pub most-next : (f : List ℕ → ℕ) (past : List SizeEvent) (e : SizeEvent) →
    most f (moments (past ++ e ∷ [])) ≡ max (most f (moments past)) (f (last_snapshot (past ++ e ∷ [])))
most-next f past e =
    let events = past ++ e ∷ [] in
    let long : length events ≡ suc (length past) = length_push past e ∙ add-one (length past) in
    omega (
      arith,
      most_to-all f events,
      ap (most_to f events) long,
      most_to-more f events (length past),
      most-before f past (e ∷ []) (length past) (omega arith),
      most_to-all f past,
      ap (λ m. f (snapshot_at events m)) long,
    )

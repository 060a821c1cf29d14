-- The rounds of a fit over a timeline. Each fits the history of some moments; the next one has further moments, at which most blocks of the
-- table are live. All of them are determined.
use Rattle.std.specs.{List.{Contains}, List.Sorted.{IsStrictlyIncreasing}}
use Rattle.std.specs.Prelude.{◌≡◌, ◌↔◌, ◌⊎◌, ℕ, zero, suc, ◌+◌, ◌<◌, ◌≤◌, Bool, if◌then◌else◌, nat_le, List, [], ◌∷◌, length}
use Rattle.class_table.specs.Sizes.{largest_counted}
use Rattle.class_tuner.specs.Fits.Fitted.{IsFitOf}
use Rattle.history_count.specs.Timelines.{LiveBlocks.{AreFirsts}, Requests.{IsFirstLive, IsLargest}}
use Rattle.potential_check.specs.Footprints.CallCounts.{span_count}
use Rattle.tuner_theory.specs.{Histories.{peaks}, Served.{served}, Sheets.{Sheet}, Spans.{places}}
use Rattle.tuner_theory.specs.{Timelines.{footprint_over, history_at, requested}, declared.most_snapshots.TheConstants.{MOST_SNAPSHOTS}}
use Rattle.tuner_theory.specs.declared.size_event.SizeEvent.{SizeEvent}

-- The first moment at which a block of the largest requested size is live, of those that are counted; 0 if none is requested.
pub record IsDecisive (events : List SizeEvent) (moment : ℕ) : Type 0 where
  pub first : (n : ℕ) → IsLargest events n → IsFirstLive events n moment
  pub none : ((n : ℕ) → n ≤ largest_counted → requested events n ≡ 0) → moment ≡ 0

-- The numbers of two lists, ascending, each once.
pub record IsUnion (one other both : List ℕ) : Type 0 where
  pub ascending : IsStrictlyIncreasing both
  pub each : (n : ℕ) → Contains both n ↔ (Contains one n ⊎ Contains other n)

-- The moments that a round leaves for the next one, which has so many further ones: all, or where they would be too many the decisive one
-- alone.
abbrev pub moments_left : List ℕ → ℕ → ℕ → List ℕ
moments_left numbers decisive further = if nat_le (length numbers + further) MOST_SNAPSHOTS then numbers else decisive ∷ []

-- The moments of the round after one over `numbers` with this table: what is left of them, and for each class of the table the first moment
-- at which most of its blocks are live.
pub record AreNextMoments (events : List SizeEvent) (numbers table next : List ℕ) : Type 0 where
  pub decisive : ℕ
  pub decides : IsDecisive events decisive
  pub firsts : List ℕ
  pub are_firsts : AreFirsts events table firsts
  pub union : IsUnion (moments_left numbers decisive (length firsts)) firsts next

-- The moments of the round before which so many were made. The first round has the decisive one alone.
unfoldable pub AreRoundMoments : List SizeEvent → ℕ → ℕ → Bool → ℕ → List ℕ → Type 0
AreRoundMoments events step limit forced zero numbers = (decisive : ℕ) × IsDecisive events decisive × (numbers ≡ decisive ∷ [])
AreRoundMoments events step limit forced (suc earlier) numbers =
    (before : List ℕ) × (fit : Sheet) × AreRoundMoments events step limit forced earlier before
    × IsFitOf (history_at events before) step limit forced fit × AreNextMoments events before fit.table numbers

-- The round before which so many were made: its moments, and the fit of their history.
pub record IsRound (events : List SizeEvent) (step limit : ℕ) (forced : Bool) (earlier : ℕ) (numbers : List ℕ) (fit : Sheet) : Type 0 where
  pub moments : AreRoundMoments events step limit forced earlier numbers
  pub fitted : IsFitOf (history_at events numbers) step limit forced fit

-- Whether the table of each of the first so many rounds takes more over the whole timeline than over the round's moments.
abbrev pub AreLoose : List SizeEvent → ℕ → ℕ → Bool → ℕ → Type 0
AreLoose events step limit forced made =
    (k : ℕ) (numbers : List ℕ) (fit : Sheet) → k < made → IsRound events step limit forced k numbers fit
    → fit.cost < footprint_over events fit.table

-- Of the tables of the first so many rounds, the first that takes least over the whole timeline.
pub record IsLeastOfRounds (events : List SizeEvent) (step limit : ℕ) (forced : Bool) (made : ℕ) (table : List ℕ) : Type 0 where
  pub earlier : ℕ
  pub numbers : List ℕ
  pub fit : Sheet
  pub among : earlier < made
  pub round : IsRound events step limit forced earlier numbers fit
  pub table_of : table ≡ fit.table
  pub least : (k : ℕ) (others : List ℕ) (other : Sheet) → k < made → IsRound events step limit forced k others other
      → footprint_over events table ≤ footprint_over events other.table
  pub first : (k : ℕ) (others : List ℕ) (other : Sheet) → k < earlier → IsRound events step limit forced k others other
      → footprint_over events table < footprint_over events other.table

-- The greatest of what the fits of the first so many rounds take over their moments.
pub record IsGreatestOfRounds (events : List SizeEvent) (step limit : ℕ) (forced : Bool) (made greatest : ℕ) : Type 0 where
  pub earlier : ℕ
  pub numbers : List ℕ
  pub fit : Sheet
  pub among : earlier < made
  pub round : IsRound events step limit forced earlier numbers fit
  pub cost_of : greatest ≡ fit.cost
  pub most : (k : ℕ) (others : List ℕ) (other : Sheet) → k < made → IsRound events step limit forced k others other → other.cost ≤ greatest

-- How many costs of spans the first so many rounds compute: of each the span footprints of its history, each once.
unfoldable pub AreRoundCosts : List SizeEvent → ℕ → ℕ → Bool → ℕ → ℕ → Type 0
AreRoundCosts events step limit forced zero costs = costs ≡ 0
AreRoundCosts events step limit forced (suc earlier) costs =
    (before : ℕ) × (numbers : List ℕ) × AreRoundCosts events step limit forced earlier before
    × AreRoundMoments events step limit forced earlier numbers
    × (costs ≡ before + span_count (places (served forced (peaks (history_at events numbers))) step))

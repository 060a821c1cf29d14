-- The least waste and the least footprint of the rest: of the sizes whose rounded need is above the one at a place.
use Rattle.std.specs.Prelude.{◌≡◌, ℕ, suc, Bool, nat_le, if◌then◌else◌, List, [], ◌∷◌, map}
use Rattle.tuner_theory.specs.{Best.{IsBestBy}, Footprint.{footprint_of}, Histories.{peaks}, Served.{served}, Spans.{need_at, rounded_need}}
use Rattle.tuner_theory.specs.Waste.{waste_of}

-- The counts of the sizes from n on, without those whose rounded need is at most `low`.
abbrev pub counts_above_from : ℕ → List ℕ → ℕ → ℕ → List ℕ
counts_above_from n [] step low = []
counts_above_from n (count ∷ counts) step low =
    (if nat_le (rounded_need step n) low then 0 else count) ∷ counts_above_from (suc n) counts step low

-- The counts without the sizes whose rounded need is at most the one at place i.
abbrev pub counts_above : List ℕ → ℕ → ℕ → List ℕ
counts_above counts step i = counts_above_from 0 counts step (need_at counts step i)

-- The least rest by a cost of tables: the least for which at most k classes serve what is counted.
pub record IsRestBy (cost : List ℕ → ℕ) (counts : List ℕ) (step k rest : ℕ) : Type 0 where
  pub table : List ℕ
  pub best : IsBestBy cost counts step k table
  pub costs : cost table ≡ rest

-- The least rest: the least waste with which at most k classes serve the requests whose rounded need is above the one at place i.
abbrev pub IsRest : List ℕ → ℕ → ℕ → ℕ → ℕ → Type 0
IsRest counts step k i waste = IsRestBy (waste_of (counts_above counts step i)) (counts_above counts step i) step k waste

-- The snapshots of a history without the blocks of the sizes whose rounded need is at most this one.
abbrev pub snapshots_above : List (List ℕ) → ℕ → ℕ → List (List ℕ)
snapshots_above snapshots step low = map (λ snapshot. counts_above_from 0 snapshot step low) snapshots

-- The least rest of a history: the least footprint with which at most k classes serve the sizes whose rounded need is above the one at
-- place i.
abbrev pub IsFootprintRest : Bool → List (List ℕ) → ℕ → ℕ → ℕ → ℕ → Type 0
IsFootprintRest forced snapshots step k i footprint =
    let counts = served forced (peaks snapshots) in
    IsRestBy (footprint_of (snapshots_above snapshots step (need_at counts step i))) (counts_above counts step i) step k footprint

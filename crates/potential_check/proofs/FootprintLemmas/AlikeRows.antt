-- Rows that are alike from a place on, and from the place before it.
use Rattle.std.proofs.Common.{◌≡◌, ℕ, suc, ◌+◌, ◌<◌, ◌≤◌, List, arith}
use Rattle.std.proofs.lemmas.{List.{get_or_past}}
use Rattle.potential_check.specs.Footprints.AlikeRows.{AreAlikeFrom}
use Rattle.tuner_theory.specs.Rows.{HasShape, number_at}

-- no row has a number past the last place
pub alike-at_end : (rows : List (List ℕ)) (limit d : ℕ) → HasShape rows limit d → AreAlikeFrom (number_at rows) limit d 1
alike-at_end rows limit d shape = grind (arith, get_or_past)

pub alike-more : (rows rows' : ℕ → ℕ → ℕ) (limit place old new : ℕ) → old ≤ new
    → ((k j : ℕ) → (j ≡ place → ⊥) → rows' k j ≡ rows k j)
    → ((k : ℕ) → new ≤ k → k < limit → rows' (suc k) place ≡ rows' k place)
    → AreAlikeFrom rows limit (place + 1) old → AreAlikeFrom rows' limit place new
alike-more rows rows' limit place old new le kept here are = grind arith

-- A source that is asked again and again.
use Rattle.std.proofs.Common.{◌≡◌, ℕ, ap, sym, ◌∙◌, arith}
use Rattle.class_tuner.specs.{SourceChanges.{OnlyCounts}, declared.cost_source.CostSource.{Ghosts}}

module _ {S : Type 0} (source : Ghosts S) where
  -- a count that was set is the source's own
  pub kept-at : (s new : S) (n : ℕ) → source.call_count (source.with_calls s n) ≡ n → new ≡ source.with_calls s n
      → new ≡ source.with_calls s (source.call_count new)
  kept-at s new n sets e = let count : source.call_count new ≡ n = ap source.call_count e ∙ sets in e ∙ ap (source.with_calls s) (sym count)

  -- two runs of calls change only the count, since each does
  pub OnlyCounts-more : ((s : S) (m n : ℕ) → source.with_calls (source.with_calls s m) n ≡ source.with_calls s n) → (old mid new : S)
      → OnlyCounts source old mid → OnlyCounts source mid new → OnlyCounts source old new
  OnlyCounts-more keeps_last old mid new before now = grind arith

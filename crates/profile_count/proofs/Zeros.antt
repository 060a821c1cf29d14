-- A profile that counts nothing.
use Rattle.std.proofs.{Common.{◌≡◌, ℕ, ◌+◌, ◌≤◌, List, length, get_or, ap, ◌∙◌, arith}, lemmas.Bool.{cases_lt}}
use Rattle.std.proofs.lemmas.{List.{length-replicate, get_or-replicate, get_or_past}, List.Elements.{All-from_get_or}}
use Rattle.class_table.specs.Sizes.{largest_counted}
use Rattle.profile_count.specs.Counts.{zeros}
use Rattle.tuner_theory.specs.Profiles.{AreCounts, greatest_count}

pub length-zeros : (n : ℕ) → length (zeros n) ≡ n
unfolding zeros
length-zeros n = length-replicate n 0

-- Each is 0, and so is what is read after the last.
pub each_is_zero : (n k : ℕ) → get_or (zeros n) k 0 ≡ 0
unfolding zeros
each_is_zero n k = grind (arith, cases_lt, get_or-replicate, get_or_past, length-zeros)

pub zeros_are_counts : (items : List ℕ) → items ≡ zeros (largest_counted + 1) → AreCounts items
zeros_are_counts items are =
    let sizes : length items ≡ largest_counted + 1 = ap length are ∙ length-zeros (largest_counted + 1) in
    record {
      sizes = sizes;
      in_range = All-from_get_or (λ count. count ≤ greatest_count) items 0
          (λ k within. rw (are, each_is_zero) (omega arith));
    }

-- A reading of which no `large` line was read: nothing is counted from the next size on.
use Rattle.std.proofs.{Common.{◌≡◌, ◌≢◌, ℕ, ◌≤◌, List, get_or, set, ◌∙◌, arith}, lemmas.List.{get_or-set_other, length-set}}
use Rattle.std.proofs.lemmas.List.Elements.{All-set}
use Rattle.tuner_theory.specs.Profiles.{AreCounts, greatest_count}
use Rattle.profile_count.proofs.Zeros.{zeros_are_counts, each_is_zero}
use Rattle.profile_count.specs.{ProfileText.{ProfileReading, IsNext, nothing_read, with_entry}, declared.entry.Entry.TheVariants.{Size}}

pub record IsOpen (reading : ProfileReading) : Type 0 where
  pub counts : AreCounts reading.profile.counts
  pub large : reading.profile.large ≡ 0
  pub none : (k : ℕ) → reading.next ≤ k → get_or reading.profile.counts k 0 ≡ 0

pub is_open-nothing_read : IsOpen nothing_read
is_open-nothing_read = grind (arith, zeros_are_counts, each_is_zero)

-- where one count is set, the others stay
pub other_count : (counts : List ℕ) (size count k : ℕ) → k ≢ size → get_or (set counts size count) k 0 ≡ get_or counts k 0
other_count counts size count k other = get_or-set_other counts size k count 0 other

-- a reading stays open after the line of a size
pub is_open-size_read : (reading : ProfileReading) (size count : ℕ) → IsOpen reading → IsNext reading.next 0 (Size size count) →
    IsOpen (with_entry reading (Size size count))
is_open-size_read reading size count is_open next =
    record {
      counts = record {
        sizes = length-set reading.profile.counts size count ∙ is_open.counts.sizes;
        in_range = All-set (λ count. count ≤ greatest_count) reading.profile.counts size count next.4 is_open.counts.in_range;
      };
      large = is_open.large;
      none = λ k from. other_count reading.profile.counts size count k (λ same. omega arith) ∙ is_open.none k (omega (arith, next.1));
    }

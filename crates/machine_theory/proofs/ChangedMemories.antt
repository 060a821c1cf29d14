-- A changed memory is a memory.
use Rattle.std.proofs.{Common.{ℕ, ◌*◌, ◌+◌, ◌<◌, List, length, get_or, arith, All, slice_index}, lemmas.Bool.{cond_both}}
use Rattle.std.proofs.lemmas.List.{Elements.{All-map}, FromFn.{get_or-range_with_len, length-range_with_len}}
use Rattle.std.specs.List.{range_with_len}
use Rattle.machine_theory.proofs.{ByteLaws.{byte_below}, ChangeLaws.{length-bytes_after}, MemoryLaws.{length-each_granule}}
use Rattle.machine_theory.specs.Memory.{Granule, IsGranule, IsMemory, granule_at, each_granule, byte_after, bytes_after, written}

-- a change that makes granules of granules
IsGranule-each : (change : ℕ → Granule → Granule) (memory : List Granule) → ((g : ℕ) (x : Granule) → IsGranule x → IsGranule (change g x)) →
    All IsGranule memory → All IsGranule (each_granule change memory)
unfolding each_granule
IsGranule-each change memory kept each =
    All-map IsGranule (λ g. change g (granule_at memory g)) (range_with_len 0 (length memory))
    (grind (arith, length-range_with_len, get_or-range_with_len))

bytes_after-below : (i : ℕ) (new : List ℕ) (g : ℕ) (bytes : List ℕ) → All (λ b. b < 256) new → All (λ b. b < 256) bytes →
    All (λ b. b < 256) (bytes_after i new g bytes)
bytes_after-below i new g bytes new_below below =
    All-map (λ b. b < 256) (λ k. byte_after i new (16 * g + k) (slice_index bytes k)) (range_with_len 0 (length bytes))
    (λ k d h. each (get_or (range_with_len 0 (length bytes)) k d))
  where
    each : (k : ℕ) → byte_after i new (16 * g + k) (slice_index bytes k) < 256
    each k = grind (arith, cond_both, byte_below)

pub IsMemory-written : (i : ℕ) (new : List ℕ) (memory : List Granule) → All (λ b. b < 256) new → IsMemory memory →
    IsMemory (written i new memory)
unfolding written
IsMemory-written i new memory bytes is = grind (arith, length-each_granule, IsGranule-each, length-bytes_after, bytes_after-below)

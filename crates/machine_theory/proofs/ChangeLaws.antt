-- Changes of the memory, one after another.
use Rattle.std.proofs.Common.{◌≡◌, ℕ, ◌+◌, ◌-◌, ◌*◌, ◌<◌, ◌≤◌, List, ◌++◌, map, length, get_or, sym, ◌∙◌, arith, ◌⊎◌, slice_index}
use Rattle.std.proofs.lemmas.Bool.{cases_lt, cond-true, cond-false, and_from, and_left, and_right, le-leb, lt-ltb, lt-leb, le-ltb}
use Rattle.std.{proofs.lemmas.List.{length-append, get_or_append_left, get_or-append_right}, specs.List.{range_with_len}}
use Rattle.std.proofs.lemmas.List.FromFn.{get_or-map-range_with_len, length-map-range_with_len, fill_by_all}
use Rattle.machine_theory.proofs.MemoryLaws.{length-each_granule, granule_at-each_granule}
use Rattle.machine_theory.specs.Memory.{Granule, no_granule, granule_at, each_granule, byte_after, bytes_after, written}

-- two changes that agree on each granule of the memory
pub each_granule_agree : (f g : ℕ → Granule → Granule) (memory : List Granule) →
    ((i : ℕ) → i < length memory → f i (granule_at memory i) ≡ g i (granule_at memory i)) → each_granule f memory ≡ each_granule g memory
unfolding each_granule
each_granule_agree f g memory same =
    fill_by_all (λ i. g i (granule_at memory i)) (map (λ i. f i (granule_at memory i)) (range_with_len 0 (length memory))) (length memory)
    no_granule
    (length-map-range_with_len (λ i. f i (granule_at memory i)) 0 (length memory))
    (λ k h. get_or-map-range_with_len (λ i. f i (granule_at memory i)) 0 (length memory) k k no_granule h (omega arith) ∙ same k h)

pub each_granule_twice : (f g : ℕ → Granule → Granule) (memory : List Granule) →
    each_granule f (each_granule g memory) ≡ each_granule (λ i x. f i (g i x)) memory
unfolding each_granule
each_granule_twice f g memory =
    fill_by_all (λ i. f i (g i (granule_at memory i))) (each_granule f (each_granule g memory)) (length memory) no_granule
    (length-each_granule f (each_granule g memory) ∙ length-each_granule g memory)
    (grind (arith, granule_at-each_granule, length-each_granule))

-- two changes of the memory may be made in either order
pub each_granule_either : (f g : ℕ → Granule → Granule) (memory : List Granule) → ((i : ℕ) (x : Granule) → f i (g i x) ≡ g i (f i x)) →
    each_granule f (each_granule g memory) ≡ each_granule g (each_granule f memory)
each_granule_either f g memory same =
    each_granule_twice f g memory
    ∙ each_granule_agree (λ i x. f i (g i x)) (λ i x. g i (f i x)) memory (λ i _. same i (granule_at memory i))
    ∙ sym (each_granule_twice g f memory)

-- ---- bytes

pub length-bytes_after : (i : ℕ) (new : List ℕ) (g : ℕ) (bytes : List ℕ) → length (bytes_after i new g bytes) ≡ length bytes
length-bytes_after i new g bytes = length-map-range_with_len (λ k. byte_after i new (16 * g + k) (slice_index bytes k)) 0 (length bytes)

pub byte-bytes_after : (i : ℕ) (new : List ℕ) (g : ℕ) (bytes : List ℕ) (k : ℕ) → k < length bytes →
    get_or (bytes_after i new g bytes) k 0 ≡ byte_after i new (16 * g + k) (get_or bytes k 0)
byte-bytes_after i new g bytes k h = grind (arith, get_or-map-range_with_len)

pub byte_after-inside : (i : ℕ) (new : List ℕ) (j old : ℕ) → i ≤ j → j < i + length new → byte_after i new j old ≡ get_or new (j - i) 0
byte_after-inside i new j old from to = grind (arith, cond-true, and_from, le-leb, lt-ltb)

pub byte_after-outside : (i : ℕ) (new : List ℕ) (j old : ℕ) → (j < i) ⊎ (i + length new ≤ j) → byte_after i new j old ≡ old
byte_after-outside i new j old out = grind (arith, cond-false, and_left, lt-leb, and_right, le-ltb)

byte_after-append : (i : ℕ) (a b : List ℕ) (j old : ℕ) → byte_after (i + length a) b j (byte_after i a j old) ≡ byte_after i (a ++ b) j old
byte_after-append i a b j old = grind (arith, length-append, cases_lt, byte_after-outside, byte_after-inside, get_or_append_left, get_or-append_right)

bytes_after-append : (i : ℕ) (a b : List ℕ) (g : ℕ) (bytes : List ℕ) →
    bytes_after (i + length a) b g (bytes_after i a g bytes) ≡ bytes_after i (a ++ b) g bytes
bytes_after-append i a b g bytes =
    fill_by_all (λ k. byte_after i (a ++ b) (16 * g + k) (slice_index bytes k)) (bytes_after (i + length a) b g (bytes_after i a g bytes))
    (length bytes) 0
    (length-bytes_after (i + length a) b g (bytes_after i a g bytes) ∙ length-bytes_after i a g bytes)
    (grind (arith, byte-bytes_after, length-bytes_after, byte_after-append))

-- bytes that are written in two parts
pub written-append : (i : ℕ) (a b : List ℕ) (memory : List Granule) →
    written (i + length a) b (written i a memory) ≡ written i (a ++ b) memory
unfolding written
written-append i a b memory = grind (arith, each_granule_twice, each_granule_agree, bytes_after-append)

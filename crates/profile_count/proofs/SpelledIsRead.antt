-- From the spelling of a profile to the profile that is read: size by size, the counts so far are the profile's.
use Rattle.std.proofs.Common.{◌≡◌, ℕ, zero, suc, ◌+◌, ◌<◌, ◌≤◌, List, [], ◌∷◌, ◌++◌, length, get_or, set, drop, Ok, refl, sym, ap, ◌∙◌}
use Rattle.std.proofs.{Common.{arith, ne_eqb, length-drop, All}, Math.Seq.{drop-cons}, lemmas.Grind.{same_number_lists}}
use Rattle.std.proofs.lemmas.{List.{get_or-set_same}, List.Elements.{All-nil, All-cons, All-head, All-tail, All-append}}
use Rattle.class_table.specs.Sizes.{largest_counted}
use Rattle.line_text.{proofs.LawLemmas.{line_read, no_line, text_laws as laws}, specs.{Lines.{IsFullLine}, LineSteps.{read_lines}}}
use Rattle.tuner_theory.specs.Profiles.{Profile, IsProfile, greatest_count}
use Rattle.profile_count.proofs.BeforeLarge.{IsOpen, is_open-nothing_read, other_count, is_open-size_read}
use Rattle.profile_count.proofs.EntryLines.{entry_line, entry_line-is_line, entry_line-some, entry_of-line}
use Rattle.profile_count.specs.declared.entry.Entry.{Entry}
use Rattle.profile_count.specs.ProfileText.{large_lines, with_entry, profile_of, profile_steps}
use Rattle.profile_count.specs.ProfileText.{ProfileReading, SpellsProfile}
use Rattle.profile_count.specs.{ProfileText.{IsNext, size_lines}, declared.entry.Entry.TheVariants.{Size, Large}}

-- ---- lists that agree below a place

abbrev AgreeBelow : List ℕ → List ℕ → ℕ → Type 0
AgreeBelow xs ys n = (k : ℕ) → k < n → get_or xs k 0 ≡ get_or ys k 0

-- one place more
one_more : (xs ys : List ℕ) (n : ℕ) → AgreeBelow xs ys n → get_or xs n 0 ≡ get_or ys n 0 → AgreeBelow xs ys (suc n)
one_more xs ys n below here k within = grind arith

-- the first element after a place, and what is after it
drop_parts : (xs rest : List ℕ) (n x : ℕ) → drop n xs ≡ x ∷ rest → (n < length xs) × (get_or xs n 0 ≡ x) × (drop (suc n) xs ≡ rest)
drop_parts xs rest n x e =
    let within : n < length xs = omega (arith, length-drop n xs, ap length e) in
    let parts : get_or xs n 0 ∷ drop (suc n) xs ≡ x ∷ rest = sym (drop-cons xs n 0 within) ∙ e in
    (within, cc, cc)

-- ---- lines are read one by one

-- an entry's line is read, and then the others
read-entry_line : (number : ℕ) (reading : ProfileReading) (entry : Entry) (ls : List (List ℕ)) → reading.profile.large ≡ 0 →
    IsNext reading.next 0 entry
    → read_lines profile_steps number reading (entry_line entry ∷ ls) ≡ read_lines profile_steps (number + 1) (with_entry reading entry) ls
read-entry_line number reading entry ls none next = grind (arith, line_read, entry_of-line)

-- the `large` line is read last, where there is one
read-large_lines : (number : ℕ) (reading : ProfileReading) (large : ℕ) → reading.profile.large ≡ 0 → large ≤ greatest_count
    → read_lines profile_steps number reading (large_lines large) ≡ Ok (record { counts = reading.profile.counts; large = large })
read-large_lines number reading zero none small = rw (← none) (no_line profile_steps number reading reading.profile refl)
read-large_lines number reading (suc n) none small =
    rw (ne_eqb (suc n) 0 (λ e. omega arith))
    (read-entry_line number reading (Large (suc n)) [] none (refl, omega arith, small)
    ∙ no_line profile_steps (number + 1) (with_entry reading (Large (suc n))) _ refl)

-- The lines from a size on are read as the profile whose counts of the sizes below were read.
read-size_lines : (counts : List ℕ) (size number : ℕ) (reading : ProfileReading) (p : Profile) → IsOpen reading → IsProfile p →
    reading.next ≤ size
    → AgreeBelow reading.profile.counts p.counts size → drop size p.counts ≡ counts →
    read_lines profile_steps number reading (size_lines size counts ++ large_lines p.large) ≡ Ok p
unfolding size_lines
read-size_lines [] size number reading p is_open is_profile next same parts =
    let past : length p.counts ≤ size = omega (arith, length-drop size p.counts, ap length parts) in
    let sizes : length reading.profile.counts ≡ length p.counts = is_open.counts.sizes ∙ sym is_profile.counts.sizes in
    let counts : reading.profile.counts ≡ p.counts =
    same_number_lists reading.profile.counts p.counts sizes (λ k within. same k (omega arith)) in
    grind (arith, read-large_lines)
read-size_lines (zero ∷ counts) size number reading p is_open is_profile next same parts = grind (arith, read-size_lines counts (suc size) number reading p is_open is_profile (omega arith), drop_parts, one_more)
read-size_lines (suc n ∷ counts) size number reading p is_open is_profile next same parts =
    let first = drop_parts p.counts counts size (suc n) parts in
    let small : suc n ≤ greatest_count = rw first.1 at (is_profile.counts.in_range size 0 first.0) in
    let may_come : IsNext reading.next 0 (Size size (suc n)) =
    (refl, next, omega (arith, first.0, is_profile.counts.sizes), omega arith, small) in
    let within : size < length reading.profile.counts = omega (arith, first.0, is_open.counts.sizes, is_profile.counts.sizes) in
    let here : get_or (set reading.profile.counts size (suc n)) size 0 ≡ get_or p.counts size 0 =
    get_or-set_same reading.profile.counts size (suc n) 0 within ∙ sym first.1 in
    let below : AgreeBelow (set reading.profile.counts size (suc n)) p.counts size =
    λ k lower. other_count reading.profile.counts size (suc n) k (λ e. omega arith) ∙ same k lower in
    let after =
    read-size_lines counts (suc size) (number + 1) (with_entry reading (Size size (suc n))) p
    (is_open-size_read reading size (suc n) is_open may_come) is_profile
    (omega arith) (one_more (set reading.profile.counts size (suc n)) p.counts size below here) first.2 in
    rw (ne_eqb (suc n) 0 (λ e. omega arith))
    (read-entry_line number reading (Size size (suc n)) (size_lines (suc size) counts ++ large_lines p.large) is_open.large may_come
    ∙ after)

-- ---- the lines of a profile are lines, and not empty

full_line : (entry : Entry) → IsNext 0 0 entry → IsFullLine (entry_line entry)
full_line entry next = (entry_line-is_line 0 entry next, entry_line-some entry)

size_lines-full : (counts : List ℕ) (size : ℕ) → size + length counts ≤ largest_counted + 1 → All (λ count. count ≤ greatest_count) counts →
    All IsFullLine (size_lines size counts)
unfolding size_lines
size_lines-full [] size few small = All-nil IsFullLine
size_lines-full (zero ∷ counts) size few small =
    size_lines-full counts (suc size) (omega arith) (All-tail (λ count. count ≤ greatest_count) 0 counts small)
size_lines-full (suc n ∷ counts) size few small =
    let line =
    full_line (Size size (suc n))
    (refl, omega arith, omega arith, omega arith, All-head (λ count. count ≤ greatest_count) (suc n) counts small) in
    let others = size_lines-full counts (suc size) (omega arith) (All-tail (λ count. count ≤ greatest_count) (suc n) counts small) in
    grind arith

large_lines-full : (large : ℕ) → large ≤ greatest_count → All IsFullLine (large_lines large)
large_lines-full zero small = All-nil IsFullLine
large_lines-full (suc n) small =
    rw (ne_eqb (suc n) 0 (λ e. omega arith))
    (All-cons IsFullLine (entry_line (Large (suc n))) [] (full_line (Large (suc n)) (refl, omega arith, small)) (All-nil IsFullLine))

-- The text of a profile is read as that profile.
pub spelled_profile_is_read : (text : List ℕ) (p : Profile) → SpellsProfile text p → profile_of text ≡ Ok p
spelled_profile_is_read text p spells =
    let sizes = size_lines-full p.counts 0 (omega (arith, spells.profile.counts.sizes)) spells.profile.counts.in_range in
    let full = All-append IsFullLine (size_lines 0 p.counts) (large_lines p.large) sizes (large_lines-full p.large spells.profile.large) in
    grind (arith, laws, read-size_lines, is_open-nothing_read)

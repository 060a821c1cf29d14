-- From a text that is read as a profile to its spelling: line by line, the rest spells what is counted from there on.
use Rattle.std.proofs.Common.{◌≡◌, ℕ, ◌<◌, List, [], ◌∷◌, ◌++◌, length, get_or, Result, Ok, Err, refl, subst, ◌∙◌, arith, ne_eqb}
use Rattle.std.proofs.{Math.Seq.{drop-cons}, lemmas.List.{get_or-drop, get_or-set_same}}
use Rattle.line_text.{proofs.LawLemmas.{read_has, text_laws as laws}, specs.Lines.{lines, words, IsTextOf}}
use Rattle.tuner_theory.specs.Profiles.{Profile, IsProfile}
use Rattle.profile_count.proofs.BeforeLarge.{IsOpen, is_open-nothing_read, other_count, is_open-size_read}
use Rattle.profile_count.{proofs.EntryLines.{entry_line, entry_line-read}, specs.Counts.{with_large}, specs.declared.entry.Entry.{Entry}}
use Rattle.profile_count.proofs.SizeLines.{size_lines_from, size_lines-none, size_lines-counted, size_lines-passed}
use Rattle.profile_count.specs.ProfileText.{ProfileReading, SpellsProfile, IsNext, large_lines, entry_of, with_entry, nothing_read, profile_of}
use Rattle.profile_count.specs.ProfileText.{profile_steps}
use Rattle.profile_count.specs.declared.{entry.Entry.TheVariants.{Size, Large}, fault.ProfileFault.{ProfileFault}}

-- After a reading, lines spell a profile: what it counts from the next size on, and its large requests. Below that size it counts what was
-- read.
record SpellsRest (reading : ProfileReading) (ls : List (List ℕ)) (p : Profile) : Type 0 where
  profile : IsProfile p
  kept : (k : ℕ) → k < reading.next → get_or p.counts k 0 ≡ get_or reading.profile.counts k 0
  spelled : ls ≡ size_lines_from p.counts reading.next ++ large_lines p.large

-- ---- one line in front of others that spell the rest

-- from the next size on nothing is counted
no_size_lines : (reading : ProfileReading) → IsOpen reading → size_lines_from reading.profile.counts reading.next ≡ []
no_size_lines reading is_open = grind (arith, size_lines-none, get_or-drop)

-- a `large` line alone spells its count
spells_rest-large : (reading : ProfileReading) (count : ℕ) → IsOpen reading → IsNext reading.next 0 (Large count) →
    SpellsRest reading (entry_line (Large count) ∷ []) (with_large reading.profile count)
spells_rest-large reading count is_open next = grind (arith, no_size_lines, ne_eqb)

-- the line of a size spells its count, and that the sizes before it are not counted
spells_rest-size : (reading : ProfileReading) (size count : ℕ) (ls : List (List ℕ)) (p : Profile) → IsOpen reading →
    IsNext reading.next 0 (Size size count)
    → SpellsRest (with_entry reading (Size size count)) ls p → SpellsRest reading (entry_line (Size size count) ∷ ls) p
spells_rest-size reading size count ls p is_open next rest =
    let within : size < length p.counts = omega (arith, next.2, rest.profile.counts.sizes) in
    let here : get_or p.counts size 0 ≡ count =
    rest.kept size (omega arith) ∙ get_or-set_same reading.profile.counts size count 0 (omega (arith, next.2, is_open.counts.sizes)) in
    let kept =
    λ (k : ℕ) (below : k < size). rest.kept k (omega arith) ∙ other_count reading.profile.counts size count k (λ same. omega arith) in
    let passed = size_lines-passed p.counts reading.next size next.1 (omega arith) (λ k from below. kept k below ∙ is_open.none k from) in
    grind (arith, size_lines-counted, drop-cons)

-- ---- all lines

-- What lines that are read spell: the rest of a profile, and no line where a `large` line came before.
record IsReading (reading : ProfileReading) (ls : List (List ℕ)) (p : Profile) : Type 0 where
  is_rest : IsOpen reading → SpellsRest reading ls p
  none : 0 < reading.profile.large → (ls ≡ []) × (reading.profile ≡ p)

no_line_spells : (reading : ProfileReading) (p : Profile) → profile_steps.finish reading ≡ Ok p → IsReading reading [] p
no_line_spells reading p is = grind (arith, no_size_lines)

line_spells : (reading next : ProfileReading) (line : List ℕ) (ls : List (List ℕ)) (p : Profile) → profile_steps.step reading line ≡ Ok next
    → IsReading next ls p → IsReading reading (line ∷ ls) p
line_spells reading next line ls p is rest = go (entry_of reading.next reading.profile.large (words line)) refl
  where
    go : (read : Result Entry ProfileFault) → entry_of reading.next reading.profile.large (words line) ≡ read →
        IsReading reading (line ∷ ls) p
    go (Err fault) e = let none = rw e at is in absurd cc
    go (Ok (Size size count)) e =
        let read = entry_line-read reading.next reading.profile.large line (Size size count) e in
        let same : with_entry reading (Size size count) ≡ next = (let both = rw e at is in cc) in
        let after = rw (← same) at rest in
        record {
          is_rest = λ is_open. rw read.2
              (spells_rest-size reading size count ls p is_open read.1 (after.is_rest (is_open-size_read reading size count is_open read.1)));
          none = λ some. absurd (omega (arith, read.0));
        }
    go (Ok (Large count)) e =
        let read = entry_line-read reading.next reading.profile.large line (Large count) e in
        let same : with_entry reading (Large count) ≡ next = (let both = rw e at is in cc) in
        let after = (rw (← same) at rest).none (omega (arith, read.1)) in
        record {
          is_rest = λ is_open. rw (read.2, after.0, ← after.1) (spells_rest-large reading count is_open read.1);
          none = λ some. absurd (omega (arith, read.0));
        }

-- What is read as a profile is its text.
pub profile_is_spelled : (text : List ℕ) (p : Profile) → profile_of text ≡ Ok p → SpellsProfile text p
profile_is_spelled text p e =
    let rest = (read_has profile_steps IsReading no_line_spells line_spells (lines text) 1 nothing_read p e).is_rest is_open-nothing_read in
    record { profile = rest.profile; spelled = subst (IsTextOf text) rest.spelled (laws.text text) }

use Rattle.std.proofs.Common.{◌+◌, ◌*◌, arith, ◌≡◌, ℕ, ◌/◌, ◌%◌, ◌^◌, ◌<◌, List, [], map, get_or, refl, sym, ap, ◌∙◌, zero-add, bit_or}
use Rattle.std.{proofs.lemmas.List.FromFn.{get_or-map-range_with_len}, specs.List.{range_with_len}}
use Rattle.machine_theory.specs.Tags.{allowed_after, choose_tag}
use Rattle.tag_machine.specs.{Rows.{row_mask}, declared.chosen_tags.TheConstants.{CHOSEN}}
use Rattle.tag_machine.proofs.chosen_tags.tag_in_row.Goals as goal

-- The table of chosen tags.

-- what a row of the table holds, and what it should hold
held : ℕ → List ℕ
held k = map (λ offset. get_or (get_or CHOSEN (k / 16) []) (k % 16) 0 / 2 ^ (4 * offset) % 16) (range_with_len 0 16)

wanted : ℕ → List ℕ
wanted k = map (λ offset. choose_tag (k % 16) offset (bit_or (row_mask (k / 16)) 1)) (range_with_len 0 16)

rows_are : map held (range_with_len 0 512) ≡ map wanted (range_with_len 0 512)
unfolding held wanted choose_tag allowed_after
rows_are = refl

same_row : (k : ℕ) → k < 512 → held k ≡ wanted k
same_row k small =
    sym (get_or-map-range_with_len held 0 512 k k [] small (zero-add k)) ∙ ap (λ rows. get_or rows k []) rows_are
    ∙ get_or-map-range_with_len wanted 0 512 k k [] small (zero-add k)

at_place : (k offset : ℕ) → k < 512 → offset < 16 →
    get_or (get_or CHOSEN (k / 16) []) (k % 16) 0 / 2 ^ (4 * offset) % 16 ≡ choose_tag (k % 16) offset (bit_or (row_mask (k / 16)) 1)
unfolding held wanted
at_place k offset small less =
    sym (get_or-map-range_with_len (λ o. get_or (get_or CHOSEN (k / 16) []) (k % 16) 0 / 2 ^ (4 * o) % 16) 0 16 offset offset 0 less (zero-add offset))
    ∙ ap (λ row. get_or row offset 0) (same_row k small)
    ∙ get_or-map-range_with_len (λ o. choose_tag (k % 16) o (bit_or (row_mask (k / 16)) 1)) 0 16 offset offset 0 less (zero-add offset)

chosen_at : (k row tag offset : ℕ) → k / 16 ≡ row → k % 16 ≡ tag → k < 512 → offset < 16 →
    get_or (get_or CHOSEN row []) tag 0 / 2 ^ (4 * offset) % 16 ≡ choose_tag tag offset (bit_or (row_mask row) 1)
chosen_at k row tag offset row_is tag_is small less = grind (arith, at_place)

pub returns-clause-chosen : goal.returns-clause-chosen
returns-clause-chosen c =
    rw c.from.ensures (chosen_at (16 * c.args.row + c.args.tag) c.args.row c.args.tag c.args.offset (omega arith) (omega arith) (omega arith)
    c.requires.offset)

-- Which tag is chosen where some are excluded.
-- This project's own, after AArch64.ChooseNonExcludedTag (Arm ARM DDI 0487, Memory Tagging Extension), which steps from tag to tag.
use Rattle.std.specs.{Int.{bit_at}, List.{range_with_len}}
use Rattle.std.specs.Prelude.{ℕ, ◌+◌, ◌-◌, ◌%◌, Bool, not, ◌==◌, if◌then◌else◌, List, map, filter, length, slice_index}

-- whether the mask excludes the tag: bit t excludes tag t
abbrev pub is_excluded : ℕ → ℕ → Bool
is_excluded exclude tag = bit_at exclude tag == 1

-- the sixteen tags in cyclic order: from the one after `tag` on, and `tag` itself last
abbrev pub tags_after : ℕ → List ℕ
tags_after tag = map (λ k. (tag + k) % 16) (range_with_len 1 16)

-- those of them that are not excluded
unfoldable pub allowed_after : ℕ → ℕ → List ℕ
allowed_after tag exclude = filter (λ t. not (is_excluded exclude t)) (tags_after tag)

-- the first allowed tag after `tag`
abbrev pub next_allowed : ℕ → ℕ → ℕ
next_allowed exclude tag = slice_index (allowed_after tag exclude) 0

-- The tag that is `offset` allowed tags after `tag`. For offset 0 it is `tag` itself, or the next allowed tag where `tag` is excluded.
-- Where all tags are excluded, it is 0.
unfoldable pub choose_tag : ℕ → ℕ → ℕ → ℕ
choose_tag tag offset exclude =
    if length (allowed_after tag exclude) == 0 then 0
    else if offset == 0 then (if is_excluded exclude tag then next_allowed exclude tag else tag)
    else slice_index (allowed_after tag exclude) ((offset - 1) % length (allowed_after tag exclude))

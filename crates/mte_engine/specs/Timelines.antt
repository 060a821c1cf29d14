-- Whether an input has a timeline.
use Rattle.std.specs.{Prelude.{ℕ, Bool, false, List, [], ◌∷◌}, Str.{bytes_eq}}
use Rattle.history_count.specs.Timelines.TimelineText.{head_line}

-- The first of these lines is that of a timeline.
abbrev pub begins_timeline : List (List ℕ) → Bool
begins_timeline [] = false
begins_timeline (line ∷ ls) = bytes_eq line head_line

-- Where the first lines of a text end.
use Rattle.std.specs.Prelude.{◌≡◌, ◌≤◌, ℕ, Bool, List, drop, length, nat_lt, take}
use Rattle.line_text.specs.Lines.{lines}

-- So many lines end after so many bytes, and whether the text has fewer.
pub record IsCutAt (text : List ℕ) (border end : ℕ) (lacks : Bool) : Type 0 where
  pub within : end ≤ length text
  pub first : lines (take end text) ≡ take border (lines text)
  pub rest : lines (drop end text) ≡ drop border (lines text)
  pub fewer : lacks ≡ nat_lt (length (lines text)) border

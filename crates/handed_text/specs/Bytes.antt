-- The bytes of a text that C holds, and whether they are an answer.
use Rattle.std.specs.Prelude.{◌≡◌, ◌⊎◌, ℕ, Bool, true, false, List, ◌++◌, [], Option, Some, None, take, drop, length}
use Rattle.handed_text.specs.declared.{held_text.HeldText.{HeldText}, text.HandedText.{HandedText}}

abbrev pub held_bytes : Option HeldText → List ℕ
held_bytes None = []
held_bytes (Some held) = held.text.items

abbrev pub bytes_of : HandedText → List ℕ
bytes_of text = held_bytes text.handle.held

abbrev pub is_held_answer : Option HeldText → Bool
is_held_answer None = false
is_held_answer (Some held) = held.is_answer

-- Whether the bytes are the answer of a call. The empty text is none.
abbrev pub is_answer_of : HandedText → Bool
is_answer_of text = is_held_answer text.handle.held

-- What a call leaves: an answer, or the empty text.
abbrev pub IsLeft : HandedText → Type 0
IsLeft text = (bytes_of text ≡ []) ⊎ (is_answer_of text ≡ true)

-- The room with as much of these bytes at its start as it holds.
abbrev pub filled : List ℕ → List ℕ → List ℕ
filled bytes room = take (length room) bytes ++ drop (length bytes) room

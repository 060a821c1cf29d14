-- What a call of a stream has moved.
use Rattle.std.specs.Prelude.{ℕ, zero, suc, Bool, true, false, List, [], take, Result, Ok, Err}

-- A call that has room for so many bytes, and moves so many of them, shows that the stream is at its end.
abbrev pub is_end : ℕ → ℕ → Bool
is_end (suc n) room = false
is_end zero zero = false
is_end zero (suc room) = true

-- The bytes that a call has moved, the first of these.
abbrev pub moved : {E : Type 0} → Result ℕ E → List ℕ → List ℕ
moved (Ok n) bytes = take n bytes
moved (Err e) bytes = []

-- How many failed calls a call adds.
abbrev pub failures : {E : Type 0} → Result ℕ E → ℕ
failures (Ok n) = 0
failures (Err e) = 1

use Rattle.std.proofs.Common.{◌≡◌, ℕ, ◌-◌, get_or, take_all, true, sym, arith, ◌+◌, ◌%◌, ◌^◌, ◌<◌, false}
use Rattle.std.specs.Char.{is_ascii_digit}
use Rattle.line_text.proofs.{Digits.{one_more, digits_more, room_for_one}, LeadingDigits.{ends_at}}
use Rattle.line_text.proofs.near_digits.last_digits.Goals as goal

-- A byte as a digit, by its distance from `0` in 64 bits.

-- the distance, which is large for a byte below `0`
abbrev distance : ℕ → ℕ
distance byte = (byte + (2 ^ 64 - 48)) % 2 ^ 64

far_digit : (byte : ℕ) → byte < 2 ^ 64 → 9 < distance byte → is_ascii_digit byte ≡ false
far_digit byte small far = grind arith

pub returns-then-digit-gt9 : goal.returns-then-digit-gt9
returns-then-digit-gt9 c =
    let far = rw c.from-in-loop-place.ensures at c.if-digit-gt9.true in
    let other = rw c.from.ensures at (far_digit c.from.result c.from.type_inv far) in (
      sym (ends_at c.args.bytes.now c.loop-place.place (omega arith) c.loop-place.invariant.digits (λ within. other)),
      omega arith,
      c.loop-place.invariant.value,
    )

-- this byte is a digit, and what it adds
record IsNext (byte added : ℕ) : Type 0 where
  pub digit : is_ascii_digit byte ≡ true
  pub value : added ≡ byte - 48

next : (c : goal.Else-digit-gt9) → IsNext (get_or c.args.bytes.now c.loop-place.place 0) (distance c.from.result)
next c = grind arith

pub overflow_mul-value : goal.overflow_mul-value
overflow_mul-value c = grind (arith, room_for_one)

pub overflow_add-value : goal.overflow_add-value
overflow_add-value c = grind (arith, room_for_one)

pub loop-place-preserved : goal.loop-place-preserved
loop-place-preserved c = grind (arith, digits_more, one_more)

pub returns : goal.returns
returns c =
    let whole = take_all c.loop-place.place c.args.bytes.now (omega arith) in
    rw whole at c.loop-place.invariant.digits

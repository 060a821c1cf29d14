-- Eight bytes whose first one may be a sign, which then counts as the digit 0.
use Rattle.std.proofs.Common.{◌≡◌, ℕ, ◌-◌, ◌≤◌, Bool, true, false, List, [], ◌∷◌, length, map, get_or, arith}
use Rattle.std.specs.{Int.{from_bool}, Simd.Lanes.{mask_l}}
use Rattle.line_text.specs.Numbers.{is_no_digit, unsigned}

-- The first byte is `-` where there is a sign.
abbrev pub IsSign : Bool → List ℕ → Type 0
IsSign signed bytes = signed ≡ true → get_or bytes 0 0 ≡ 45

pub length-unsigned : (signed : Bool) (bytes : List ℕ) → length (unsigned signed bytes) ≡ length bytes
length-unsigned signed bytes = grind arith

-- a sign is no digit, and 0 is one
pub record IsUnsignedMask (signed : Bool) (bytes : List ℕ) (mask : ℕ) : Type 0 where
  pub some : from_bool signed ≤ mask
  pub is : mask - from_bool signed ≡ mask_l (map is_no_digit (unsigned signed bytes))

pub mask-unsigned : (signed : Bool) (bytes : List ℕ) (mask : ℕ) → length bytes ≡ 8 → IsSign signed bytes
    → mask ≡ mask_l (map is_no_digit bytes) → IsUnsignedMask signed bytes mask
mask-unsigned false bytes mask eight sign is = record { some = omega arith; is = omega (arith, is) }
mask-unsigned true [] mask eight sign is = absurd (omega (arith, eight))
mask-unsigned true (b ∷ bs) mask eight sign is = grind arith

-- The least end in a window, and the least end of a place.
use Rattle.std.proofs.{Common.{◌≡◌, ℕ, zero, suc, ◌+◌, ◌-◌, ◌<◌, ◌≤◌, arith, ap, subst, inl, inr}, lemmas.Bool.{cases_lt}}
use Rattle.tuner_theory.specs.Rows.{IsLeastEnd, IsLeastWithin}

-- a window has one first least end
pub one-least : (f : ℕ → ℕ) (low high a b : ℕ) → IsLeastWithin f low high a → IsLeastWithin f low high b → a ≡ b
one-least f low high a b of_a of_b = grind arith

same-cost : (f : ℕ → ℕ) (i j : ℕ) → i ≡ j → f i ≡ f j
same-cost f i j e = ap f e

-- the first least one of the ends from low to n places later
least-within : (f : ℕ → ℕ) (low n : ℕ) → (j : ℕ) × IsLeastWithin f low (low + n) j
least-within f low zero = (
  low,
  record {
    from = omega arith;
    to = omega arith;
    least = λ m after le. omega (arith, same-cost f m low (omega arith));
    first = λ m after before. absurd (omega arith);
  },
)
least-within f low (suc n) =
    let b = least-within f low n in
    elim (cases_lt (f (low + suc n)) (f b.0)) [
      | inl better ↦ (
        low + suc n,
        record {
          from = omega arith;
          to = omega arith;
          least = λ m after le. elim (cases_lt m (low + suc n)) [
            | inl inside ↦ omega (arith, b.1.least m after (omega arith))
            | inr end ↦ omega (arith, same-cost f m (low + suc n) (omega arith))
          ];
          first = λ m after before. omega (arith, b.1.least m after (omega arith));
        },
      )
      | inr worse ↦ (
        b.0,
        record {
          from = b.1.from;
          to = omega (arith, b.1.to);
          least = λ m after le. elim (cases_lt m (low + suc n)) [
            | inl inside ↦ b.1.least m after (omega arith)
            | inr end ↦ omega (arith, same-cost f m (low + suc n) (omega arith))
          ];
          first = b.1.first;
        },
      )
    ]

-- where a window has the least end of a place, the least end in the window is it
pub least_end-of_window : (f : ℕ → ℕ) (place d low high end : ℕ) → place < low → high ≤ d → IsLeastWithin f low high end
    → ((e : ℕ) → IsLeastEnd f place d e → (low ≤ e) × (e ≤ high)) → IsLeastEnd f place d end
least_end-of_window f place d low high end after within s window =
    let whole : suc place + (d - suc place) ≡ d = omega (arith, s.from, s.to) in
    let found = least-within f (suc place) (d - suc place) in
    let is_least : IsLeastEnd f place d found.0 = subst (λ (n : ℕ). IsLeastWithin f (suc place) n found.0) whole found.1 in
    let inside = window found.0 is_least in
    grind arith

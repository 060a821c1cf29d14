-- Sums over the numbers below n.
use Rattle.std.proofs.Common.{◌≡◌, ℕ, zero, suc, ◌+◌, ◌*◌, ◌<◌, ◌≤◌, arith, refl}
use Rattle.tuner_theory.specs.Waste.{sum_below}

pub sum_below-none : (f : ℕ → ℕ) → sum_below f 0 ≡ 0
unfolding sum_below
sum_below-none f = refl

pub sum_below-more : (f : ℕ → ℕ) (m : ℕ) → sum_below f (suc m) ≡ sum_below f m + f m
unfolding sum_below
sum_below-more f m = refl

pub sum_split : (f g h : ℕ → ℕ) (m : ℕ) → ((n : ℕ) → n < m → f n ≡ g n + h n) → sum_below f m ≡ sum_below g m + sum_below h m
unfolding sum_below
sum_split f g h zero each = omega arith
sum_split f g h (suc m) each = omega (arith, sum_split f g h m (λ n lt. each n (omega arith)), each m (omega arith))

pub sum_same : (f g : ℕ → ℕ) (m : ℕ) → ((n : ℕ) → n < m → f n ≡ g n) → sum_below f m ≡ sum_below g m
unfolding sum_below
sum_same f g zero each = refl
sum_same f g (suc m) each = omega (arith, sum_same f g m (λ n lt. each n (omega arith)), each m (omega arith))

pub sum_none : (f : ℕ → ℕ) (m : ℕ) → ((n : ℕ) → n < m → f n ≡ 0) → sum_below f m ≡ 0
unfolding sum_below
sum_none f zero each = refl
sum_none f (suc m) each = omega (arith, sum_none f m (λ n lt. each n (omega arith)), each m (omega arith))

pub sum_exchange : (f g h k : ℕ → ℕ) (m : ℕ) → ((n : ℕ) → n < m → f n + g n ≤ h n + k n)
    → sum_below f m + sum_below g m ≤ sum_below h m + sum_below k m
unfolding sum_below
sum_exchange f g h k zero each = omega arith
sum_exchange f g h k (suc m) each = omega (arith, sum_exchange f g h k m (λ n lt. each n (omega arith)), each m (omega arith))

pub sum_at_most : (f g : ℕ → ℕ) (m : ℕ) → ((n : ℕ) → n < m → f n ≤ g n) → sum_below f m ≤ sum_below g m
unfolding sum_below
sum_at_most f g zero each = omega arith
sum_at_most f g (suc m) each = omega (arith, sum_at_most f g m (λ n lt. each n (omega arith)), each m (omega arith))

-- five sums that are balanced term by term, two of them scaled
pub sum_balance : (f g h p q : ℕ → ℕ) (k m : ℕ) → ((n : ℕ) → n < m → f n + g n + k * h n ≡ k * p n + q n)
    → sum_below f m + sum_below g m + k * sum_below h m ≡ k * sum_below p m + sum_below q m
unfolding sum_below
sum_balance f g h p q k zero each = omega arith
sum_balance f g h p q k (suc m) each = omega (arith, sum_balance f g h p q k m (λ n lt. each n (omega arith)), each m (omega arith))

pub sum_bounded : (f : ℕ → ℕ) (m bound : ℕ) → ((n : ℕ) → n < m → f n ≤ bound) → sum_below f m ≤ m * bound
unfolding sum_below
sum_bounded f zero bound each = omega arith
sum_bounded f (suc m) bound each = omega (arith, sum_bounded f m bound (λ n lt. each n (omega arith)), each m (omega arith))

-- The least counted size that has no class.
use Rattle.std.proofs.Common.{◌≡◌, ℕ, zero, suc, ◌+◌, ◌<◌, ◌≤◌, Bool, true, false, ◌&&◌, List, [], ◌∷◌, length, get_or, drop, ltb, cond}
use Rattle.std.proofs.Common.{is_none, Option, Some, None, refl, sym, ap, arith, add-one, IsSome, IfSome, IfNone}
use Rattle.std.proofs.{Math.Seq.{drop-cons}, lemmas.Bool.{lt-ltb, le-ltb}, lemmas.List.{drop_all}}
use Rattle.class_table.specs.Tables.{class_for}
use Rattle.tuner_theory.specs.{Profiles.{IsCounted}, Waste.{Serves}}
use Rattle.profile_count.specs.Counts.{unserved_from, unserved_of}

-- ---- one size after the other

abbrev pub unserved_after : List ℕ → List ℕ → ℕ → Option ℕ
unserved_after counts classes n = unserved_from classes n (drop n counts)

pub unserved_here : (counts classes : List ℕ) (n : ℕ) → n < length counts → 0 < get_or counts n 0 → class_for classes n ≡ None →
    unserved_after counts classes n ≡ Some n
unfolding unserved_from
unserved_here counts classes n within some none = grind (arith, lt-ltb, drop-cons)

pub not_counted_here : (counts classes : List ℕ) (n : ℕ) → n < length counts → get_or counts n 0 ≤ 0 →
    unserved_after counts classes n ≡ unserved_after counts classes (n + 1)
unfolding unserved_from
not_counted_here counts classes n within none = grind (arith, le-ltb, drop-cons, add-one)

pub not_counted_up_to : (counts classes : List ℕ) (n more : ℕ) → n + more ≤ length counts
    → ((k : ℕ) → n ≤ k → k < n + more → get_or counts k 0 ≡ 0) → unserved_after counts classes n ≡ unserved_after counts classes (n + more)
not_counted_up_to counts classes n zero within none = let here : n ≡ n + 0 = omega arith in ap (unserved_after counts classes) here
not_counted_up_to counts classes n (suc more) within none = grind (arith, not_counted_up_to counts classes n more (omega arith), not_counted_here)

pub served_here : (counts classes : List ℕ) (n class : ℕ) → n < length counts → class_for classes n ≡ Some class →
    unserved_after counts classes n ≡ unserved_after counts classes (n + 1)
unfolding unserved_from
served_here counts classes n class within served =
    rw (drop-cons counts n 0 within, served, add-one) (go (ltb 0 (get_or counts n 0)))
  where
    go : (b : Bool) → cond (b && false) (Some n) (unserved_from classes (suc n) (drop (suc n) counts))
        ≡ unserved_from classes (suc n) (drop (suc n) counts)
    go true = refl
    go false = refl

pub none_after : (counts classes : List ℕ) (n : ℕ) → length counts ≤ n → unserved_after counts classes n ≡ None
unfolding unserved_from
none_after counts classes n past = rw (drop_all n counts past) refl

-- ---- what the definition says

-- the first of the sizes from n on; `at` counts from there
pub record IsFirstUnserved (classes counts : List ℕ) (n size : ℕ) : Type 0 where
  pub at : ℕ
  pub is : size ≡ n + at
  pub within : at < length counts
  pub some : 0 < get_or counts at 0
  pub none : class_for classes size ≡ None
  pub first : (k : ℕ) → k < at → 0 < get_or counts k 0 → class_for classes (n + k) ≡ None → ⊥

first_from : (classes counts : List ℕ) (n size : ℕ) → unserved_from classes n counts ≡ Some size → IsFirstUnserved classes counts n size
unfolding unserved_from
first_from classes [] n size found = absurd cc
first_from classes (count ∷ counts) n size found =
    go (ltb 0 count && is_none (class_for classes n)) refl (first_from classes counts (suc n) size)
  where
    go : (b : Bool) → (ltb 0 count && is_none (class_for classes n)) ≡ b →
        (unserved_from classes (suc n) counts ≡ Some size → IsFirstUnserved classes counts (suc n) size)
        → IsFirstUnserved classes (count ∷ counts) n size
    go true e later = grind arith
    go false e later =
        let rest = later (rw e at found) in
        record {
          at = suc rest.at;
          is = omega (arith, rest.is);
          within = omega (arith, rest.within);
          some = rest.some;
          none = rest.none;
          first = grind arith;
        }

all_served : (classes counts : List ℕ) (n : ℕ) → unserved_from classes n counts ≡ None → (k : ℕ) → k < length counts →
    0 < get_or counts k 0 → class_for classes (n + k) ≡ None → ⊥
unfolding unserved_from
all_served classes [] n none = λ k lt. absurd (omega arith)
all_served classes (count ∷ counts) n none = grind (arith, all_served classes counts (suc n))

-- ---- the three clauses

pub found : (counts classes : List ℕ) (size : Option ℕ) → size ≡ unserved_of counts classes →
    IfSome size (λ n. IsCounted counts n × (class_for classes n ≡ None))
found counts classes None e = tt
found counts classes (Some size) e =
    let at = first_from classes counts 0 size (sym e) in
    grind arith

pub least : (counts classes : List ℕ) (size : Option ℕ) → size ≡ unserved_of counts classes →
    IfSome size (λ n. (m : ℕ) → m < n → IsCounted counts m → IsSome (class_for classes m))
least counts classes None e = tt
least counts classes (Some size) e = λ m lt counted.
    let at = first_from classes counts 0 size (sym e) in
    grind arith

pub serving : (counts classes : List ℕ) (size : Option ℕ) → size ≡ unserved_of counts classes → IfNone size (Serves counts classes)
serving counts classes size is = grind (arith, all_served)

-- the walk begins where the classes end
pub skips_served : (counts classes : List ℕ) (n : ℕ) → ((m : ℕ) → m < n → IsSome (class_for classes m)) →
    unserved_of counts classes ≡ unserved_after counts classes n
skips_served counts classes zero served = refl
skips_served counts classes (suc n) served =
    let before = skips_served counts classes n (λ m lt. served m (omega arith)) in
    grind (arith, is_served, none_after)
  where
    is_served : (counts classes : List ℕ) (n : ℕ) → n < length counts → (o : Option ℕ) → class_for classes n ≡ o →
        IsSome (class_for classes n)
        → unserved_after counts classes n ≡ unserved_after counts classes (n + 1)
    is_served counts classes n within None is some = let none = rw is at some in absurd cc
    is_served counts classes n within (Some class) is some = served_here counts classes n class within is

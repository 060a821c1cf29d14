-- The rounds of a timeline are determined, and so is what is found in them.
use Rattle.std.proofs.Common.{◌≡◌, ◌⊎◌, ℕ, zero, suc, ◌+◌, ◌≤◌, Bool, List, length, arith, ap, sym, subst, inl, inr}
use Rattle.std.proofs.{Common.{◌∙◌}, lemmas.Bool.{cases_lt}, lemmas.List.{ext_get_or}}
use Rattle.class_table.specs.Sizes.{largest_counted}
use Rattle.class_tuner.{proofs.FitLemmas.TimelineLemmas.Unions.{one-union}, proofs.OneSheet.{one_fit}, specs.Fits.Fitted.{IsFitOf}}
use Rattle.class_tuner.specs.Fits.Timelines.Found.{IsBetween, IsLeastFit}
use Rattle.class_tuner.specs.Fits.Timelines.Rounds.{IsRound, moments_left, AreNextMoments, AreRoundMoments, IsDecisive, IsGreatestOfRounds}
use Rattle.class_tuner.specs.Fits.Timelines.Rounds.{IsLeastOfRounds}
use Rattle.history_count.specs.Timelines.{LiveBlocks.{AreFirsts}, Requests.{IsFirstLive, IsLargest}}
use Rattle.tuner_theory.specs.{Sheets.{Sheet}, Timelines.{footprint_over, history_at, requested}, declared.size_event.SizeEvent.{SizeEvent}}

-- ---- the decisive moment

one-first_live : (events : List SizeEvent) (size a b : ℕ) → IsFirstLive events size a → IsFirstLive events size b → a ≡ b
one-first_live events size a b of_a of_b = grind arith

-- no size from `bound` on is requested: then one below it is the largest, or none is
largest_or_none : (events : List SizeEvent) (bound : ℕ) → bound ≤ largest_counted + 1
    → ((n : ℕ) → bound ≤ n → n ≤ largest_counted → requested events n ≡ 0)
    → ((n : ℕ) × IsLargest events n) ⊎ ((n : ℕ) → n ≤ largest_counted → requested events n ≡ 0)
largest_or_none events zero within none = inr (λ n le. none n (omega arith) le)
largest_or_none events (suc size) within none =
    elim (cases_lt 0 (requested events size)) [
      | inl some ↦ inl (
        size,
        record {
          counted = omega arith;
          some = some;
          greatest = λ n le one. elim (cases_lt size n) [ inl above ↦ absurd (omega (arith, none n above le)) | inr not ↦ not ];
        },
      )
      | inr unasked ↦ largest_or_none events size (omega arith) (λ n from le. elim (cases_lt size n) [
        | inl above ↦ none n above le
        | inr not ↦ (let here : n ≡ size = omega arith in omega (arith, ap (requested events) here))
      ])
    ]

one-decisive : (events : List SizeEvent) (a b : ℕ) → IsDecisive events a → IsDecisive events b → a ≡ b
one-decisive events a b of_a of_b =
    elim (largest_or_none events (largest_counted + 1) (omega arith) (λ n from le. absurd (omega arith))) [
      | inl it ↦ one-first_live events it.0 a b (of_a.first it.0 it.1) (of_b.first it.0 it.1)
      | inr none ↦ of_a.none none ∙ sym (of_b.none none)
    ]

-- ---- the moments of a round

one-firsts : (events : List SizeEvent) (classes a b : List ℕ) → AreFirsts events classes a → AreFirsts events classes b → a ≡ b
one-firsts events classes a b of_a of_b =
    ext_get_or 0 a b (of_a.len ∙ sym of_b.len)
    (grind arith)

one-next : (events : List SizeEvent) (numbers table a b : List ℕ) → AreNextMoments events numbers table a
    → AreNextMoments events numbers table b → a ≡ b
one-next events numbers table a b of_a of_b =
    let decisive = one-decisive events of_b.decisive of_a.decisive of_b.decides of_a.decides in
    let firsts = one-firsts events table of_b.firsts of_a.firsts of_b.are_firsts of_a.are_firsts in
    one-union (moments_left numbers of_a.decisive (length of_a.firsts)) of_a.firsts a b of_a.union (rw (decisive, firsts) at of_b.union)

module _ (events : List SizeEvent) (step limit : ℕ) (forced : Bool) where
  pub one-moments : (earlier : ℕ) (a b : List ℕ) → AreRoundMoments events step limit forced earlier a → AreRoundMoments events step limit forced earlier b
      → a ≡ b
  unfolding AreRoundMoments
  one-moments zero a b of_a of_b = grind (arith, one-decisive)
  one-moments (suc earlier) a b of_a of_b =
      let before : of_b.0 ≡ of_a.0 = one-moments earlier of_b.0 of_a.0 of_b.2 of_a.2 in
      let fit : of_b.1 ≡ of_a.1 = one_fit (history_at events of_a.0) step limit forced of_b.1 of_a.1
      (subst (λ (ns : List ℕ). IsFitOf (history_at events ns) step limit forced of_b.1) before of_b.3) of_a.3 in
      one-next events of_a.0 of_a.1.table a b of_a.4
      (grind arith)

  -- a round has one list of moments, and one fit
  pub one-round : (earlier : ℕ) (numbers others : List ℕ) (fit other : Sheet) → IsRound events step limit forced earlier numbers fit
      → IsRound events step limit forced earlier others other → (numbers ≡ others) × (fit ≡ other)
  one-round earlier numbers others fit other a b =
      let moments = one-moments earlier numbers others a.moments b.moments in (
        moments,
        one_fit (history_at events others) step limit forced fit other
            (subst (λ (ns : List ℕ). IsFitOf (history_at events ns) step limit forced fit) moments a.fitted) b.fitted,
      )

  -- ---- what is found

  -- two rounds of one number, by an equation
  pub same-round : (k j : ℕ) (numbers others : List ℕ) (fit other : Sheet) → k ≡ j → IsRound events step limit forced k numbers fit
      → IsRound events step limit forced j others other → (numbers ≡ others) × (fit ≡ other)
  same-round k j numbers others fit other same a b =
      one-round j numbers others fit other (subst (λ (n : ℕ). IsRound events step limit forced n numbers fit) same a) b

  pub one-least : (made made' : ℕ) (numbers numbers' : List ℕ) (fit fit' : Sheet) → IsLeastFit events step limit forced made numbers fit
      → IsLeastFit events step limit forced made' numbers' fit' → (numbers ≡ numbers') × (fit ≡ fit')
  one-least made made' numbers numbers' fit fit' a b =
      elim (cases_lt a.earlier b.earlier) [
        | inl lt ↦ absurd (omega (arith, b.loose a.earlier numbers fit lt a.round, a.takes))
        | inr le ↦ elim (cases_lt b.earlier a.earlier) [
          | inl less ↦ absurd (omega (arith, a.loose b.earlier numbers' fit' less b.round, b.takes))
          | inr ge ↦ same-round a.earlier b.earlier numbers numbers' fit fit' (omega arith) a.round b.round
        ]
      ]

  -- a round is made that shows a fit, or none
  pub least-or_between : (made made' : ℕ) (numbers table : List ℕ) (fit : Sheet) (takes least : ℕ) → made ≤ made'
      → IsLeastFit events step limit forced made numbers fit → IsBetween events step limit forced made' table takes least → ⊥
  least-or_between made made' numbers table fit takes least le a b =
      omega (arith, b.loose a.earlier numbers fit (omega (arith, a.last)) a.round, a.takes)

  one-least_table : (made : ℕ) (a b : List ℕ) → IsLeastOfRounds events step limit forced made a → IsLeastOfRounds events step limit forced made b → a ≡ b
  one-least_table made a b of_a of_b =
      elim (cases_lt of_a.earlier of_b.earlier) [
        | inl lt ↦ absurd (omega (
          arith,
          of_b.first of_a.earlier of_a.numbers of_a.fit lt of_a.round,
          of_a.least of_b.earlier of_b.numbers of_b.fit of_b.among of_b.round,
          ap (footprint_over events) of_a.table_of,
          ap (footprint_over events) of_b.table_of,
        ))
        | inr le ↦ elim (cases_lt of_b.earlier of_a.earlier) [
          | inl less ↦ absurd (omega (
            arith,
            of_a.first of_b.earlier of_b.numbers of_b.fit less of_b.round,
            of_b.least of_a.earlier of_a.numbers of_a.fit of_a.among of_a.round,
            ap (footprint_over events) of_a.table_of,
            ap (footprint_over events) of_b.table_of,
          ))
          | inr ge ↦ (let same = same-round of_a.earlier of_b.earlier of_a.numbers of_b.numbers of_a.fit of_b.fit (omega arith) of_a.round
              of_b.round in
              of_a.table_of ∙ (ap (λ (f : Sheet). f.table) same.1 ∙ sym of_b.table_of))
        ]
      ]

  one-greatest : (made a b : ℕ) → IsGreatestOfRounds events step limit forced made a → IsGreatestOfRounds events step limit forced made b → a ≡ b
  one-greatest made a b of_a of_b =
      omega (
        arith,
        of_a.most of_b.earlier of_b.numbers of_b.fit of_b.among of_b.round,
        of_b.most of_a.earlier of_a.numbers of_a.fit of_a.among of_a.round,
        of_a.cost_of,
        of_b.cost_of,
      )

  pub one-between : (made : ℕ) (table table' : List ℕ) (takes takes' least least' : ℕ) → IsBetween events step limit forced made table takes least
      → IsBetween events step limit forced made table' takes' least' → (table ≡ table') × (takes ≡ takes') × (least ≡ least')
  one-between made table table' takes takes' least least' a b =
      let tables = one-least_table made table table' a.best b.best in
      (tables, a.taken ∙ (ap (footprint_over events) tables ∙ sym b.taken), one-greatest made least least' a.greatest b.greatest)

-- What a round shows, and what is kept of all of them.
use Rattle.std.proofs.Common.{◌≡◌, ◌≢◌, ◌⊎◌, ◌+◌, ◌*◌, ◌^◌, ◌<◌, ◌≤◌, ℕ, Bool, List, [], ◌∷◌, All, length, max, sym, subst, ◌∙◌, add-one}
use Rattle.std.proofs.{Common.{arith, refl, inl, inr}, Math.Nat.{mul-le-mul}, lemmas.Bool.{cases_lt}, lemmas.List.{get_or_default}}
use Rattle.std.{specs.List.{Contains}, specs.List.Sorted.{IsStrictlyIncreasing}}
use Rattle.class_tuner.{proofs.FitLemmas.TimelineLemmas.OneRound.{same-round}, specs.Fits.Fitted.{IsFitOf}}
use Rattle.class_tuner.specs.{Fits.Timelines.Found.{IsBetween, IsLeastFit}, declared.fits.timelines.round.Round.{Round}}
use Rattle.class_tuner.specs.Fits.Timelines.Rounds.{IsUnion, moments_left, AreLoose, AreRoundCosts, AreRoundMoments, IsDecisive}
use Rattle.class_tuner.specs.Fits.Timelines.Rounds.{IsGreatestOfRounds, IsRound}
use Rattle.class_table.specs.{Tables.{IsLegalTable}, declared.sizes.TheConstants.{MOST_NEEDS}}
use Rattle.history_count.specs.Timelines.{LiveBlocks.{AreFirsts}, Requests.{Decides}}
use Rattle.tuner_theory.proofs.{LawLemmas.{few_places}, Served.{counted-served}, TimelineCanonical.{canonical_over}}
use Rattle.tuner_theory.{proofs.Timelines.{fit_bounds_timeline, serves-served}, specs.Best.{IsCandidate}, specs.Histories.{peaks}}
use Rattle.tuner_theory.specs.{Served.{served}, Sheets.{Sheet}, Spans.{places}, Waste.{Serves}, declared.size_event.SizeEvent.{SizeEvent}}
use Rattle.tuner_theory.specs.Timelines.{AreMoments, IsTimeline, footprint_over, history_at, moments}
use Rattle.tuner_theory.specs.declared.most_snapshots.TheConstants.{MOST_SNAPSHOTS}
use Rattle.potential_check.specs.{Certificates.SheetView.{sheet_of}, Footprints.CallCounts.{span_count}}

-- Some moments, with the one that decides what serves.
pub record AreDeciding (events : List SizeEvent) (numbers : List ℕ) (moment : ℕ) : Type 0 where
  pub are : AreMoments events numbers
  pub ascending : IsStrictlyIncreasing numbers
  pub kept : Contains numbers moment

-- further moments are those of the timeline
pub firsts-within : (events : List SizeEvent) (classes firsts : List ℕ) → AreFirsts events classes firsts
    → All (λ number. number ≤ length events) firsts
firsts-within events classes firsts are k d lt = grind (arith, get_or_default)

pub more-moments : (events : List SizeEvent) (numbers : List ℕ) (moment : ℕ) → length numbers ≤ MOST_SNAPSHOTS
    → All (λ number. number ≤ length events) numbers → Contains numbers moment → IsStrictlyIncreasing numbers
    → AreDeciding events numbers moment
more-moments events numbers moment few within kept ascending = grind arith

-- What a round over such moments has.
pub record IsFittedRound (events : List SizeEvent) (numbers : List ℕ) (moment step limit : ℕ) (forced : Bool) (earlier : ℕ) (fit : Sheet) (takes : ℕ) :
    Type 0 where
  pub over : AreDeciding events numbers moment
  pub round : IsRound events step limit forced earlier numbers fit
  pub legal : IsLegalTable 1 fit.table
  pub taken : takes ≡ footprint_over events fit.table

module _ (events : List SizeEvent) (moment step limit : ℕ) (forced : Bool) (timeline : IsTimeline events) (decides : Decides events moment) where
  round-serves : (earlier : ℕ) (numbers : List ℕ) (fit : Sheet) (takes : ℕ)
      → IsFittedRound events numbers moment step limit forced earlier fit takes
      → Serves (peaks (moments events)) fit.table
  round-serves earlier numbers fit takes round =
      let kept = round.over.kept in
      decides numbers fit.table kept.0 kept.1 (get_or_default numbers kept.0 0 moment kept.1 ∙ kept.2)
      (grind (arith, counted-served))

  round-candidate : (earlier : ℕ) (numbers : List ℕ) (fit : Sheet) (takes : ℕ)
      → IsFittedRound events numbers moment step limit forced earlier fit takes
      → IsCandidate (served forced (peaks (moments events))) step limit fit.table
  round-candidate earlier numbers fit takes round = record {
    legal = round.round.fitted.made.canonical.best.candidate.legal;
    few = round.round.fitted.made.canonical.best.candidate.few;
    serving = serves-served forced events numbers fit.table round.round.fitted.made.canonical.best.candidate.serving
        (round-serves earlier numbers fit takes round);
  }

  round-bounds : (earlier : ℕ) (numbers : List ℕ) (fit : Sheet) (takes : ℕ)
      → IsFittedRound events numbers moment step limit forced earlier fit takes
      → (other : List ℕ) → IsCandidate (served forced (peaks (moments events))) step limit other → fit.cost ≤ footprint_over events other
  round-bounds earlier numbers fit takes round other candidate = grind (arith, fit_bounds_timeline)

  -- a round whose table takes no more over the whole timeline
  pub round-least : (earlier : ℕ) (numbers : List ℕ) (fit : Sheet) (takes : ℕ)
      → IsFittedRound events numbers moment step limit forced earlier fit takes
      → takes ≡ fit.cost → AreLoose events step limit forced earlier → IsLeastFit events step limit forced (earlier + 1) numbers fit
  round-least earlier numbers fit takes round tight loose =
      let over : footprint_over events fit.table ≡ fit.cost = sym round.taken ∙ tight in
      record {
        earlier = earlier;
        last = omega arith;
        round = round.round;
        loose = loose;
        are = round.over.are;
        ascending = round.over.ascending;
        takes = over;
        fitted = canonical_over forced events numbers step limit fit.table round.over.are round.round.fitted.made.canonical
            (round-serves earlier numbers fit takes round) (over ∙ round.round.fitted.made.costs);
      }

  takes-more : (earlier : ℕ) (numbers : List ℕ) (fit : Sheet) (takes : ℕ)
      → IsFittedRound events numbers moment step limit forced earlier fit takes
      → takes ≢ fit.cost → fit.cost < footprint_over events fit.table
  takes-more earlier numbers fit takes round differs =
      elim (cases_lt fit.cost takes) [
        | inl more ↦ omega (arith, round.taken)
        | inr none ↦ absurd (differs (omega (
          arith,
          round.taken,
          round-bounds earlier numbers fit takes round fit.table (round-candidate earlier numbers fit takes round),
        )))
      ]

  -- the moments of the round after a round
  pub moments-next : (earlier : ℕ) (numbers next firsts : List ℕ) (fit : Sheet) → IsDecisive events moment
      → IsRound events step limit forced earlier numbers fit → AreFirsts events fit.table firsts
      → IsUnion (moments_left numbers moment (length firsts)) firsts next → AreRoundMoments events step limit forced (earlier + 1) next
  unfolding AreRoundMoments
  moments-next earlier numbers next firsts fit decisive round are union =
      rw add-one (
        numbers,
        fit,
        round.moments,
        round.fitted,
        grind arith,
      )

  -- what holds of the fits of so many rounds holds of one more
  of-one_more : (P : Sheet → Type 0) (made : ℕ) (numbers : List ℕ) (fit : Sheet) → IsRound events step limit forced made numbers fit → P fit
      → ((k : ℕ) (others : List ℕ) (other : Sheet) → k < made → IsRound events step limit forced k others other → P other)
      → (k : ℕ) (others : List ℕ) (other : Sheet) → k < made + 1 → IsRound events step limit forced k others other → P other
  of-one_more P made numbers fit round holds before k others other lt its =
      elim (cases_lt k made) [
        | inl earlier ↦ before k others other earlier its
        | inr not ↦ subst P (same-round events step limit forced made k numbers others fit other (omega arith) round its).1 holds
      ]

  -- the first round
  pub between-first : (numbers next : List ℕ) (fit : Sheet) (takes : ℕ) → IsFittedRound events numbers moment step limit forced 0 fit takes
      → takes ≢ fit.cost → AreRoundMoments events step limit forced 1 next → IsBetween events step limit forced 1 fit.table takes fit.cost
  between-first numbers next fit takes round differs more = record {
    next = (next, more);
    loose = of-one_more (λ other. other.cost < footprint_over events other.table) 0 numbers fit round.round
        (takes-more 0 numbers fit takes round differs) (λ k others other lt its. absurd (omega arith));
    best = record {
      earlier = 0;
      numbers = numbers;
      fit = fit;
      among = omega arith;
      round = round.round;
      table_of = refl;
      least = of-one_more (λ other. footprint_over events fit.table ≤ footprint_over events other.table) 0 numbers fit round.round
          (omega arith) (λ k others other lt its. absurd (omega arith));
      first = λ k others other lt its. absurd (omega arith);
    };
    taken = round.taken;
    greatest = record {
      earlier = 0;
      numbers = numbers;
      fit = fit;
      among = omega arith;
      round = round.round;
      cost_of = refl;
      most = of-one_more (λ other. other.cost ≤ fit.cost) 0 numbers fit round.round (omega arith)
          (λ k others other lt its. absurd (omega arith));
    };
    candidate = round-candidate 0 numbers fit takes round;
    bound = round-bounds 0 numbers fit takes round;
  }

  -- one round more: the better table of its own and of the one before it, and the greater bound
  module _ (made : ℕ) (numbers next : List ℕ) (fit : Sheet) (takes : ℕ) (table : List ℕ) (best least : ℕ)
      (round : IsFittedRound events numbers moment step limit forced made fit takes) (differs : takes ≢ fit.cost)
      (more : AreRoundMoments events step limit forced (made + 1) next) (before : IsBetween events step limit forced made table best least) where
    loose-more : AreLoose events step limit forced (made + 1)
    loose-more = of-one_more (λ other. other.cost < footprint_over events other.table) made numbers fit round.round
        (takes-more made numbers fit takes round differs) before.loose

    bound-more : (other : List ℕ) → IsCandidate (served forced (peaks (moments events))) step limit other → max least fit.cost ≤ footprint_over events other
    bound-more other candidate = omega (arith, before.bound other candidate, round-bounds made numbers fit takes round other candidate)

    greatest-more : IsGreatestOfRounds events step limit forced (made + 1) (max least fit.cost)
    greatest-more =
        elim (cases_lt least fit.cost) [
          | inl above ↦ record {
            earlier = made;
            numbers = numbers;
            fit = fit;
            among = omega arith;
            round = round.round;
            cost_of = omega arith;
            most = of-one_more (λ other. other.cost ≤ max least fit.cost) made numbers fit round.round (omega arith)
                (λ k others other lt its. omega (arith, before.greatest.most k others other lt its));
          }
          | inr kept ↦ record {
            earlier = before.greatest.earlier;
            numbers = before.greatest.numbers;
            fit = before.greatest.fit;
            among = omega (arith, before.greatest.among);
            round = before.greatest.round;
            cost_of = omega (arith, before.greatest.cost_of);
            most = of-one_more (λ other. other.cost ≤ max least fit.cost) made numbers fit round.round (omega arith)
                (λ k others other lt its. omega (arith, before.greatest.most k others other lt its));
          }
        ]

    pub between-kept : best ≤ takes → IsBetween events step limit forced (made + 1) table best (max least fit.cost)
    between-kept le = record {
      next = (next, more);
      loose = loose-more;
      best = record {
        earlier = before.best.earlier;
        numbers = before.best.numbers;
        fit = before.best.fit;
        among = omega (arith, before.best.among);
        round = before.best.round;
        table_of = before.best.table_of;
        least = of-one_more (λ other. footprint_over events table ≤ footprint_over events other.table) made numbers fit round.round
            (omega (arith, le, before.taken, round.taken)) before.best.least;
        first = before.best.first;
      };
      taken = before.taken;
      greatest = greatest-more;
      candidate = before.candidate;
      bound = bound-more;
    }

    pub between-better : takes < best → IsBetween events step limit forced (made + 1) fit.table takes (max least fit.cost)
    between-better lt = record {
      next = (next, more);
      loose = loose-more;
      best = record {
        earlier = made;
        numbers = numbers;
        fit = fit;
        among = omega arith;
        round = round.round;
        table_of = refl;
        least = of-one_more (λ other. footprint_over events fit.table ≤ footprint_over events other.table) made numbers fit round.round
            (omega arith)
            (λ k others other less its. omega (arith, lt, before.taken, round.taken, before.best.least k others other less its));
        first = λ k others other less its. omega (arith, lt, before.taken, round.taken, before.best.least k others other less its);
      };
      taken = round.taken;
      greatest = greatest-more;
      candidate = round-candidate made numbers fit takes round;
      bound = bound-more;
    }

-- ---- from round to round

-- a fit asks for at most so many
pub few-costs : (snapshots : List (List ℕ)) (step limit : ℕ) (forced : Bool) (fit : Sheet) → IsFitOf snapshots step limit forced fit
    → span_count (places (served forced (peaks snapshots)) step) ≤ span_count MOST_NEEDS
few-costs snapshots step limit forced fit fitted = grind (arith, few_places, mul-le-mul)

module _ (events : List SizeEvent) (step limit : ℕ) (forced : Bool) where
  costs-first : (numbers : List ℕ) (costs : ℕ) → AreRoundMoments events step limit forced 0 numbers
      → costs ≡ span_count (places (served forced (peaks (history_at events numbers))) step) → AreRoundCosts events step limit forced 1 costs
  unfolding AreRoundCosts
  costs-first numbers costs over is = (0, numbers, refl, over, omega (arith, is))

  costs-more : (made : ℕ) (numbers : List ℕ) (costs its : ℕ) → AreRoundCosts events step limit forced made costs
      → AreRoundMoments events step limit forced made numbers
      → its ≡ span_count (places (served forced (peaks (history_at events numbers))) step) → AreRoundCosts events step limit forced (made + 1) (costs + its)
  unfolding AreRoundCosts
  costs-more made numbers costs its before over is = rw (add-one, is) (costs, numbers, before, over, refl)

-- A timeline, and its decisive moment.
pub record IsSetting (events : List SizeEvent) (moment : ℕ) : Type 0 where
  pub timeline : IsTimeline events
  pub within : moment ≤ length events
  pub decides : Decides events moment
  pub decisive : IsDecisive events moment

-- What a round over these moments makes.
pub record IsMade (events : List SizeEvent) (step limit : ℕ) (forced : Bool) (numbers : List ℕ) (round : Round) : Type 0 where
  pub fitted : IsFitOf (history_at events numbers) step limit forced (sheet_of round.fit)
  pub taken : round.takes ≡ footprint_over events round.fit.table
  pub firsts_are : AreFirsts events round.fit.table round.firsts.items
  pub legal : IsLegalTable 1 round.fit.table
  pub exact : round.evaluations ≡ span_count (places (served forced (peaks (history_at events numbers))) step)

-- The moments of the round before which so many were made.
pub record AreReady (events : List SizeEvent) (moment step limit : ℕ) (forced : Bool) (earlier : ℕ) (numbers : List ℕ) : Type 0 where
  pub over : AreDeciding events numbers moment
  pub round_moments : AreRoundMoments events step limit forced earlier numbers

-- How many costs so many rounds compute.
pub record AreFewCosts (events : List SizeEvent) (step limit : ℕ) (forced : Bool) (made costs : ℕ) : Type 0 where
  pub exact : AreRoundCosts events step limit forced made costs
  pub few : costs ≤ made * span_count MOST_NEEDS

-- What the rounds so far leave, none of which is tight.
pub record AreSoFar (events : List SizeEvent) (moment step limit : ℕ) (forced : Bool) (made : ℕ) (numbers : List ℕ) (best : Round) (least evaluations : ℕ) :
    Type 0 where
  pub ready : AreReady events moment step limit forced made numbers
  pub between : IsBetween events step limit forced made best.fit.table best.takes least
  pub costs : AreFewCosts events step limit forced made evaluations

module _ (events : List SizeEvent) (moment step limit : ℕ) (forced : Bool) (set : IsSetting events moment) where
  pub ready-first : (numbers : List ℕ) → numbers ≡ moment ∷ [] → AreReady events moment step limit forced 0 numbers
  unfolding AreRoundMoments
  ready-first numbers is = grind arith

  module _ (earlier : ℕ) (numbers : List ℕ) (round : Round) (ready : AreReady events moment step limit forced earlier numbers)
      (made : IsMade events step limit forced numbers round) where
    as-fitted : IsFittedRound events numbers moment step limit forced earlier (sheet_of round.fit) round.takes
    as-fitted = record {
      over = ready.over;
      round = record { moments = ready.round_moments; fitted = made.fitted };
      legal = made.legal;
      taken = made.taken;
    }

    pub ready-next : (next : List ℕ) → length next ≤ MOST_SNAPSHOTS → All (λ number. number ≤ length events) next → Contains next moment
        → IsUnion (moments_left numbers moment (length round.firsts.items)) round.firsts.items next
        → AreReady events moment step limit forced (earlier + 1) next
    ready-next next few within kept union = record {
      over = more-moments events next moment few within kept union.ascending;
      round_moments = moments-next events moment step limit forced set.timeline set.decides earlier numbers next round.firsts.items
          (sheet_of round.fit) set.decisive as-fitted.round made.firsts_are union;
    }

    -- its table takes no more over the whole timeline
    pub tight : AreLoose events step limit forced earlier → round.takes ≡ round.fit.cost
        → IsLeastFit events step limit forced (earlier + 1) numbers (sheet_of round.fit)
    tight loose same =
        round-least events moment step limit forced set.timeline set.decides earlier numbers (sheet_of round.fit) round.takes as-fitted same loose

    its-costs : round.evaluations ≤ span_count MOST_NEEDS
    its-costs = omega (arith, made.exact, few-costs (history_at events numbers) step limit forced (sheet_of round.fit) made.fitted)

  -- the first round
  module _ (numbers : List ℕ) (round : Round) (ready : AreReady events moment step limit forced 0 numbers)
      (made : IsMade events step limit forced numbers round) where
    first-costs : AreFewCosts events step limit forced 1 round.evaluations
    first-costs = record {
      exact = costs-first events step limit forced numbers round.evaluations ready.round_moments made.exact;
      few = omega (arith, its-costs 0 numbers round ready made);
    }

    pub tight-first : round.takes ≡ round.fit.cost
        → IsLeastFit events step limit forced 1 numbers (sheet_of round.fit) × AreFewCosts events step limit forced 1 round.evaluations
    tight-first same = (tight 0 numbers round ready made (λ k others other lt its. absurd (omega arith)) same, first-costs)

    pub so_far-first : (next : List ℕ) → round.takes ≢ round.fit.cost → AreReady events moment step limit forced 1 next
        → AreSoFar events moment step limit forced 1 next round round.fit.cost round.evaluations
    so_far-first next differs more = record {
      ready = more;
      between = between-first events moment step limit forced set.timeline set.decides numbers next (sheet_of round.fit) round.takes
          (as-fitted 0 numbers round ready made) differs more.round_moments;
      costs = first-costs;
    }

  -- one round more
  module _ (count : ℕ) (numbers : List ℕ) (best : Round) (least evaluations : ℕ) (round : Round)
      (before : AreSoFar events moment step limit forced count numbers best least evaluations)
      (made : IsMade events step limit forced numbers round) where
    more-costs : AreFewCosts events step limit forced (count + 1) (evaluations + round.evaluations)
    more-costs = record {
      exact = grind (arith, costs-more);
      few = omega (arith, before.costs.few, its-costs count numbers round before.ready made);
    }

    pub costs-fit : count < 2 ^ 32 → evaluations + round.evaluations < 2 ^ 64
    costs-fit small = omega (arith, more-costs.few, small)

    pub tight-more : round.takes ≡ round.fit.cost → IsLeastFit events step limit forced (count + 1) numbers (sheet_of round.fit)
        × AreFewCosts events step limit forced (count + 1) (evaluations + round.evaluations)
    tight-more same = (tight count numbers round before.ready made before.between.loose same, more-costs)

    pub so_far-more : (next : List ℕ) (better : Round) → round.takes ≢ round.fit.cost → AreReady events moment step limit forced (count + 1) next
        → ((better ≡ best) × (best.takes ≤ round.takes)) ⊎ ((better ≡ round) × (round.takes < best.takes))
        → AreSoFar events moment step limit forced (count + 1) next better (max least round.fit.cost) (evaluations + round.evaluations)
    so_far-more next better differs more (inl kept) =
        rw kept.0 (record {
          ready = more;
          between = between-kept events moment step limit forced set.timeline set.decides count numbers next (sheet_of round.fit) round.takes
              best.fit.table best.takes least (as-fitted count numbers round before.ready made) differs more.round_moments before.between
              kept.1;
          costs = more-costs;
        })
    so_far-more next better differs more (inr other) =
        rw other.0 (record {
          ready = more;
          between = between-better events moment step limit forced set.timeline set.decides count numbers next (sheet_of round.fit) round.takes
              best.fit.table best.takes least (as-fitted count numbers round before.ready made) differs more.round_moments before.between
              other.1;
          costs = more-costs;
        })

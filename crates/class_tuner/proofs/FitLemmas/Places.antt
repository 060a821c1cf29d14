-- One place of the rows, row by row.
use Rattle.std.proofs.Common.{◌≡◌, ℕ, suc, ◌+◌, ◌-◌, ◌^◌, ◌<◌, ◌≤◌, List, [], ◌∷◌, ◌++◌, length, replicate, slice_index}
use Rattle.std.proofs.{Common.{slice_index_or, slice_set, arith, ap, sym, ◌∙◌, inl, inr}, lemmas.Bool.{cases_lt}, lemmas.Grind.{common_steps}}
use Rattle.std.proofs.lemmas.List.{length-replicate}
use Rattle.class_tuner.proofs.{FitLemmas.Numbers.{set-here, set-other_place, set-other_row, set-shape, set-small}, Rows.{shape-pushed}}
use Rattle.class_tuner.specs.Fits.PlaceByPlace.{AreCostsFrom, AreLeastRowsFrom, AreOlderCosts, AreReady, AreRowsSoFar, IsFresh}
use Rattle.class_tuner.specs.{Fits.PlaceByPlace.{IsLeastOf, IsPlaceFilled, end_cost}, declared.fits.place_filling.Memory.{Memory}}
use Rattle.potential_check.specs.{Footprints.AlikeRows.{AreAlikeFrom}}
use Rattle.tuner_theory.{proofs.Sheets.{rows-end}, specs.Growing.{IsGrowing}, specs.Lists.{lists_of}}
use Rattle.tuner_theory.specs.Rows.{IsFilled, IsLeastEnd, number_at}

-- a least end, by costs that are the same at later places
pub least-same : (f g : ℕ → ℕ) (place d end : ℕ) → ((j : ℕ) → place < j → j ≤ d → f j ≡ g j) → IsLeastEnd f place d end →
    IsLeastEnd g place d end
least-same f g place d end same l = grind arith

-- the rows with a number set, and their ends with an end set
abbrev pub with_number : List (List ℕ) → ℕ → ℕ → ℕ → List (List ℕ)
with_number rows k place v = slice_set rows k (slice_set (slice_index_or rows k []) place v)

module _ (costs : List ℕ) (d limit place : ℕ) (rows ends : List (List ℕ)) (from : AreCostsFrom d place costs)
    (so_far : AreRowsSoFar d limit rows ends) where
  pub so_far-set : (k v w : ℕ) → k < limit → v ≤ slice_index costs d
      → AreRowsSoFar d limit (with_number rows k place v) (with_number ends k place w)
  so_far-set k v w lt le = record {
    rows_shape = set-shape rows limit d so_far.rows_shape k place v lt from.within;
    ends_shape = set-shape ends limit d so_far.ends_shape k place w lt from.within;
    small = set-small rows limit d so_far.rows_shape k place v lt from.within (2 ^ 60)
        (omega (arith, from.small d from.within (omega arith))) so_far.small;
  }

  pub place-first : 1 ≤ limit
      → IsPlaceFilled costs d place 1 rows (with_number rows 0 place (slice_index costs d)) ends (with_number ends 0 place d)
  place-first some = record {
    rows_kept = λ m j ne. set-other_place rows limit d so_far.rows_shape 0 place (slice_index costs d) some from.within m j ne;
    ends_kept = λ m j ne. set-other_place ends limit d so_far.ends_shape 0 place d some from.within m j ne;
    first = (
      set-here rows limit d so_far.rows_shape 0 place (slice_index costs d) some from.within,
      set-here ends limit d so_far.ends_shape 0 place d some from.within,
    );
    later = λ m one lt. absurd (omega arith);
  }

  pub place-more : (old_rows old_ends : List (List ℕ)) (k number end : ℕ) (before : List ℕ) → 1 ≤ k → k < limit
      → before ≡ slice_index_or rows (k - 1) []
      → IsPlaceFilled costs d place k old_rows rows old_ends ends
      → IsLeastEnd (end_cost costs (slice_index before)) place d end → number ≡ end_cost costs (slice_index before) end
      → IsPlaceFilled costs d place (suc k) old_rows (with_number rows k place number) old_ends (with_number ends k place end)
  place-more old_rows old_ends k number end before one lt read filled least value = record {
    rows_kept = λ m j ne.
        set-other_place rows limit d so_far.rows_shape k place number lt from.within m j ne ∙ filled.rows_kept m j ne;
    ends_kept = λ m j ne.
        set-other_place ends limit d so_far.ends_shape k place end lt from.within m j ne ∙ filled.ends_kept m j ne;
    first = (
      set-other_row rows limit d so_far.rows_shape k place number lt from.within 1 place (λ e. omega (arith, e)) ∙ filled.first.0,
      set-other_row ends limit d so_far.ends_shape k place end lt from.within 1 place (λ e. omega (arith, e)) ∙ filled.first.1,
    );
    later = later;
  }
    where
      same : (j : ℕ) → place < j → j ≤ d → end_cost costs (slice_index before) j ≡ end_cost costs (number_at old_rows k) j
      same j after within =
          omega (arith, ap (λ (b : List ℕ). slice_index b j) read, filled.rows_kept k j (λ e. omega (arith, e)))

      later : (m : ℕ) → 1 ≤ m → m < suc k
          → IsLeastEnd (end_cost costs (number_at old_rows m)) place d (number_at (with_number ends k place end) (suc m) place)
          × (number_at (with_number rows k place number) (suc m) place
          ≡ end_cost costs (number_at old_rows m) (number_at (with_number ends k place end) (suc m) place))
      later m some below =
          elim (cases_lt m k) [
            | inl inside ↦ (let old = filled.later m some inside in
                rw (
                  set-other_row rows limit d so_far.rows_shape k place number lt from.within (suc m) place (λ e. omega (arith, e)),
                  set-other_row ends limit d so_far.ends_shape k place end lt from.within (suc m) place (λ e. omega (arith, e)),
                ) old)
            | inr past ↦ (let here : m ≡ k = omega arith in
                rw (
                  here,
                  set-here rows limit d so_far.rows_shape k place number lt from.within,
                  set-here ends limit d so_far.ends_shape k place end lt from.within,
                ) (least-same _ _ place d end same least, value ∙ same end least.from least.to))
          ]

  -- the rows that are alike at the place, with one row more
  pub alike-set : (k v old new above : ℕ) → 1 ≤ k → k < limit → old ≤ new → (new ≤ k → v ≡ above) → above ≡ number_at rows k place
      → ((m : ℕ) → old ≤ m → m < k → number_at rows (suc m) place ≡ number_at rows m place)
      → (m : ℕ) → new ≤ m → m < suc k
      → number_at (with_number rows k place v) (suc m) place ≡ number_at (with_number rows k place v) m place
  alike-set k v old new above one lt order same is are m from_new below =
      let shape = so_far.rows_shape in
      let before : number_at (with_number rows k place v) m place ≡ number_at rows m place =
      set-other_row rows limit d shape k place v lt from.within m place (λ e. omega (arith, e)) in
      elim (cases_lt m k) [
        | inl inside ↦ set-other_row rows limit d shape k place v lt from.within (suc m) place (λ e. omega (arith, e))
            ∙ (are m (omega arith) inside ∙ sym before)
        | inr past ↦ (let here : m ≡ k = omega arith in
            rw here (set-here rows limit d shape k place v lt from.within ∙ (same (omega arith) ∙ (is ∙ sym (rw here at before)))))
      ]

-- what is found for a row is found for the next one, where the rows before them are alike
pub found-again : (costs : List ℕ) (d place limit k m number end alike : ℕ) (rows rows' ends ends' : List (List ℕ)) (before : List ℕ)
    → k ≡ suc m → alike < k → k < limit → AreAlikeFrom (number_at rows) limit (place + 1) alike
    → IsPlaceFilled costs d place k rows rows' ends ends' → before ≡ slice_index_or rows' (k - 1) [] → length before ≡ d
    → number ≡ number_at rows' k place → end ≡ number_at ends' k place → number ≤ slice_index costs d
    → IsLeastOf costs before place number end
found-again costs d place limit k m number end alike rows rows' ends ends' before is after lt are filled read size number_is end_is small = grind arith

-- ---- from this place on

pub rows-from : (cost : ℕ → ℕ → ℕ) (costs : List ℕ) (d limit i : ℕ) (rows rows' ends ends' : List (List ℕ)) → i < d
    → ((j : ℕ) → i < j → j ≤ d → slice_index costs j ≡ cost i j)
    → AreLeastRowsFrom cost d limit (i + 1) (number_at rows) (number_at ends)
    → IsPlaceFilled costs d i limit rows rows' ends ends'
    → AreLeastRowsFrom cost d limit i (number_at rows') (number_at ends')
rows-from cost costs d limit i rows rows' ends ends' inside costs_are later filled = record { first_row = first_row; later_row = later_row }
  where
    first_row : (m : ℕ) → 1 ≤ limit → i ≤ m → m < d → (number_at rows' 1 m ≡ cost m d) × (number_at ends' 1 m ≡ d)
    first_row m some from lt =
        grind (arith, later.first_row m some, filled.rows_kept 1 m, filled.ends_kept 1 m, filled.first, costs_are d inside)

    later_row : (k m : ℕ) → 1 ≤ k → k < limit → i ≤ m → m < d
        → IsLeastEnd (λ j. cost m j + number_at rows' k j) m d (number_at ends' (suc k) m)
        × (number_at rows' (suc k) m ≡ cost m (number_at ends' (suc k) m) + number_at rows' k (number_at ends' (suc k) m))
    later_row k m one few from lt =
        elim (cases_lt i m) [
          | inl after ↦ grind arith
          | inr not ↦ grind arith
        ]

pub all-filled : (cost : ℕ → ℕ → ℕ) (d limit : ℕ) (rows ends : List (List ℕ)) → AreRowsSoFar d limit rows ends
    → AreLeastRowsFrom cost d limit 0 (number_at rows) (number_at ends) → IsFilled cost d limit rows ends
all-filled cost d limit rows ends so_far from = grind (arith, rows-end)

-- ---- the costs of two places, one after the other

module _ (cost : ℕ → ℕ → ℕ) (d i : ℕ) (older costs : List ℕ) (inside : i < d) (size : length costs ≡ d + 1)
    (are : (j : ℕ) → i < j → j ≤ d → slice_index costs j ≡ cost i j) where
  pub costs-from : ((j : ℕ) → i < j → j ≤ d → cost i j ≤ 2 ^ 60) → AreCostsFrom d i costs
  costs-from small = record { within = inside; size = size; small = λ j after le. omega (arith, are j after le, small j after le) }

  pub costs-older : IsGrowing cost d → length older ≡ d + 1 → ((j : ℕ) → i + 1 < j → j ≤ d → slice_index older j ≡ cost (i + 1) j)
      → AreOlderCosts d i older costs
  costs-older grows older_size were = grind arith

-- ---- before any place is filled

pub no-rows : (d : ℕ) → AreRowsSoFar d 0 [] []
no-rows d = grind (arith, common_steps)

pub so_far-pushed : (d k : ℕ) (rows ends rows' ends' : List (List ℕ)) (row end : List ℕ) → AreRowsSoFar d k rows ends → length row ≡ d
    → length end ≡ d → ((j : ℕ) → slice_index row j ≡ 0) → rows' ≡ rows ++ row ∷ [] → ends' ≡ ends ++ end ∷ []
    → AreRowsSoFar d (suc k) rows' ends'
so_far-pushed d k rows ends rows' ends' row end so_far row_len end_len zeros rows_are ends_are =
    grind (arith, shape-pushed, small)
  where
    small : (m j : ℕ) → number_at (rows ++ row ∷ []) m j ≤ 2 ^ 60
    small m j = grind (arith, common_steps, so_far.small m j, zeros j)

-- a list of zeros has 0 at each place
zero-at : (n i : ℕ) → slice_index (replicate n 0) i ≡ 0
zero-at n i = grind (arith, common_steps)

pub ready-at_end : (costs : List ℕ) (d limit : ℕ) (rows ends : List (List ℕ)) (memory : Memory) → IsFresh limit d memory
    → AreRowsSoFar d limit rows ends → AreReady costs memory.slack.items d d limit rows ends (lists_of memory.bounds.items)
ready-at_end costs d limit rows ends memory fresh so_far = grind (arith, length-replicate, zero-at)

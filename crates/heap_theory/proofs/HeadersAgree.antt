-- The slots of a heap determine the words of their headers.
use Rattle.std.proofs.Common.{◌≡◌, ℕ, suc, ◌+◌, ◌-◌, ◌*◌, ◌<◌, List, [], ◌∷◌, length, refl, sym, ap, ◌∙◌, subst, inl, inr, arith, AllPairs}
use Rattle.std.proofs.{Common.{Contains}, lemmas.Bool.{and_from, cases_Bool, cases_lt, le-leb, lt-ltb}, lemmas.Option.{slice_get_within}}
use Rattle.machine_theory.specs.Memory.{Granule, word_at}
use Rattle.class_table.specs.Layout.{slot_count, slot_of}
use Rattle.heap_theory.proofs.{HeaderWords.{class_number-is, words-header_of}, Regions.{header_in-region_of}}
use Rattle.heap_theory.proofs.ListSearch.{Contains-head, Contains-tail, Contains-cases, Contains-none, AllPairs-first}
use Rattle.heap_theory.specs.{Header.{first_word, second_word, header_at, class_number, header_for}, Links.{IsLinked, list_of}}
use Rattle.heap_theory.specs.{HeapInMemory.{IsKeptIn, HaveSameSlots, HeaderWordsStay}, Region.{Region, header_in, next_in, region_of}}
use Rattle.heap_theory.specs.State.{Heap, state_at, is_dead, mark_of}

-- ---- lists in an order

rest_pairs : (R : ℕ → ℕ → Type 0) (x : ℕ) (xs : List ℕ) → AllPairs R (x ∷ xs) → AllPairs R xs
rest_pairs R x xs pairs i j d before within = pairs (suc i) (suc j) d (omega arith) (omega arith)

-- two lists in one order that have the same elements are one list
one_order : (R : ℕ → ℕ → Type 0) (a b : List ℕ) → ((s r : ℕ) → R s r → R r s → ⊥) → AllPairs R a → AllPairs R b →
    ((s : ℕ) → Contains a s → Contains b s) → ((s : ℕ) → Contains b s → Contains a s) → a ≡ b
one_order R [] [] one_way pa pb to from = refl
one_order R [] (y ∷ ys) one_way pa pb to from = absurd (Contains-none y (from y (Contains-head y ys)))
one_order R (x ∷ xs) [] one_way pa pb to from = absurd (Contains-none x (to x (Contains-head x xs)))
one_order R (x ∷ xs) (y ∷ ys) one_way pa pb to from =
    let same : x ≡ y = elim (Contains-cases y ys x (to x (Contains-head x xs))) [
      | inl is ↦ sym is
      | inr tail ↦ elim (Contains-cases x xs y (from y (Contains-head y ys))) [
        | inl is ↦ is
        | inr after ↦ absurd (one_way x y (AllPairs-first R x xs y pa after) (AllPairs-first R y ys x pb tail))
      ]
    ] in
    let tails : xs ≡ ys = one_order R xs ys one_way (rest_pairs R x xs pa) (rest_pairs R y ys pb)
    (λ s there. elim (Contains-cases y ys s (to s (Contains-tail x xs s there))) [
      | inl is ↦ let own : R x x = subst (R x) (sym (same ∙ is)) (AllPairs-first R x xs s pa there) in absurd (one_way x x own own)
      | inr tail ↦ tail
    ])
    (λ s there. elim (Contains-cases x xs s (from s (Contains-tail y ys s there))) [
      | inl is ↦ let own : R y y = subst (R y) (sym (sym same ∙ is)) (AllPairs-first R y ys s pb there) in absurd (one_way y y own own)
      | inr tail ↦ tail
    ]) in
    λ i. same i ∷ tails i

-- ---- a list determines its links

abbrev front_link : List ℕ → ℕ
front_link [] = 0
front_link (s ∷ rest) = suc s

front_is : (next : ℕ → ℕ) (front : ℕ) (list : List ℕ) → IsLinked next front list → front ≡ front_link list
front_is next front list l = grind arith

links_agree : (next new : ℕ → ℕ) (front other : ℕ) (list : List ℕ) (s : ℕ) → IsLinked next front list → IsLinked new other list →
    Contains list s → new s ≡ next s
links_agree next new front other [] s l k there = absurd (Contains-none s there)
links_agree next new front other (r ∷ rest) s l k there = elim (Contains-cases r rest s there) [
  | inl is ↦ subst (λ q. new q ≡ next q) is (front_is new (new r) rest k.1 ∙ sym (front_is next (next r) rest l.1))
  | inr tail ↦ links_agree next new (next r) (new r) rest s l.1 k.1 tail
]

-- ---- the slots determine the lists, and so each link and each header

abbrev with_seen : Heap → List Granule → ℕ → ℕ → Heap
with_seen h seen seed tag = record h { memory = seen; seed = seed; tag = tag }

one_queue : (h : Heap) (seen : List Granule) (seed tag : ℕ) (m new : Region) → (a : IsKeptIn h m) →
    (b : IsKeptIn (with_seen h seen seed tag) new) → b.queue ≡ a.queue
one_queue h seen seed tag m new a b =
    one_order (λ s r. mark_of (state_at h s) < mark_of (state_at h r)) b.queue a.queue (λ s r up down. omega (arith, up, down))
    b.queue_holds.ascending a.queue_holds.ascending
    (λ r there. (a.queue_holds.slots r).1 ((b.queue_holds.slots r).0 there))
    (λ r there. (b.queue_holds.slots r).1 ((a.queue_holds.slots r).0 there))

one_list : (h : Heap) (seen : List Granule) (seed tag : ℕ) (m new : Region) → (a : IsKeptIn h m) →
    (b : IsKeptIn (with_seen h seen seed tag) new) → (s : ℕ) → s < slot_count h.layout →
    list_of b.lists (class_number h.layout s) ≡ list_of a.lists (class_number h.layout s)
one_list h seen seed tag m new a b s within =
    let number = class_number h.layout s in
    let class = (slot_of h.layout s).class in
    let in_a = a.list_holds number class (class_number-is h.layout s within) in
    let in_b = b.list_holds number class (class_number-is h.layout s within) in
    one_order (λ s r. mark_of (state_at h r) < mark_of (state_at h s)) (list_of b.lists number) (list_of a.lists number)
    (λ s r up down. omega (arith, up, down)) in_b.descending in_a.descending
    (λ r there. (in_a.slots r).1 ((in_b.slots r).0 there))
    (λ r there. (in_b.slots r).1 ((in_a.slots r).0 there))

next_agrees : (h : Heap) (seen : List Granule) (seed tag : ℕ) (m new : Region) → IsKeptIn h m →
    IsKeptIn (with_seen h seen seed tag) new → (s : ℕ) → s < slot_count h.layout → next_in new s ≡ next_in m s
next_agrees h seen seed tag m new a b s within = elim (cases_Bool (is_dead (state_at h s))) [
  | inr alive ↦ b.unlinked s within alive ∙ sym (a.unlinked s within alive)
  | inl dead ↦ elim (cases_lt h.quarantine (h.total - mark_of (state_at h s))) [
    | inr held ↦
        links_agree (next_in m) (next_in new) a.front b.front a.queue s a.queue_linked
        (subst (IsLinked (next_in new) b.front) (one_queue h seen seed tag m new a b) b.queue_linked)
        ((a.queue_holds.slots s).1 (within, and_from _ _ dead (le-leb _ _ held)))
    | inl over ↦
        let number = class_number h.layout s in
        let class = (slot_of h.layout s).class in
        let found = class_number-is h.layout s within in
        let numbered : number < length h.layout.classes = slice_get_within h.layout.classes number class found in
        let linked = b.list_linked number (omega (arith, numbered, b.fronts_long)) in
        links_agree (next_in m) (next_in new) _ _ (list_of a.lists number) s
        (a.list_linked number (omega (arith, numbered, a.fronts_long)))
        (subst (IsLinked (next_in new) _) (one_list h seen seed tag m new a b s within) linked)
        (((a.list_holds number class found).slots s).1 (within, refl, and_from _ _ dead (lt-ltb _ _ over)))
  ]
]

header_agrees : (h : Heap) (seen : List Granule) (seed tag : ℕ) (m new : Region) → IsKeptIn h m →
    IsKeptIn (with_seen h seen seed tag) new → (s : ℕ) → s < slot_count h.layout → header_in new s ≡ header_in m s
unfolding header_for
header_agrees h seen seed tag m new a b s within =
    b.headers s within ∙ ap (header_for h s) (next_agrees h seen seed tag m new a b s within) ∙ sym (a.headers s within)

-- ---- and a header has each bit of its words

first_of : (memory : List Granule) (g : ℕ) → first_word (header_at memory g) ≡ word_at memory (16 * g)
unfolding header_at
first_of memory g = (words-header_of (word_at memory (16 * g)) (word_at memory (16 * g + 8))).0

second_of : (memory : List Granule) (g : ℕ) → second_word (header_at memory g) ≡ word_at memory (16 * g + 8)
unfolding header_at
second_of memory g = (words-header_of (word_at memory (16 * g)) (word_at memory (16 * g + 8))).1

pub header_words_stay : (h other : Heap) → HaveSameSlots h other → HeaderWordsStay h other
header_words_stay h other same m new a b = record {
  first = λ s within. let g = (slot_of h.layout s).start in sym (first_of new g) ∙ ap first_word (header s within) ∙ first_of m g;
  second = λ s within. let g = (slot_of h.layout s).start in sym (second_of new g) ∙ ap second_word (header s within) ∙ second_of m g;
}
  where
    header : (s : ℕ) → s < slot_count h.layout → header_at new (slot_of h.layout s).start ≡ header_at m (slot_of h.layout s).start
    header s within =
        sym (header_in-region_of h.layout new s within)
        ∙ header_agrees h other.memory other.seed other.tag (region_of h.layout m) (region_of h.layout new) a
        (subst (λ h. IsKeptIn h (region_of h.layout new)) (grind arith) b) s within
        ∙ header_in-region_of h.layout m s within

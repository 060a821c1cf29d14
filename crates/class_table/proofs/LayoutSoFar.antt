-- What `Layout::new` has made of the first classes of a table.
use Rattle.std.proofs.Common.{◌≡◌, ℕ, ◌+◌, ◌/◌, ◌<◌, List, [], ◌∷◌, ◌++◌, length, map, take, get_or, sym, ◌∙◌, ap, zero-add, arith}
use Rattle.std.proofs.{Common.{take_all}, lemmas.List.{take_more}, lemmas.List.FromFn.{length-map-range_with_len, map-range_with_len_more}}
use Rattle.std.specs.List.{range_with_len}
use Rattle.class_table.{proofs.FirstSlots.{first_slot-suc}, specs.Layout.{Partition, share_of, first_slot}}

pub record IsFilled (layout : Partition) (filled numbers : List ℕ) (count number : ℕ) : Type 0 where
  pub classes : filled ≡ take number layout.classes
  pub firsts : numbers ≡ map (first_slot layout) (range_with_len 0 number)
  pub slots : count ≡ first_slot layout number

module _ (layout : Partition) (filled numbers : List ℕ) (count number : ℕ) (is : IsFilled layout filled numbers count number) where
  pub length-numbers : length numbers ≡ number
  length-numbers = ap length is.firsts ∙ length-map-range_with_len (first_slot layout) 0 number

  -- the first slots of these classes, and the number of slots after them
  pub firsts_more : numbers ++ count ∷ [] ≡ map (first_slot layout) (range_with_len 0 (number + 1))
  firsts_more =
      ap (λ firsts. firsts ++ count ∷ []) is.firsts
      ∙ ap (λ n. map (first_slot layout) (range_with_len 0 number) ++ n ∷ []) is.slots
      ∙ sym (map-range_with_len_more (first_slot layout) 0 number number (zero-add number))

  -- and of one class more
  pub IsFilled-more : number < length layout.classes →
      IsFilled layout (filled ++ get_or layout.classes number 0 ∷ []) (numbers ++ count ∷ [])
      (count + share_of layout / get_or layout.classes number 0) (number + 1)
  IsFilled-more within = grind (arith, take_more, firsts_more, first_slot-suc)

  -- and of all
  pub classes_all : number ≡ length layout.classes → filled ≡ layout.classes
  classes_all all = is.classes ∙ take_all number layout.classes (omega arith)

  pub firsts_all : number ≡ length layout.classes →
      numbers ++ count ∷ [] ≡ map (first_slot layout) (range_with_len 0 (length layout.classes + 1))
  firsts_all all = firsts_more ∙ ap (λ n. map (first_slot layout) (range_with_len 0 (n + 1))) all

use Rattle.std.proofs.Common.{◌≡◌, ℕ, ◌-◌, ◌<◌, ◌≤◌, ◌++◌, List, [], length, replicate, slice_index_or, take}
use Rattle.std.proofs.{Common.{ap, ◌∙◌, arith, inl, inr}, lemmas.Bool.{cases_lt}}
use Rattle.std.proofs.lemmas.{Grind.{common_steps}, List.{get_or-set_other, get_or-set_same, length-set}, List.Elements.{All-from_get_or}}
use Rattle.tuner_theory.{proofs.Lists.{lists-length}, specs.Lists.{lists_of}}
use Rattle.history_count.{proofs.WideColumns.{first-set}, specs.CountedLines.{first_counts}}
use Rattle.history_count.proofs.counted_lines.resize_columns.Goals as goal

resized-length : (column : List ℕ) (room : ℕ) → length (take room column ++ replicate (room - length column) 0) ≡ room
resized-length column room = grind (arith, common_steps)

resized-first : (column : List ℕ) (room n : ℕ) → n ≤ room → n ≤ length column
    → take n (take room column ++ replicate (room - length column) 0) ≡ take n column
resized-first column room n le within = grind (arith, common_steps)

pub loop-t-init : goal.loop-t-init
loop-t-init c = grind arith

pub resize_column-requires : goal.resize_column-requires
resize_column-requires c = omega (arith, c.loop-t.invariant.size)

pub loop-t-preserved : goal.loop-t-preserved
loop-t-preserved c =
    let is = c.loop-t.invariant in
    let t = c.loop-t.t in
    let old = lists_of c.args.columns.now.items in
    let before = lists_of c.loop-t.columns.items in
    let column = slice_index_or before t [] in
    let room = c.args.room in
    let lt : t < length before = omega (arith, lists-length c.loop-t.columns.items, is.size) in
    let set = c.in_ok-resize_column.ensures in
    let new = take room column ++ replicate (room - length column) 0 in
    record {
      size = omega (
        arith,
        is.size,
        lists-length c.loop-t.columns.items,
        lists-length c.resize_column.new.columns.items,
        ap length set,
        length-set before t new,
      );
      wide = λ k before_next. ap (λ l. length (slice_index_or l k [])) set ∙ elim (cases_lt k t) [
        | inl less ↦ ap length (get_or-set_other before t k new [] (λ e. omega (arith, e))) ∙ is.wide k less
        | inr not ↦ (let here : k ≡ t = omega arith in
            rw (here, get_or-set_same before t new [] lt) (resized-length column room))
      ];
      others = grind (arith, get_or-set_other);
      kept = λ n le wide. ap (first_counts n) set
          ∙ (first-set n t before new lt (resized-first column room n le
          (rw (is.others t (omega arith)) (wide t [] (omega (arith, lt, lists-length c.loop-t.columns.items, lists-length c.args.columns.now.items, is.size)))))
          ∙ is.kept n le wide);
    }

pub returns-clause-wide : goal.returns-clause-wide
returns-clause-wide c =
    All-from_get_or (λ (column : List ℕ). length column ≡ c.args.room) (lists_of c.loop-t.columns.items) []
    (λ k lt. c.loop-t.invariant.wide k (omega (arith, lists-length c.loop-t.columns.items, c.loop-t.invariant.size)))

pub returns-clause-kept : goal.returns-clause-kept
returns-clause-kept c = c.loop-t.invariant.kept

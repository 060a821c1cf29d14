use Rattle.std.proofs.Common.{◌≡◌, ℕ, suc, ◌-◌, ◌<◌, List, [], length, slice_index, slice_index_or, add-one, arith, ap, sym, ◌∙◌, Vec}
use Rattle.std.specs.declared.alloc.Global.{Global}
use Rattle.tuner_theory.{proofs.Lists.{lists-length, row-read}, specs.Lists.{lists_of}, specs.Rows.{HasShape, number_at}}
use Rattle.class_tuner.proofs.{FitLemmas.Numbers.{set-here}, FitLemmas.Places.{alike-set, found-again, place-first, place-more, so_far-set}, Rows.{has-place, has-row}}
use Rattle.potential_check.proofs.FootprintLemmas.LawLemmas.{alike-more, bounds-same, row_bounds-same, row_bounds-set}
use Rattle.class_tuner.proofs.fits.place.fill_place.Goals as goal

-- the row before one
record IsRowAt (rows : List (List ℕ)) (k places : ℕ) (row : List ℕ) : Type 0 where
  read : row ≡ slice_index_or rows k []
  size : length row ≡ places

row-above : (rows : List (Vec ℕ Global)) (limit places : ℕ) → HasShape (lists_of rows) limit places → (k : ℕ) (d : Vec ℕ Global)
    (row : List ℕ) → k < limit → row ≡ (slice_index_or rows k d).items → IsRowAt (lists_of rows) k places row
row-above rows limit places shape k d row lt is =
    let inside : k < length (lists_of rows) = omega (arith, shape.row_count) in
    let read = row-read rows k d row inside is in
    record { read = read; size = ap length read ∙ shape.row_lengths k [] inside }

pub least_end_in-found-requires-clause-costs : goal.least_end_in-found-requires-clause-costs
least_end_in-found-requires-clause-costs c =
    let so_far = c.loop-k.invariant.rows in
    let row = row-above c.loop-k.rows c.args.limit c.args.places so_far.rows_shape (c.loop-k.k - 1) c.index-rows-k.result
    c.deref-in-loop-k.result.now (omega arith) c.deref-in-loop-k.ensures.value in
    rw row.size c.requires.costs

pub least_end_in-found-requires-clause-slack : goal.least_end_in-found-requires-clause-slack
least_end_in-found-requires-clause-slack c =
    let so_far = c.loop-k.invariant.rows in
    let row = row-above c.loop-k.rows c.args.limit c.args.places so_far.rows_shape (c.loop-k.k - 1) c.index-rows-k.result
    c.deref-in-loop-k.result.now (omega arith) c.deref-in-loop-k.ensures.value in
    rw row.size c.requires.ready.slack

pub least_end_in-found-requires-clause-small : goal.least_end_in-found-requires-clause-small
least_end_in-found-requires-clause-small c = λ j.
    let so_far = c.loop-k.invariant.rows in
    let row = row-above c.loop-k.rows c.args.limit c.args.places so_far.rows_shape (c.loop-k.k - 1) c.index-rows-k.result
    c.deref-in-loop-k.result.now (omega arith) c.deref-in-loop-k.ensures.value in
    rw row.read (so_far.small c.loop-k.k j)

pub least_end_in-found-requires-clause-bounds : goal.least_end_in-found-requires-clause-bounds
least_end_in-found-requires-clause-bounds c =
    let so_far = c.loop-k.invariant.rows in
    let k = c.loop-k.k in
    let row = c.deref-in-loop-k.result.now in
    let above = row-above c.loop-k.rows c.args.limit c.args.places so_far.rows_shape (k - 1) c.index-rows-k.result row (omega arith)
    c.deref-in-loop-k.ensures.value in
    grind arith

pub least_end_in-found-requires-clause-above : goal.least_end_in-found-requires-clause-above
least_end_in-found-requires-clause-above c = λ after.
    let so_far = c.loop-k.invariant.rows in
    let k = c.loop-k.k in
    let row = c.deref-in-loop-k.result.now in
    let above = row-above c.loop-k.rows c.args.limit c.args.places so_far.rows_shape (k - 1) c.index-rows-k.result row (omega arith)
    c.deref-in-loop-k.ensures.value in
    let read = above.read in
    let size = above.size in
    let last : k ≡ suc (k - 1) = omega arith in
    found-again c.args.costs.now c.args.places c.args.place c.args.limit k (k - 1) c.loop-k.above.0 c.loop-k.above.1 c.args.alike
    (lists_of c.args.rows.now) (lists_of c.loop-k.rows) (lists_of c.args.ends.now) (lists_of c.loop-k.ends) row last after
    (omega arith) c.requires.alike c.loop-k.invariant.filled read size c.loop-k.invariant.number c.loop-k.invariant.end
    c.loop-k.invariant.small

pub loop-k-preserved : goal.loop-k-preserved
loop-k-preserved c =
    let so_far = c.loop-k.invariant.rows in
    let k = c.loop-k.k in
    let row = c.deref-in-loop-k.result.now in
    let above = row-above c.loop-k.rows c.args.limit c.args.places so_far.rows_shape (k - 1) c.index-rows-k.result row (omega arith)
    c.deref-in-loop-k.ensures.value in
    let read = above.read in
    let size = above.size in
    let same : (j : ℕ) → c.args.place < j → slice_index row j ≡ number_at (lists_of c.args.rows.now) k j =
    (λ j past. ap (λ (b : List ℕ). slice_index b j) read ∙ c.loop-k.invariant.filled.rows_kept k j (λ e. omega (arith, e))) in
    let found = c.least_end_in-found in
    let bounds = rw size at found.ensures.bounds in
    rw (c.set_number-in-loop-k.ensures, c.set_end-in-loop-k.ensures, add-one) (record {
      rows = so_far-set c.args.costs.now c.args.places c.args.limit c.args.place (lists_of c.loop-k.rows) (lists_of c.loop-k.ends)
          c.requires.costs so_far k found.result.0 found.result.1 (omega arith)
          (omega (arith, found.ensures.least.small, ap (slice_index c.args.costs.now) size));
      filled = place-more c.args.costs.now c.args.places c.args.limit c.args.place (lists_of c.loop-k.rows) (lists_of c.loop-k.ends)
          c.requires.costs so_far (lists_of c.args.rows.now) (lists_of c.args.ends.now) k found.result.0
          found.result.1 row (omega arith) (omega arith) read c.loop-k.invariant.filled
          (rw size at found.ensures.least.first) found.ensures.least.value;
      number = sym (set-here (lists_of c.loop-k.rows) c.args.limit c.args.places so_far.rows_shape k c.args.place found.result.0 (omega arith)
          c.requires.costs.within);
      end = sym (set-here (lists_of c.loop-k.ends) c.args.limit c.args.places so_far.ends_shape k c.args.place found.result.1 (omega arith)
          c.requires.costs.within);
      small = omega (arith, found.ensures.least.small, ap (slice_index c.args.costs.now) size);
      order = omega (arith, c.loop-k.invariant.order, c.alike_with-here.ensures.order);
      alike = alike-set c.args.costs.now c.args.places c.args.limit c.args.place (lists_of c.loop-k.rows) (lists_of c.loop-k.ends)
          c.requires.costs so_far k found.result.0 c.loop-k.here c.alike_with-here.result c.loop-k.above.0 (omega arith) (omega arith)
          c.alike_with-here.ensures.order c.alike_with-here.ensures.same c.loop-k.invariant.number c.loop-k.invariant.alike;
      bounds = row_bounds-set c.args.costs.now c.args.slack.now c.args.place c.args.places c.args.limit
          (number_at (lists_of c.args.rows.now)) (lists_of c.loop-k.bounds) (lists_of found.new.bounds) k
          (lists-length found.new.bounds ∙ (omega arith ∙ sym (lists-length c.loop-k.bounds))) found.ensures.others
          (bounds-same c.args.costs.now c.args.slack.now c.args.place c.args.places (slice_index row)
          (number_at (lists_of c.args.rows.now) k) (slice_index_or (lists_of found.new.bounds) k []) same bounds)
          c.loop-k.invariant.bounds;
    })

pub set_number-requires : goal.set_number-requires
set_number-requires c =
    let shape = c.requires.ready.rows.rows_shape in
    record {
      row = has-row c.args.rows.now c.args.places c.args.limit shape 0 c.requires.some;
      place = has-place c.args.rows.now c.args.places c.args.limit shape 0 c.args.place c.requires.some c.requires.costs.within;
    }

pub set_end-requires : goal.set_end-requires
set_end-requires c =
    let shape = c.requires.ready.rows.ends_shape in
    record {
      row = has-row c.args.ends.now c.args.places c.args.limit shape 0 c.requires.some;
      place = has-place c.args.ends.now c.args.places c.args.limit shape 0 c.args.place c.requires.some c.requires.costs.within;
    }

pub loop-k-init : goal.loop-k-init
loop-k-init c =
    let last = slice_index c.args.costs.now c.args.places in
    rw (c.set_number.ensures, c.set_end.ensures) (record {
      rows = so_far-set c.args.costs.now c.args.places c.args.limit c.args.place (lists_of c.args.rows.now) (lists_of c.args.ends.now)
          c.requires.costs c.requires.ready.rows 0 last c.args.places c.requires.some (omega arith);
      filled = place-first c.args.costs.now c.args.places c.args.limit c.args.place (lists_of c.args.rows.now) (lists_of c.args.ends.now)
          c.requires.costs c.requires.ready.rows c.requires.some;
      number = sym (set-here (lists_of c.args.rows.now) c.args.limit c.args.places c.requires.ready.rows.rows_shape 0 c.args.place last c.requires.some
          c.requires.costs.within);
      end = sym (set-here (lists_of c.args.ends.now) c.args.limit c.args.places c.requires.ready.rows.ends_shape 0 c.args.place c.args.places
          c.requires.some c.requires.costs.within);
      small = omega arith;
      order = omega arith;
      alike = λ m from lt. absurd (omega (arith, c.requires.alike.some));
      bounds = c.requires.ready.bounds;
    })

pub returns-clause-ready : goal.returns-clause-ready
returns-clause-ready c = record {
  slack = c.requires.ready.slack;
  rows = c.loop-k.invariant.rows;
  bounds = row_bounds-same c.args.costs.now c.args.slack.now c.args.place c.args.places c.args.limit
      (number_at (lists_of c.args.rows.now)) (number_at (lists_of c.loop-k.rows)) (lists_of c.loop-k.bounds)
      (λ k j past. sym (c.loop-k.invariant.filled.rows_kept k j (λ e. omega (arith, e)))) c.loop-k.invariant.bounds;
}

pub returns-clause-alike : goal.returns-clause-alike
returns-clause-alike c =
    alike-more (number_at (lists_of c.args.rows.now)) (number_at (lists_of c.loop-k.rows)) c.args.limit c.args.place c.args.alike
    c.loop-k.here c.loop-k.invariant.order c.loop-k.invariant.filled.rows_kept
    (λ m from lt. c.loop-k.invariant.alike m from (omega arith)) c.requires.alike

pub bounds-ends-k : goal.bounds-ends-k
bounds-ends-k c =
    has-row c.loop-k.ends c.args.places c.args.limit c.loop-k.invariant.rows.ends_shape c.loop-k.k c.loop-k-test.true

pub bounds-rows-k : goal.bounds-rows-k
bounds-rows-k c =
    has-row c.loop-k.rows c.args.places c.args.limit c.loop-k.invariant.rows.rows_shape (c.loop-k.k - 1) (omega arith)

pub least_end_in-found-requires-clause-row : goal.least_end_in-found-requires-clause-row
least_end_in-found-requires-clause-row c = omega (arith, lists-length c.loop-k.bounds, c.loop-k.invariant.bounds.size)

pub set_number-requires-in-loop-k : goal.set_number-requires-in-loop-k
set_number-requires-in-loop-k c =
    let shape = c.loop-k.invariant.rows.rows_shape in
    let row = c.loop-k-test.true in
    record {
      row = has-row c.loop-k.rows c.args.places c.args.limit shape c.loop-k.k row;
      place = has-place c.loop-k.rows c.args.places c.args.limit shape c.loop-k.k c.args.place row c.requires.costs.within;
    }

pub set_end-requires-in-loop-k : goal.set_end-requires-in-loop-k
set_end-requires-in-loop-k c =
    let shape = c.loop-k.invariant.rows.ends_shape in
    let row = c.loop-k-test.true in
    record {
      row = has-row c.loop-k.ends c.args.places c.args.limit shape c.loop-k.k row;
      place = has-place c.loop-k.ends c.args.places c.args.limit shape c.loop-k.k c.args.place row c.requires.costs.within;
    }

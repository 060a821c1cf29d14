use Rattle.std.proofs.Common.{◌≡◌, ◌≢◌, ℕ, suc, ◌-◌, ◌<◌, ◌≤◌, [], length, List, slice_index, slice_index_or, arith, ap}
use Rattle.std.proofs.Common.{◌∙◌, sym}
use Rattle.std.proofs.lemmas.{Option.{get_or_from_slice_get}}
use Rattle.tuner_theory.{proofs.Lists.{lists-length}, specs.Lists.{lists_of}, specs.Rows.{HasShape, number_at}}
use Rattle.potential_check.specs.Footprints.Bounds.{AreBounds, AreRowBounds}
use Rattle.potential_check.proofs.footprints.row_tests.edges_hold_at.Goals as goal

row-length : (rows : List (List ℕ)) (limit d k : ℕ) (row : List ℕ) → HasShape rows limit d → k ≤ limit → 1 ≤ k
    → row ≡ slice_index_or rows (k - 1) [] → length row ≡ d
row-length rows limit d k row shape le one e = ap length e ∙ shape.row_lengths (k - 1) [] (omega (arith, shape.row_count))

-- the bounds of all rows after those of one were raised
raised : (costs slack : List ℕ) (rows : List (List ℕ)) (d limit i k : ℕ) (row : List ℕ) (old new : List (List ℕ))
    → row ≡ slice_index_or rows (k - 1) [] → length row ≡ d → length new ≡ length old
    → ((m : ℕ) → m ≢ k → slice_index_or new m [] ≡ slice_index_or old m [])
    → AreBounds costs slack i (length row) (slice_index row) (slice_index_or new k [])
    → AreRowBounds costs slack i d limit (number_at rows) old → AreRowBounds costs slack i d limit (number_at rows) new
raised costs slack rows d limit i k row old new read size same others its are = grind arith

below : (k n : ℕ) → k < n → k ≤ n
below k n lt = omega arith

pub edge_holds_in-requires : goal.edge_holds_in-requires
edge_holds_in-requires c =
    let rows = c.args.rows.now in
    let k = c.loop-k.k in
    let within = rw c.len-k-end.ensures at c.loop-k-test.true in
    let read = sym (get_or_from_slice_get rows (k - 1) c.row-before.result.now [] c.row-before.ensures) in
    let size = row-length rows (length rows) c.args.places k c.row-before.result.now c.requires.rows.shape (below k (length rows) within) c.loop-k.auto.k read in
    rw size (record {
      row = rw (← lists-length c.loop-k.bounds, c.loop-k.invariant.bounds.size) within;
      size = c.requires.rows.size;
      place = c.requires.rows.place;
      short = c.requires.rows.few_places;
      slack = c.requires.slack;
      bounds = grind arith;
      known = λ is.
          let last : suc (k - 1) ≡ k = omega (arith, c.loop-k.auto.k) in
          grind arith;
    })

pub returns-then-not-edge_holds_in-clause-edges : goal.returns-then-not-edge_holds_in-clause-edges
returns-then-not-edge_holds_in-clause-edges c =
    let rows = c.args.rows.now in
    let read = sym (get_or_from_slice_get rows (c.loop-k.k - 1) c.row-before.result.now [] c.row-before.ensures) in grind arith

pub returns-then-not-edge_holds_in-clause-bounds : goal.returns-then-not-edge_holds_in-clause-bounds
returns-then-not-edge_holds_in-clause-bounds c =
    let rows = c.args.rows.now in
    let read = sym (get_or_from_slice_get rows (c.loop-k.k - 1) c.row-before.result.now [] c.row-before.ensures) in
    raised c.args.costs.now c.args.slack.now rows c.args.places (length rows) c.args.i c.loop-k.k c.row-before.result.now
    (lists_of c.loop-k.bounds) (lists_of c.edge_holds_in.new.bounds) read
    (row-length rows (length rows) c.args.places c.loop-k.k c.row-before.result.now c.requires.rows.shape (omega arith) (omega arith) read)
    (omega (arith, lists-length c.loop-k.bounds, lists-length c.edge_holds_in.new.bounds)) c.edge_holds_in.ensures.others
    c.edge_holds_in.ensures.bounds c.loop-k.invariant.bounds

pub loop-k-preserved : goal.loop-k-preserved
loop-k-preserved c =
    let rows = c.args.rows.now in
    let read = sym (get_or_from_slice_get rows (c.loop-k.k - 1) c.row-before.result.now [] c.row-before.ensures) in
    let size = row-length rows (length rows) c.args.places c.loop-k.k c.row-before.result.now c.requires.rows.shape (omega arith) (omega arith) read in
    record {
      edges = grind arith;
      bounds = raised c.args.costs.now c.args.slack.now rows c.args.places (length rows) c.args.i c.loop-k.k c.row-before.result.now
          (lists_of c.loop-k.bounds) (lists_of c.edge_holds_in.new.bounds) read size
          (omega (arith, lists-length c.loop-k.bounds, lists-length c.edge_holds_in.new.bounds)) c.edge_holds_in.ensures.others
          c.edge_holds_in.ensures.bounds c.loop-k.invariant.bounds;
      above = c.number-number.ensures;
      order = omega (arith, c.loop-k.invariant.order, c.alike_with-here.ensures.order);
      alike = grind arith;
    }

pub returns-clause-alike : goal.returns-clause-alike
returns-clause-alike c = grind arith

pub returns-then-not-edge_holds_in-clause-alike : goal.returns-then-not-edge_holds_in-clause-alike
returns-then-not-edge_holds_in-clause-alike c = omega arith

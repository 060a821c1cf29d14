-- What the walk over a row's edges has at hand of a place and of an end.
use Rattle.std.specs.Prelude.{◌≡◌, ℕ, ◌+◌, ◌-◌, ◌*◌, ◌≤◌, ◌^◌, List, slice_index}
use Rattle.class_table.specs.declared.sizes.TheConstants.{GRANULE_BYTES}
use Rattle.potential_check.specs.{Certificates.Spanned.{IsSpanned, Spanned}, declared.edge_walk.End.{End}, declared.edge_walk.Start.{Start}}
use Rattle.tuner_theory.specs.Spans.{bytes_up_to, counted_up_to, need_at, places}

-- A place of this row, with the number there and the sums up to it.
pub record IsStart (s : Spanned) (row : List ℕ) (start : Start) : Type 0 where
  pub number : start.number ≡ slice_index row start.place
  pub bounded : start.number ≤ 2 ^ 58
  pub requests : start.requests ≡ counted_up_to s.counts s.step (need_at s.counts s.step start.place)
  pub bytes : start.bytes ≡ bytes_up_to s.counts s.step (need_at s.counts s.step start.place)

-- An end, with the payload of its class and the bytes asked for up to it. The reach is the payload of all requests up to it, and the number
-- there of the row before.
pub record IsEnd (s : Spanned) (before : List ℕ) (end : End) : Type 0 where
  pub spanned : IsSpanned s
  pub within : end.place ≤ places s.counts s.step
  pub payload : end.payload ≡ GRANULE_BYTES * (need_at s.counts s.step end.place - 1)
  pub bytes : end.bytes ≡ bytes_up_to s.counts s.step (need_at s.counts s.step end.place)
  pub reach : end.reach ≡ end.payload * counted_up_to s.counts s.step (need_at s.counts s.step end.place) + slice_index before end.place

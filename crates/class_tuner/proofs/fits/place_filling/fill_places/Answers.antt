use Rattle.std.proofs.{Common.{length, arith, ap}, lemmas.List.{with_items_is}}
use Rattle.class_tuner.proofs.fits.place_filling.fill_places.Goals as goal

pub fill_all-requires : goal.fill_all-requires
fill_all-requires g c =
    let is = c.places-places.ensures in
    record {
      some = c.requires.some;
      few = c.requires.few;
      places = c.requires.places;
      room = c.requires.room;
      rows = rw (c.deref_mut.ensures.value, c.deref_mut-2.ensures.value, ← is) c.in_ok-filled.ensures;
      memory = rw (← is) c.in_ok-memory.ensures;
    }

pub returns : goal.returns
returns g c =
    let rows = with_items_is c.in_ok-filled.filled.rows c.fill_all.new.rows
    (omega (arith, c.fill_all.auto.rows, ap length c.deref_mut.ensures.value)) in
    let ends = with_items_is c.in_ok-filled.filled.ends c.fill_all.new.ends
    (omega (arith, c.fill_all.auto.ends, ap length c.deref_mut-2.ensures.value)) in
    record { filled = rw (rows, ends) c.fill_all.ensures.filled; counted = c.fill_all.ensures.counted; not_asked = tt }

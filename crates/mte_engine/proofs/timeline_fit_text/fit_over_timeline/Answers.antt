use Rattle.std.proofs.Common.{List, ℕ, ap, inl, inr, subst, ◌∙◌}
use Rattle.class_tuner.specs.Fits.Timelines.Found.{IsBetween}
use Rattle.mte_engine.specs.declared.engine.Status.TheVariants.{Done, No}
use Rattle.potential_check.specs.Certificates.SheetView.{sheet_of}
use Rattle.mte_engine.proofs.timeline_fit_text.fit_over_timeline.Goals as goal

pub returns-in_ok-of_text-in-Between : goal.returns-in_ok-of_text-in-Between
returns-in_ok-of_text-in-Between c =
    let found = rw c.in-Between.is at c.in_ok-fitted.ensures.found in
    let text = rw (c.in-Between.table-is, c.in-Between.takes-is, c.in-Between.least-is) at c.in_ok-text-in-Between.ensures in
    inr (record {
      table = c.in-Between.table;
      takes = c.in-Between.takes;
      least = c.in-Between.least;
      between = subst (λ (made : ℕ). IsBetween c.args.timeline.now c.args.step c.args.limit c.args.forced made c.in-Between.table
          c.in-Between.takes c.in-Between.least) found.0 found.1;
      written = ap (λ (t : List ℕ). record { text = t; status = No }) (c.in_ok-of_text-in-Between.ensures ∙ text);
    })

pub returns-in_ok-of_text-in-Least : goal.returns-in_ok-of_text-in-Least
returns-in_ok-of_text-in-Least c =
    let found = rw c.in-Least.is at c.in_ok-fitted.ensures.found in
    let text = rw (c.deref.ensures.value, c.in-Least.fit-is, c.in-Least.numbers-is) at c.in_ok-text-in-Least.ensures in
    inl (record {
      made = c.in_ok-fitted.fitted.rounds;
      few = found.0;
      numbers = c.in-Least.numbers.items;
      fit = sheet_of c.in-Least.fit;
      least = found.1;
      written = ap (λ (t : List ℕ). record { text = t; status = Done }) (c.in_ok-of_text-in-Least.ensures ∙ text);
    })

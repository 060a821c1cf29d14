use Rattle.std.proofs.{Common.{◌≡◌, ◌==◌, ◌∙◌, [], ap, arith, length, sym}, lemmas.Option.{get_or_from_slice_get}}
use Rattle.tuner_theory.{proofs.LawLemmas.{few_places}, proofs.Served.{served_are_counts}, specs.Served.{served}}
use Rattle.mte_c.specs.Arrays.Calls.{places_by}
use Rattle.mte_c.proofs.arrays.tuning.row_length.Goals as goal

pub returns-clause-length : goal.returns-clause-length
returns-clause-length c =
    let first = get_or_from_slice_get c.args.rows.now 0 c.row.result.now [] c.row.ensures in
    ap length (sym first) ∙ c.requires.shape 0 [] c.requires.some

pub returns-clause-few : goal.returns-clause-few
returns-clause-few c =
    let first = get_or_from_slice_get c.args.rows.now 0 c.row.result.now [] c.row.ensures in
    let forced = c.args.options.largest_class == 1 in
    let long : length c.row.result.now ≡ places_by c.args.options c.args.profile.now =
    ap length (sym first) ∙ c.requires.shape 0 [] c.requires.some in
    omega (
      arith,
      long,
      few_places (served forced c.args.profile.now.counts) c.args.options.step c.requires.step
          (served_are_counts forced c.args.profile.now.counts c.requires.counts),
    )

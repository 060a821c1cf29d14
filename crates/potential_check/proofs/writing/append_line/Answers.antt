use Rattle.std.proofs.Common.{◌≡◌, ℕ, List, [], ◌∷◌, ◌++◌, length, refl, sym, ap, ◌∙◌, append_assoc, append-nil, length-append, arith}
use Rattle.std.proofs.lemmas.{List.{take-append-drop}, List.Concat.{flat_map-append}}
use Rattle.potential_check.{proofs.Appended.{named_line-spaced}, specs.Spaced.{spaced}}
use Rattle.line_text.proofs.LawLemmas.{prefix_of_prefix}
use Rattle.potential_check.proofs.writing.append_line.Goals as goal

spaced-parts : (next later : List ℕ) → spaced (next ++ later) ≡ spaced next ++ spaced later
spaced-parts next later = rw flat_map-append refl

spaced-none : (rest : List ℕ) → length rest ≡ 0 → spaced rest ≡ []
spaced-none [] none = refl
spaced-none (n ∷ rest) none = absurd (omega arith)

pub returns-in_err-append_spaced-clause-kept : goal.returns-in_err-append_spaced-clause-kept
returns-in_err-append_spaced-clause-kept c = prefix_of_prefix _ _ _ c.loop-rest.invariant.kept c.append_spaced.ensures.kept

pub loop-rest-preserved : goal.loop-rest-preserved
loop-rest-preserved c =
    let text = c.loop-rest.text.items in
    let next = c.split_at.result.0.now in
    let later = c.split_at.result.1.now in
    let split : next ++ later ≡ c.loop-rest.rest.now =
    rw (c.split_at.ensures.front, c.split_at.ensures.back) (take-append-drop c.min.result c.loop-rest.rest.now) in
    let parts : spaced next ++ spaced later ≡ spaced c.loop-rest.rest.now = sym (spaced-parts next later) ∙ ap spaced split in
    record {
      written = grind (arith, append_assoc);
      kept = prefix_of_prefix _ _ _ c.loop-rest.invariant.kept c.append_spaced.ensures.kept;
      capacity = omega (arith, c.loop-rest.invariant.capacity);
      len = omega (arith, c.loop-rest.invariant.len, ap length split, length-append {A = ℕ});
    }

pub returns-clause-written : goal.returns-clause-written
returns-clause-written c = grind (arith, spaced-none, append-nil, append_assoc, named_line-spaced)

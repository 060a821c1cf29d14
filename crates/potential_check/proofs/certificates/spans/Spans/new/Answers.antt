use Rattle.std.proofs.{Common.{◌≡◌, ◌≤◌, [], slice_index, add-one, arith, ◌∙◌}, Math.Nat.{mul-le-mul}, lemmas.Bool.{both_ways}}
use Rattle.class_table.specs.Sizes.{largest_counted}
use Rattle.tuner_theory.specs.{Profiles.{greatest_count}, Spans.{rounded_need}}
use Rattle.potential_check.proofs.CertificateLemmas.SpansBuilt.{HasPlace, built-add, built-end, built-none, built-skips, built-small}
use Rattle.potential_check.{proofs.CertificateLemmas.SpansBuilt.{place-new, place-same}, specs.Certificates.Spanned.{last_need}}
use Rattle.potential_check.proofs.certificates.spans.Spans.new.Goals.{then-not-is_last+in_ok-push+in_ok-push-2+in_ok-push-3}
use Rattle.potential_check.proofs.certificates.spans.Spans.new.Goals.{else-not-is_last}
use Rattle.potential_check.proofs.certificates.spans.Spans.new.Goals as goal

pub loop-n-init : goal.loop-n-init
loop-n-init c =
    let counts = c.args.profile.now.counts in
    let next = c.next_counted-n.ensures.next in
    record {
      built = rw (c.in_ok-needs.ensures.items, c.in_ok-counted.ensures.items, c.in_ok-bytes.ensures.items)
          (built-skips counts c.args.step 0 c.next_counted-n.result 0 0 [] [] [] c.requires next.order next.passed
          (built-none counts c.args.step c.requires));
      are_counts = c.next_counted-n.ensures.profile.counts;
      within = next.within (omega arith);
      some = next.counted;
    }

pub overflow_add-total : goal.overflow_add-total
overflow_add-total c =
    let small = built-small c.args.profile.now.counts c.args.step c.loop-n.n c.loop-n.total c.loop-n.total_bytes
    c.loop-n.needs.items c.loop-n.counted.items c.loop-n.bytes.items c.count.ensures.profile.counts (omega arith)
    c.loop-n.invariant.built in
    omega (arith, small.0)

pub overflow_add-total_bytes : goal.overflow_add-total_bytes
overflow_add-total_bytes c =
    let small = built-small c.args.profile.now.counts c.args.step c.loop-n.n c.loop-n.total c.loop-n.total_bytes
    c.loop-n.needs.items c.loop-n.counted.items c.loop-n.bytes.items c.count.ensures.profile.counts (omega arith)
    c.loop-n.invariant.built in
    let count : c.from-count.result ≤ greatest_count =
    omega (arith, c.count.ensures.profile.counts.in_range c.loop-n.n 0 (omega (arith, c.count.ensures.profile.counts.sizes))) in
    let n : c.from.result ≤ largest_counted = omega arith in
    omega (arith, small.1, mul-le-mul count n)

pub loop-n-preserved : goal.loop-n-preserved
loop-n-preserved c =
    let counts = c.args.profile.now.counts in
    let n = c.loop-n.n in
    let next = c.next_counted-n-in-loop-n.ensures.next in
    let place : HasPlace counts c.args.step n c.if-not-is_last.needs.items c.if-not-is_last.counted.items c.if-not-is_last.bytes.items
    c.loop-n.total c.loop-n.total_bytes = elim c.if-not-is_last.branch [
      | then-not-is_last+in_ok-push+in_ok-push-2+in_ok-push-3 v ↦
          (let new : last_need c.loop-n.needs.items ≡ rounded_need c.args.step n → ⊥ =
          (λ e. both_ways c.is_last.result v.if-not-is_last.true
          (c.is_last.ensures.1 (rw (c.deref.ensures.value, c.rounded_need-need.ensures.need) e))) in
          simp (
            v.needs-is,
            v.counted-is,
            v.bytes-is,
            v.in_ok-push.ensures.items,
            v.in_ok-push-2.ensures.items,
            v.in_ok-push-3.ensures.items,
            c.rounded_need-need.ensures.need,
          )
          (place-new counts c.args.step c.requires n _ _ _ _ _ new c.loop-n.invariant.built))
      | else-not-is_last v ↦
          (let last : last_need c.loop-n.needs.items ≡ rounded_need c.args.step n =
          (rw c.deref.ensures.value at (c.is_last.ensures.0 v.if-not-is_last.false)) ∙ c.rounded_need-need.ensures.need in
          simp (v.needs-is, v.counted-is, v.bytes-is)
          (place-same counts c.args.step c.requires n _ _ _ _ _ last c.loop-n.invariant.built))
    ] in
    let count : c.from-count.result ≡ slice_index counts n = c.from-count.ensures ∙ c.count.ensures.count in
    let added = built-add counts c.args.step c.requires n _ _ _ _ _ (c.loop-n.invariant.some (omega (arith, c.loop-n.invariant.are_counts.sizes))) place in
    record {
      built = simp (c.from.ensures, count)
          (built-skips counts c.args.step _ _ _ _ _ _ _ c.requires next.order next.passed (rw add-one added));
      are_counts = c.loop-n.invariant.are_counts;
      within = next.within (omega (arith, c.loop-n.invariant.are_counts.sizes));
      some = next.counted;
    }

pub invariant_of-result : goal.invariant_of-result
invariant_of-result c =
    rw (c.in_ok-push-4.ensures.items, c.in_ok-push-5.ensures.items)
    (built-end c.args.profile.now.counts c.args.step c.loop-n.n c.loop-n.total c.loop-n.total_bytes c.loop-n.needs.items
    c.loop-n.counted.items c.loop-n.bytes.items
    c.requires c.loop-n.invariant.are_counts (omega (arith, c.loop-n.invariant.are_counts.sizes, c.loop-n.invariant.within))
    c.loop-n.invariant.built)

pub returns-clause-valid : goal.returns-clause-valid
returns-clause-valid c = record { is_step = c.requires; are_counts = c.loop-n.invariant.are_counts }

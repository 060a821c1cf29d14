use Rattle.std.proofs.Common.{◌≡◌, ◌*◌, ◌≤◌, ◌<◌, ◌∙◌, ap, arith, length, nat_lt, refl, slice_index, sym}
use Rattle.std.specs.Int.{from_bool}
use Rattle.tuner_theory.{proofs.Sums.{sum_below-none}, specs.Profiles.{greatest_count}, specs.Waste.{sum_below}}
use Rattle.claim_line.proofs.Counting.{small_bytes, small_flag, sum_goes_on}
use Rattle.claim_line.proofs.requests.requests_of.Goals as goal

pub loop-size-init : goal.loop-size-init
loop-size-init c = record {
  sizes = sym (sum_below-none _);
  few = omega arith;
  requests = sym (sum_below-none _);
  bounded = omega arith;
  bytes = sym (sum_below-none _);
  small = omega arith;
}

pub loop-size-preserved : goal.loop-size-preserved
loop-size-preserved c =
    let counts = c.args.profile.now.counts in
    let size = c.loop-size.size in
    let i = c.loop-size.invariant in
    let read = c.count-count.ensures in
    let within : size < length counts = omega (arith, read.profile.counts.sizes, c.loop-size-test.true) in
    let few : c.count-count.result ≤ greatest_count = omega (arith, read.count, read.profile.counts.in_range size 0 within) in
    let flag : c.from-sizes.result ≡ from_bool (nat_lt 0 (slice_index counts size)) =
    c.from-sizes.ensures ∙ ap (λ n. from_bool (nat_lt 0 n)) read.count in
    let request = c.from-requests.ensures ∙ read.count in
    let asked : c.from.result * c.from-in-loop-size.result ≡ slice_index counts size * size =
    ap (λ n. n * c.from-in-loop-size.result) (c.from.ensures ∙ read.count) ∙ ap (λ n. slice_index counts size * n) c.from-in-loop-size.ensures in
    let bound = small_bytes c.from.result c.from-in-loop-size.result (omega (arith, c.from.ensures, few))
    (omega (arith, c.from-in-loop-size.ensures, c.loop-size-test.true)) in
    record {
      sizes = sum_goes_on _ size _ _ i.sizes flag;
      few = omega (arith, i.few, c.from-sizes.ensures, small_flag (nat_lt 0 c.count-count.result));
      requests = sum_goes_on _ size _ _ i.requests request;
      bounded = omega (arith, i.bounded, c.from-requests.ensures, few);
      bytes = sum_goes_on _ size _ _ i.bytes asked;
      small = omega (arith, i.small, bound);
    }

pub returns : goal.returns
returns c =
    let counts = c.args.profile.now.counts in
    let i = c.loop-size.invariant in
    let all : c.loop-size.size ≡ length counts =
    omega (arith, c.loop-size-test.false, c.loop-size.auto.size-end, c.large.ensures.profile.counts.sizes) in
    rw (i.sizes, i.requests, i.bytes, c.from-2.ensures, c.large.ensures.large, all) refl

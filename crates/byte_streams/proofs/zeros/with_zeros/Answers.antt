use Rattle.std.proofs.Common.{◌≡◌, ◌++◌, ◌+◌, ◌-◌, ◌≤◌, ◌∙◌, ℕ, List, ap, sym, arith, replicate, append-nil, append_assoc, length, take}
use Rattle.std.proofs.{Common.{vec_len}, lemmas.List.{replicate-append-replicate, take_all}}
use Rattle.byte_streams.proofs.zeros.with_zeros.Goals as goal

pub runs-init : goal.runs-init
runs-init c = (
  0,
  record {
    zeros = c.in_ok-reserve.ensures.items ∙ sym (append-nil c.args.bytes.items);
    long = omega (arith, c.len.ensures);
    few = omega arith;
  },
)

pub runs-smaller : goal.runs-smaller
runs-smaller c =
    omega (arith, c.in_ok-resize.ensures.len, c.min.ensures, c.runs-test.true, c.len-in-runs.ensures, c.len-in-runs-2.ensures, c.len-in-runs-3.ensures)

pub runs-preserved : goal.runs-preserved
runs-preserved c =
    let inv = c.runs.invariant.1 in
    let done = c.runs.invariant.0 in
    let k = c.min.result in
    let text = c.args.bytes.items in
    let now = c.runs.bytes.items in
    let kept : length now ≤ c.len-in-runs-3.result + k = omega (arith, c.len-in-runs-3.ensures, c.runs.bytes.ok.0) in
    let more : c.len-in-runs-3.result + k - vec_len c.runs.bytes ≡ k = omega (arith, c.len-in-runs-3.ensures) in (
      done + k,
      record {
        zeros =
            c.in_ok-resize.ensures.items
            ∙ ap (λ (n : ℕ). take (c.len-in-runs-3.result + k) now ++ replicate n 0) more
            ∙ ap (λ (t : List ℕ). t ++ replicate k 0) (take_all _ now kept ∙ inv.zeros)
            ∙ append_assoc text (replicate done 0) (replicate k 0)
            ∙ ap (λ (t : List ℕ). text ++ t) (replicate-append-replicate done k 0);
        long = omega (arith, inv.long, c.in_ok-resize.ensures.len, c.len-in-runs-3.ensures);
        few = omega (arith, inv.long, c.min.ensures, c.len-in-runs-2.ensures, c.len-in-runs.ensures, c.runs-test.true);
      },
    )

pub returns-clause-items : goal.returns-clause-items
returns-clause-items c =
    let inv = c.runs.invariant.1 in
    let all : c.runs.invariant.0 ≡ c.args.count = omega (arith, inv.long, inv.few, c.runs-test.false, c.len-in-runs.ensures) in
    inv.zeros ∙ ap (λ (n : ℕ). c.args.bytes.items ++ replicate n 0) all

pub returns-clause-len : goal.returns-clause-len
returns-clause-len c =
    let inv = c.runs.invariant.1 in omega (arith, inv.long, inv.few, c.runs-test.false, c.len-in-runs.ensures, c.len.ensures, c.in_ok-reserve.ensures.len)

use Rattle.std.proofs.Common.{◌≡◌, ◌<◌, ◌++◌, length, get_or, refl, ◌∙◌, arith, append_assoc, append-nil}
use Rattle.std.specs.Fmt.{decimal}
use Rattle.line_text.{proofs.LawLemmas.{prefix_of_prefix}, specs.Lines.{ended}}
use Rattle.profile_count.{proofs.SizeLines.{text_from-counted, text_from-end, text_from-zero}, specs.ProfileText.{size_line}}
use Rattle.profile_count.proofs.writing.append_sizes.Goals.{then-count-gt0+in_ok-append_line, else-count-gt0}
use Rattle.profile_count.proofs.writing.append_sizes.Goals as goal

pub loop-size-preserved : goal.loop-size-preserved
loop-size-preserved c =
    let counts = c.args.profile.now.counts in
    let size = c.loop-size.size in
    let before = c.loop-size.text.items in
    let within : size < length counts = omega (arith, c.requires.counts.sizes) in
    elim c.if-count-gt0.branch [
      | then-count-gt0+in_ok-append_line w ↦
          let count : c.count-count.result ≡ get_or counts size 0 = c.count-count.ensures.count in
          let word : w.as_bytes.result.now ≡ decimal size = w.as_bytes.ensures.value ∙ w.format.ensures.text in
          let appended : c.if-count-gt0.text.items ≡ before ++ ended (size_line size (get_or counts size 0)) =
          rw w.text-is (w.in_ok-append_line.ensures.written ∙ rw (word, count) refl) in
          let counted = text_from-counted counts size within (omega (arith, count, w.if-count-gt0.true)) in
          record {
            rest =
                grind (arith, append_assoc);
            kept = rw w.text-is (prefix_of_prefix _ _ _ c.loop-size.invariant.kept w.in_ok-append_line.ensures.kept);
          }
      | else-count-gt0 w ↦
          grind (arith, text_from-zero)
    ]

pub returns-clause-written : goal.returns-clause-written
returns-clause-written c = grind (arith, text_from-end, append-nil)

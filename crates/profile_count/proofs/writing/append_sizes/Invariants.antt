use Rattle.std.proofs.Common.{◌≡◌, ◌++◌}
use Rattle.line_text.specs.{Lines.{text_of}, Prefixes.{IsPrefix}}
use Rattle.profile_count.{proofs.SizeLines.{text_from}, specs.ProfileText.{size_lines}}
use Rattle.profile_count.proofs.writing.append_sizes.Given as goal

abbrev pub invariant-loop-size : goal.invariant-loop-size
invariant-loop-size l = record {
  rest : l.fn.text.items ++ text_of (size_lines 0 l.profile.counts) ≡ l.text.items ++ text_from l.profile.counts l.size;
  kept : IsPrefix l.fn.text.items l.text.items;
}

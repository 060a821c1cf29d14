-- What the proofs of the crates above cite of lines, words, numbers, prefixes and first faults.
use Rattle.line_text.specs.Laws.{TextLaws}
pub use Rattle.line_text.proofs.Cuts.{line_in_front_is_read, line_is_its_words, lines_are_lines, text_is_its_lines, words_make_a_line, written_words_are_read}
pub use Rattle.line_text.proofs.Digits.{number_is_spelled, spelled_number_is_a_word, spelled_number_is_read}
pub use Rattle.line_text.proofs.FirstFaults.{one_first_fault}
pub use Rattle.line_text.proofs.FullLines.{cut_lines_are_read, full_lines_are_read, written_lines_are_read}
pub use Rattle.line_text.proofs.HexDigits.{hex_is_spelled, spelled_hex_is_a_word, spelled_hex_is_read}
pub use Rattle.line_text.proofs.LeadingDigits.{short_is_number}
pub use Rattle.line_text.proofs.LineFaults.{GoesOn, IsFormat, MayEnd, ended_goes_on, goes_on_by, headed, headed_ends, headed_goes_on}
pub use Rattle.line_text.proofs.LineFaults.{line_faulty, line_read, lines_before_refusal_spell, no_line, read_after_head, read_has}
pub use Rattle.line_text.proofs.LineFaults.{refused_at_first_fault, refused_line_within, refused_line_within_or_first}
pub use Rattle.line_text.proofs.Prefixes.{equal_is_prefix, prefix_of_prefix}
pub use Rattle.line_text.proofs.Signs.{signed_is_spelled, spelled_signed_is_a_word, spelled_signed_is_read}

pub text_laws : TextLaws
text_laws = record {
  text = text_is_its_lines;
  all_lines = lines_are_lines;
  written_lines = written_lines_are_read;
  full_lines = full_lines_are_read;
  line = line_is_its_words;
  written_words = written_words_are_read;
  makes_line = words_make_a_line;
  spelled = number_is_spelled;
  read = spelled_number_is_read;
  word = spelled_number_is_a_word;
}

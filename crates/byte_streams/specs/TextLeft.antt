-- What is still to be written of a text.
use Rattle.std.specs.Prelude.{ℕ, List, drop}
use Rattle.byte_streams.specs.declared.output.Text.{Text}

abbrev pub text_left : Text → List ℕ
text_left output = drop output.written output.text.items

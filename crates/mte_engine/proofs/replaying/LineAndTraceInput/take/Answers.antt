use Rattle.std.proofs.{Common.{◌≡◌, ◌∙◌, ◌++◌, ◌∷◌, ℕ, Bool, true, false, List, ap}, lemmas.List.{append_assoc}}
use Rattle.std.proofs.lemmas.Result.{IfOk-weaker}
use Rattle.trace_reader.{proofs.LawLemmas.{pieces_are_joined}, specs.Reading.{Reading, fed, nothing_read}}
use Rattle.mte_engine.specs.Traces.{KeepsLineAndEvents}
use Rattle.mte_engine.proofs.replaying.LineAndTraceInput.take.Goals as goal

-- after the first line, a piece is the trace's
keeps_piece : (ended : Bool) (line : List ℕ) (old new : Reading) (piece bytes : List ℕ) → ended ≡ true → new ≡ fed old piece
    → KeepsLineAndEvents ended line old bytes → KeepsLineAndEvents ended line new (bytes ++ piece)
keeps_piece false line old new piece bytes ended is keeps = cc
keeps_piece true line old new piece bytes ended is (trace, parts, is_line, keeps) = (
  trace ++ piece,
  ap (λ text. text ++ piece) parts ∙ append_assoc line (10 ∷ trace) piece,
  is_line,
  is ∙ ap (λ reading. fed reading piece) keeps ∙ pieces_are_joined nothing_read trace piece,
)

pub returns-then-self : goal.returns-then-self
returns-then-self c =
    IfOk-weaker c.feed.result _ _
    (λ _ is bytes. keeps_piece c.args.self.now.line_has_ended c.args.self.now.line.items c.args.self.now.reader c.feed.new.reader
    c.args.piece.now bytes c.if-self.true is) c.feed.ensures.fed

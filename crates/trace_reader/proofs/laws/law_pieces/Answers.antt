use Rattle.trace_reader.proofs.{Feeding.{fed_after_events, finished_after_events, pieces_are_joined}, Pieces.{pieces_are_the_text}}
use Rattle.trace_reader.proofs.laws.law_pieces.Goals as goal

pub returns-clause-joined : goal.returns-clause-joined
returns-clause-joined c = pieces_are_joined

pub returns-clause-text : goal.returns-clause-text
returns-clause-text c = pieces_are_the_text

pub returns-clause-after : goal.returns-clause-after
returns-clause-after c = fed_after_events

pub returns-clause-end_after : goal.returns-clause-end_after
returns-clause-end_after c = finished_after_events

-- The report on a trace: a line for each event that is not silent, and the lines of totals.
use Rattle.std.specs.{Fmt.{decimal}, List.{flat_map}, Prelude.{ℕ, ◌+◌, List, [], ◌∷◌, ◌++◌, codes, zip}}
use Rattle.line_text.specs.{Hexadecimal.{hex}, Lines.{line_of, ended, text_of}}
use Rattle.class_table.specs.{Layout.{Partition}, NamedLines.{named_line}}
use Rattle.trace_event.specs.declared.event.Event.{Event}
use Rattle.heap_theory.specs.declared.place_kind.{PlaceKind.{PlaceKind}, PlaceKind.TheVariants.{Slack, Header, Tail, Dead, Other}}
use Rattle.heap_theory.specs.declared.refusal.{FreeError.{FreeError}, FreeError.TheVariants.{Misplaced, NotLive, WrongTag}}
use Rattle.heap_theory.specs.declared.refusal.{NullCause.{NullCause}, NullCause.TheVariants.{Large, NoClass, Exhausted}}
use Rattle.replay_theory.specs.{Replay.{Answer, answers, first_replay}, Totals.{Totals, totals_of}}
use Rattle.replay_theory.specs.Replay.Answer.{Silent, Loaded, NotMapped, TagFault, NoPointer, NotFreed}

abbrev pub kind_word : PlaceKind → List ℕ
kind_word Slack = codes "slack"
kind_word Header = codes "header"
kind_word Tail = codes "tail"
kind_word Dead = codes "dead"
kind_word Other = codes "other"

abbrev pub cause_word : NullCause → List ℕ
cause_word Large = codes "large"
cause_word NoClass = codes "no-class"
cause_word Exhausted = codes "exhausted"

abbrev pub error_word : FreeError → List ℕ
error_word Misplaced = codes "misplaced"
error_word NotLive = codes "not-live"
error_word WrongTag = codes "wrong-tag"

-- the words after an event's number; none if it has no line
abbrev pub answer_words : Answer → List (List ℕ)
answer_words Silent = []
answer_words (Loaded bytes) = codes "data" ∷ flat_map hex bytes ∷ []
answer_words NotMapped = codes "fault" ∷ codes "unmapped" ∷ []
answer_words (TagFault granule memory_tag pointer_tag kind) =
    codes "fault" ∷ codes "tag" ∷ codes "granule" ∷ decimal granule ∷ codes "memory" ∷ decimal memory_tag ∷ codes "pointer" ∷ decimal
    pointer_tag
    ∷ codes "in" ∷ kind_word kind ∷ []
answer_words (NoPointer cause) = codes "null" ∷ cause_word cause ∷ []
answer_words (NotFreed error) = codes "refused" ∷ error_word error ∷ []

abbrev pub line_with : ℕ → List (List ℕ) → List ℕ
line_with number [] = []
line_with number (word ∷ words) = ended (line_of (decimal number ∷ word ∷ words))

-- The line of the event of this number with its newline, or nothing.
unfoldable pub report_line : ℕ → Answer → List ℕ
report_line number answer = line_with number (answer_words answer)

-- The lines of events that are numbered from here on.
unfoldable pub report_lines : ℕ → List Answer → List ℕ
report_lines number [] = []
report_lines number (answer ∷ rest) = report_line number answer ++ report_lines (number + 1) rest

abbrev pub total_line : List ℕ → ℕ → List ℕ
total_line name total = named_line name (total ∷ [])

-- The lines of totals.
unfoldable pub totals_text : Totals → List ℕ
totals_text t = text_of (
    total_line (codes "events") t.events
    ∷ total_line (codes "requests") t.requests
    ∷ total_line (codes "null large") t.null_large
    ∷ total_line (codes "null no-class") t.null_no_class
    ∷ total_line (codes "null exhausted") t.null_exhausted
    ∷ total_line (codes "faults tag") t.faults_tag
    ∷ total_line (codes "faults unmapped") t.faults_unmapped
    ∷ total_line (codes "refused frees") t.refused_frees
    ∷ total_line (codes "loss") t.loss
    ∷ [])

abbrev pub report_from : List ℕ → List Event → List Answer → List ℕ
report_from classes events given = report_lines 1 given ++ totals_text (totals_of classes (zip events given))

-- The whole report on the events of a trace.
unfoldable pub report : Partition → ℕ → ℕ → List Event → List ℕ
report layout seed quarantine events = report_from layout.classes events (answers (first_replay layout seed quarantine) events)

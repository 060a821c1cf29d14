use Rattle.std.proofs.Common.{◌≡◌, sym, Err, refl}
use Rattle.trace_reader.specs.{Reached.{answer_of}, Reading.{Reading, State, finished}, Reading.State.{Failed, Open, Finished}}
use Rattle.trace_reader.specs.declared.fault.{TraceError.{TraceError}, TraceError.TheVariants.{Line}}
use Rattle.mte_step.proofs.picture.read_whole.Goals as goal

-- A trace that was refused for its first fault.
failed_with : (state : State) (error : TraceError) → Err error ≡ answer_of state → state ≡ Failed error
failed_with (Open lines rest) error is = absurd cc
failed_with (Failed other) error is = cc
failed_with Finished error is = absurd cc

stays_failed : (reading : Reading) (error : TraceError) → reading.state ≡ Failed error → (finished reading).state ≡ Failed error
unfolding finished
stays_failed reading error failed = rw failed refl

pub returns-in-Err-Line-clause-read : goal.returns-in-Err-Line-clause-read
returns-in-Err-Line-clause-read c =
    let error = Line c.in-Err-Line.field-0-0 c.in-Err-Line.field-0-1 in
    let failed : c.feed.new.self.state ≡ Failed error =
    failed_with c.feed.new.self.state error (cc (c.in-Err-Line.is, c.in-Err-Line.field-0-is, c.feed.ensures.answer)) in
    let whole = c.feed.ensures.reading (λ out. absurd (cc (c.in-Err-Line.is, c.in-Err-Line.field-0-is, out))) in (
      c.in-Err-Line.field-0-0,
      c.in-Err-Line.field-0-1,
      rw (sym c.new-reader.ensures, sym whole) (stays_failed c.feed.new.self error failed),
    )

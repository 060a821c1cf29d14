use Rattle.std.proofs.Common.{refl}
use Rattle.line_text.proofs.DigitEnds.{all_eight, digit_end}
use Rattle.line_text.proofs.digit_words.digit_count.Goals as goal

pub returns-clause-count : goal.returns-clause-count
returns-clause-count c =
    digit_end c.args.bytes.now c.from_le_bytes-digits.result _ c.told-bytes c.fits-bytes c.from_le_bytes-digits.ensures refl c.if-others-eq0.false

pub returns-then-others-eq0-clause-all : goal.returns-then-others-eq0-clause-all
returns-then-others-eq0-clause-all c =
    all_eight c.args.bytes.now c.from_le_bytes-digits.result c.told-bytes c.fits-bytes c.from_le_bytes-digits.ensures c.if-others-eq0.true

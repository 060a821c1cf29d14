use Rattle.std.{proofs.Common.{ℕ, ◌+◌, ◌-◌, ◌*◌, ◌%◌, ◌^◌, ◌∙◌, ◌∷◌, ◌++◌, [], ap, refl, arith}, specs.Fmt.{decimal}}
use Rattle.trace_reader.proofs.ThreeDigits.{AreThree, are_three, three_of}
use Rattle.trace_reader.proofs.one_pass.three_in.Goals as goal

-- the digits of the word, less those of 100
abbrev digits : (c : goal.Else-digits-ne0) → ℕ
digits c = (c.args.word + (2 ^ 32 - (3158065 + c.from.result * 16777216))) % 2 ^ 32

three : (c : goal.Else-digits-ne0) → AreThree c.args.word c.from.result (digits c)
three c =
    are_three c.args.word c.from.result (digits c) ((digits c + 7763575) % 2 ^ 32) (omega arith) (omega arith) (omega arith) (omega arith) refl
    c.if-digits-ne0.false

pub returns-clause-spelled : goal.returns-clause-spelled
returns-clause-spelled c = (three c).spelled ∙ ap (λ (b : ℕ). decimal (three_of (digits c)) ++ b ∷ []) c.from.ensures

pub returns-clause-few : goal.returns-clause-few
returns-clause-few c = (three c).few

pub returns-clause-many : goal.returns-clause-many
returns-clause-many c = (three c).many

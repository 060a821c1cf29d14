use Rattle.std.proofs.Common.{sym, ◌≡◌, ℕ, ◌^◌, ◌<◌, List, Option, Some, None, Result, Ok, Err, refl, subst, ◌∙◌}
use Rattle.std.{proofs.lemmas.Option.{none-some, same_Some}, specs.Option.{MatchOption}}
use Rattle.std.specs.Str.Parse.{ParsesUnsigned, ExplainsUnsignedError, HasUnsignedDigitsIfOk, IsNumeral, digits_value, without_leading_plus}
use Rattle.clap.{proofs.WalkLemmas.{one_text-rows}, specs.Words.{found_of, one_text, rows_of, Row, ReadsOne, Text, one_of}}
use Rattle.command_words.specs.Options.{HasNumber}
use Rattle.command_words.proofs.options.number.Goals as goal

-- What a typed getter of clap reads is the number that the option's text spells.
module _ {E : Type 0} (G : Text → Result ℕ E → Type 0) (bits : ℕ)
    (only : (text : Text) (r : Result ℕ E) → G text r → ParsesUnsigned bits 10 text r) (options : List Row) (name : Text) where
  abbrev IsNumber : Option ℕ → Type 0
  IsNumber r = MatchOption r ((n : ℕ) → n < 2 ^ bits → HasNumber options name n → ⊥) (HasNumber options name)

  of_text : (text : Text) → one_of name options ≡ Some text → (r : Option ℕ) → ReadsOne G text r → IsNumber r
  of_text text is (Some n) read =
      let parsed = only text (Ok n) read in
      (text, is, parsed.0.0, sym parsed.1)
  of_text text is None read = λ n short has.
      let same : has.0 ≡ text = same_Some _ _ (sym has.1 ∙ is) in
      only text (Err read.0) read.1 (
        subst (λ t. IsNumeral 10 (without_leading_plus t)) same has.2,
        subst (λ t. digits_value 10 (without_leading_plus t) < 2 ^ bits) same (subst (λ k. k < 2 ^ bits) (sym has.3) short),
      )

  pub number_read : (found : Option Text) → one_of name options ≡ found → (r : Option ℕ)
      → (found ≡ None → r ≡ None) → ((text : Text) → found ≡ Some text → ReadsOne G text r) → IsNumber r
  number_read (Some text) is r none some = of_text text is r (some text refl)
  number_read None is r none some = rw (none refl) (λ n short has. none-some _ (sym is ∙ has.1))

pub returns : goal.returns
returns c =
    let found = found_of c.args.options.now in
    number_read (λ text r. ParsesUnsigned 32 10 text r × ExplainsUnsignedError 10 text r × HasUnsignedDigitsIfOk text r) 32
    (λ text r read. read.0) (rows_of found) c.args.name.now (one_text found c.args.name.now) (sym (one_text-rows found c.args.name.now))
    c.get_one.result
    c.get_one.ensures.none c.get_one.ensures.value

use Rattle.std.proofs.Common.{◌≡◌, ℕ, ◌-◌, ◌<◌, ap, sym, subst, ◌∙◌, arith, cond, get_or, ltb, map, refl, zero-add}
use Rattle.std.{proofs.lemmas.List.FromFn.{get_or-map-range_with_len}, specs.Char.{digit_char}, specs.List.{range_with_len}}
use Rattle.trace_reader.specs.declared.hex_values.TheConstants.{VALUES}
use Rattle.trace_reader.proofs.hex_values.hex_value.Goals as goal

value_of : ℕ → ℕ
value_of byte = cond (ltb byte 48) 255 (cond (ltb byte 58) (byte - 48) (cond (ltb byte 97) 255 (cond (ltb byte 103) (byte - 87) 255)))

values_are : VALUES ≡ map value_of (range_with_len 0 256)
unfolding value_of
values_are = refl

spelled : (byte : ℕ) → value_of byte < 16 → byte ≡ digit_char (value_of byte)
unfolding value_of
spelled byte few = grind (arith)

pub returns : goal.returns
returns c =
    let is : get_or VALUES c.from.result 0 ≡ value_of c.args.byte =
    ap (λ byte. get_or VALUES byte 0) c.from.ensures ∙ ap (λ values. get_or values c.args.byte 0) values_are
    ∙ get_or-map-range_with_len value_of 0 256 c.args.byte c.args.byte 0 c.ranges.byte.fits (zero-add c.args.byte) in
    subst (λ value. value < 16 → c.args.byte ≡ digit_char value) (sym is) (spelled c.args.byte)

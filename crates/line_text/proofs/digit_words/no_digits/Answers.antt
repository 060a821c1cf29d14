use Rattle.std.proofs.Common.{◌≡◌, ℕ, ◌+◌, ◌-◌, ◌%◌, ◌^◌, ◌<◌, leb, List, [], ◌∷◌, map, replicate, refl, ap, ◌∙◌, arith, w8, Fits}
use Rattle.std.{proofs.lemmas.Bool.Decides.{nat_tests}, proofs.lemmas.List.{length-map}, specs.Simd.Lanes.{Each1, mask_l, zip2}}
use Rattle.std.proofs.lemmas.Simd.{map-map, mask_l-mod, tops_compared, zip2_splat, zip2_splat_left}
use Rattle.line_text.specs.Numbers.{is_no_digit}
use Rattle.line_text.proofs.digit_words.no_digits.Goals as goal

-- the distance of a byte from `0`
abbrev distance : ℕ → ℕ
distance b = (b + (256 - 48)) % 256

no_digit : (b : ℕ) → b < 256 → leb 10 (distance b) ≡ is_no_digit b
no_digit b small = grind (arith, nat_tests)

tests : (bs : List ℕ) → Each1 (Fits w8) bs → map (λ b. leb 10 (distance b)) bs ≡ map is_no_digit bs
tests [] fits = refl
tests (b ∷ bs) fits = rw (no_digit b fits.0.fits, tests bs fits.1) refl

pub returns : goal.returns
returns c =
    let v = c.args.bytes in
    let long = c.fits-bytes.0 in
    let distances : zip2 (λ a b. (a + (256 - b)) % 256) v (replicate 8 48) ≡ map distance v = zip2_splat (λ a b. (a + (256 - b)) % 256) v 8 48 long in
    ap (λ ms. mask_l ms % 2 ^ 64)
    (tops_compared w8 leb (replicate 8 10) (zip2 (λ a b. (a + (256 - b)) % 256) v (replicate 8 48))
    ∙ ap (zip2 leb (replicate 8 10)) distances ∙ zip2_splat_left leb 10 8 (map distance v) (length-map v distance ∙ long)
    ∙ map-map (leb 10) distance v ∙ tests v c.fits-bytes.1)
    ∙ mask_l-mod (map is_no_digit v) 64 (omega (arith, length-map v is_no_digit, long))

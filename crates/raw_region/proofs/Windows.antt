-- Runs within a window of bytes that is read or written at once.
use Rattle.std.proofs.Common.{◌≡◌, ℕ, ◌+◌, ◌-◌, ◌≤◌, ◌++◌, List, length, take, drop, replicate, sym, ap, ◌∙◌, arith, slice_range}
use Rattle.std.proofs.{Math.Seq.{take-append-add}, lemmas.Simd.{length-chunk, put_chunk_is, put_chunk_whole}}
use Rattle.std.proofs.lemmas.List.{take-take, take-append-drop, take-append-le, take-replicate, drop-drop, length-append, length-drop}
use Rattle.std.{proofs.lemmas.List.{length-take-le, length-replicate, append_assoc}, specs.Simd.Lanes.{chunk, put_chunk}}
use Rattle.raw_region.{proofs.Written.{drop-with_bytes, length-with_bytes, slice_range-add}, specs.Bytes.{with_bytes}}

-- the first bytes of a window are those of the run
pub window_read : (bytes to : List ℕ) (i count : ℕ) → length to ≡ 64 → i + 64 ≤ length bytes → count ≤ 64
    → take count (put_chunk 0 to (chunk i 64 bytes)) ≡ slice_range bytes i (i + count)
window_read bytes to i count long within few =
    let read : List ℕ = chunk i 64 bytes in
    let back : i + count - i ≡ count = omega arith in
    ap (take count) (put_chunk_whole to read (omega (arith, length-chunk i 64 bytes within)))
    ∙ take-take count 64 (drop i bytes) few ∙ ap (λ (n : ℕ). take n (drop i bytes)) (sym back)

-- a window that is written
pub window_put : (bytes window : List ℕ) (i : ℕ) → i + length window ≤ length bytes → put_chunk i bytes window ≡ with_bytes bytes i window
window_put bytes window i fits = grind (arith, put_chunk_is, drop-drop, append_assoc)

-- the first bytes of a window of one byte
pub window_taken : (w : ℕ) (xs : List ℕ) (from to v : ℕ) → from ≤ to → to ≤ from + w → from + w ≤ length xs →
    take to (with_bytes xs from (replicate w v)) ≡ take from xs ++ replicate (to - from) v
window_taken w xs from to v less few fits =
    let front : List ℕ = take from xs in let n : ℕ = to - from in
    let front-long : length front ≡ from = length-take-le from xs (omega arith) in
    let long : length (front ++ replicate w v) ≡ from + w =
    omega (arith, length-append front (replicate w v), length-replicate {A = ℕ} w v) in
    let at : to ≡ length front + n = omega arith in
    grind (arith, take-append-le, take-append-add, take-replicate)

-- A window of one byte is written to a list that from some place on is as an old one, and then the old bytes after a shorter run.
pub overlaid : (w : ℕ) (old xs ys zs rest : List ℕ) (from to v : ℕ) → from ≤ to → to ≤ from + w → to + w ≤ length xs → to + w ≤ length old →
    drop (to + w) xs ≡ drop (to + w) old → ys ≡ with_bytes xs from (replicate w v) → rest ≡ slice_range old to (to + w) →
    zs ≡ with_bytes ys to rest → zs ≡ take from xs ++ replicate (to - from) v ++ drop to old
overlaid w old xs ys zs rest from to v less few fits fits-old same window saved put =
    let run : List ℕ = replicate w v in
    let run-long : length run ≡ w = length-replicate {A = ℕ} w v in
    let after : List ℕ = drop to old in
    let rest-is : rest ≡ take w after = saved ∙ slice_range-add old to w in
    let rest-long : length rest ≡ w = ap length rest-is ∙ length-take-le w after (omega (arith, length-drop to old)) in
    let ends : to + length rest ≡ to + w = omega arith in
    let head : take to ys ≡ take from xs ++ replicate (to - from) v =
    ap (take to) window ∙ window_taken w xs from to v less few (omega arith) in
    let tail : drop (to + length rest) ys ≡ drop w after =
    grind (arith, drop-with_bytes, drop-drop) in
    grind (arith, append_assoc, take-append-drop)

-- and two such windows, one after the other
pub overlaid_twice : (w : ℕ) (old once twice zs rest : List ℕ) (from middle to v : ℕ) → from ≤ middle → middle ≤ from + w → middle ≤ to →
    to ≤ middle + w → to + w ≤ length old → once ≡ with_bytes old from (replicate w v) →
    twice ≡ with_bytes once middle (replicate w 0) → rest ≡ slice_range old to (to + w) → zs ≡ with_bytes twice to rest →
    zs ≡ take from old ++ replicate (middle - from) v ++ replicate (to - middle) 0 ++ drop to old
overlaid_twice w old once twice zs rest from middle to v first few second fewer fits one two saved put =
    let run : List ℕ = replicate w v in
    let run-long : length run ≡ w = length-replicate {A = ℕ} w v in
    let once-long : length once ≡ length old = ap length one ∙ length-with_bytes old run from (omega arith) in
    let same : drop (to + w) once ≡ drop (to + w) old =
    ap (drop (to + w)) one ∙ drop-with_bytes old run from (omega arith) (to + w) (omega arith) in
    overlaid w old once twice zs rest middle to 0 second fewer (omega arith) (omega arith) same two saved put
    ∙ ap (λ (t : List ℕ). t ++ replicate (to - middle) 0 ++ drop to old)
    (ap (take middle) one ∙ window_taken w old from middle v first few (omega arith))

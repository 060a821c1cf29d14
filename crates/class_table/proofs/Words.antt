-- Reading the numbers of a line, word by word.
use Rattle.std.proofs.Common.{◌≡◌, ℕ, ◌<◌, ◌≤◌, Bool, true, false, List, [], ◌∷◌, ◌++◌, length, map, min, take, Option, Some, None, Result}
use Rattle.std.proofs.Common.{Err, refl, sym, ap, ◌∙◌, arith, append_assoc, append-nil, codes, ltb, length-append, option_and_then}
use Rattle.std.{proofs.lemmas.Bool.{lt-ltb, le-ltb, ltb-false}, proofs.lemmas.Bool.Decides.{nat_tests}, specs.Option.{option_map}}
use Rattle.std.{proofs.lemmas.List.{take_all, take-append-le, length-take, length-map, map-append}, specs.Str.{bytes_eq}}
use Rattle.line_text.specs.Numbers.{number_of}
use Rattle.class_table.specs.{ClassLine.{table_of_numbers}, Faults.{fault_from, table_of_classes}}
use Rattle.class_table.specs.{NamedLines.{numbers_of, words_after}, declared.fault.TableError.{TableError}}
use Rattle.class_table.specs.declared.fault.TableError.TheVariants.{BadLine, TooMany}

-- ---- a larger number in place of a number that is no class

abbrev pub clip : ℕ → ℕ
clip n = min n 65535

same_faults : (below : ℕ) (ns : List ℕ) → fault_from below (map clip ns) ≡ fault_from below ns
unfolding fault_from
same_faults below [] = refl
same_faults below (n ∷ ns) = grind (arith, same_faults n ns, nat_tests)

same_classes : (below : ℕ) (ns : List ℕ) → fault_from below ns ≡ None → map clip ns ≡ ns
unfolding fault_from
same_classes below [] none = refl
same_classes below (n ∷ ns) none = grind (arith, same_classes n ns)

same_table : (ns : List ℕ) → length ns ≤ 32 → table_of_classes (map clip ns) ≡ table_of_classes ns
same_table ns few = grind (arith, length-map, le-ltb, same_faults, same_classes)

-- ---- numbers of words

abbrev pub after : List ℕ → Option (List ℕ) → Option (List ℕ)
after front None = None
after front (Some ns) = Some (front ++ ns)

none_first : (w : List ℕ) (ws : List (List ℕ)) → number_of w ≡ None → numbers_of (w ∷ ws) ≡ None
unfolding numbers_of
none_first w ws e = rw e refl

one_more : (front : List ℕ) (w : List ℕ) (ws : List (List ℕ)) (n : ℕ) → number_of w ≡ Some n
    → after front (numbers_of (w ∷ ws)) ≡ after (front ++ n ∷ []) (numbers_of ws)
unfolding numbers_of
one_more front w ws n e = grind (arith, append_assoc)

-- ---- the loop: what was read, what is kept of it, and whether that is not all

pub record SoFar (all rest : List (List ℕ)) (kept : List ℕ) (too_many : Bool) : Type 0 where
  pub front : List ℕ
  pub spelled : numbers_of all ≡ after front (numbers_of rest)
  pub clipped : kept ≡ map clip (take 32 front)
  pub many : too_many ≡ ltb 32 (length front)

pub start : (all : List (List ℕ)) → SoFar all all [] false
start all = grind arith

pub faulty : (all rest new : List (List ℕ)) (w : List ℕ) (kept : List ℕ) (too_many : Bool) → SoFar all rest kept too_many → rest ≡ w ∷ new
    → number_of w ≡ None → table_of_numbers (numbers_of all) ≡ Err BadLine
faulty all rest new w kept too_many so_far parts none = grind (arith, none_first)

length_kept : (all rest : List (List ℕ)) (kept : List ℕ) (too_many : Bool) → (so_far : SoFar all rest kept too_many) →
    length kept ≡ min 32 (length so_far.front)
length_kept all rest kept too_many so_far = ap length so_far.clipped ∙ length-map (take 32 so_far.front) clip ∙ length-take 32 so_far.front

-- a number for which there is room
pub room : (all rest new : List (List ℕ)) (w : List ℕ) (kept : List ℕ) (too_many : Bool) (n : ℕ) → SoFar all rest kept too_many →
    rest ≡ w ∷ new
    → number_of w ≡ Some n → length kept < 32 → SoFar all new (kept ++ clip n ∷ []) false
room all rest new w kept too_many n so_far parts some fits =
    let len : length so_far.front < 32 = omega (arith, length_kept all rest kept too_many so_far) in
    let longer : length (so_far.front ++ n ∷ []) ≤ 32 = omega (arith, length-append so_far.front (n ∷ [])) in
    record {
      front = so_far.front ++ n ∷ [];
      spelled = so_far.spelled ∙ ap (λ ws. after so_far.front (numbers_of ws)) parts ∙ one_more so_far.front w new n some;
      clipped = ap (λ k. k ++ clip n ∷ []) (so_far.clipped ∙ ap (map clip) (take_all 32 so_far.front (omega arith)))
          ∙ sym (map-append clip so_far.front (n ∷ [])) ∙ ap (map clip) (sym (take_all 32 (so_far.front ++ n ∷ []) longer));
      many = sym (le-ltb 32 (length (so_far.front ++ n ∷ [])) longer);
    }

-- and one for which there is none
pub no_room : (all rest new : List (List ℕ)) (w : List ℕ) (kept : List ℕ) (too_many : Bool) (n : ℕ) → SoFar all rest kept too_many →
    rest ≡ w ∷ new
    → number_of w ≡ Some n → 32 ≤ length kept → SoFar all new kept true
no_room all rest new w kept too_many n so_far parts some full =
    let len : 32 ≤ length so_far.front = omega (arith, length_kept all rest kept too_many so_far) in
    record {
      front = so_far.front ++ n ∷ [];
      spelled = so_far.spelled ∙ ap (λ ws. after so_far.front (numbers_of ws)) parts ∙ one_more so_far.front w new n some;
      clipped = so_far.clipped ∙ ap (map clip) (sym (take-append-le 32 so_far.front (n ∷ []) len));
      many = sym (lt-ltb 32 (length (so_far.front ++ n ∷ [])) (omega (arith, length-append so_far.front (n ∷ []))));
    }

all_read : (all : List (List ℕ)) (kept : List ℕ) (too_many : Bool) → (so_far : SoFar all [] kept too_many) →
    numbers_of all ≡ Some so_far.front
unfolding numbers_of
all_read all kept too_many so_far = so_far.spelled ∙ ap Some (append-nil so_far.front)

pub too_many_read : (all rest : List (List ℕ)) (kept : List ℕ) → rest ≡ [] → SoFar all rest kept true →
    table_of_numbers (numbers_of all) ≡ Err TooMany
too_many_read all rest kept none so_far =
    let so_far_now : SoFar all [] kept true = rw none at so_far in
    rw (all_read all kept true so_far_now, sym so_far_now.many) refl

pub few_read : (all rest : List (List ℕ)) (kept : List ℕ) → rest ≡ [] → SoFar all rest kept false →
    table_of_numbers (numbers_of all) ≡ table_of_classes kept
few_read all rest kept none so_far =
    let now : SoFar all [] kept false = rw none at so_far in
    let few : length now.front ≤ 32 = ltb-false 32 (length now.front) (sym now.many) in
    let is : kept ≡ map clip now.front = now.clipped ∙ ap (map clip) (take_all 32 now.front few) in
    rw (all_read all kept false now, is) (sym (same_table now.front few))

-- ---- what a word is

pub no_number : (o : Option ℕ) → None ≡ option_map clip o → o ≡ None
no_number o is = grind arith

pub number_is : (o : Option ℕ) (m : ℕ) → Some m ≡ option_map clip o → (n : ℕ) × (o ≡ Some n) × (m ≡ clip n)
number_is o m is = grind arith

-- ---- the first word

-- the table of a line's words
abbrev pub table_of_words : List (List ℕ) → Result (List ℕ) TableError
table_of_words ws = table_of_numbers (option_and_then numbers_of (words_after (codes "classes") ws))

pub other_name : (w : List ℕ) (ws : List (List ℕ)) → bytes_eq w (codes "classes") ≡ false → table_of_words (w ∷ ws) ≡ Err BadLine
other_name w ws e = rw e refl

pub named : (w : List ℕ) (ws : List (List ℕ)) → bytes_eq w (codes "classes") ≡ true →
    table_of_words (w ∷ ws) ≡ table_of_numbers (numbers_of ws)
named w ws e = rw e refl

use Rattle.std.proofs.Common.{◌≡◌, ◌++◌, ◌∷◌, length, arith, ℕ, ◌<◌, Bool, cond, List}
use Rattle.std.proofs.{Common.{Result, Err, eq-eqb}, lemmas.Grind.{common_steps}, lemmas.List.{length-append, length-map}, lemmas.List.Folds.{list_any-append}}
use Rattle.trace_reader.specs.{TraceLine.{event_of_words, event_named}, declared.fault.TraceFault.{TraceFault}}
use Rattle.trace_reader.specs.declared.fault.TraceFault.TheVariants.{BadWord}
use Rattle.trace_event.specs.declared.event.Event.{Event}
use Rattle.trace_reader.proofs.words.are_full_words.Goals as goal

-- Lines whose words are too many, or of which one is empty.
abbrev bad : Result Event TraceFault
bad = Err BadWord

either : (v : Bool) (a b : Result Event TraceFault) → a ≡ bad → b ≡ bad → cond v a b ≡ bad
either v a b x y = grind arith

many_named : (name a b c d e : List ℕ) (ws : List (List ℕ)) → event_named name (a ∷ b ∷ c ∷ d ∷ e ∷ ws) ≡ bad
many_named name a b c d e ws = grind (arith, either)

-- no event has so many words
many_words : (ws : List (List ℕ)) → 5 < length ws → event_of_words ws ≡ Err BadWord
unfolding event_of_words
many_words x0 many = grind (arith, either, many_named)

empty_word : (front : List (List ℕ)) (word : List ℕ) (after ws : List (List ℕ)) → ws ≡ front ++ word ∷ after → length word ≡ 0 →
    event_of_words ws ≡ Err BadWord
unfolding event_of_words
empty_word front word after ws is none = grind (arith, list_any-append, eq-eqb)

pub returns-then-is_empty-clause-bad : goal.returns-then-is_empty-clause-bad
returns-then-is_empty-clause-bad c = grind (arith, empty_word, many_words, length-append, length-map)

pub loop-word-preserved : goal.loop-word-preserved
loop-word-preserved c = grind (arith, common_steps)

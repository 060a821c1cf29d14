use Rattle.std.{proofs.Common.{◌+◌, ◌*◌, ◌≤◌, arith, length}, specs.Int.{w64, to_le_bytes}}
use Rattle.granule_memory.proofs.{Granules.{granules_counted, granules_fit, word_is}, Writes.{bytes_below, written_fits, written_keeps}}
use Rattle.granule_memory.proofs.memory.Memory.set_word.Goals.{After-set_word}
use Rattle.granule_memory.proofs.memory.Memory.set_word.Goals as goal

-- the word lies in the memory
inside : (c : After-set_word) → c.start_of_granule.result + 8 * c.args.i + 8 ≤ 16 * length c.args.self.now
inside c = omega (arith, c.start_of_granule.ensures, c.requires.granule, c.requires.place)

pub invariant_of-self : goal.invariant_of-self
invariant_of-self c =
    written_fits _ _ _ c.args.self.now c.self.invariant c.self.view_is (c.start_of_granule.result + 8 * c.args.i) (to_le_bytes w64 c.args.w)
    c.set_word.ensures.bytes (inside c) (bytes_below 0 8 c.args.w)

pub returns-clause-word : goal.returns-clause-word
returns-clause-word c = grind (arith, granules_counted, word_is)

pub returns-clause-others : goal.returns-clause-others
returns-clause-others c =
    rw (← c.start_of_granule.ensures) (written_keeps _ _ _ c.args.self.now c.self.invariant c.self.view_is
    (c.start_of_granule.result + 8 * c.args.i) (to_le_bytes w64 c.args.w) c.set_word.ensures.bytes (inside c))

pub returns-clause-memory : goal.returns-clause-memory
returns-clause-memory c = granules_fit _ _ (invariant_of-self c)

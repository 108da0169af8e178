-- The components so far, with those that the rest of the line is, are those of the line.
use Rattle.std.proofs.Common.{◌≡◌, ◌-◌, [], length}
use Rattle.script.specs.Components.{components_from}
use Rattle.script.proofs.words.Words.components.Given as goal

abbrev pub invariant-loop-memory : goal.invariant-loop-memory
invariant-loop-memory l =
    components_from (20 - length l.memory.items) l.memory.items l.self.rest.now ≡ components_from 20 [] l.fn.self.rest.now

abbrev pub decreases-loop-memory : goal.decreases-loop-memory
decreases-loop-memory l = 20 - length l.memory.items

-- `lent::run::have_numbers`: what is left gives what the whole gives.
-- Assumes nothing.
use Rattle.std.proofs.Common.{◌≡◌, drop}
use Rattle.types.specs.Pick.{all_of}
use Rattle.watched.specs.Nodes.{numbered}
use Rattle.lent.proofs.run.have_numbers.Given as goal

abbrev pub invariant-loop-w : goal.invariant-loop-w
invariant-loop-w l = all_of numbered l.nodes ≡ all_of numbered (drop l.w-index l.nodes)

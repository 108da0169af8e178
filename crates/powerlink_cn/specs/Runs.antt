-- What C lends.
-- Assumes nothing.
use Rattle.watched.specs.Watched.{Run, run}
use Rattle.watched.specs.Nodes.{nodes_of}
use Rattle.weigh.specs.WeighParts.{Parts}
use Rattle.weigh.specs.WeighHeld.{Held, held}
use Rattle.powerlink_cn.specs.declared.run.PlcnRun.{PlcnRun}
use Rattle.powerlink_cn.specs.declared.run.PlcnMemory.{PlcnMemory}

-- the run that the words of a run are
abbrev pub run_of : PlcnRun → Run
run_of r = run (nodes_of r.place) r.number

-- what a call on a weigh head is made on
abbrev pub held_in : Parts → PlcnMemory → Held
held_in v m = held v m.queue m.history (run_of m.run)

-- The machines whose events are printed.
-- Assumes nothing.
use Rattle.types.specs.Types.{node}
use Rattle.types.specs.Flags.{flags}
use Rattle.nmt.specs.Nmt.{new_machine, with}
use Rattle.nmt.specs.declared.cn_state_machine.CnNmtStateMachine.{CnNmtStateMachine}
use Rattle.nmt.specs.declared.cn_state_machine.Position.{Position}

-- the machine at a position, with node 7, flags 5 and timeout 5000
abbrev pub machine_of : Position → CnNmtStateMachine
machine_of p = with (new_machine (node 7) (flags 5) 5000) p.state p.enabled p.ready

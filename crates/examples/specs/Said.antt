-- The answers that the examples state, by what they differ in.
-- Assumes nothing.
use Rattle.std.specs.Prelude.{Bool, true, false}
use Rattle.types.specs.Pick.{pick}
use Rattle.types.specs.Errors.{reported}
use Rattle.types.specs.declared.frame.error.types.DllError.TheVariants as error
use Rattle.types.specs.declared.frame.error.types.DllErrors.{DllErrors}
use Rattle.types.specs.declared.frame.error.types.DllErrors.TheVariants as errors
use Rattle.types.specs.declared.frame.error.types.NmtAction.TheVariants as action
use Rattle.nmt.specs.Resets.{passed}
use Rattle.nmt.specs.declared.state_machine.ResetSequence.{ResetSequence}
use Rattle.node.specs.Plain.{Answer, nmt_answer}
use Rattle.node.specs.Examples.{quiet, asks_reset}
use Rattle.counters.specs.declared.counters.ErrorTaken.{ErrorTaken}

-- the answer to an NMT event: its errors, and what a reset passes
abbrev pub nmt_stated : DllErrors → ResetSequence → Answer
nmt_stated es s = nmt_answer (reported es) (passed s)

-- the answer to a LossOfSoc that crosses, or to one that does not
abbrev pub replied_of : Bool → ErrorTaken
replied_of crosses =
    pick crosses (record { action = action.ResetCommunication; signal = true; logged = errors.One error.LossOfSoc }) (record { action = action.None; signal = false; logged = errors.None })

-- the plain head's answer to a LossOfSoc that crosses, or to one that does not
abbrev pub error_stated : Bool → Answer
error_stated crosses = pick crosses asks_reset quiet

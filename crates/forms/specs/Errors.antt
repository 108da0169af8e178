-- The errors of an answer as the programs print them.
-- Assumes nothing.
use Rattle.std.specs.Prelude.{ℕ, List, [], ◌++◌, codes, decimal}
use Rattle.types.specs.declared.frame.error.types.DllError.{DllError}
use Rattle.types.specs.declared.frame.error.types.DllError.TheVariants.{LossOfLink, BadPhysicalMode, MacBuffer, Crc, Collision, InvalidFormat, LossOfSoc, LossOfSoa, LossOfPreq, LossOfPres, LossOfStatusRes, CycleTimeExceeded, LatePres, SoCJitter, MsWaitSoc, MultipleMn, AddressConflict, MevAsndTimeout, UnexpectedEventInState, PdoMapVersion, PdoPayloadShort, HeartbeatTimeout}
use Rattle.types.specs.declared.frame.error.types.DllErrors.{DllErrors}
use Rattle.types.specs.declared.frame.error.types.DllErrors.TheVariants as errors
use Rattle.types.specs.declared.types.NodeId.{NodeId}
use Rattle.types.specs.Errors.{error_kind_of}
use Rattle.forms.specs.Hex.{hex_form}

-- a node in decimal, behind a space
abbrev pub node_text : NodeId → List ℕ
node_text n = codes " " ++ decimal n.0

-- what an error carries: its node, or its state in hexadecimal and its event, or nothing
abbrev pub carried_text : DllError → List ℕ
carried_text (UnexpectedEventInState s e) = codes " " ++ (hex_form 2 s ++ (codes " " ++ decimal e))
carried_text (LossOfPres n) = node_text n
carried_text (LossOfStatusRes n) = node_text n
carried_text (LatePres n) = node_text n
carried_text (PdoMapVersion n) = node_text n
carried_text (PdoPayloadShort n) = node_text n
carried_text (HeartbeatTimeout n) = node_text n
carried_text LossOfLink = []
carried_text BadPhysicalMode = []
carried_text MacBuffer = []
carried_text Crc = []
carried_text Collision = []
carried_text InvalidFormat = []
carried_text LossOfSoc = []
carried_text LossOfSoa = []
carried_text LossOfPreq = []
carried_text CycleTimeExceeded = []
carried_text SoCJitter = []
carried_text MsWaitSoc = []
carried_text MultipleMn = []
carried_text AddressConflict = []
carried_text MevAsndTimeout = []

-- an error: its kind's number in decimal, and what it carries
abbrev pub error_text : DllError → List ℕ
error_text e = codes " (" ++ (decimal (error_kind_of e) ++ (carried_text e ++ codes ")"))

-- the errors of an answer, one behind another
abbrev pub errors_text : DllErrors → List ℕ
errors_text errors.None = []
errors_text (errors.One a) = error_text a
errors_text (errors.Two a b) = error_text a ++ error_text b

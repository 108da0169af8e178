-- What a DLL error carries.
-- Assumes nothing.
use Prim.Native.Nat.{ℕ}
use Rattle.types.specs.declared.frame.error.types.DllError.{DllError}
use Rattle.types.specs.declared.frame.error.types.DllError.TheVariants.{LossOfLink, BadPhysicalMode, MacBuffer, Crc, Collision, InvalidFormat, LossOfSoc, LossOfSoa, LossOfPreq, LossOfPres, LossOfStatusRes, CycleTimeExceeded, LatePres, SoCJitter, MsWaitSoc, MultipleMn, AddressConflict, MevAsndTimeout, UnexpectedEventInState, PdoMapVersion, PdoPayloadShort, HeartbeatTimeout}

-- what an error carries: a, its node or its state, and b, its event; 0 where it carries none
abbrev pub carried_a : DllError → ℕ
carried_a LossOfLink = 0
carried_a BadPhysicalMode = 0
carried_a MacBuffer = 0
carried_a Crc = 0
carried_a Collision = 0
carried_a InvalidFormat = 0
carried_a LossOfSoc = 0
carried_a LossOfSoa = 0
carried_a LossOfPreq = 0
carried_a (LossOfPres n) = n.0
carried_a (LossOfStatusRes n) = n.0
carried_a CycleTimeExceeded = 0
carried_a (LatePres n) = n.0
carried_a SoCJitter = 0
carried_a MsWaitSoc = 0
carried_a MultipleMn = 0
carried_a AddressConflict = 0
carried_a MevAsndTimeout = 0
carried_a (UnexpectedEventInState s e) = s
carried_a (PdoMapVersion n) = n.0
carried_a (PdoPayloadShort n) = n.0
carried_a (HeartbeatTimeout n) = n.0

abbrev pub carried_b : DllError → ℕ
carried_b LossOfLink = 0
carried_b BadPhysicalMode = 0
carried_b MacBuffer = 0
carried_b Crc = 0
carried_b Collision = 0
carried_b InvalidFormat = 0
carried_b LossOfSoc = 0
carried_b LossOfSoa = 0
carried_b LossOfPreq = 0
carried_b (LossOfPres n) = 0
carried_b (LossOfStatusRes n) = 0
carried_b CycleTimeExceeded = 0
carried_b (LatePres n) = 0
carried_b SoCJitter = 0
carried_b MsWaitSoc = 0
carried_b MultipleMn = 0
carried_b AddressConflict = 0
carried_b MevAsndTimeout = 0
carried_b (UnexpectedEventInState s e) = e
carried_b (PdoMapVersion n) = 0
carried_b (PdoPayloadShort n) = 0
carried_b (HeartbeatTimeout n) = 0

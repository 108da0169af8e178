-- The DLL events, their numbers, and the reading of a number.
-- Assumes nothing.
use Rattle.std.specs.Prelude.{ℕ, List, [], ◌∷◌}
use Rattle.types.specs.Pick.{read_by}
use Rattle.types.specs.declared.refusals.Refusal.TheVariants.{UnknownNumber}
use Rattle.types.specs.declared.frame.cs_state_machine.DllCsEvent.{DllCsEvent}
use Rattle.types.specs.declared.frame.cs_state_machine.DllCsEvent.TheVariants.{Soc, Preq, Pres, Soa, Asnd, SocTimeout}
use Rattle.std.specs.declared.result.Result.{Result}
use Rattle.std.specs.declared.result.Result.TheVariants.{Ok, Err}
use Rattle.types.specs.declared.refusals.Refusal.{Refusal}

-- a DLL event's number: its place in the enum, from 0 (RULES 5.4)
abbrev pub cs_event_number : DllCsEvent → ℕ
cs_event_number Soc = 0
cs_event_number Preq = 1
cs_event_number Pres = 2
cs_event_number Soa = 3
cs_event_number Asnd = 4
cs_event_number SocTimeout = 5

-- all DLL events, in the order of the enum
abbrev pub cs_events : List DllCsEvent
cs_events = Soc ∷ Preq ∷ Pres ∷ Soa ∷ Asnd ∷ SocTimeout ∷ []

-- the DLL event of a number, or the refusal UnknownNumber
unfoldable pub read_cs_event : ℕ → Result DllCsEvent Refusal
read_cs_event n = read_by cs_event_number Ok (Err UnknownNumber) cs_events n

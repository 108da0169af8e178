-- States, events, kinds, codes and refusals as they are printed: by number or by name.
-- Assumes nothing.
use Rattle.std.specs.Prelude.{ℕ, List, [], ◌∷◌, codes}
use Rattle.std.specs.Fmt.{decimal}
use Rattle.std.specs.declared.result.Result.{Result}
use Rattle.std.specs.declared.result.Result.TheVariants.{Ok, Err}
use Rattle.types.specs.Pick.{read_by}
use Rattle.types.specs.States.{state_number, read_state}
use Rattle.types.specs.Events.{command_number, read_event}
use Rattle.types.specs.CsEvents.{read_cs_event}
use Rattle.types.specs.Kinds.{kind_place, read_kind}
use Rattle.types.specs.Errors.{error_kind_of}
use Rattle.types.specs.Refusals.{refusal_number, refusal_text}
use Rattle.types.specs.Names.{state_name, event_name, command_name, cs_event_name, kind_name}
use Rattle.types.specs.declared.nmt.states.NmtState.{NmtState}
use Rattle.types.specs.declared.nmt.events.NmtStateCommand.{NmtStateCommand}
use Rattle.types.specs.declared.frame.error.kinds.DllErrorKind.{DllErrorKind}
use Rattle.types.specs.declared.frame.error.types.DllError.{DllError}
use Rattle.types.specs.declared.frame.error.types.DllError.TheVariants.{UnexpectedEventInState}
use Rattle.types.specs.declared.frame.error.types.DllErrors.{DllErrors}
use Rattle.types.specs.declared.frame.error.types.DllErrors.TheVariants as errors
use Rattle.types.specs.declared.refusals.Refusal.{Refusal}
use Rattle.dll.specs.Dll.{cs_state_number, read_cs_state}
use Rattle.dll.specs.declared.cs_state_machine.DllCsState.{DllCsState}
use Rattle.dll.specs.declared.cs_state_machine.DllCsState.TheVariants as cs_state
use Rattle.forms.specs.Errors.{carried_text, errors_text}
use Rattle.forms.specs.Hex.{hex_form}
use Rattle.telling.specs.Texts.{joined}
use Rattle.telling.specs.declared.styles.Style.{Style}
use Rattle.telling.specs.declared.styles.Style.TheVariants as style
use Rattle.telling.specs.declared.styles.Machine.{Machine}
use Rattle.telling.specs.declared.styles.Machine.TheVariants as machine

-- an NMT state: its number, or its name
abbrev pub state_form : Style → NmtState → List ℕ
state_form style.Numbers s = hex_form 2 (state_number s)
state_form style.Names s = state_name s

-- the name of a DLL state
abbrev pub cs_state_name : DllCsState → List ℕ
cs_state_name cs_state.NonCyclic = codes "NonCyclic"
cs_state_name cs_state.WaitSoc = codes "WaitSoc"
cs_state_name cs_state.WaitPreq = codes "WaitPreq"
cs_state_name cs_state.WaitSoa = codes "WaitSoa"

-- a DLL state: its place, or its name
abbrev pub cs_state_form : Style → DllCsState → List ℕ
cs_state_form style.Numbers s = decimal (cs_state_number s)
cs_state_form style.Names s = cs_state_name s

-- a state command: its number, or its name
abbrev pub command_form : Style → NmtStateCommand → List ℕ
command_form style.Numbers c = hex_form 2 (command_number c)
command_form style.Names c = command_name c

-- a kind of error: its place, or its name
abbrev pub kind_form : Style → DllErrorKind → List ℕ
kind_form style.Numbers k = decimal (kind_place k)
kind_form style.Names k = kind_name k

-- a refusal: its number, or its number and its text
abbrev pub refusal_form : Style → Refusal → List ℕ
refusal_form style.Numbers r = decimal (refusal_number r)
refusal_form style.Names r = joined (decimal (refusal_number r) ∷ codes ": " ∷ refusal_text r ∷ [])

-- the code of an entry, and the name of the error that has it in the standard
abbrev pub CodeName : Type 0
CodeName = ℕ × List ℕ

-- the codes that name a single kind, with their names
abbrev pub code_names : List CodeName
code_names =
    (0x8161, codes "E_DLL_BAD_PHYS_MODE") ∷
    (0x8163, codes "E_DLL_COLLISION_TH") ∷
    (0x8164, codes "E_DLL_CRC_TH") ∷
    (0x8165, codes "E_DLL_LOSS_OF_LINK") ∷
    (0x8166, codes "E_DLL_MAC_BUFFER") ∷
    (0x8210, codes "E_PDO_SHORT_RX") ∷
    (0x8211, codes "E_PDO_MAP_VERS") ∷
    (0x8233, codes "E_DLL_CYCLE_EXCEED_TH") ∷
    (0x8235, codes "E_DLL_JITTER_TH") ∷
    (0x8236, codes "E_DLL_LATE_PRES_TH") ∷
    (0x8241, codes "E_DLL_INVALID_FORMAT") ∷
    (0x8242, codes "E_DLL_LOSS_PREQ_TH") ∷
    (0x8243, codes "E_DLL_LOSS_PRES_TH") ∷
    (0x8244, codes "E_DLL_LOSS_SOA_TH") ∷
    (0x8245, codes "E_DLL_LOSS_SOC_TH") ∷
    (0x8246, codes "E_DLL_LOSS_STATUSRES_TH") ∷
    (0x8250, codes "E_NMT_HEARTBEAT_TH") ∷
    []

-- a code by its name, or as a number where it has none
unfoldable pub code_name : ℕ → List ℕ
code_name c = read_by (λ (r : CodeName). r.0) (λ (r : CodeName). r.1) (hex_form 4 c) code_names c

-- a code: its number, or its name
abbrev pub code_form : Style → ℕ → List ℕ
code_form style.Numbers c = hex_form 4 c
code_form style.Names c = code_name c

-- the name of what a number was read as, or another text where it was refused
abbrev pub name_or : {A : Type 0} → (A → List ℕ) → List ℕ → Result A Refusal → List ℕ
name_or name other (Ok a) = name a
name_or name other (Err r) = other

-- the state in which a machine met an event that it did not expect
abbrev pub met_state : Machine → ℕ → List ℕ
met_state machine.Nmt n = name_or state_name (hex_form 2 n) (read_state n)
met_state machine.Dll n = name_or cs_state_name (hex_form 2 n) (read_cs_state n)

-- that event
abbrev pub met_event : Machine → ℕ → List ℕ
met_event machine.Nmt n = name_or event_name (decimal n) (read_event n)
met_event machine.Dll n = name_or cs_event_name (decimal n) (read_cs_event n)

-- what an error carries: its node, or its state and event, or nothing
abbrev pub named_carried : Machine → DllError → List ℕ
named_carried m (UnexpectedEventInState s e) = joined (codes " " ∷ met_state m s ∷ codes " " ∷ met_event m e ∷ [])
named_carried m e = carried_text e

-- an error by the name of its kind
abbrev pub named_error : Machine → DllError → List ℕ
named_error m e = joined (codes " (" ∷ name_or kind_name [] (read_kind (error_kind_of e)) ∷ named_carried m e ∷ codes ")" ∷ [])

-- the errors of an answer by their names
abbrev pub named_errors : Machine → DllErrors → List ℕ
named_errors m errors.None = []
named_errors m (errors.One a) = named_error m a
named_errors m (errors.Two a b) = joined (named_error m a ∷ named_error m b ∷ [])

-- the errors of an answer, one behind another
abbrev pub errors_form : Style → Machine → DllErrors → List ℕ
errors_form style.Numbers m es = errors_text es
errors_form style.Names m es = named_errors m es

-- What `chosen` needs of the table: the entry of every state, event, enabled and ready is that of
-- the rules, and reading the entry gives what the rules make of the event. That the table in src/
-- is this one is computed in the proof of `chosen`.
-- Assumes nothing.
use Prim.Native.Nat.{ℕ}
use mathlib.Core.Path.{◌≡◌, refl, ap, ◌∙◌}
use mathlib.Core.Bool.{Bool, true, false}
use mathlib.Core.List.{List, [], ◌∷◌, map}
use lib.ListN.{get_or}
use mir.Val.{bool_byte}
use Rattle.types.specs.Pick.{pick}
use Rattle.types.specs.States.{states, state_place}
use Rattle.types.specs.Events.{event_number, events}
use Rattle.types.specs.declared.nmt.events.NmtEvent.{NmtEvent}
use Rattle.types.specs.declared.nmt.states.NmtState.{NmtState}
use Rattle.types.specs.declared.nmt.states.NmtState.TheVariants.{NmtReadyToOperate}
use Rattle.types.specs.declared.frame.error.types.DllError.{DllError}
use Rattle.types.proofs.Cases.{everywhere, NmtStates, NmtEvents}
use Rattle.nmt.specs.Resets.{Passed, is_reset, reset_sequence}
use Rattle.nmt.specs.Nmt.{Move, Goes, Stays, Enables, Readies, Unexpected, Outcome, row_of, with, enter, enabled, ready, without_reset, applied, reset_by, processed}
use Rattle.nmt.specs.Table.{state_at, packed, unpacked, reports, entry_of, standing, ruled}
use Rattle.nmt.specs.declared.cn_state_machine.CnNmtStateMachine.{CnNmtStateMachine}
use Rattle.nmt.specs.declared.table.Entry.{Entry}
use Rattle.nmt.proofs.Laws.{reset_enters, plain_passes}

abbrev of : Bool → Bool → Bool → NmtState → Entry
of on up u s = record { position = record { state = s; enabled = on; ready = up }; unexpected = u }

back : (on up u : Bool) → map (λ (s : NmtState). unpacked (packed (of on up u s))) states ≡ map (of on up u) states
unfolding state_at unpacked
back false false false = refl
back false false true = refl
back false true false = refl
back false true true = refl
back true false false = refl
back true false true = refl
back true true false = refl
back true true true = refl

-- an entry that was packed is read as itself
pub packed_back : (x : Entry) → unpacked (packed x) ≡ x
packed_back x =
    let test = back x.position.enabled x.position.ready x.unexpected in
    everywhere NmtStates (λ s. unpacked (packed (of x.position.enabled x.position.ready x.unexpected s))) (of x.position.enabled x.position.ready x.unexpected) test (ap (λ (l : List Entry). get_or l 0 x) test) x.position.state

-- what an entry makes of a machine and an event
abbrev pub read : CnNmtStateMachine → NmtEvent → Entry → Outcome
read m e x =
    record {
      machine = with m x.position.state x.position.enabled x.position.ready;
      errors = reports x.unexpected m.current_state e;
      reset = reset_sequence e;
    }

module _ (m : CnNmtStateMachine) (e : NmtEvent) where
  abbrev alike : CnNmtStateMachine
  alike = standing m.current_state m.ready_to_operate_enabled m.app_ready

  abbrev plainly : Entry → Outcome
  plainly x = without_reset (with m x.position.state x.position.enabled x.position.ready) (reports x.unexpected m.current_state e)

  chosen : (b : Bool) (p q : CnNmtStateMachine) (m' m'' : CnNmtStateMachine) → plainly (entry_of (without_reset p [])) ≡ without_reset m' [] → plainly (entry_of (without_reset q [])) ≡ without_reset m'' [] → plainly (entry_of (without_reset (pick b p q) [])) ≡ without_reset (pick b m' m'') []
  chosen true p q m' m'' x y = x
  chosen false p q m' m'' x y = y

  moved : (d : Move) → plainly (entry_of (applied alike e d)) ≡ applied m e d
  unfolding applied enter
  moved (Goes s) = refl
  moved Stays = refl
  moved (Enables s) = chosen m.app_ready (enter (enabled alike) s) (enabled alike) (enter (enabled m) s) (enabled m) refl refl
  moved Readies = chosen m.ready_to_operate_enabled (enter (ready alike) NmtReadyToOperate) (ready alike) (enter (ready m) NmtReadyToOperate) (ready m) refl refl
  moved Unexpected = refl

  abbrev Reads : Bool → Type 0
  Reads b =
      read m e (entry_of (pick b (reset_by alike e) (applied alike e (row_of m.current_state e)))) ≡
      pick b (reset_by m e) (applied m e (row_of m.current_state e))

  by_reset_lem : (b : Bool) → is_reset e ≡ b → Reads b
  unfolding reset_by enter
  by_reset_lem true h = rw (reset_enters alike e h, reset_enters m e h)
  by_reset_lem false h = rw (plain_passes e h) (moved (row_of m.current_state e))

  pub ruled_read : read m e (ruled m.current_state e m.ready_to_operate_enabled m.app_ready) ≡ processed m e
  unfolding ruled processed
  ruled_read = by_reset_lem (is_reset e) refl

-- a machine that goes by the entry of the rules goes by the rules
pub follows :
    (m : CnNmtStateMachine) (e : NmtEvent) (x : Entry) (es : List DllError) (p : Passed) →
    x ≡ ruled m.current_state e m.ready_to_operate_enabled m.app_ready →
    es ≡ reports x.unexpected m.current_state e →
    p ≡ reset_sequence e →
    ◌≡◌ {A = Outcome} (record { machine = with m x.position.state x.position.enabled x.position.ready; errors = es; reset = p }) (processed m e)
follows m e x es p asked reported passed = rw (reported, passed) (ap (read m e) asked) ∙ ruled_read m e

-- the table of the rules
abbrev flags : List Bool
flags = false ∷ true ∷ []

abbrev entries : NmtState → NmtEvent → List (List ℕ)
entries s e = map (λ enabled. map (λ ready. packed (ruled s e enabled ready)) flags) flags

abbrev table : List (List (List (List ℕ)))
table = map (λ s. map (entries s) events) states

at_state : {B : Type 0} (f : NmtState → B) (d : B) (s : NmtState) → get_or (map f states) (state_place s) d ≡ f s
at_state f d = everywhere NmtStates (λ s. get_or (map f states) (state_place s) d) f refl refl

at_event : {B : Type 0} (f : NmtEvent → B) (d : B) (e : NmtEvent) → get_or (map f events) (event_number e) d ≡ f e
at_event f d = everywhere NmtEvents (λ e. get_or (map f events) (event_number e) d) f refl refl

at_flag : {B : Type 0} (f : Bool → B) (d : B) (b : Bool) → get_or (map f flags) (bool_byte b) d ≡ f b
at_flag f d true = refl
at_flag f d false = refl

-- where a state, an event, enabled and ready stand in it, there is their entry
pub each_entry :
    (s : NmtState) (e : NmtEvent) (on up : Bool) (d1 : List (List (List ℕ))) (d2 : List (List ℕ)) (d3 : List ℕ) (d4 : ℕ) →
    unpacked (get_or (get_or (get_or (get_or table (state_place s) d1) (event_number e) d2) (bool_byte on) d3) (bool_byte up) d4) ≡ ruled s e on up
each_entry s e on up d1 d2 d3 d4 =
    ap unpacked
    (ap (λ l. get_or (get_or (get_or l (event_number e) d2) (bool_byte on) d3) (bool_byte up) d4) (at_state (λ s. map (entries s) events) d1 s) ∙
    ap (λ l. get_or (get_or l (bool_byte on) d3) (bool_byte up) d4) (at_event (entries s) d2 e) ∙
    ap (λ l. get_or l (bool_byte up) d4) (at_flag (λ enabled. map (λ ready. packed (ruled s e enabled ready)) flags) d3 on) ∙
    at_flag (λ ready. packed (ruled s e on ready)) d4 up) ∙
    packed_back (ruled s e on up)

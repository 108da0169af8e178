-- What `why` prints: where the NMT machine stands, what it waits for, and where each event leads
-- from there. All of it is asked of the table of the rules (RULES 4.7).
-- Assumes nothing.
use Rattle.std.specs.Prelude.{ℕ, Bool, true, not, List, [], ◌∷◌, codes}
use Rattle.std.specs.List.{flat_map}
use Rattle.types.specs.Pick.{pick, both, any_of}
use Rattle.types.specs.States.{same_state}
use Rattle.types.specs.Events.{events}
use Rattle.types.specs.Names.{state_name, event_name}
use Rattle.types.specs.declared.nmt.events.NmtEvent.{NmtEvent}
use Rattle.types.specs.declared.nmt.events.NmtEvent.TheVariants.{Reset}
use Rattle.nmt.specs.Resets.{is_reset}
use Rattle.nmt.specs.Table.{ruled}
use Rattle.nmt.specs.declared.cn_state_machine.CnNmtStateMachine.{CnNmtStateMachine}
use Rattle.nmt.specs.declared.cn_state_machine.Position.{Position}
use Rattle.nmt.specs.declared.table.Entry.{Entry}
use Rattle.telling.specs.Texts.{joined}

-- the position of a machine
abbrev pub position_of : CnNmtStateMachine → Position
position_of m = record { state = m.current_state; enabled = m.ready_to_operate_enabled; ready = m.app_ready }

-- what an event leaves of a position
unfoldable pub left_by : Position → NmtEvent → Entry
left_by p e = ruled p.state e p.enabled p.ready

-- the event keeps the state
abbrev pub stays : Position → NmtEvent → Bool
stays p e = same_state (left_by p e).position.state p.state

-- some event that keeps the state at one position moves it at another
unfoldable pub gains : Position → Position → List NmtEvent → Bool
gains p q es = any_of (λ e. both (stays p e) (not (stays q e))) es

-- the flags that are missing: with one more, some event would move the state, which it keeps now
abbrev pub missing_text : Position → List ℕ
missing_text p =
    joined
    (pick (gains p (record p { enabled = true }) events) (codes "; waits for the enable") []
    ∷ pick (gains p (record p { ready = true }) events) (codes "; waits for the ready word") [] ∷ [])

-- what became of a position: it has another state, or is enabled, or is ready
abbrev pub set_text : Position → Position → List ℕ
set_text p q =
    pick (not (same_state q.state p.state)) (joined (codes " leads to " ∷ state_name q.state ∷ []))
    (pick (both q.enabled (not p.enabled)) (codes " enables") (codes " makes ready"))

-- whether it has another state, or a flag more
abbrev pub changes : Position → Position → Bool
changes p q =
    pick (not (same_state q.state p.state)) true (pick (both q.enabled (not p.enabled)) true (both q.ready (not p.ready)))

-- what an event moves or sets; nothing of one that does neither, or is a reset
unfoldable pub lead_text : Position → NmtEvent → List ℕ
lead_text p e =
    pick (both (not (is_reset e)) (changes p (left_by p e).position))
    (joined (codes "; " ∷ event_name e ∷ set_text p (left_by p e).position ∷ [])) []

-- that of each event
abbrev pub leads_text : Position → List NmtEvent → List ℕ
leads_text p es = flat_map (lead_text p) es

-- whether it is enabled and ready
abbrev pub flags_text : Position → List ℕ
flags_text p =
    joined (pick p.enabled (codes ", enabled") (codes ", not enabled") ∷ pick p.ready (codes ", ready") (codes ", not ready") ∷ [])

-- the whole line
unfoldable pub why_text : Position → List ℕ
why_text p =
    joined
    (codes "(why " ∷ state_name p.state ∷ flags_text p ∷ missing_text p ∷ leads_text p events ∷ codes "; a reset leads to "
    ∷ state_name (left_by p Reset).position.state ∷ codes ")\n" ∷ [])

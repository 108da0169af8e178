-- The NMT transitions by state as the page prints them, from the entries that the rules give
-- (RULES 4.7).
-- Assumes nothing.
use Rattle.std.specs.Prelude.{ℕ, Bool, true, false, not, ◌&&◌, ◌||◌, List, [], ◌∷◌, ◌++◌, codes}
use Rattle.std.specs.List.{flat_map, list_all}
use Rattle.std.specs.Fmt.{decimal}
use Rattle.std.specs.declared.option.Option.{Option}
use Rattle.std.specs.declared.option.Option.TheVariants.{Some, None}
use Rattle.types.specs.Pick.{pick}
use Rattle.types.specs.Names.{state_name, event_name}
use Rattle.types.specs.States.{state_number, same_state}
use Rattle.types.specs.Events.{events, same_event}
use Rattle.types.specs.declared.nmt.events.NmtEvent.{NmtEvent}
use Rattle.types.specs.declared.nmt.events.NmtEvent.TheVariants.{StartNode, StopNode, EnterPreOperational2, EnableReadyToOperate, Reset, Timeout, Error, SoAReceived, SocReceived, PowerlinkFrameReceived, CnConfigurationComplete}
use Rattle.types.specs.declared.nmt.states.NmtState.{NmtState}
use Rattle.types.specs.declared.nmt.states.NmtState.TheVariants.{NmtNotActive, NmtPreOperational1, NmtPreOperational2, NmtReadyToOperate, NmtOperational, NmtCsStopped, NmtBasicEthernet}
use Rattle.nmt.specs.Resets.{is_reset, states_entered}
use Rattle.nmt.specs.Table.{ruled}
use Rattle.nmt.specs.declared.cn_state_machine.Position.{Position}
use Rattle.nmt.specs.declared.table.Entry.{Entry}
use Rattle.forms.specs.Hex.{hex_form}
use Rattle.chart.specs.Texts.{joined, text_if}

-- the pair of state and event has a row
unfoldable pub has_row : NmtState → NmtEvent → Bool
has_row s e = not (ruled s e false false).unexpected

-- two flags are equal
abbrev pub same_flag : Bool → Bool → Bool
same_flag a b = pick a b (not b)

-- two positions are equal
abbrev pub same_position : Position → Position → Bool
same_position p q = same_state p.state q.state && (same_flag p.enabled q.enabled && same_flag p.ready q.ready)

-- two entries of the table are equal
unfoldable pub same_entry : Entry → Entry → Bool
same_entry x y = same_position x.position y.position && same_flag x.unexpected y.unexpected

-- two events do the same in a state at one pair of enabled and ready
abbrev pub same_at : NmtState → NmtEvent → NmtEvent → Bool → Bool → Bool
same_at s e f enabled ready = same_entry (ruled s e enabled ready) (ruled s f enabled ready)

-- and at all four pairs
unfoldable pub same_row : NmtState → NmtEvent → NmtEvent → Bool
same_row s e f =
    same_at s e f false false &&
    (same_at s e f false true && (same_at s e f true false && same_at s e f true true))

-- the event is no reset event, or has a row in the state and does what Reset does
unfoldable pub agrees_with_reset : NmtState → NmtEvent → Bool
agrees_with_reset s e = not (is_reset e) || (has_row s e && same_row s e Reset)

-- every reset event has a row in the state, and all do the same, so that one row shows them
unfoldable pub resets_agree : NmtState → Bool
resets_agree s = list_all (agrees_with_reset s) events

-- the event has no row in the state but that of the reset events
unfoldable pub is_reset_or_unexpected : NmtState → NmtEvent → Bool
is_reset_or_unexpected s e = is_reset e || not (has_row s e)

-- no event has a row in the state but the reset events
unfoldable pub only_resets_expected : NmtState → Bool
only_resets_expected s = list_all (is_reset_or_unexpected s) events

-- the one row of the reset events is the state's only row
unfoldable pub has_only_reset_row : NmtState → Bool
has_only_reset_row s = resets_agree s && only_resets_expected s

-- the number n of the transition NMT_CTn of DS 301 that a row is
pub record TransitionRow : Type 0 where
  pub state : NmtState
  pub event : NmtEvent
  pub number : ℕ

-- the row of a state and an event is NMT_CTn
abbrev pub transition : ℕ → NmtState → NmtEvent → TransitionRow
transition n s e = record { state = s; event = e; number = n }

-- the transitions of DS 301 but for NMT_CT1, with which a reset ends
abbrev pub transitions : List TransitionRow
transitions =
    transition 2 NmtNotActive SoAReceived ∷
    transition 2 NmtNotActive SocReceived ∷
    transition 3 NmtNotActive Timeout ∷
    transition 4 NmtPreOperational1 SocReceived ∷
    transition 5 NmtPreOperational2 EnableReadyToOperate ∷
    transition 6 NmtPreOperational2 CnConfigurationComplete ∷
    transition 7 NmtReadyToOperate StartNode ∷
    transition 8 NmtPreOperational2 StopNode ∷
    transition 8 NmtReadyToOperate StopNode ∷
    transition 8 NmtOperational StopNode ∷
    transition 9 NmtOperational EnterPreOperational2 ∷
    transition 10 NmtCsStopped EnterPreOperational2 ∷
    transition 11 NmtPreOperational2 Error ∷
    transition 11 NmtReadyToOperate Error ∷
    transition 11 NmtOperational Error ∷
    transition 11 NmtCsStopped Error ∷
    transition 12 NmtBasicEthernet PowerlinkFrameReceived ∷
    []

-- the number of a row's transition by some transitions; none where DS 301 has none
abbrev pub number_among : List TransitionRow → NmtState → NmtEvent → Option ℕ
number_among [] s e = pick (is_reset e) (Some 1) None
number_among (t ∷ ts) s e = pick (same_state s t.state && same_event e t.event) (Some t.number) (number_among ts s e)

-- the number of a row's transition
unfoldable pub transition_of : NmtState → NmtEvent → Option ℕ
transition_of s e = number_among transitions s e

-- a transition by its number
abbrev pub transition_text : Option ℕ → List ℕ
transition_text (Some n) = codes "NMT_CT" ++ decimal n
transition_text None = codes "no NMT_CT"

-- what becomes of a flag, where it changes
abbrev pub change_text : List ℕ → Bool → Bool → List ℕ
change_text flag false true = codes ", sets " ++ flag
change_text flag true false = codes ", clears " ++ flag
change_text flag false false = []
change_text flag true true = []

-- where an event leads from the state s: a reset event enters NotActive in NotActive too
abbrev pub target_text : NmtState → NmtEvent → NmtState → List ℕ
target_text s e t = pick (same_state t s && not (is_reset e)) (codes "stays") (state_name t)

-- where an event leads from a state, enabled and ready, which is the position `to`, and what it
-- sets or clears
abbrev pub cell_parts : NmtState → NmtEvent → Bool → Bool → Position → List ℕ
cell_parts s e enabled ready to =
    joined
    (target_text s e to.state ∷
    change_text (codes "enabled") enabled to.enabled ∷
    change_text (codes "ready") ready to.ready ∷
    [])

-- the same by the entry that the rules give
abbrev pub cell_text : NmtState → NmtEvent → Bool → Bool → List ℕ
cell_text s e enabled ready = cell_parts s e enabled ready (ruled s e enabled ready).position

-- a row but for its first column: the entries of the four pairs of enabled and ready, in the order
-- neither, ready, enabled, both, and the transition
unfoldable pub entries_text : NmtState → NmtEvent → List ℕ
entries_text s e =
    joined
    (cell_text s e false false ∷
    codes " | " ∷
    cell_text s e false true ∷
    codes " | " ∷
    cell_text s e true false ∷
    codes " | " ∷
    cell_text s e true true ∷
    codes " | " ∷
    transition_text (transition_of s e) ∷
    codes " |\n" ∷
    [])

-- a row, with what its first column says
abbrev pub row_text : List ℕ → NmtState → NmtEvent → List ℕ
row_text title s e = joined (codes "| " ∷ title ∷ codes " | " ∷ entries_text s e ∷ [])

-- the one row of the reset events, where they agree
abbrev pub shared_reset_row : NmtState → List ℕ
shared_reset_row s = text_if (resets_agree s) (codes "| a reset event | " ++ entries_text s Reset)

-- an event's own row: none where it has no row, or shares that of the reset events
abbrev pub event_row : NmtState → NmtEvent → List ℕ
event_row s e =
    pick (not (has_row s e) || (is_reset e && resets_agree s)) [] (row_text (event_name e) s e)

-- the own rows of some events
abbrev pub event_rows : NmtState → List NmtEvent → List ℕ
event_rows s es = flat_map (event_row s) es

-- an event that has no row
abbrev pub unexpected_event : NmtState → NmtEvent → List ℕ
unexpected_event s e = pick (has_row s e) [] (joined (codes " " ∷ event_name e ∷ codes "," ∷ []))

-- those of some events that have no row
abbrev pub unexpected_events : NmtState → List NmtEvent → List ℕ
unexpected_events s es = flat_map (unexpected_event s) es

-- a state with its number
abbrev pub state_title : NmtState → List ℕ
state_title s = joined (state_name s ∷ codes ", " ∷ hex_form 2 (state_number s) ∷ [])

-- the columns of a chart
abbrev pub columns : List ℕ
columns =
    codes "\n\n| event | neither | ready | enabled | enabled and ready | transition |\n|---|---|---|---|---|---|\n"

-- a state's chart; none where the row of the reset events is its only row
unfoldable pub chart_text : NmtState → List ℕ
chart_text s =
    pick (has_only_reset_row s) []
    (joined
    (codes "\n## " ∷
    state_title s ∷
    columns ∷
    shared_reset_row s ∷
    event_rows s events ∷
    codes "\nNo row:" ∷
    unexpected_events s events ∷
    codes " and no other.\n" ∷
    []))

-- the row of a state that has no chart
abbrev pub state_row : NmtState → List ℕ
state_row s = text_if (has_only_reset_row s) (row_text (state_title s) s Reset)

-- states behind a first one
abbrev pub behind_text : List NmtState → List ℕ
behind_text ss = flat_map (λ s. codes ", " ++ state_name s) ss

-- states in order
abbrev pub entered_text : List NmtState → List ℕ
entered_text [] = []
entered_text (s ∷ ss) = state_name s ++ behind_text ss

-- the row of a reset event: the states that it enters
abbrev pub sequence_row : NmtEvent → List ℕ
sequence_row e =
    text_if (is_reset e)
    (joined (codes "| " ∷ event_name e ∷ codes " | " ∷ entered_text (states_entered e) ∷ codes " |\n" ∷ []))

-- where an event leads at one pair of enabled and ready
unfoldable pub led_to : NmtState → NmtEvent → Bool → Bool → NmtState
led_to s e enabled ready = (ruled s e enabled ready).position.state

-- that is another state
unfoldable pub moves : NmtState → NmtEvent → Bool → Bool → Bool
moves s e enabled ready = not (same_state (led_to s e enabled ready) s)

-- an arrow of the picture from the state s to the state t
unfoldable pub arrow_text : NmtState → NmtEvent → NmtState → List ℕ → List ℕ
arrow_text s e t condition =
    joined
    (codes "    " ∷
    state_name s ∷
    codes " --> " ∷
    state_name t ∷
    codes " : " ∷
    event_name e ∷
    condition ∷
    codes " (" ∷
    transition_text (transition_of s e) ∷
    codes ")\n" ∷
    [])

-- the arrow of a state and an event: where it leads a machine that is neither enabled nor ready,
-- else a ready one, else an enabled one; none where it moves none of them
unfoldable pub move_text : NmtState → NmtEvent → List ℕ
move_text s e =
    pick (moves s e false false) (arrow_text s e (led_to s e false false) [])
    (pick (moves s e false true) (arrow_text s e (led_to s e false true) (codes ", if ready"))
    (text_if (moves s e true false) (arrow_text s e (led_to s e true false) (codes ", if enabled"))))

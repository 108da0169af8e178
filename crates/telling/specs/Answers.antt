-- What a line is answered, as it is printed: the forms of docs/CALLS.md.
-- Assumes nothing.
use Rattle.std.specs.Prelude.{ℕ, List, [], ◌∷◌, codes}
use Rattle.std.specs.List.{flat_map}
use Rattle.std.specs.Fmt.{decimal, signed_decimal}
use Rattle.std.specs.declared.option.Option.{Option}
use Rattle.std.specs.declared.option.Option.TheVariants.{Some, None}
use Rattle.std.specs.declared.result.Result.{Result}
use Rattle.std.specs.declared.result.Result.TheVariants.{Ok, Err}
use Rattle.types.specs.Errors.{action_number}
use Rattle.types.specs.declared.nmt.states.NmtState.{NmtState}
use Rattle.types.specs.declared.refusals.Refusal.{Refusal}
use Rattle.nmt.specs.Resets.{entered_states, restored_ranges}
use Rattle.nmt.specs.declared.state_machine.IndexRange.{IndexRange}
use Rattle.nmt.specs.declared.state_machine.ResetSequence.{ResetSequence}
use Rattle.nmt.specs.declared.state_machine.ResetSequence.TheVariants as reset
use Rattle.counters.specs.declared.counters.ErrorTaken.{ErrorTaken}
use Rattle.entries.specs.Entry.{mode_number}
use Rattle.entries.specs.declared.status_response.EntryType.{EntryType}
use Rattle.entries.specs.declared.status_response.ErrorEntry.{ErrorEntry}
use Rattle.node.specs.declared.calls.NmtTaken.{NmtTaken}
use Rattle.node.specs.declared.range.SocVerdict.{SocVerdict}
use Rattle.node.specs.declared.range.SocVerdict.TheVariants as verdict
use Rattle.reception.specs.declared.FrameAnswer.{FrameAnswer}
use Rattle.reception.specs.declared.FrameAnswer.TheVariants.{NotOurs, Ours}
use Rattle.calling.specs.declared.Answer.{Answer}
use Rattle.calling.specs.declared.Answer.TheVariants as answer
use Rattle.weigh.specs.declared.WeighAnswer.{WeighAnswer}
use Rattle.weigh.specs.declared.WeighAnswer.TheVariants as weighing
use Rattle.forms.specs.Hex.{hex_form}
use Rattle.telling.specs.declared.answers.Bitmap.{Bitmap}
use Rattle.telling.specs.declared.answers.Outcome.{Outcome}
use Rattle.telling.specs.declared.answers.Outcome.TheVariants as outcome
use Rattle.telling.specs.declared.styles.Style.{Style}
use Rattle.telling.specs.declared.styles.Machine.TheVariants as machine
use Rattle.telling.specs.Styles.{state_form, command_form, kind_form, refusal_form, code_form, errors_form}
use Rattle.telling.specs.Texts.{joined, flag_text, bytes_text, entry_text}

-- the states that a reset enters
abbrev pub entered_text : Style → List NmtState → List ℕ
entered_text y ss = flat_map (λ s. joined (codes " " ∷ state_form y s ∷ [])) ss

-- the ranges to restore after a reset, by their first and last index
abbrev pub restored_text : List IndexRange → List ℕ
restored_text rs = flat_map (λ (r : IndexRange). joined (codes " (" ∷ hex_form 4 r.first ∷ codes " " ∷ hex_form 4 r.last ∷ codes ")" ∷ [])) rs

-- a reset: the states that it enters, and the ranges to restore
abbrev pub reset_text : Style → ResetSequence → List ℕ
reset_text y r = joined (codes " (entered" ∷ entered_text y (entered_states r) ∷ codes ") (restore" ∷ restored_text (restored_ranges r) ∷ codes ")" ∷ [])

-- an NMT event: a reset as such, any other its errors, which are given as text
abbrev pub nmt_by : Style → ResetSequence → List ℕ → List ℕ
nmt_by y reset.None errors = joined (codes " (errors" ∷ errors ∷ codes ")" ∷ [])
nmt_by y reset.Whole errors = reset_text y reset.Whole
nmt_by y reset.Node errors = reset_text y reset.Node
nmt_by y reset.Communication errors = reset_text y reset.Communication
nmt_by y reset.Configuration errors = reset_text y reset.Configuration

-- what an NMT event is answered that is taken
abbrev pub nmt_text : Style → NmtTaken → List ℕ
nmt_text y t = nmt_by y t.reset (errors_form y machine.Nmt t.errors)

-- what an error is answered that is taken: its action's number, whether it signals, what is logged
abbrev pub error_taken_text : Style → ErrorTaken → List ℕ
error_taken_text y t =
    joined
    (codes " (action " ∷ decimal (action_number t.action) ∷ codes ") (signal " ∷ flag_text t.signal ∷ codes ") (logged"
    ∷ errors_form y machine.Nmt t.logged ∷ codes ")" ∷ [])

-- what a hand-out is answered: the entry's 20 bytes, or none
abbrev pub handed_out_text : Option ErrorEntry → List ℕ
handed_out_text None = codes " none"
handed_out_text (Some e) = joined (codes " (entry" ∷ entry_text e ∷ codes ")" ∷ [])

-- what a range is answered: lost, kept or open
abbrev pub verdict_text : SocVerdict → List ℕ
verdict_text verdict.Lost = codes " lost"
verdict_text verdict.Kept = codes " kept"
verdict_text verdict.Open = codes " open"

-- when the next tick is due: a moment in µs, 0 for at once, or none
abbrev pub due_text : Option ℕ → List ℕ
due_text None = codes " none"
due_text (Some t) = joined (codes " " ∷ decimal t ∷ [])

-- what the NMT event of a frame is answered; without one there are no errors
abbrev pub reply_to_text : Style → Option NmtTaken → List ℕ
reply_to_text y (Some t) = nmt_text y t
reply_to_text y None = codes " (errors)"

-- what a frame is answered: that it is for another node, or what was logged, and its NMT event
abbrev pub frame_text : Style → FrameAnswer → List ℕ
frame_text y NotOurs = codes " not_ours"
frame_text y (Ours d) =
    joined
    (codes " (logged" ∷ errors_form y machine.Dll d.logged ∷ codes ")" ∷ reply_to_text y d.nmt ∷ [])

-- what a call answers that is taken
abbrev pub answer_text : Style → Answer → List ℕ
answer_text y answer.Taken = []
answer_text y (answer.Nmt t) = nmt_text y t
answer_text y (answer.Dll es) = joined (codes " (errors" ∷ errors_form y machine.Dll es ∷ codes ")" ∷ [])
answer_text y (answer.Error t) = error_taken_text y t
answer_text y (answer.Cycle b) = joined (codes " (cleared " ∷ flag_text b ∷ codes ")" ∷ [])
answer_text y (answer.HandedOut e) = handed_out_text e
answer_text y (answer.Tick es) = joined (codes " (logged" ∷ errors_form y machine.Nmt es ∷ codes ")" ∷ [])
answer_text y (answer.Range v) = verdict_text v
answer_text y (answer.Margin z) = joined (codes " " ∷ signed_decimal z ∷ [])
answer_text y (answer.Due d) = due_text d
answer_text y (answer.Frame a) = frame_text y a

-- what a call on a weigh head answers
abbrev pub weigh_answer_text : Style → WeighAnswer → List ℕ
weigh_answer_text y (weighing.Node a) = answer_text y a
weigh_answer_text y weighing.Loaded = []
weigh_answer_text y (weighing.Weight g) = joined (codes " " ∷ decimal g ∷ [])

-- the type of an entry that is read: its marks, its mode's number and its profile
abbrev pub type_text : EntryType → List ℕ
type_text t =
    joined
    (codes "(status " ∷ flag_text t.is_status_entry ∷ codes ") (queue " ∷ flag_text t.send_to_queue ∷ codes ") (mode " ∷ decimal (mode_number t.mode)
    ∷ codes ") (profile " ∷ decimal t.profile ∷ codes ")" ∷ [])

-- an entry that is read, with all its parts
abbrev pub read_text : Style → ErrorEntry → List ℕ
read_text y e =
    joined
    (type_text e.entry_type ∷ codes " (code " ∷ code_form y e.error_code ∷ codes ") (seconds " ∷ decimal e.timestamp.seconds ∷ codes ") (ns "
    ∷ decimal e.timestamp.nanoseconds ∷ codes ") (additional " ∷ decimal e.additional_information ∷ codes ")" ∷ [])

-- the watched nodes as 32 bytes, behind their number
abbrev pub bitmap_text : Bitmap → List ℕ
bitmap_text b = joined (codes " (nodes " ∷ decimal b.number ∷ codes ")" ∷ bytes_text b.bytes ∷ [])

-- what a line tells that is taken
abbrev pub outcome_text : Style → Outcome → List ℕ
outcome_text y (outcome.Answer a) = weigh_answer_text y a
outcome_text y (outcome.Bitmap b) = bitmap_text b
outcome_text y (outcome.Entry e) = joined (codes " (entry " ∷ read_text y e ∷ codes ")" ∷ [])
outcome_text y (outcome.State s) = joined (codes " " ∷ state_form y s ∷ [])
outcome_text y (outcome.Command c) = joined (codes " " ∷ command_form y c ∷ [])
outcome_text y (outcome.Kind k) = joined (codes " " ∷ kind_form y k ∷ [])

-- what a line is answered: a refusal by its number alone
abbrev pub reply_text : Style → Result Outcome Refusal → List ℕ
reply_text y (Ok t) = joined (codes "(taken" ∷ outcome_text y t ∷ codes ")\n" ∷ [])
reply_text y (Err r) = joined (codes "(refused " ∷ refusal_form y r ∷ codes ")\n" ∷ [])

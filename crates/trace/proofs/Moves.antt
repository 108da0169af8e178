-- What each call does to the NMT machine.
-- Assumes nothing.
use Prim.Native.Nat.{ℕ}
use mathlib.Core.Path.{◌≡◌, refl, sym, subst}
use mathlib.Core.Bool.{Bool, true, false, not}
use Rattle.types.specs.Pick.{pick}
use Rattle.types.specs.States.{same_state}
use Rattle.types.specs.Events.{read_event}
use Rattle.types.specs.CsEvents.{read_cs_event}
use Rattle.types.specs.Errors.{read_error}
use Rattle.types.specs.declared.nmt.states.NmtState.TheVariants.{NmtReadyToOperate}
use Rattle.types.specs.declared.nmt.events.NmtEvent.{NmtEvent}
use Rattle.std.specs.declared.result.Result.{Result}
use Rattle.std.specs.declared.result.Result.TheVariants.{Ok, Err}
use Rattle.types.specs.declared.refusals.Refusal.{Refusal}
use Rattle.types.specs.declared.frame.cs_state_machine.DllCsEvent.{DllCsEvent}
use Rattle.types.specs.declared.frame.error.types.DllError.{DllError}
use Rattle.nmt.specs.Resets.{is_reset}
use Rattle.nmt.specs.Nmt.{processed}
use Rattle.nmt.specs.declared.cn_state_machine.CnNmtStateMachine.{CnNmtStateMachine}
use Rattle.watched.specs.Watched.{heard_at, watching, changing}
use Rattle.node.specs.Plain.{Plain, Call, nmt_event, dll_event, error, cycle_complete, withdraw, heard, hand_out, load, arm, tick, range, margin, add, remove, next_due, frame, taken, range_answer, margin_answer, due_answer, EventMade, made, no_event, Step}
use Rattle.node.specs.Steps.{no_run, answers, declines, with_nmt, with_soc, forgets, nmt_step, dll_step, error_step, withdrawn, heard_tests, add_tests, remove_tests, added, removed, arm_tests, armed}
use Rattle.node.specs.Heartbeats.{refreshed_at}
use Rattle.node.specs.Tick.{tick_tests, tick_taken, tick_answered}
use Rattle.node.specs.Range.{range_tests, margin_tests, verdict_of, margin_of}
use Rattle.node.specs.Due.{due, due_tests}
use Rattle.node.specs.Run.{step}
use Rattle.trace.proofs.Ticking.{InTick, tick_part}
use Rattle.node.proofs.Refining.{tried_by_lem}
use Rattle.trace.proofs.Framing.{Moved, in_tick, by_event, Framed, turned_away, passed_by, taken_as, framed}
use Rattle.trace.proofs.Shares.{Leaves, stays, goes, run_call}

-- of a call c on the head p, the event that it made and the machine after it
pub data Moves (p : Plain) (c : Call) : EventMade → CnNmtStateMachine → Type 0 where
  same : Moves p c no_event p.nmt
  takes_back : Moves p c no_event (withdrawn p.nmt)
  orders : (e : NmtEvent) → Moves p c (made e) (processed p.nmt e).machine
  ticks : {e : EventMade} {m : CnNmtStateMachine} → InTick p.nmt e m → Moves p c e m

abbrev MovesTo : Plain → Call → Step → Type 0
MovesTo p c t = Moves p c t.event t.head.nmt

-- what a reset forgets is not the machine's
pub forgets_nmt : (b : Bool) (p : Plain) → (pick b (forgets p) p).nmt ≡ p.nmt
forgets_nmt true p = refl
forgets_nmt false p = refl

nmt_moves : (p : Plain) (n : ℕ) (r : Result NmtEvent Refusal) → MovesTo p (nmt_event n) (nmt_step p r)
nmt_moves p n (Ok e) = subst (Moves p (nmt_event n) (made e)) (sym (forgets_nmt (is_reset e) (with_nmt p (processed p.nmt e).machine))) (orders e)
nmt_moves p n (Err r) = same

dll_moves : (p : Plain) (n : ℕ) (x : Bool) (r : Result DllCsEvent Refusal) → MovesTo p (dll_event n x) (dll_step p x r)
dll_moves p n x (Ok e) = same
dll_moves p n x (Err r) = same

error_moves : (p : Plain) (k a b : ℕ) (r : Result DllError Refusal) → MovesTo p (error k a b) (error_step p r)
error_moves p k a b (Ok e) = same
error_moves p k a b (Err r) = same

withdraw_moves : (p : Plain) (b : Bool) → MovesTo p withdraw (pick b (answers (with_nmt p (withdrawn p.nmt)) taken no_run) (declines p no_run 8))
withdraw_moves p true = takes_back
withdraw_moves p false = same

run_moves : (p : Plain) (c : Call) {t : Step} → Leaves p t → MovesTo p c t
run_moves p c (stays r n) = same
run_moves p c (goes r) = same

pub moves : (p : Plain) (c : Call) → MovesTo p c (step p c)
moves p (nmt_event n) = nmt_moves p n (read_event n)
moves p (dll_event n x) = dll_moves p n x (read_cs_event n)
moves p (error k a b) = error_moves p k a b (read_error k a b)
moves p cycle_complete = same
moves p withdraw = withdraw_moves p (not (same_state p.nmt.current_state NmtReadyToOperate))
moves p (heard n t r) = run_moves p (heard n t r) (run_call p (heard_tests n t r) r (changing (heard_at n t) r))
moves p hand_out = same
moves p (load v h) = same
moves p (arm t) =
    tried_by_lem (MovesTo p (arm t)) (arm_tests t) (declines p no_run) (answers (with_soc p (armed p.soc p.od t)) taken no_run) (λ r. same) same
moves p (tick t r) =
    tried_by_lem (MovesTo p (tick t r)) (tick_tests p t r) (declines p r) (tick_answered (tick_taken p t (watching r)) (refreshed_at p t r)) (λ n. same)
    (ticks (tick_part p t (watching r)).moves)
moves p (range a b) =
    tried_by_lem (MovesTo p (range a b)) (range_tests a b) (declines p no_run) (answers p (range_answer (verdict_of p a b)) no_run) (λ r. same) same
moves p (margin t) =
    tried_by_lem (MovesTo p (margin t)) (margin_tests t) (declines p no_run) (answers p (margin_answer (margin_of p t)) no_run) (λ r. same) same
moves p (add n o r) = run_moves p (add n o r) (run_call p (add_tests n o r) r (added n o r))
moves p (remove n r) = run_moves p (remove n r) (run_call p (remove_tests n r) r (removed n r))
moves p (next_due r) =
    tried_by_lem (MovesTo p (next_due r)) (due_tests r) (declines p r) (answers p (due_answer (due p (watching r))) r) (λ n. same) same
moves p (frame t b) = by (framed p t b)
  where
    moved : {e : EventMade} {m : CnNmtStateMachine} → Moved p.nmt e m → Moves p (frame t b) e m
    moved (in_tick i) = ticks i
    moved (by_event e) = orders e

    by : {s : Step} → Framed p t s → MovesTo p (frame t b) s
    by (turned_away n) = same
    by passed_by = same
    by (taken_as k g) = moved g.moves

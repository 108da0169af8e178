-- The earliest moment over any list of calls: each call's share, and that of start.
-- Assumes nothing.
use Prim.Native.Nat.{ℕ, ◌+◌, ◌≤◌}
use mathlib.Core.Path.{◌≡◌, refl, ap, ap₂, ◌∙◌}
use mathlib.Core.Bool.{Bool, true, false, not}
use mathlib.Core.List.{List, [], ◌∷◌, ◌++◌}
use native.Mathlib.Omega.{arith}
use lib.Dec.{eqb, ltb}
use lib.ListN.{length}
use borrow.Author.Tests.{eqb-true}
use Rattle.types.specs.Pick.{pick, both}
use Rattle.types.specs.States.{same_state}
use Rattle.types.specs.Events.{read_event}
use Rattle.types.specs.CsEvents.{read_cs_event}
use Rattle.types.specs.Errors.{read_error}
use Rattle.types.specs.declared.nmt.states.NmtState.TheVariants.{NmtReadyToOperate}
use Rattle.std.specs.declared.result.Result.{Result}
use Rattle.std.specs.declared.result.Result.TheVariants.{Ok, Err}
use Rattle.std.specs.declared.option.Option.TheVariants.{Some, None}
use Rattle.types.specs.declared.nmt.events.NmtEvent.{NmtEvent}
use Rattle.types.specs.declared.refusals.Refusal.{Refusal}
use Rattle.types.specs.declared.frame.cs_state_machine.DllCsEvent.{DllCsEvent}
use Rattle.types.specs.declared.frame.error.types.DllError.{DllError}
use Rattle.types.proofs.Tests.{both_first}
use Rattle.nmt.specs.Resets.{is_reset}
use Rattle.nmt.specs.Nmt.{processed}
use Rattle.watched.specs.declared.nodes.WatchedNode.{WatchedNode}
use Rattle.watched.specs.Watched.{heard_now, heard_at, unheard, Run, watching, well_lent, changing}
use Rattle.watched.proofs.Lists.{each_nodes}
use Rattle.watched.proofs.Watching.{lent_inside}
use Rattle.node.specs.Plain.{Plain, Call, nmt_event, dll_event, error, cycle_complete, withdraw, heard, hand_out, load, arm, tick, range, margin, add, remove, next_due, frame, taken, range_answer, margin_answer, due_answer, Step}
use Rattle.node.specs.Steps.{smaller, earliest, no_run, answers, declines, forgets, with_nmt, with_soc, nmt_step, dll_step, error_step, withdrawn, heard_tests, add_tests, remove_tests, added, removed, arm_tests, armed}
use Rattle.node.specs.Heartbeats.{refreshed_at}
use Rattle.node.specs.Tick.{tick_tests, tick_taken, tick_answered}
use Rattle.node.specs.Range.{range_tests, margin_tests, verdict_of, margin_of}
use Rattle.node.specs.Due.{due, due_tests}
use Rattle.node.specs.Run.{step, step_all}
use Rattle.trace.specs.Earliest.{works_out, accepted, left_by, last_left}
use Rattle.trace.proofs.Ticking.{picked}
use Rattle.node.proofs.Refining.{tried_by_lem}
use Rattle.trace.proofs.Framing.{Framed, turned_away, passed_by, taken_as, framed}
use Rattle.trace.proofs.Shares.{Leaves, stays, goes, run_call}

-- START: no node was heard, so none would be late
none_late : (ws : List WatchedNode) → earliest (unheard ws) ≡ None
unfolding earliest
none_late [] = refl
none_late (w ∷ ws) = by (ltb 0 w.timeout) (none_late ws)
  where
    by : (b : Bool) → earliest (unheard ws) ≡ None → smaller (pick (both b false) (Some (0 + w.timeout + 1)) None) (earliest (unheard ws)) ≡ None
    by true h = h
    by false h = h

pub start_moment : (r : Run) → well_lent r ≡ true → earliest (watching (changing unheard r)) ≡ None
start_moment r h =
    let long : length r.places ≡ 32 = eqb-true (length r.places) 32 (both_first (eqb (length r.places) 32) _ h) in
    let few : r.number ≤ length r.places = lent_inside r h in
    ap earliest (each_nodes r.places r.number long (omega (arith, long, few)) (heard_now 0)) ∙ none_late (watching r)

-- A call that is none of these leaves it.
abbrev Kept : Plain → Step → Type 0
Kept p t = t.head.earliest ≡ p.earliest

nmt_kept : (p : Plain) (r : Result NmtEvent Refusal) → Kept p (nmt_step p r)
nmt_kept p (Ok e) =
    picked (λ (g : Plain). g.earliest ≡ p.earliest) (is_reset e) {x = forgets (with_nmt p (processed p.nmt e).machine)}
    {y = with_nmt p (processed p.nmt e).machine} refl refl
nmt_kept p (Err r) = refl

dll_kept : (p : Plain) (x : Bool) (r : Result DllCsEvent Refusal) → Kept p (dll_step p x r)
dll_kept p x (Ok e) = refl
dll_kept p x (Err r) = refl

error_kept : (p : Plain) (r : Result DllError Refusal) → Kept p (error_step p r)
error_kept p (Ok e) = refl
error_kept p (Err r) = refl

-- One of these that is accepted works it out; a declined one leaves it.
abbrev Renewed : Plain → Step → Type 0
Renewed p t =
    (r : Run) → p.earliest ≡ earliest (watching r) → t.head.earliest ≡ earliest (watching (pick (accepted t.answer) t.lent r))

run_renewed : (p : Plain) {t : Step} → Leaves p t → Renewed p t
run_renewed p (stays l n) r h = h
run_renewed p (goes l) r h = refl

tick_renewed : (p : Plain) (t : ℕ) (l : Run) → Renewed p (step p (tick t l))
tick_renewed p t l =
    tried_by_lem (Renewed p) (tick_tests p t l) (declines p l) (tick_answered (tick_taken p t (watching l)) (refreshed_at p t l)) (λ n r h. h) (λ r h. refl)

-- each call
renewed : (p : Plain) (c : Call) (r : Run) → p.earliest ≡ earliest (watching r) → (step p c).head.earliest ≡ earliest (watching (left_by c (step p c) r))
renewed p (nmt_event n) r h = nmt_kept p (read_event n) ∙ h
renewed p (dll_event n x) r h = dll_kept p x (read_cs_event n) ∙ h
renewed p (error k a b) r h = error_kept p (read_error k a b) ∙ h
renewed p cycle_complete r h = h
renewed p withdraw r h =
    picked (Kept p) (not (same_state p.nmt.current_state NmtReadyToOperate)) {x = answers (with_nmt p (withdrawn p.nmt)) taken no_run}
    {y = declines p no_run 8} refl refl
    ∙ h
renewed p (heard n t l) r h = run_renewed p (run_call p (heard_tests n t l) l (changing (heard_at n t) l)) r h
renewed p hand_out r h = h
renewed p (load v u) r h = h
renewed p (arm t) r h =
    tried_by_lem (Kept p) (arm_tests t) (declines p no_run) (answers (with_soc p (armed p.soc p.od t)) taken no_run) (λ n. refl) refl ∙ h
renewed p (tick t l) r h = tick_renewed p t l r h
renewed p (range a b) r h =
    tried_by_lem (Kept p) (range_tests a b) (declines p no_run) (answers p (range_answer (verdict_of p a b)) no_run) (λ n. refl) refl ∙ h
renewed p (margin t) r h =
    tried_by_lem (Kept p) (margin_tests t) (declines p no_run) (answers p (margin_answer (margin_of p t)) no_run) (λ n. refl) refl ∙ h
renewed p (add n o l) r h = run_renewed p (run_call p (add_tests n o l) l (added n o l)) r h
renewed p (remove n l) r h = run_renewed p (run_call p (remove_tests n l) l (removed n l)) r h
renewed p (next_due l) r h =
    tried_by_lem (Kept p) (due_tests l) (declines p l) (answers p (due_answer (due p (watching l))) l) (λ n. refl) refl ∙ h
renewed p (frame t b) r h = by (framed p t b) ∙ h
  where
    by : {k : Step} → Framed p t k → Kept p k
    by (turned_away n) = refl
    by passed_by = refl
    by (taken_as k g) = g.earliest

-- ANY LIST: the earliest moment is that of the run which the last of these left
pub moment_all : (p : Plain) (cs : List Call) (r : Run) → p.earliest ≡ earliest (watching r) → (step_all p cs).earliest ≡ earliest (watching (last_left p cs r))
unfolding step_all last_left
moment_all p [] r h = h
moment_all p (c ∷ cs) r h = moment_all (step p c).head cs (left_by c (step p c) r) (renewed p c r h)

-- where the list ends with one that was accepted, the run that it left itself
pub ends_with :
    (p : Plain) (cs : List Call) (c : Call) (r : Run) → works_out c ≡ true → accepted (step (step_all p cs) c).answer ≡ true →
    last_left p (cs ++ (c ∷ [])) r ≡ (step (step_all p cs) c).lent
unfolding step_all last_left
ends_with p [] c r w a = ap₂ (λ (x y : Bool). pick (both x y) (step p c).lent r) w a
ends_with p (x ∷ cs) c r w a = ends_with (step p x).head cs c (left_by x (step p x) r) w a

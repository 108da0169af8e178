-- The single calls, which firmware makes instead of `make`: what each ensures, as its contract in
-- src/ is read by the prover (`Learnt`), and no more, makes it a call of a list (`Made`). So what is
-- proved of any list of calls holds of the single calls too, in either form of the watched nodes,
-- mixed as one likes. `q`, `m` and `r` are the queue's bytes, the history's bytes and the run where
-- the call is not lent them.
-- Assumes nothing.
use Prim.Native.Nat.{ℕ}
use mathlib.Core.Path.{◌≡◌, refl, ap, ap₂}
use mathlib.Core.Bool.{Bool}
use mathlib.Core.List.{List}
use Rattle.std.specs.Prelude.{ℤ}
use Rattle.std.specs.declared.option.Option.{Option}
use Rattle.std.specs.declared.result.Result.{Result}
use Rattle.std.specs.declared.result.Result.TheVariants.{Ok, Err}
use Rattle.types.specs.declared.refusals.Refusal.{Refusal}
use Rattle.types.specs.declared.frame.error.types.DllErrors.{DllErrors}
use Rattle.counters.specs.declared.counters.ErrorTaken.{ErrorTaken}
use Rattle.entries.specs.declared.emergency_queue.EmergencyQueue.{EmergencyQueue}
use Rattle.entries.specs.declared.error_history.ErrorHistory.{ErrorHistory}
use Rattle.entries.specs.declared.status_response.ErrorEntry.{ErrorEntry}
use Rattle.head.specs.Head.{Head}
use Rattle.watched.specs.Watched.{Run, run}
use Rattle.watched.specs.Nodes.{nodes_of}
use Rattle.node.specs.declared.calls.NmtTaken.{NmtTaken}
use Rattle.node.specs.declared.range.SocVerdict.{SocVerdict}
use Rattle.node.specs.Refines.{SamePlaces, Rings, rings}
use Rattle.node.specs.InPlace.{answered}
use Rattle.node.specs.Heard.{HeardOn}
use Rattle.partners.specs.Partners.{AddedOn, RemovedOn}
use Rattle.node.specs.Plain as plain
use Rattle.tick.specs.TickIn.{TickedOn}
use Rattle.reception.specs.declared.FrameAnswer.{FrameAnswer}
use Rattle.start.specs.Started.{StartedOn}
use Rattle.calling.specs.declared.Call.{Call}
use Rattle.calling.specs.declared.Call.TheVariants.{NmtEvent, DllEvent, Error, CycleComplete, Withdraw, Heard, HandOut, Load, Arm, Tick, Range, Margin, Add, Remove, NextDue, Frame}
use Rattle.calling.specs.declared.Answer.{Answer}
use Rattle.calling.specs.declared.Answer.TheVariants as answer
use Rattle.calling.specs.Held.{held}
use Rattle.calling.specs.Values.{Reply, said}
use Rattle.calling.specs.Made.{Made}
use Rattle.calling.proofs.Waiting.{due_made}
use Rattle.node.proofs.calls.nmt_event.Reads as nmt-event
use Rattle.node.proofs.calls.dll_event.Reads as dll-event
use Rattle.node.proofs.calls.handle_error.Reads as handle-error
use Rattle.node.proofs.calls.on_cycle_complete.Reads as on-cycle-complete
use Rattle.node.proofs.calls.withdraw.Reads as withdraw
use Rattle.node.proofs.calls.hand_out.Reads as hand-out
use Rattle.node.proofs.calls.arm.Reads as arm
use Rattle.node.proofs.load.load.Reads as load
use Rattle.node.proofs.range.soc_range.Reads as soc-range
use Rattle.node.proofs.range.soc_margin.Reads as soc-margin
use Rattle.node.proofs.heard.heard.Reads as heard
use Rattle.tick.proofs.tick.process_tick.Reads as process-tick
use Rattle.partners.proofs.add.Reads as add
use Rattle.partners.proofs.remove.Reads as remove
use Rattle.start.proofs.start.start.Reads as start
use Rattle.reception.proofs.process_frame.Reads as process-frame
use Rattle.due.proofs.words.next_due.Reads as next-due
use Rattle.lent.proofs.calls.heard.Reads as heard-run
use Rattle.lent.proofs.calls.start.Reads as start-run
use Rattle.lent.proofs.ticks.process_tick.Reads as process-tick-run
use Rattle.lent.proofs.arrivals.add.Reads as add-run
use Rattle.lent.proofs.arrivals.remove.Reads as remove-run
use Rattle.due.proofs.run.next_due.Reads as next-due-run

-- what comes back from a single call, as from `make`
abbrev pub replied : {A : Type 0} → (A → Answer) → Result A Refusal → Reply
replied f (Ok x) = Ok (f x)
replied f (Err n) = Err n

-- what comes back from one that tells no more than that it was taken
abbrev pub taken_or : Result (Unit {0}) Refusal → Reply
taken_or = replied (λ (_ : Unit {0}). answer.Taken)

-- queue and history stand where they stood
kept : {h h' : Head} (q m : List ℕ) → SamePlaces h h' → rings h' q m ≡ rings h q m
kept q m p =
    ap₂ (λ (x : EmergencyQueue) (y : ErrorHistory). record { queue = x; queue_bytes = q; history = y; history_bytes = m })
    p.queue p.history

-- what a single call told is what the reply says
said_due : (o : Result (Option ℕ) Refusal) → said (replied answer.Due o) ≡ answered plain.due_answer o
said_due (Ok d) = refl
said_due (Err n) = refl

-- of the calls that are lent the nodes, by what they ensure of the run, in either form
module _ {ws ws' : List ℕ} {q m : List ℕ} {r r' : Run} where
  heard_on :
      (n t : ℕ) (o : Result (Unit {0}) Refusal) →
      HeardOn ws r n t o ws' r' → Made (held ws q m r) (Heard n t) (taken_or o) (held ws' q m r')
  heard_on n t (Ok u) e =
      record { refines = e.refines q m; lent = (e.refines q m).lent; words = e.words; rings = kept q m e.places }
  heard_on n t (Err f) e =
      record { refines = e.refines q m; lent = (e.refines q m).lent; words = e.words; rings = kept q m e.places }

  add_on :
      (n t : ℕ) (o : Result (Unit {0}) Refusal) →
      AddedOn ws r n t o ws' r' → Made (held ws q m r) (Add n t) (taken_or o) (held ws' q m r')
  add_on n t (Ok u) e =
      record { refines = e.refines q m; lent = (e.refines q m).lent; words = e.words; rings = kept q m e.places }
  add_on n t (Err f) e =
      record { refines = e.refines q m; lent = (e.refines q m).lent; words = e.words; rings = kept q m e.places }

  remove_on :
      (n : ℕ) (o : Result (Unit {0}) Refusal) →
      RemovedOn ws r n o ws' r' → Made (held ws q m r) (Remove n) (taken_or o) (held ws' q m r')
  remove_on n (Ok u) e =
      record { refines = e.refines q m; lent = (e.refines q m).lent; words = e.words; rings = kept q m e.places }
  remove_on n (Err f) e =
      record { refines = e.refines q m; lent = (e.refines q m).lent; words = e.words; rings = kept q m e.places }

  tick_on :
      {q' m' : List ℕ} (t : ℕ) (o : Result DllErrors Refusal) →
      TickedOn ws q m r t o ws' q' m' r' → Made (held ws q m r) (Tick t) (replied answer.Tick o) (held ws' q' m' r')
  tick_on t (Ok es) e = record { refines = e.refines; lent = e.refines.lent; words = e.words; rings = e.rings }
  tick_on t (Err f) e = record { refines = e.refines; lent = e.refines.lent; words = e.words; rings = e.rings }

-- κs: the lifetimes; a: the arguments; o: what is returned; x: what is lent, as it is left
module _ (q m : List ℕ) (r : Run) where
  pub nmt_event_made :
      (κs : _) (a : _) (o : Result NmtTaken Refusal) (x : _) →
      nmt-event.Learnt κs a o x → Made (held a.0.now q m r) (NmtEvent a.1.0) (replied answer.Nmt o) (held x.0.now q m r)
  nmt_event_made κs a (Ok t) x e =
      record { refines = e.refines q m; lent = refl; words = e.words; rings = kept q m e.places }
  nmt_event_made κs a (Err n) x e =
      record { refines = e.refines q m; lent = refl; words = e.words; rings = kept q m e.places }

  pub dll_event_made :
      (κs : _) (a : _) (o : Result DllErrors Refusal) (x : _) →
      dll-event.Learnt κs a o x → Made (held a.0.now q m r) (DllEvent a.1.0 a.1.1.0) (replied answer.Dll o) (held x.0.now q m r)
  dll_event_made κs a (Ok t) x e =
      record { refines = e.refines q m; lent = refl; words = e.words; rings = kept q m e.places }
  dll_event_made κs a (Err n) x e =
      record { refines = e.refines q m; lent = refl; words = e.words; rings = kept q m e.places }

  pub handle_error_made :
      (κs : _) (a : _) (o : Result ErrorTaken Refusal) (x : _) →
      handle-error.Learnt κs a o x → Made (held a.0.now q m r) (Error a.1.0 a.1.1.0 a.1.1.1.0) (replied answer.Error o) (held x.0.now q m r)
  handle_error_made κs a (Ok t) x e =
      record { refines = e.refines q m; lent = refl; words = e.words; rings = kept q m e.places }
  handle_error_made κs a (Err n) x e =
      record { refines = e.refines q m; lent = refl; words = e.words; rings = kept q m e.places }

  pub on_cycle_complete_made :
      (κs : _) (a : _) (o : Bool) (x : _) →
      on-cycle-complete.Learnt κs a o x → Made (held a.0.now q m r) (CycleComplete) (Ok (answer.Cycle o)) (held x.0.now q m r)
  on_cycle_complete_made κs a o x e =
      record { refines = e.refines q m; lent = refl; words = e.words; rings = kept q m e.places }

  pub withdraw_made :
      (κs : _) (a : _) (o : Result (Unit {0}) Refusal) (x : _) →
      withdraw.Learnt κs a o x → Made (held a.0.now q m r) (Withdraw) (taken_or o) (held x.0.now q m r)
  withdraw_made κs a (Ok t) x e =
      record { refines = e.refines q m; lent = refl; words = e.words; rings = kept q m e.places }
  withdraw_made κs a (Err n) x e =
      record { refines = e.refines q m; lent = refl; words = e.words; rings = kept q m e.places }

  pub arm_made :
      (κs : _) (a : _) (o : Result (Unit {0}) Refusal) (x : _) →
      arm.Learnt κs a o x → Made (held a.0.now q m r) (Arm a.1.0) (taken_or o) (held x.0.now q m r)
  arm_made κs a (Ok t) x e =
      record { refines = e.refines q m; lent = refl; words = e.words; rings = kept q m e.places }
  arm_made κs a (Err n) x e =
      record { refines = e.refines q m; lent = refl; words = e.words; rings = kept q m e.places }

  pub soc_range_made :
      (κs : _) (a : _) (o : Result SocVerdict Refusal) (x : _) →
      soc-range.Learnt κs a o x → Made (held a.0.now q m r) (Range a.1.0 a.1.1.0) (replied answer.Range o) (held a.0.now q m r)
  soc_range_made κs a (Ok t) x e =
      record { refines = e.refines q m; lent = refl; words = e.words; rings = kept q m e.places }
  soc_range_made κs a (Err n) x e =
      record { refines = e.refines q m; lent = refl; words = e.words; rings = kept q m e.places }

  pub soc_margin_made :
      (κs : _) (a : _) (o : Result ℤ Refusal) (x : _) →
      soc-margin.Learnt κs a o x → Made (held a.0.now q m r) (Margin a.1.0) (replied answer.Margin o) (held a.0.now q m r)
  soc_margin_made κs a (Ok t) x e =
      record { refines = e.refines q m; lent = refl; words = e.words; rings = kept q m e.places }
  soc_margin_made κs a (Err n) x e =
      record { refines = e.refines q m; lent = refl; words = e.words; rings = kept q m e.places }

  -- this one is lent the queue's bytes to read
  pub hand_out_made :
      (κs : _) (a : _) (o : Option ErrorEntry) (x : _) →
      hand-out.Learnt κs a o x →
      Made (held a.0.now a.1.0.now m r) HandOut (Ok (answer.HandedOut o)) (held x.0.now a.1.0.now m r)
  hand_out_made κs a o x e =
      record {
        refines = e.0 m;
        lent = refl;
        words = e.1;
        rings = ap (λ (h : Head). rings h a.1.0.now m) e.2;
      }

  -- this one the history's
  pub load_made :
      (κs : _) (a : _) (o : _) (x : _) →
      load.Learnt κs a o x →
      Made (held a.0.now q a.1.0.now r) (Load a.1.1.0 a.1.1.1.0) (Ok answer.Taken) (held x.0.now q x.1.0.now r)
  load_made κs a o x e =
      record {
        refines = e.refines q;
        lent = refl;
        words = e.words;
        rings =
            ap₂ (λ (f : List ℕ → Rings) (z : List ℕ). f z)
            (ap₂ {C = List ℕ → Rings} (λ (x : EmergencyQueue) (y : ErrorHistory) (z : List ℕ). record { queue = x; queue_bytes = q; history = y; history_bytes = z })
            e.queue e.history)
            e.memory;
      }

  -- a frame is lent both
  pub process_frame_made :
      (κs : _) (a : _) (o : Result FrameAnswer Refusal) (x : _) →
      process-frame.Learnt κs a o x →
      Made (held a.0.now a.1.0.now a.1.1.0.now r) (Frame a.1.1.1.0 a.1.1.1.1.0) (replied answer.Frame o)
      (held x.0.now x.1.0.now x.1.1.0.now r)
  process_frame_made κs a (Ok f) x e = record { refines = e.refines; lent = refl; words = e.words; rings = e.rings }
  process_frame_made κs a (Err n) x e = record { refines = e.refines; lent = refl; words = e.words; rings = e.rings }

  -- the nodes are lent in words
  pub heard_made :
      (κs : _) (a : _) (o : Result (Unit {0}) Refusal) (x : _) →
      heard.Learnt κs a o x →
      Made (held a.0.now q m (run (nodes_of a.1.0.now) a.1.1.0)) (Heard a.1.1.1.0 a.1.1.1.1.0) (taken_or o)
      (held x.0.now q m (run (nodes_of x.1.0.now) a.1.1.0))
  heard_made κs a o x e = heard_on a.1.1.1.0 a.1.1.1.1.0 o e.on

  pub add_made :
      (κs : _) (a : _) (o : Result (Unit {0}) Refusal) (x : _) →
      add.Learnt κs a o x →
      Made (held a.0.now q m (run (nodes_of a.1.0.now) a.1.1.0.now)) (Add a.1.1.1.0 a.1.1.1.1.0) (taken_or o)
      (held x.0.now q m (run (nodes_of x.1.0.now) x.1.1.0.now))
  add_made κs a o x e = add_on a.1.1.1.0 a.1.1.1.1.0 o e.on

  pub remove_made :
      (κs : _) (a : _) (o : Result (Unit {0}) Refusal) (x : _) →
      remove.Learnt κs a o x →
      Made (held a.0.now q m (run (nodes_of a.1.0.now) a.1.1.0.now)) (Remove a.1.1.1.0) (taken_or o)
      (held x.0.now q m (run (nodes_of x.1.0.now) x.1.1.0.now))
  remove_made κs a o x e = remove_on a.1.1.1.0 o e.on

  pub next_due_made :
      (κs : _) (a : _) (o : Result (Option ℕ) Refusal) (x : _) →
      next-due.Learnt κs a o x →
      let z = held a.0.now q m (run (nodes_of a.1.0.now) a.1.1.0) in
      Made z NextDue (replied answer.Due o) z
  next_due_made κs a o x e = due_made a.0.now q m _ NextDue o (replied answer.Due o) refl e (said_due o)

  -- the nodes are lent as a run of records
  pub heard_run_made :
      (κs : _) (a : _) (o : Result (Unit {0}) Refusal) (x : _) →
      heard-run.Learnt κs a o x →
      Made (held a.0.now q m (run a.1.0.now a.1.1.0)) (Heard a.1.1.1.0 a.1.1.1.1.0) (taken_or o)
      (held x.0.now q m (run x.1.0.now a.1.1.0))
  heard_run_made κs a o x e = heard_on a.1.1.1.0 a.1.1.1.1.0 o e

  pub add_run_made :
      (κs : _) (a : _) (o : Result (Unit {0}) Refusal) (x : _) →
      add-run.Learnt κs a o x →
      Made (held a.0.now q m (run a.1.1.0.now a.1.0.now)) (Add a.1.1.1.0 a.1.1.1.1.0) (taken_or o)
      (held x.0.now q m (run x.1.1.0.now x.1.0.now))
  add_run_made κs a o x e = add_on a.1.1.1.0 a.1.1.1.1.0 o e

  pub remove_run_made :
      (κs : _) (a : _) (o : Result (Unit {0}) Refusal) (x : _) →
      remove-run.Learnt κs a o x →
      Made (held a.0.now q m (run a.1.1.0.now a.1.0.now)) (Remove a.1.1.1.0) (taken_or o)
      (held x.0.now q m (run x.1.1.0.now x.1.0.now))
  remove_run_made κs a o x e = remove_on a.1.1.1.0 o e

  pub next_due_run_made :
      (κs : _) (a : _) (o : Result (Option ℕ) Refusal) (x : _) →
      next-due-run.Learnt κs a o x →
      let z = held a.0.now q m (run a.1.0.now a.1.1.0) in
      Made z NextDue (replied answer.Due o) z
  next_due_run_made κs a o x e = due_made a.0.now q m _ NextDue o (replied answer.Due o) refl e (said_due o)

-- a tick is lent all there is
pub process_tick_made :
    (κs : _) (a : _) (o : Result DllErrors Refusal) (x : _) →
    process-tick.Learnt κs a o x →
    Made (held a.0.now a.1.0.now a.1.1.0.now (run (nodes_of a.1.1.1.0.now) a.1.1.1.1.0)) (Tick a.1.1.1.1.1.0) (replied answer.Tick o)
    (held x.0.now x.1.0.now x.1.1.0.now (run (nodes_of x.1.1.1.0.now) a.1.1.1.1.0))
process_tick_made κs a o x e = tick_on a.1.1.1.1.1.0 o e.on

pub process_tick_run_made :
    (κs : _) (a : _) (o : Result DllErrors Refusal) (x : _) →
    process-tick-run.Learnt κs a o x →
    Made (held a.0.now a.1.0.now a.1.1.0.now (run a.1.1.1.0.now a.1.1.1.1.0)) (Tick a.1.1.1.1.1.0) (replied answer.Tick o)
    (held x.0.now x.1.0.now x.1.1.0.now (run x.1.1.1.0.now a.1.1.1.1.0))
process_tick_run_made κs a o x e = tick_on a.1.1.1.1.1.0 o e

-- a start, in either form, is one as a list of calls begins with
pub start_begun :
    (κs : _) (a : _) (o : Result (Unit {0}) Refusal) (x : _) →
    start.Learnt κs a o x →
    StartedOn a.0.now (run (nodes_of a.1.0.now) a.1.1.0) a.1.1.1.0 o x.0.now (run (nodes_of x.1.0.now) a.1.1.0)
start_begun κs a o x e = e.on

pub start_run_begun :
    (κs : _) (a : _) (o : Result (Unit {0}) Refusal) (x : _) →
    start-run.Learnt κs a o x →
    StartedOn a.0.now (run a.1.0.now a.1.1.0) a.1.1.1.0 o x.0.now (run x.1.0.now a.1.1.0)
start_run_begun κs a o x e = e

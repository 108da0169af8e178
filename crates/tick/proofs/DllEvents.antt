-- A DLL event of the cycle in words: the machine's state is written, and its errors go to the walk.
-- Assumes nothing.
use Prim.Native.Nat.{ℕ}
use mathlib.Core.Path.{◌≡◌, refl, sym, ap, ap₂, subst, ◌∙◌}
use mathlib.Core.Bool.{Bool, true, false}
use mathlib.Core.List.{List, []}
use lib.ListN.{length}
use Rattle.types.specs.Pick.{pick, all_of}
use Rattle.types.specs.Errors.{reported}
use Rattle.types.specs.declared.nmt.states.NmtState.{NmtState}
use Rattle.types.specs.declared.frame.cs_state_machine.DllCsEvent.{DllCsEvent}
use Rattle.types.specs.declared.frame.cs_state_machine.DllCsEvent.TheVariants.{Soc, Preq, Pres, Soa, Asnd, SocTimeout}
use Rattle.types.specs.declared.frame.error.types.DllError.{DllError}
use Rattle.types.specs.declared.frame.error.types.DllErrors.{DllErrors}
use Rattle.dll.specs.Dll as Dll
use Rattle.dll.specs.declared.cs_state_machine.DllCsState.{DllCsState}
use Rattle.dll.specs.declared.cs_state_machine.DllCsState.TheVariants.{NonCyclic, WaitSoc, WaitPreq, WaitSoa}
use Rattle.head.specs.Places as at
use Rattle.head.specs.Words.{word, state_of, dll_state, head_of}
use Rattle.head.proofs.Laws.{dll_written}
use Rattle.node.specs.Plain.{Plain}
use Rattle.node.specs.Steps.{with_dll, dll_outcome}
use Rattle.node.specs.DllErrors.{on_dll_errors, on_dll_event}
use Rattle.node.specs.Refines.{plain, Becomes}
use Rattle.node.specs.InPlace.{dll_outcome_of, DllProcessed}
use Rattle.phases.specs.Parts.{is_quiet}
use Rattle.phases.specs.PartsIn.{TicksIn}
use Rattle.phases.specs.declared.PhaseOutcome.{PhaseOutcome}
use Rattle.tick.specs.TickWords.{on_dll_errors_words, on_dll_event_words}
use Rattle.tick.proofs.DeadlineLaws.{ticks_as, ticks_from}

-- whatever the event, each error that it reports counts for a kind or for none
pub events_quiet : (s : DllCsState) (e : DllCsEvent) (n : NmtState) → all_of is_quiet (Dll.cs_processed s e n true).errors ≡ true
unfolding Dll.cs_processed
events_quiet s e n = by (Dll.is_cyclic n) s e
  where
    by : (b : Bool) (s : DllCsState) (e : DllCsEvent) → all_of is_quiet (pick b (Dll.cyclic s e true) (Dll.goes NonCyclic [])).errors ≡ true
    by true NonCyclic Soc = refl
    by true NonCyclic Preq = refl
    by true NonCyclic Pres = refl
    by true NonCyclic Soa = refl
    by true NonCyclic Asnd = refl
    by true NonCyclic SocTimeout = refl
    by true WaitSoc Soc = refl
    by true WaitSoc Preq = refl
    by true WaitSoc Pres = refl
    by true WaitSoc Soa = refl
    by true WaitSoc Asnd = refl
    by true WaitSoc SocTimeout = refl
    by true WaitPreq Soc = refl
    by true WaitPreq Preq = refl
    by true WaitPreq Pres = refl
    by true WaitPreq Soa = refl
    by true WaitPreq Asnd = refl
    by true WaitPreq SocTimeout = refl
    by true WaitSoa Soc = refl
    by true WaitSoa Preq = refl
    by true WaitSoa Pres = refl
    by true WaitSoa Soa = refl
    by true WaitSoa Asnd = refl
    by true WaitSoa SocTimeout = refl
    by false s e = refl

pub reports_quiet :
    (ws : List ℕ) (e : DllCsEvent) (es : DllErrors) (ws' : List ℕ) →
    DllProcessed ws e true es ws' →
    all_of is_quiet (reported es) ≡ true
reports_quiet ws e es ws' r =
    ap (all_of is_quiet) r.errors ∙ events_quiet (dll_state (word ws at.dll)) e (state_of (word ws at.state))

-- the event, and the walk over its errors
module _ (ws : List ℕ) (long : length ws ≡ 60) (e : DllCsEvent) (es : DllErrors) (ws₁ : List ℕ) (r : DllProcessed ws e true es ws₁) where
  becomes : Becomes (head_of ws) (λ p. with_dll p (dll_outcome p e true).state) (head_of ws₁)
  unfolding head_of
  becomes =
      subst (Becomes (head_of ws) (λ p. with_dll p (dll_outcome p e true).state))
      (sym (ap head_of r.words ∙ dll_written ws long (dll_outcome_of ws e true).state))
      (λ q m. refl, record { queue = refl; history = refl })

  module _ (q m : List ℕ) (t : ℕ) (d : PhaseOutcome) (ws₂ q' m' : List ℕ) (w : TicksIn ws₁ q m (on_dll_errors t (plain (head_of ws₁) q m) (reported es)) d ws₂ q' m' (on_dll_errors_words ws₁ (reported es))) where
    abbrev p₁ : Plain
    p₁ = plain (head_of ws₁) q m

    abbrev errors : List DllError
    errors = (dll_outcome (plain (head_of ws) q m) e true).errors

    pub event_walked : TicksIn ws q m (on_dll_event t (plain (head_of ws) q m) e) d ws₂ q' m' (on_dll_event_words ws e)
    unfolding head_of on_dll_event_words
    event_walked =
        record {
          ticks =
              ticks_from (λ p. with_dll p (dll_outcome p e true).state) (λ (p : Plain). on_dll_errors t p errors) becomes
              (ticks_as (on_dll_errors t p₁ (reported es)) (on_dll_errors t p₁ errors) (ap (on_dll_errors t p₁) (sym r.errors)) w.ticks);
          words = w.words ∙ ap₂ on_dll_errors_words r.words r.errors;
        }

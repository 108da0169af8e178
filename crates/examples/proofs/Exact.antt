-- The tests of two parts are true exactly where the parts are equal; so is their conjunction of two heads.
-- Assumes nothing.
use Prim.Native.Nat.{ℕ}
use mathlib.Core.Path.{◌≡◌, refl, sym, ap, ◌∙◌}
use mathlib.Core.Bool.{Bool, true, false, ◌&&◌, beq}
use mathlib.Core.List.{List}
use native.Mathlib.Omega.{arith}
use borrow.Author.Tests.{eqb-true, eq-eqb}
use lib.Dec.{eqb}
use Rattle.std.proofs.Common.{rules}
use denote.Builtin
use Rattle.std.specs.contracts.prelude.OptionPartialEq.TheImpl as option
use Rattle.std.specs.contracts.prelude.U64PartialEq.TheImpl as u64
use Rattle.nmt.specs.contracts.cn_state_machine.CnNmtStateMachinePartialEq.TheImpl as nmt
use Rattle.dll.specs.contracts.cs_state_machine.DllCsStateMachinePartialEq.TheImpl as dll
use Rattle.counters.specs.contracts.counters.CnErrorCountersPartialEq.TheImpl as errors
use Rattle.head.specs.contracts.state.SocWatchPartialEq.TheImpl as soc
use Rattle.head.specs.contracts.state.DictionaryPartialEq.TheImpl as od
use Rattle.entries.specs.contracts.emergency_queue.EmergencyQueuePartialEq.TheImpl as queue
use Rattle.entries.specs.contracts.error_history.ErrorHistoryPartialEq.TheImpl as history
use Rattle.dll.specs.declared.cs_state_machine.DllCsStateMachine.{DllCsStateMachine}
use denote.Enum.Bare.{same_true, true_same}
use Rattle.types.specs.contracts.nmt.states.NmtState.{the_type}
use Rattle.types.specs.contracts.nmt.states.NmtStatePartialEq.TheImpl as state
use Rattle.counters.specs.contracts.counters.ThresholdCounterPartialEq.TheImpl as counter
use Rattle.counters.specs.declared.counters.ThresholdCounter.{ThresholdCounter}
use Rattle.std.specs.contracts.prelude.U32PartialEq.TheImpl as u32
use Rattle.types.specs.declared.nmt.states.NmtState.{NmtState}
use Rattle.nmt.specs.declared.cn_state_machine.CnNmtStateMachine.{CnNmtStateMachine}
use Rattle.counters.specs.declared.counters.CnErrorCounters.{CnErrorCounters}
use Rattle.entries.specs.declared.emergency_queue.EmergencyQueue.{EmergencyQueue}
use Rattle.entries.specs.declared.error_history.ErrorHistory.{ErrorHistory}
use Rattle.std.specs.declared.option.Option.{Option}
use Rattle.head.specs.declared.state.SocWatch.{SocWatch}
use Rattle.head.specs.declared.state.Dictionary.{Dictionary}
use Rattle.head.specs.Places as at
use Rattle.head.specs.Words.{word, nmt_of, dll_state, errors_of, soc_of, od_of, queue_of, history_of, earliest_of, head_of}
use Rattle.examples.specs.Same.{Exactly}

pub exact_number : (a b : ℕ) → Exactly (eqb a b) (a ≡ b)
exact_number a b = record { says = eqb-true a b; holds = eq-eqb a b }

pub no : {A : Type 0} → false ≡ true → A
no e = absurd (let z : ◌≡◌ {A = ℕ} 0 1 = cc in let f : ⊥ = omega arith in f)

pub exact_flag : (a b : Bool) → Exactly (beq a b) (a ≡ b)
exact_flag true true = record { says = λ e. refl; holds = λ e. refl }
exact_flag true false = record { says = λ e. no e; holds = λ e. sym e }
exact_flag false true = record { says = λ e. no e; holds = λ e. e }
exact_flag false false = record { says = λ e. refl; holds = λ e. refl }

-- by what P comes to
pub exact_by : {r : Bool} {P Q : Type 0} → Exactly r P → (P → Q) → (Q → P) → Exactly r Q
exact_by x f g = record { says = λ e. f (x.says e); holds = λ q. x.holds (g q) }

pub exact_and : {r s : Bool} {P Q : Type 0} → Exactly r P → Exactly s Q → Exactly (r && s) (P × Q)
exact_and {r} {s} {P} {Q} x y = by r x
  where
    by : (r : Bool) → Exactly r P → Exactly (r && s) (P × Q)
    by true x = record { says = λ e. (x.says refl, y.says e); holds = λ h. y.holds h.1 }
    by false x = record { says = λ e. no e; holds = λ h. x.holds h.0 }

-- of a test that was answered
pub exact_is : {r s : Bool} {P : Type 0} → r ≡ s → Exactly s P → Exactly r P
exact_is e x = record { says = λ h. x.says (sym e ∙ h); holds = λ p. e ∙ x.holds p }

pub exact_state : (s t : NmtState) → Exactly ((state.ghosts).eq s t) (s ≡ t)
exact_state s t = record { says = same_true the_type tt s t; holds = true_same the_type s t }

exact_counter : (x y : ThresholdCounter) → Exactly ((counter.ghosts).eq x y) (x ≡ y)
exact_counter x y =
    exact_by (exact_and (exact_number _ _) (exact_and (exact_number _ _) (exact_and (exact_number _ _) (exact_number _ _))))
    (λ h. λ i. record { cumulative_cnt = h.0 i; threshold_cnt = h.1.0 i; threshold = h.1.1.0 i; crossings_cnt = h.1.1.1 i })
    (λ e. (ap (λ z. z.cumulative_cnt) e, (ap (λ z. z.threshold_cnt) e, (ap (λ z. z.threshold) e, ap (λ z. z.crossings_cnt) e))))

exact_object : (x y : Option ℕ) (r : Bool) → r ≡ (option.ghosts Builtin.u32 u32.ghosts u32.dict).eq x y → Exactly r (x ≡ y)
exact_object x y r e = search rules

-- two parts of a head that were compared by `==`
pub exact_nmt : (x y : CnNmtStateMachine) (r : Bool) → r ≡ (nmt.ghosts).eq x y → Exactly r (x ≡ y)
exact_nmt x y r e =
    exact_is e
    (exact_by
    (exact_and (exact_state _ _) (exact_and (exact_number _ _) (exact_and (exact_number _ _) (exact_and (exact_number _ _) (exact_and (exact_flag _ _) (exact_flag _ _))))))
    (λ h. λ i.
    record {
      current_state = h.0 i;
      node_id = record { 0 = h.1.0 i };
      feature_flags = record { 0 = h.1.1.0 i };
      basic_ethernet_timeout = h.1.1.1.0 i;
      ready_to_operate_enabled = h.1.1.1.1.0 i;
      app_ready = h.1.1.1.1.1 i;
    })
    (λ e. (ap (λ z. z.current_state) e, (ap (λ z. z.node_id.0) e, (ap (λ z. z.feature_flags.0) e, (ap (λ z. z.basic_ethernet_timeout) e, (ap (λ z. z.ready_to_operate_enabled) e, ap (λ z. z.app_ready) e)))))))

pub exact_dll : (x y : DllCsStateMachine) (r : Bool) → r ≡ (dll.ghosts).eq x y → Exactly r (x ≡ y)
exact_dll x y r e = search rules

pub exact_errors : (x y : CnErrorCounters) (r : Bool) → r ≡ (errors.ghosts).eq x y → Exactly r (x ≡ y)
exact_errors x y r e =
    exact_is e
    (exact_by
    (exact_and
    (exact_by
    (exact_and (exact_counter _ _) (exact_and (exact_counter _ _) (exact_and (exact_counter _ _) (exact_and (exact_counter _ _) (exact_and (exact_counter _ _)
    (exact_and (exact_counter _ _) (exact_counter _ _)))))))
    (λ h. λ i.
    record {
      collision = h.0 i;
      loss_of_soc = h.1.0 i;
      loss_of_soa = h.1.1.0 i;
      loss_of_preq = h.1.1.1.0 i;
      soc_jitter = h.1.1.1.1.0 i;
      crc_errors = h.1.1.1.1.1.0 i;
      heartbeat_timeout = h.1.1.1.1.1.1 i;
    })
    (λ e. (ap (λ z. z.collision) e, (ap (λ z. z.loss_of_soc) e, (ap (λ z. z.loss_of_soa) e, (ap (λ z. z.loss_of_preq) e, (ap (λ z. z.soc_jitter) e, (ap (λ z. z.crc_errors) e, ap (λ z. z.heartbeat_timeout) e))))))))
    (exact_number _ _))
    (λ h. λ i. record { counters = h.0 i; loss_of_link_cumulative = h.1 i })
    (λ e. (ap (λ z. z.counters) e, ap (λ z. z.loss_of_link_cumulative) e)))

pub exact_soc : (x y : SocWatch) (r : Bool) → r ≡ (soc.ghosts).eq x y → Exactly r (x ≡ y)
exact_soc x y r e = search rules

pub exact_od : (x y : Dictionary) (r : Bool) → r ≡ (od.ghosts).eq x y → Exactly r (x ≡ y)
exact_od x y r e =
    exact_is e
    (exact_by
    (exact_and (exact_number _ _) (exact_and (exact_object _ _ _ refl) (exact_and (exact_object _ _ _ refl) (exact_and (exact_number _ _) (exact_and (exact_number _ _)
    (exact_and (exact_number _ _) (exact_number _ _)))))))
    (λ h. λ i.
    record {
      error_register = h.0 i;
      cycle_time = h.1.0 i;
      tolerance = h.1.1.0 i;
      counter_1 = h.1.1.1.0 i;
      counter_2 = h.1.1.1.1.0 i;
      counter_3 = h.1.1.1.1.1.0 i;
      counter_5 = h.1.1.1.1.1.1 i;
    })
    (λ e. (ap (λ z. z.error_register) e, (ap (λ z. z.cycle_time) e, (ap (λ z. z.tolerance) e, (ap (λ z. z.counter_1) e, (ap (λ z. z.counter_2) e, (ap (λ z. z.counter_3) e, ap (λ z. z.counter_5) e))))))))

pub exact_queue : (x y : EmergencyQueue) (r : Bool) → r ≡ (queue.ghosts).eq x y → Exactly r (x ≡ y)
exact_queue x y r e = search rules

pub exact_history : (x y : ErrorHistory) (r : Bool) → r ≡ (history.ghosts).eq x y → Exactly r (x ≡ y)
exact_history x y r e = search rules

pub exact_moment : (x y : Option ℕ) (r : Bool) → r ≡ (option.ghosts Builtin.u64 u64.ghosts u64.dict).eq x y → Exactly r (x ≡ y)
exact_moment x y r e = search rules

-- of two values, by what they are
pub moved : {A : Type 0} {x y x' y' : A} {r : Bool} → x ≡ x' → y ≡ y' → Exactly r (x ≡ y) → Exactly r (x' ≡ y')
moved e f x = exact_by x (λ h. sym e ∙ h ∙ f) (λ h. e ∙ h ∙ sym f)

abbrev machine_of : List ℕ → DllCsStateMachine
machine_of a = record { state = dll_state (word a at.dll) }

-- a head is its eight parts
pub exact_head :
    (a b : List ℕ) {n d e s o q h t : Bool} →
    Exactly n (nmt_of a ≡ nmt_of b) →
    Exactly d (machine_of a ≡ machine_of b) →
    Exactly e (errors_of a ≡ errors_of b) →
    Exactly s (soc_of a ≡ soc_of b) →
    Exactly o (od_of a ≡ od_of b) →
    Exactly q (queue_of a ≡ queue_of b) →
    Exactly h (history_of a ≡ history_of b) →
    Exactly t (earliest_of a ≡ earliest_of b) →
    Exactly (n && d && e && s && o && q && h && t) (head_of a ≡ head_of b)
unfolding head_of
exact_head a b n d e s o q h t =
    exact_by
    (exact_and (exact_and (exact_and (exact_and (exact_and (exact_and (exact_and n d) e) s) o) q) h) t)
    (λ h. λ i.
    record {
      nmt = h.0.0.0.0.0.0.0 i;
      dll = h.0.0.0.0.0.0.1 i;
      errors = h.0.0.0.0.0.1 i;
      soc = h.0.0.0.0.1 i;
      od = h.0.0.0.1 i;
      queue = h.0.0.1 i;
      history = h.0.1 i;
      earliest = h.1 i;
    })
    (λ e. (((((((ap (λ z. z.nmt) e, ap (λ z. z.dll) e), ap (λ z. z.errors) e), ap (λ z. z.soc) e), ap (λ z. z.od) e), ap (λ z. z.queue) e), ap (λ z. z.history) e), ap (λ z. z.earliest) e))

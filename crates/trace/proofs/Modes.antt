-- The machine's flags and what the node was told, by the state: one computed test over every state, event and flag.
-- Assumes nothing.
use Prim.Native.Nat.{ℕ, zero, suc}
use mathlib.Core.Path.{◌≡◌, refl, sym, ap, ◌∙◌}
use mathlib.Core.Bool.{Bool, true, false, not}
use mathlib.Core.List.{List, [], ◌∷◌}
use lib.ListN.{get_or}
use Rattle.types.specs.Pick.{pick, both, all_of}
use Rattle.types.specs.States.{same_state}
use Rattle.types.specs.declared.nmt.states.NmtState.TheVariants.{NmtPreOperational2, NmtReadyToOperate}
use Rattle.types.specs.declared.nmt.events.NmtEvent.{NmtEvent}
use Rattle.types.proofs.Cases.{Enum, NmtStates, NmtEvents}
use Rattle.types.proofs.Tests.{both_first, both_second}
use Rattle.nmt.specs.Resets.{is_reset, states_entered}
use Rattle.nmt.specs.Nmt.{with, enter, row_of, applied, reset_by, processed}
use Rattle.nmt.specs.declared.cn_state_machine.CnNmtStateMachine.{CnNmtStateMachine}
use Rattle.node.specs.Steps.{withdrawn}
use Rattle.trace.specs.Tally.{Orders, orders, orders_by}

-- two tests agree; where one holds, another does
abbrev same : Bool → Bool → Bool
same a b = pick a b (not b)

abbrev pub implies : Bool → Bool → Bool
implies a b = pick a b true

-- Ready is the application's word. In PreOperational2, enabled says whether an enable or StartNode came in this visit; at
-- ReadyToOperate, one came and the word is ready; elsewhere, enabled is off.
abbrev pub mode : CnNmtStateMachine → Orders → Bool
mode m w =
    both (same m.app_ready w.word)
    (pick (same_state m.current_state NmtPreOperational2) (same m.ready_to_operate_enabled w.asked)
    (pick (same_state m.current_state NmtReadyToOperate) (both w.asked w.word)
    (not m.ready_to_operate_enabled)))

-- a test at every item of an enum, of the Booleans
abbrev pub always : {A : Type 0} → Enum A → (A → Bool) → Bool
always E f = both (f E.first) (all_of f E.items)

abbrev all_flags : (Bool → Bool) → Bool
all_flags f = both (f true) (f false)

all_at : {A : Type 0} (f : A → Bool) (xs : List A) (k : ℕ) (d : A) → f d ≡ true → all_of f xs ≡ true → f (get_or xs k d) ≡ true
all_at f [] k d h e = h
all_at f (x ∷ xs) zero d h e = both_first (f x) (all_of f xs) e
all_at f (x ∷ xs) (suc k) d h e = all_at f xs k d h (both_second (f x) (all_of f xs) e)

pub always_at : {A : Type 0} (E : Enum A) (f : A → Bool) → always E f ≡ true → (x : A) → f x ≡ true
always_at E f e x =
    ap f (sym (E.back x)) ∙
    all_at f E.items (E.position x) E.first (both_first (f E.first) (all_of f E.items) e) (both_second (f E.first) (all_of f E.items) e)

flags_at : (f : Bool → Bool) → all_flags f ≡ true → (b : Bool) → f b ≡ true
flags_at f e true = both_first (f true) (f false) e
flags_at f e false = both_second (f true) (f false) e

-- what holds of the machine m in every state, with every flag, and whatever the node was told, holds of m
abbrev pub every : (CnNmtStateMachine → Orders → Bool) → CnNmtStateMachine → Bool
every f m =
    always NmtStates
    (λ s. all_flags (λ en. all_flags (λ rd. all_flags (λ a. all_flags (λ w. f (with m s en rd) (orders a w))))))

pub every_at : (f : CnNmtStateMachine → Orders → Bool) (m : CnNmtStateMachine) (w : Orders) → every f m ≡ true → f m w ≡ true
every_at f m w e =
    let s = m.current_state in
    let en = m.ready_to_operate_enabled in
    let rd = m.app_ready in
    flags_at (λ x. f (with m s en rd) (orders w.asked x))
    (flags_at (λ a. all_flags (λ x. f (with m s en rd) (orders a x)))
    (flags_at (λ r. all_flags (λ a. all_flags (λ x. f (with m s en r) (orders a x))))
    (flags_at (λ n. all_flags (λ r. all_flags (λ a. all_flags (λ x. f (with m s n r) (orders a x)))))
    (always_at NmtStates
    (λ t. all_flags (λ n. all_flags (λ r. all_flags (λ a. all_flags (λ x. f (with m t n r) (orders a x))))))
    e s)
    en)
    rd)
    w.asked)
    w.word

pub follows : (a b : Bool) → implies a b ≡ true → a ≡ true → b ≡ true
follows true b e h = e
follows false true e h = refl
follows false false e h = h

-- an NMT event
abbrev event_keeps : NmtEvent → CnNmtStateMachine → Orders → Bool
event_keeps e m w = implies (mode m w) (mode (processed m e).machine (orders_by m e (processed m e).machine w))

event_test : (m : CnNmtStateMachine) → always NmtEvents (λ e. every (event_keeps e) m) ≡ true
unfolding processed reset_by applied enter row_of is_reset states_entered
event_test m = refl

pub mode_event :
    (m : CnNmtStateMachine) (e : NmtEvent) (w : Orders) →
    mode m w ≡ true →
    mode (processed m e).machine (orders_by m e (processed m e).machine w) ≡ true
mode_event m e w =
    follows (mode m w) (mode (processed m e).machine (orders_by m e (processed m e).machine w))
    (every_at (event_keeps e) m w (always_at NmtEvents (λ e. every (event_keeps e) m) (event_test m) e))

-- a withdrawal that is accepted: not at ReadyToOperate
abbrev withdraw_keeps : CnNmtStateMachine → Orders → Bool
withdraw_keeps m w =
    implies (both (mode m w) (not (same_state m.current_state NmtReadyToOperate))) (mode (withdrawn m) (orders w.asked false))

withdraw_test : (m : CnNmtStateMachine) → every withdraw_keeps m ≡ true
withdraw_test m = refl

pub mode_withdraw :
    (m : CnNmtStateMachine) (w : Orders) →
    not (same_state m.current_state NmtReadyToOperate) ≡ true →
    mode m w ≡ true →
    mode (withdrawn m) (orders w.asked false) ≡ true
mode_withdraw m w r h =
    follows (both (mode m w) (not (same_state m.current_state NmtReadyToOperate))) (mode (withdrawn m) (orders w.asked false))
    (every_at withdraw_keeps m w (withdraw_test m)) (rw (h, r))

agree : (a b : Bool) → same a b ≡ true → a ≡ b
agree true b e = sym e
agree false true e = e
agree false false e = refl

-- the machine keeps the application's word
pub mode_word : (m : CnNmtStateMachine) (w : Orders) → mode m w ≡ true → m.app_ready ≡ w.word
mode_word m w h = agree m.app_ready w.word (both_first (same m.app_ready w.word) _ h)

-- in PreOperational2, enabled says whether the node was asked in this visit
abbrev visit_tells : CnNmtStateMachine → Orders → Bool
visit_tells m w =
    implies (both (mode m w) (same_state m.current_state NmtPreOperational2)) (same m.ready_to_operate_enabled w.asked)

visit_test : (m : CnNmtStateMachine) → every visit_tells m ≡ true
visit_test m = refl

pub mode_enabled :
    (m : CnNmtStateMachine) (w : Orders) → mode m w ≡ true → m.current_state ≡ NmtPreOperational2 → m.ready_to_operate_enabled ≡ w.asked
mode_enabled m w h s =
    agree m.ready_to_operate_enabled w.asked
    (follows (both (mode m w) (same_state m.current_state NmtPreOperational2)) (same m.ready_to_operate_enabled w.asked)
    (every_at visit_tells m w (visit_test m)) (rw (h, s)))

-- at ReadyToOperate the node was asked, and the word is ready
abbrev ready_tells : CnNmtStateMachine → Orders → Bool
ready_tells m w =
    implies (both (mode m w) (same_state m.current_state NmtReadyToOperate)) (both w.asked w.word)

ready_test : (m : CnNmtStateMachine) → every ready_tells m ≡ true
ready_test m = refl

pub mode_ready :
    (m : CnNmtStateMachine) (w : Orders) →
    mode m w ≡ true →
    m.current_state ≡ NmtReadyToOperate →
    (w.asked ≡ true) × (w.word ≡ true)
mode_ready m w h r =
    let b : both w.asked w.word ≡ true =
    follows (both (mode m w) (same_state m.current_state NmtReadyToOperate)) (both w.asked w.word)
    (every_at ready_tells m w (ready_test m)) (rw (h, r))
    in
    (both_first w.asked w.word b, both_second w.asked w.word b)

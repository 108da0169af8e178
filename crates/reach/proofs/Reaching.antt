-- Lines that pass four computed tests name every position that a head can reach, with its least number of steps.
-- Assumes nothing.
use Prim.Native.Nat.{ℕ, zero, suc, ◌-◌, ◌≤◌}
use native.Mathlib.Omega.{arith}
use mathlib.Core.Path.{◌≡◌, refl, sym, ap, subst, ◌∙◌}
use mathlib.Core.Bool.{Bool, true, false, not, true≢false}
use mathlib.Core.List.{List, [], ◌∷◌, map}
use mathlib.Core.Logic.{◌⊎◌, inl, inr}
use lib.Dec.{eqb, leb, eqb-suc-zero}
use borrow.Author.Tests.{eqb-true, eq-eqb, leb-true}
use Rattle.types.specs.Pick.{pick, both, either, all_of as all, any_of as any}
use Rattle.types.specs.States.{state_number, same_state}
use Rattle.types.specs.Events.{events, event_number, read_event}
use Rattle.types.specs.declared.nmt.states.NmtState.TheVariants.{NmtGsInitialising, NmtReadyToOperate}
use Rattle.types.specs.declared.nmt.events.NmtEvent.{NmtEvent}
use Rattle.types.specs.declared.nmt.events.NmtEvent.TheVariants.{StartNode}
use Rattle.std.specs.declared.result.Result.{Result}
use Rattle.std.specs.declared.result.Result.TheVariants.{Ok, Err}
use Rattle.types.specs.declared.refusals.Refusal.{Refusal}
use Rattle.types.proofs.Cases.{everywhere, NmtEvents}
use Rattle.types.proofs.RoundTrips.{events_faithful}
use Rattle.types.proofs.Tests.{both_first, both_second, either_cases}
use Rattle.nmt.specs.Resets.{is_reset}
use Rattle.nmt.specs.Nmt.{Outcome, processed}
use Rattle.nmt.specs.Table.{ruled}
use Rattle.nmt.specs.declared.cn_state_machine.CnNmtStateMachine.{CnNmtStateMachine}
use Rattle.nmt.proofs.Chosen.{ruled_read}
use Rattle.nmt.specs.declared.cn_state_machine.Position.{Position}
use Rattle.head.specs.Words.{one, yes}
use Rattle.head.proofs.Laws.{yes_one, state_is}
use Rattle.node.specs.Plain.{Plain, Step, nmt_event, withdraw, Start, taken}
use Rattle.node.specs.Steps.{fresh, no_run, answers, declines, with_nmt, forgets, nmt_step, nmt_taken, withdrawn}
use Rattle.node.specs.Run.{step}
use Rattle.reach.specs.declared.Line.{Line}
use Rattle.reach.specs.Positions.{position_at, position, Steps, none, event, withdrawal, Reached, named, steps_to, Among, same_flag, same_position, each_once, in_order, EveryPosition}

event_small : (e : NmtEvent) → event_number e - 18 ≡ 0
event_small = everywhere NmtEvents (λ e. event_number e - 18) (λ e. 0) refl refl

all_at : {A : Type 0} (f : A → Bool) (xs : List A) {x : A} → all f xs ≡ true → Among x xs → f x ≡ true
all_at f [] h m = absurd m
all_at f (y ∷ ys) h (inl e) = ap f e ∙ both_first (f y) (all f ys) h
all_at f (y ∷ ys) h (inr m) = all_at f ys (both_second (f y) (all f ys) h) m

all_alike : {A : Type 0} (f : A → Bool) (xs : List A) → all f xs ≡ true → map f xs ≡ map (λ (x : A). true) xs
all_alike f [] h = refl
all_alike f (x ∷ xs) h = λ i. both_first (f x) (all f xs) h i ∷ all_alike f xs (both_second (f x) (all f xs) h) i

all_events : (f : NmtEvent → Bool) → all f events ≡ true → (e : NmtEvent) → f e ≡ true
all_events f h = everywhere NmtEvents f (λ e. true) (all_alike f events h) (both_first (f StartNode) _ h)

record Found {A : Type 0} (f : A → Bool) (xs : List A) : Type 0 where
  item : A
  among : Among item xs
  holds : f item ≡ true

farther : {A : Type 0} {f : A → Bool} {x : A} {xs : List A} → Found f xs → Found f (x ∷ xs)
farther r = record { item = r.item; among = inr r.among; holds = r.holds }

found : {A : Type 0} (f : A → Bool) (xs : List A) → any f xs ≡ true → Found f xs
found f [] h = absurd (true≢false (sym h))
found f (x ∷ xs) h =
    elim (either_cases (f x) (any f xs) h) [ inl e ↦ record { item = x; among = inl refl; holds = e } | inr e ↦ farther (found f xs e) ]

-- a test of two positions
same_flag_lem : (a b : Bool) → same_flag a b ≡ true → a ≡ b
same_flag_lem a b h = sym (yes_one a) ∙ ap yes (eqb-true (one a) (one b) h) ∙ yes_one b

is_same : (x y : Position) → same_position x y ≡ true → x ≡ y
is_same x y h =
    let flags : both (same_flag x.enabled y.enabled) (same_flag x.ready y.ready) ≡ true = both_second (same_state x.state y.state) _ h in
    let s : x.state ≡ y.state = state_is x.state y.state (both_first (same_state x.state y.state) _ h) in
    let e : x.enabled ≡ y.enabled = same_flag_lem x.enabled y.enabled (both_first (same_flag x.enabled y.enabled) _ flags) in
    let r : x.ready ≡ y.ready = same_flag_lem x.ready y.ready (both_second (same_flag x.enabled y.enabled) _ flags) in
    λ i. position_at (s i) (e i) (r i)

same_is : (x y : Position) → x ≡ y → same_position x y ≡ true
same_is x y e = subst (λ (y : Position). same_position x y ≡ true) e (rw (eq-eqb (state_number x.state) (state_number x.state) refl, eq-eqb (one x.enabled) (one x.enabled) refl, eq-eqb (one x.ready) (one x.ready) refl))

-- what an event makes of a position, and what a withdrawal does
abbrev pub moved : Position → NmtEvent → Position
moved x e = (ruled x.state e x.enabled x.ready).position

abbrev taken_back : Position → Position
taken_back x = position_at x.state x.enabled false

-- the position of a head after an event depends on its position alone
abbrev position_in : CnNmtStateMachine → Position
position_in m = position_at m.current_state m.ready_to_operate_enabled m.app_ready

forgets_there : (b : Bool) (p : Plain) → position (pick b (forgets p) p) ≡ position p
forgets_there true p = refl
forgets_there false p = refl

event_moves : (p : Plain) (e : NmtEvent) → position (nmt_taken p e (processed p.nmt e)).head ≡ moved (position p) e
event_moves p e =
    forgets_there (is_reset e) (with_nmt p (processed p.nmt e).machine) ∙ ap (λ (o : Outcome). position_in o.machine) (sym (ruled_read p.nmt e))

pub number_moves : (p : Plain) (e : NmtEvent) → position (step p (nmt_event (event_number e))).head ≡ moved (position p) e
number_moves p e = ap (λ (r : Result NmtEvent Refusal). position (nmt_step p r).head) (events_faithful.back e) ∙ event_moves p e

-- and so does whether it takes a withdrawal
abbrev may_withdraw : Position → Bool
may_withdraw x = not (same_state x.state NmtReadyToOperate)

abbrev withdraw_by : Plain → Bool → Step
withdraw_by p b = pick b (answers (with_nmt p (withdrawn p.nmt)) taken no_run) (declines p no_run 8)

withdraws : (p : Plain) → may_withdraw (position p) ≡ true → step p withdraw ≡ answers (with_nmt p (withdrawn p.nmt)) taken no_run
withdraws p h = ap (withdraw_by p) h

-- where a fresh head stands
abbrev first : Position
first = position_at NmtGsInitialising false true

-- the tests: a position has a line with at most n steps; what one step leads to from a line has one, with at most one step more; a line of no steps is the
-- first position, another one is a step from a line with one step less; and no line of the same position has fewer steps
abbrev pub is_within : List Line → ℕ → Position → Bool
is_within ls n x = any (λ (l : Line). both (same_position (named l) x) (leb (steps_to l) n)) ls

abbrev pub closed : List Line → Line → Bool
closed ls l =
    both (all (λ (e : NmtEvent). is_within ls (suc (steps_to l)) (moved (named l) e)) events)
    (either (not (may_withdraw (named l))) (is_within ls (suc (steps_to l)) (taken_back (named l))))

abbrev leads : Line → Line → Bool
leads m l =
    either (any (λ (e : NmtEvent). same_position (moved (named m) e) (named l)) events)
    (both (may_withdraw (named m)) (same_position (taken_back (named m)) (named l)))

abbrev pub backed : List Line → Line → Bool
backed ls l = pick (eqb (steps_to l) 0) (same_position first (named l)) (any (λ (m : Line). both (eqb (suc (steps_to m)) (steps_to l)) (leads m l)) ls)

abbrev pub fewest : List Line → Line → Bool
fewest ls l = all (λ (m : Line). either (not (same_position (named l) (named m))) (leb (steps_to l) (steps_to m))) ls

record Within (ls : List Line) (n : ℕ) (x : Position) : Type 0 where
  line : Line
  among : Among line ls
  names : named line ≡ x
  few : steps_to line ≤ n

within : (ls : List Line) (n : ℕ) (x : Position) → is_within ls n x ≡ true → Within ls n x
within ls n x h =
    let f = found (λ (l : Line). both (same_position (named l) x) (leb (steps_to l) n)) ls h in
    let l = f.item in
    record {
      line = l;
      among = f.among;
      names = is_same (named l) x (both_first (same_position (named l) x) (leb (steps_to l) n) f.holds);
      few = leb-true (steps_to l) n (both_second (same_position (named l) x) (leb (steps_to l) n) f.holds);
    }

-- also after more steps
up_to : (j k n : ℕ) → j ≤ suc k → k ≤ n → j ≤ suc n
up_to j k n a b = omega (arith, a, b)

more : {ls : List Line} {n : ℕ} {x : Position} → Within ls n x → Within ls (suc n) x
more {ls} {n} w = record { line = w.line; among = w.among; names = w.names; few = omega (arith, w.few) }

module _
    (ls : List Line)
    (starts : is_within ls 0 first ≡ true)
    (closes : all (closed ls) ls ≡ true)
    (backs : all (backed ls) ls ≡ true)
    (least : all (fewest ls) ls ≡ true) where
  -- a step from a position that has a line
  on : {n : ℕ} {x : Position} (w : Within ls n x) (f : Position → Position) → Within ls (suc (steps_to w.line)) (f (named w.line)) → Within ls (suc n) (f x)
  on {n} w f v =
      record {
        line = v.line;
        among = v.among;
        names = v.names ∙ ap f w.names;
        few = up_to (steps_to v.line) (steps_to w.line) n v.few w.few;
      }

  on_event : {n : ℕ} {x : Position} → Within ls n x → (e : NmtEvent) → Within ls (suc n) (moved x e)
  on_event w e =
      let l = w.line in
      let tests = both_first (all (λ (e : NmtEvent). is_within ls (suc (steps_to l)) (moved (named l) e)) events) _ (all_at (closed ls) ls closes w.among) in
      on w (λ (x : Position). moved x e)
      (within ls (suc (steps_to l)) (moved (named l) e) (all_events (λ (e : NmtEvent). is_within ls (suc (steps_to l)) (moved (named l) e)) tests e))

  on_withdrawal : {n : ℕ} {x : Position} → Within ls n x → may_withdraw x ≡ true → Within ls (suc n) (taken_back x)
  on_withdrawal w h =
      let l = w.line in
      let test = both_second (all (λ (e : NmtEvent). is_within ls (suc (steps_to l)) (moved (named l) e)) events) _ (all_at (closed ls) ls closes w.among) in
      let here : not (may_withdraw (named l)) ≡ false = ap (λ (x : Position). not (may_withdraw x)) w.names ∙ ap not h in
      on w taken_back
      (within ls (suc (steps_to l)) (taken_back (named l))
      (sym (ap (λ (b : Bool). either b (is_within ls (suc (steps_to l)) (taken_back (named l)))) here) ∙ test))

  -- every position that is reached has a line with at most so many steps
  module _ (s : Start) where
    by_event : {n : ℕ} (q : Plain) → Within ls n (position q) → (r : Result NmtEvent Refusal) → Within ls (suc n) (position (nmt_step q r).head)
    by_event q w (Ok e) = subst (Within ls _) (sym (event_moves q e)) (on_event w e)
    by_event q w (Err r) = more w

    by_withdrawal : {n : ℕ} (q : Plain) → Within ls n (position q) → (b : Bool) → may_withdraw (position q) ≡ b → Within ls (suc n) (position (withdraw_by q b).head)
    by_withdrawal q w true h = on_withdrawal w h
    by_withdrawal q w false h = more w

    keeps : {n : ℕ} {q : Plain} → Steps (fresh s) n q → Within ls n (position q)
    unfolding fresh
    keeps none = within ls 0 first starts
    keeps (event {q = q} t k h) = by_event q (keeps t) (read_event k)
    keeps (withdrawal {q = q} t a) = by_withdrawal q (keeps t) (may_withdraw (position q)) refl

    -- every line is reached
    by_step : {n : ℕ} (m l : Line) → Reached s n (named m) → leads m l ≡ true → Reached s (suc n) (named l)
    by_step {n} m l r h = by (either_cases (any (λ (e : NmtEvent). same_position (moved (named m) e) (named l)) events) _ h)
      where
        by :
            (any (λ (e : NmtEvent). same_position (moved (named m) e) (named l)) events ≡ true) ⊎
            (both (may_withdraw (named m)) (same_position (taken_back (named m)) (named l)) ≡ true) →
            Reached s (suc n) (named l)
        by (inl t) =
            let f = found (λ (e : NmtEvent). same_position (moved (named m) e) (named l)) events t in
            let e = f.item in
            record {
              head = (step r.head (nmt_event (event_number e))).head;
              steps = event r.steps (event_number e) (omega (arith, event_small e));
              there = number_moves r.head e ∙ ap (λ (x : Position). moved x e) r.there ∙ is_same (moved (named m) e) (named l) f.holds;
            }
        by (inr t) =
            let may : may_withdraw (position r.head) ≡ true = ap may_withdraw r.there ∙ both_first (may_withdraw (named m)) _ t in
            let took = withdraws r.head may in
            record {
              head = (step r.head withdraw).head;
              steps = withdrawal r.steps (ap (λ (t : Step). t.answer) took);
              there =
                  ap (λ (t : Step). position t.head) took ∙ ap taken_back r.there ∙
                  is_same (taken_back (named m)) (named l) (both_second (may_withdraw (named m)) _ t);
            }

    one_less_lem : (j k n : ℕ) → suc j ≡ k → k ≡ suc n → j ≡ n
    one_less_lem j k n a b = omega (arith, a, b)

    abbrev behind : Line → Bool
    behind l = any (λ (m : Line). both (eqb (suc (steps_to m)) (steps_to l)) (leads m l)) ls

    comes : (n : ℕ) (l : Line) → Among l ls → steps_to l ≡ n → Reached s n (named l)
    unfolding fresh
    comes zero l a e =
        let test = sym (ap (λ (k : ℕ). pick (eqb k 0) (same_position first (named l)) (behind l)) e) ∙ all_at (backed ls) ls backs a in
        record { head = fresh s; steps = none; there = is_same first (named l) test }
    comes (suc n) l a e =
        let test = sym (ap (λ (b : Bool). pick b (same_position first (named l)) (behind l)) (ap (λ (k : ℕ). eqb k 0) e ∙ eqb-suc-zero n)) ∙ all_at (backed ls) ls backs a in
        let f = found (λ (m : Line). both (eqb (suc (steps_to m)) (steps_to l)) (leads m l)) ls test in
        let m = f.item in
        by_step m l
        (comes n m f.among (one_less_lem (steps_to m) (steps_to l) n (eqb-true (suc (steps_to m)) (steps_to l) (both_first (eqb (suc (steps_to m)) (steps_to l)) _ f.holds)) e))
        (both_second (eqb (suc (steps_to m)) (steps_to l)) _ f.holds)

    -- and in no fewer steps
    at_least : (l : Line) → Among l ls → (n : ℕ) → Within ls n (named l) → steps_to l ≤ n
    at_least l a n w =
        let m = w.line in
        let test = all_at (λ (m : Line). either (not (same_position (named l) (named m))) (leb (steps_to l) (steps_to m))) ls (all_at (fewest ls) ls least a) w.among in
        let alike : not (same_position (named l) (named m)) ≡ false = ap not (same_is (named l) (named m) (sym w.names)) in
        let few : leb (steps_to l) (steps_to m) ≡ true = sym (ap (λ (b : Bool). either b (leb (steps_to l) (steps_to m))) alike) ∙ test in
        omega (arith, leb-true (steps_to l) (steps_to m) few, w.few)

  pub every_position : each_once ls ≡ true → in_order ls ≡ true → EveryPosition ls
  every_position o i =
      record {
        complete = λ s n x r. let w = subst (Within ls n) r.there (keeps s r.steps) in record { line = w.line; among = w.among; names = w.names };
        reached = λ s l a. comes s (steps_to l) l a refl;
        least = λ s l a n r. at_least s l a n (subst (Within ls n) r.there (keeps s r.steps));
        once = o;
        ordered = i;
      }

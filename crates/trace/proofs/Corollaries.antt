-- What a reader expects besides: the claim after each of the calls, the earliest moment after those
-- that work it out, and the last SoC time of a head (RULES 10.8).
-- Assumes nothing.
use Prim.Native.Nat.{ℕ, ◌≤◌}
use mathlib.Core.Path.{◌≡◌, refl, sym, ap, ap₂, subst, ◌∙◌}
use mathlib.Core.Bool.{Bool, true, false, not, true≢false}
use mathlib.Core.List.{List, [], ◌∷◌, ◌++◌}
use native.Mathlib.Omega.{arith}
use lib.ListN.{length}
use lib.Dec.{ltb, lit≤}
use borrow.Author.Tests.{leb-true}
use Rattle.types.specs.Pick.{pick}
use Rattle.types.proofs.Cases.{first_same, rest_same}
use Rattle.types.specs.Events.{read_event}
use Rattle.types.specs.CsEvents.{read_cs_event}
use Rattle.types.specs.Errors.{read_error}
use Rattle.types.specs.States.{same_state}
use Rattle.types.specs.declared.nmt.states.NmtState.TheVariants.{NmtReadyToOperate}
use Rattle.std.specs.declared.result.Result.{Result}
use Rattle.std.specs.declared.result.Result.TheVariants.{Ok, Err}
use Rattle.std.specs.declared.option.Option.TheVariants.{None}
use Rattle.types.specs.declared.nmt.events.NmtEvent.{NmtEvent}
use Rattle.types.specs.declared.refusals.Refusal.{Refusal}
use Rattle.types.specs.declared.frame.cs_state_machine.DllCsEvent.{DllCsEvent}
use Rattle.types.specs.declared.frame.error.types.DllError.{DllError}
use Rattle.nmt.specs.Resets.{is_reset}
use Rattle.nmt.specs.Nmt.{processed}
use Rattle.head.specs.declared.state.SocWatch.{SocWatch}
use Rattle.head.specs.Words.{head_of}
use Rattle.watched.specs.Watched.{latest, in_time, heard_at, Run, watching, changing}
use Rattle.node.specs.Plain.{Plain, Call, nmt_event, dll_event, error, cycle_complete, withdraw, heard, hand_out, load, arm, tick, range, margin, add, remove, next_due, frame, Start, taken, range_answer, margin_answer, due_answer, Step}
use Rattle.node.specs.Steps.{no_run, forgets, answers, declines, with_nmt, with_soc, nmt_step, dll_step, error_step, withdrawn, heard_tests, add_tests, remove_tests, added, removed, armed, cycle_of, earliest, fresh, started}
use Rattle.node.specs.Heartbeats.{refreshed_at}
use Rattle.node.specs.Deadline.{last_soc}
use Rattle.node.specs.Tick.{tick_tests, tick_taken, tick_answered}
use Rattle.node.specs.Range.{range_tests, margin_tests, verdict_of, margin_of}
use Rattle.node.specs.Due.{due, due_tests}
use Rattle.node.specs.Run.{step, step_all, Said}
use Rattle.trace.specs.Earliest.{works_out, accepted, last_left, run_after}
use Rattle.trace.specs.Claim.{Claim}
use Rattle.start.specs.declared.start.Setup.{Setup}
use Rattle.start.specs.Started.{start_of, StartedOn}
use Rattle.calling.specs.declared.Call as made
use Rattle.calling.specs.Held.{Held, held}
use Rattle.calling.specs.Values.{Reply, call_of, said}
use Rattle.calling.specs.Table.{Lends, no_nodes, nodes, read, row_of, if_lent, renews}
use Rattle.calling.specs.Made.{by_lent, Made}
use Rattle.trace.specs.Driven.{Driven, stop, call, lend, calls_of, says, said_by}
use Rattle.trace.proofs.Ticking.{picked, tick_part}
use Rattle.node.proofs.Refining.{tried_by_lem}
use Rattle.trace.proofs.Framing.{Framed, turned_away, passed_by, taken_as, framed}
use Rattle.trace.proofs.Shares.{Leaves, stays, goes, run_call}
use Rattle.trace.proofs.Earliest.{ends_with}
use Rattle.trace.proofs.Follows.{begins_unheard}
use Rattle.trace.proofs.Driven.{joined, calls_joined, claim_holds}

-- AFTER EACH. Of a list whose calls are cs and then ds: the list of cs alone and where it ends, the
-- list of ds from there, to the same end, and what both said is what was said.
pub record Stopped {x x' : Held} (d : Driven x x') (cs ds : List Call) : Type 0 where
  pub at : Held
  pub before : Driven x at
  pub on : Driven at x'
  pub first : calls_of before ≡ cs
  pub later : calls_of on ≡ ds
  pub all : said_by d ≡ said_by before ++ said_by on

stopped : {x x' : Held} (d : Driven x x') (cs ds : List Call) → calls_of d ≡ cs ++ ds → Stopped d cs ds
stopped {x} d [] ds e = record { at = x; before = stop; on = d; first = refl; later = e; all = refl }
stopped stop (c ∷ cs) ds e = absurd (let n = ap length e in let f : ⊥ = omega (arith, n) in f)
stopped (call {x} {x₁ = x₁} {c = b} {o = o} t d) (c ∷ cs) ds e =
    let k = stopped d cs ds (rest_same e) in
    record {
      at = k.at;
      before = call t k.before;
      on = k.on;
      first = ap₂ (λ (c : Call) (cs : List Call). c ∷ cs) (first_same e) k.first;
      later = k.later;
      all = ap (λ (l : List Said). says (said o) (by_lent x b no_run x₁.lent) ∷ l) k.all;
    }
stopped (lend e d) (c ∷ cs) ds f =
    let k = stopped d (c ∷ cs) ds f in
    record { at = k.at; before = lend e k.before; on = k.on; first = k.first; later = k.later; all = k.all }

-- and the claim of cs there
pub record Until (s : Start) {x x' : Held} (d : Driven x x') (cs ds : List Call) : Type 0 where
  pub after : Stopped d cs ds
  pub claim :
      Claim s cs (said_by after.before) (head_of after.at.head) after.at.queue after.at.history

pub claim_holds_after_each :
    {s : Setup} {x' : Held} {l r : Run} {ws₀ ws q m : List ℕ} (cs ds : List Call) →
    StartedOn ws₀ l s (Ok tt) ws r →
    (d : Driven (held ws q m r) x') →
    calls_of d ≡ cs ++ ds →
    Until (start_of s l) d cs ds
claim_holds_after_each {s} {l = l} cs ds b d e =
    let k = stopped d cs ds e in
    record {
      after = k;
      claim =
          subst
          (λ (cs : List Call). Claim (start_of s l) cs (said_by k.before) (head_of k.at.head) k.at.queue k.at.history)
          k.first (claim_holds b k.before);
    }

-- THE EARLIEST MOMENT (RULES 10.6), behind a start that was taken: worked out from the run that it
-- left, it is none
pub start_afresh :
    {s : Setup} {l r : Run} {ws₀ ws : List ℕ} → StartedOn ws₀ l s (Ok tt) ws r → ((head_of ws).earliest ≡ earliest (watching r)) × ((head_of ws).earliest ≡ None)
unfolding last_left
start_afresh {s} {l} {r} {ws = ws} b =
    let moment : (head_of ws).earliest ≡ earliest (watching (started (start_of s l)).lent) = (claim_holds b (stop {x = held ws [] [] r})).moment in (
      moment ∙ ap (λ (r : Run). earliest (watching r)) (sym b.begins.lent),
      moment ∙ begins_unheard (start_of s l) _ (b.begins.begun [] []),
    )

-- a call that works it out is lent the run
renews_lent : (l : Lends) (y z : Run) → renews l ≡ true → if_lent l y z ≡ z
renews_lent no_nodes y z h = absurd (true≢false (sym h))
renews_lent (nodes r) y z h = refl
renews_lent (read r) y z h = absurd (true≢false (sym h))

-- a list that ends with one of the others: by the run that it left
pub ends_afresh :
    {s : Setup} {x₁ x' : Held} {l r : Run} {ws₀ ws q m : List ℕ} {c : made.Call} {o : Reply} →
    StartedOn ws₀ l s (Ok tt) ws r →
    (d : Driven (held ws q m r) x₁) →
    Made x₁ c o x' →
    works_out (call_of c x₁.lent) ≡ true →
    accepted (said o) ≡ true →
    (head_of x'.head).earliest ≡ earliest (watching x'.lent)
ends_afresh {s} {x₁} {x'} {l} {c = c} {o = o} b d t w a =
    (claim_holds b (joined d (call t stop))).moment
    ∙ ap (λ (r : Run). earliest (watching r))
    (ap (λ (cs : List Call). run_after (start_of s l) cs) (calls_joined d (call t stop))
    ∙ ends_with p₀ (calls_of d) e (started (start_of s l)).lent w (ap accepted (ap (λ (p : Plain). (step p e).answer) (sym k.alike) ∙ sym t.refines.answer) ∙ a)
    ∙ ap (λ (p : Plain). (step p e).lent) (sym k.alike)
    ∙ sym (t.lent ∙ renews_lent (row_of e).lends _ _ w))
  where
    p₀ : Plain
    p₀ = fresh (start_of s l)

    e : Call
    e = call_of c x₁.lent

    k : Claim (start_of s l) (calls_of d) (said_by d) (head_of x₁.head) x₁.queue x₁.history
    k = claim_holds b d

-- the last SoC time: an arm that is taken, and an SoC frame, has a time up to the latest, and no
-- other call sets it
abbrev last : Plain → ℕ
last p = p.soc.last_soc_reception_time_us

abbrev Timed : Step → Type 0
Timed t = last t.head ≤ latest

module _ (p : Plain) (h : last p ≤ latest) where
  nmt_timed : (r : Result NmtEvent Refusal) → Timed (nmt_step p r)
  nmt_timed (Ok e) = by (is_reset e)
    where
      by : (b : Bool) → last (pick b (forgets (with_nmt p (processed p.nmt e).machine)) (with_nmt p (processed p.nmt e).machine)) ≤ latest
      by true = h
      by false = h
  nmt_timed (Err r) = h

  dll_timed : (x : Bool) (r : Result DllCsEvent Refusal) → Timed (dll_step p x r)
  dll_timed x (Ok e) = h
  dll_timed x (Err r) = h

  error_timed : (r : Result DllError Refusal) → Timed (error_step p r)
  error_timed (Ok e) = h
  error_timed (Err r) = h

  arm_timed : (t : ℕ) → Timed (step p (arm t))
  unfolding armed
  arm_timed t = by (in_time t) refl
    where
      armed_at : (b : Bool) (x y : SocWatch) → x.last_soc_reception_time_us ≤ latest → y.last_soc_reception_time_us ≤ latest → (pick b x y).last_soc_reception_time_us ≤ latest
      armed_at true x y f g = f
      armed_at false x y f g = g

      by : (b : Bool) → in_time t ≡ b → Timed (pick b (answers (with_soc p (armed p.soc p.od t)) taken no_run) (declines p no_run 5))
      by true e = let z = leb-true t latest e in armed_at (ltb 0 (cycle_of p.od)) _ _ z z
      by false e = h

  run_timed : {t : Step} → Leaves p t → Timed t
  run_timed (stays r n) = h
  run_timed (goes r) = h

  timed : (c : Call) → Timed (step p c)
  timed (nmt_event n) = nmt_timed (read_event n)
  timed (dll_event n x) = dll_timed x (read_cs_event n)
  timed (error k a b) = error_timed (read_error k a b)
  timed cycle_complete = h
  timed withdraw =
      picked Timed (not (same_state p.nmt.current_state NmtReadyToOperate)) {x = answers (with_nmt p (withdrawn p.nmt)) taken no_run} {y = declines p no_run 8} h h
  timed (heard n t r) = run_timed (run_call p (heard_tests n t r) r (changing (heard_at n t) r))
  timed hand_out = h
  timed (load v u) = h
  timed (arm t) = arm_timed t
  timed (tick t r) =
      tried_by_lem Timed (tick_tests p t r) (declines p r) (tick_answered (tick_taken p t (watching r)) (refreshed_at p t r)) (λ n. h)
      (subst (λ (n : ℕ). n ≤ latest) (sym (tick_part p t (watching r)).last) h)
  timed (range a b) = tried_by_lem Timed (range_tests a b) (declines p no_run) (answers p (range_answer (verdict_of p a b)) no_run) (λ r. h) h
  timed (margin t) = tried_by_lem Timed (margin_tests t) (declines p no_run) (answers p (margin_answer (margin_of p t)) no_run) (λ r. h) h
  timed (add n o r) = run_timed (run_call p (add_tests n o r) r (added n o r))
  timed (remove n r) = run_timed (run_call p (remove_tests n r) r (removed n r))
  timed (next_due r) = tried_by_lem Timed (due_tests r) (declines p r) (answers p (due_answer (due p (watching r))) r) (λ n. h) h
  timed (frame t b) = by (framed p t b)
    where
      by : {k : Step} → Framed p t k → Timed k
      by (turned_away n) = h
      by passed_by = h
      by (taken_as k g) = g.last h

timed_all : (p : Plain) (cs : List Call) → last p ≤ latest → last (step_all p cs) ≤ latest
unfolding step_all
timed_all p [] h = h
timed_all p (c ∷ cs) h = timed_all (step p c).head cs (timed p h c)

-- so the plain tick reads it as it is, after any list of calls from a start
pub last_soc_in_time : (s : Start) (cs : List Call) → last (step_all (fresh s) cs) ≤ latest
unfolding fresh
last_soc_in_time s cs = timed_all (fresh s) cs (lit≤ tt)

pub last_soc_as_it_is : (s : Start) (cs : List Call) → last_soc (step_all (fresh s) cs) ≡ last (step_all (fresh s) cs)
last_soc_as_it_is s cs = let h = last_soc_in_time s cs in omega arith

-- nor is it later in the real head
pub real_last_soc_in_time :
    {s : Setup} {x' : Held} {l r : Run} {ws₀ ws q m : List ℕ} →
    StartedOn ws₀ l s (Ok tt) ws r →
    Driven (held ws q m r) x' →
    (head_of x'.head).soc.last_soc_reception_time_us ≤ latest
real_last_soc_in_time {s = s} {l = l} b d = subst (λ (p : Plain). last p ≤ latest) (sym (claim_holds b d).alike) (last_soc_in_time (start_of s l) (calls_of d))

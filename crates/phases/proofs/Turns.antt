-- A signal, an event in a tick and the end of an error, in words: a claim about what is written is
-- computed on words written out one by one.
-- Assumes nothing.
use Rattle.std.proofs.Common.{◌≡◌, ℕ, ◌+◌, ◌%◌, Bool, true, false, List, length, set, sym, refl, ap, ◌∙◌, subst, arith, eq-eqb, ne_eqb}
use Rattle.types.specs.Pick.{pick}
use Rattle.types.specs.declared.nmt.events.NmtEvent.{NmtEvent}
use Rattle.types.specs.declared.nmt.events.NmtEvent.TheVariants.{Error}
use Rattle.types.specs.declared.frame.error.types.DllErrors.{DllErrors}
use Rattle.nmt.specs.Nmt as Nmt
use Rattle.nmt.specs.declared.cn_state_machine.NmtAnswer.{NmtAnswer}
use Rattle.head.specs.Head.{Head, head_with_nmt, head_with_soc, head_with_values}
use Rattle.node.specs.Plain.{Plain}
use Rattle.node.specs.Phases.{is_even, changed, registered, signalled, check_off, event_in_tick, one_more}
use Rattle.node.specs.Refines.{Becomes}
use Rattle.phases.proofs.PartLaws.{event_becomes, finish_on, finish_off}
use Rattle.head.specs.Places as at
use Rattle.head.specs.Words.{word, yes, state_of, nmt_of, soc_of, head_of}
use Rattle.head.specs.Written.{nmt_written}
use Rattle.head.proofs.Whole.{whole}
use Rattle.head.proofs.Laws.{yes_one, state_back, with_signal, signal_written, changed_written}
use Rattle.node.proofs.Refining.{Keeps, processed_keeps}
use Rattle.phases.specs.PartWords.{signal_words, event_words, finished_words}
use Rattle.phases.specs.PartsIn.{Turns, FinishesIn}

abbrev EventRead : ℕ → ℕ → ℕ → List ℕ → Type 0
EventRead s e r ws =
    head_of (set (set (set (set ws at.state s) at.enabled e) at.ready r) at.check 0)
    ≡ head_with_soc (head_with_nmt (head_of ws) (Nmt.with (nmt_of ws) (state_of s) (yes e) (yes r))) (check_off (soc_of ws))

-- words that stand for the head k
pub turned :
    (ws : List ℕ) (f : Plain → Plain) (k : Head) (to known ws' : List ℕ) →
    Becomes (head_of ws) f k →
    head_of to ≡ k →
    known ≡ to →
    ws' ≡ to →
    Turns ws f ws' known
turned ws f k to known ws' b e n w =
    record { becomes = subst (λ (g : Head). Becomes (head_of ws) f g) (sym (ap head_of w ∙ e)) b; words = w ∙ sym n }

module _ (ws : List ℕ) (long : length ws ≡ 60) where
  event_read : (s e r : ℕ) → EventRead s e r ws
  unfolding head_of
  event_read s e r = whole (EventRead s e r) ws long refl

  pub event_turns :
      (ws' : List ℕ) (e : NmtEvent) (a : NmtAnswer) →
      Nmt.outcome a ≡ Nmt.processed (nmt_of ws) e →
      ws' ≡ set (nmt_written ws a.machine) at.check 0 →
      Turns ws (λ p. event_in_tick p e) ws' (event_words ws e)
  unfolding head_of event_words
  event_turns ws' e a o w =
      let m : a.machine ≡ (Nmt.processed (nmt_of ws) e).machine = ap (λ (o : Nmt.Outcome). o.machine) o in
      let kept : Keeps (nmt_of ws) a.machine = subst (Keeps (nmt_of ws)) (sym m) (processed_keeps (nmt_of ws) e) in
      let n = a.machine in
      turned ws (λ p. event_in_tick p e) _ (set (nmt_written ws n) at.check 0) _ ws' (event_becomes (head_of ws) e a o)
      (event_read _ _ _
      ∙ (λ i. head_with_soc (head_with_nmt (head_of ws) (Nmt.with (nmt_of ws) (state_back n.current_state i) (yes_one n.ready_to_operate_enabled i) (yes_one n.app_ready i))) (check_off (soc_of ws)))
      ∙ ap (λ n. head_with_soc (head_with_nmt (head_of ws) n) (check_off (soc_of ws))) (sym kept))
      (ap (λ n. set (nmt_written ws n) at.check 0) (sym m)) w

-- an error's end
module _ (ws : List ℕ) (es : DllErrors) (ends : Bool) where
  pub ends_on : ends ≡ false → FinishesIn ws es ends (record { logged = es; ended = ends }) ws
  unfolding finished_words
  ends_on e =
      record { finishes = finish_on (head_of ws) es ends e; words = sym (ap (λ (b : Bool). pick b (event_words ws Error) ws) e) }

  pub ends_off :
      ends ≡ true → (ws' : List ℕ) → Turns ws (λ p. event_in_tick p Error) ws' (event_words ws Error) →
      FinishesIn ws es ends (record { logged = es; ended = ends }) ws'
  unfolding finished_words
  ends_off e ws' k =
      record {
        finishes = finish_off (head_of ws) es ends e (head_of ws') k.becomes;
        words = k.words ∙ sym (ap (λ (b : Bool). pick b (event_words ws Error) ws) e);
      }

-- a signal, by whether the register is even
abbrev signalled_head : Head → Head
signalled_head h = head_with_values (head_with_soc h (changed h.soc)) (registered h.od) h.history

module _ (ws : List ℕ) (long : length ws ≡ 60) (ws' : List ℕ) where
  signals :
      (to : List ℕ) (r n : ℕ) (b : Bool) →
      is_even (word ws at.register % 256) ≡ b →
      head_of to ≡ with_signal (head_of ws) r n →
      r ≡ pick b (word ws at.register % 256 + 1) (word ws at.register % 256) →
      n ≡ pick b (one_more (word ws at.counter5)) (word ws at.counter5) →
      signal_words ws ≡ to →
      ws' ≡ to →
      Turns ws signalled ws' (signal_words ws)
  unfolding head_of
  signals to r n b t e u v f w =
      let k : head_of ws' ≡ signalled_head (head_of ws) =
      ap head_of w ∙ e ∙ (λ i. with_signal (head_of ws) (u i) (v i))
      ∙ ap (λ (b : Bool). with_signal (head_of ws) (pick b (word ws at.register % 256 + 1) (word ws at.register % 256)) (pick b (one_more (word ws at.counter5)) (word ws at.counter5))) (sym t) in
      record {
        becomes = subst (λ (g : Head). Becomes (head_of ws) signalled g) (sym k) (λ q m. refl, record { queue = refl; history = refl });
        words = w ∙ sym f;
      }

  -- counter 5 is raised behind the writes of flag and register, which leave it
  counter_kept : (r : ℕ) → word (set (set ws at.changed 1) at.register r) at.counter5 ≡ word ws at.counter5
  counter_kept r = whole (λ ws. word (set (set ws at.changed 1) at.register r) at.counter5 ≡ word ws at.counter5) ws long refl

  pub signal_even :
      word ws at.register % 256 % 2 ≡ 0 →
      (mid : List ℕ) → mid ≡ set (set ws at.changed 1) at.register (word ws at.register % 256 + 1) →
      ws' ≡ set mid at.counter5 (one_more (word mid at.counter5)) →
      Turns ws signalled ws' (signal_words ws)
  signal_even h mid m w =
      let r : ℕ = word ws at.register % 256 + 1 in
      let t : is_even (word ws at.register % 256) ≡ true = eq-eqb (word ws at.register % 256 % 2) 0 h in
      let fits : r % 256 ≡ r = omega arith in
      signals _ _ _ true t (signal_written ws long _ _) fits refl (rw t)
      (w ∙ ap (λ (l : List ℕ). set l at.counter5 (one_more (word l at.counter5))) m
      ∙ ap (λ (n : ℕ). set (set (set ws at.changed 1) at.register r) at.counter5 (one_more n)) (counter_kept r))

  pub signal_odd : (word ws at.register % 256 % 2 ≡ 0 → ⊥) → ws' ≡ set ws at.changed 1 → Turns ws signalled ws' (signal_words ws)
  signal_odd h w =
      let t : is_even (word ws at.register % 256) ≡ false = ne_eqb (word ws at.register % 256 % 2) 0 h in
      signals _ _ _ false t (changed_written ws long) refl refl (rw t) w

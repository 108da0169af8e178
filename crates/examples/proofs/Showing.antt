-- An example call by call: from words that stand for its head, by the table, each call comes as stated.
-- Assumes nothing.
use Prim.Native.Nat.{ℕ}
use mathlib.Core.Path.{◌≡◌, refl, sym, ap, ◌∙◌, subst}
use mathlib.Core.Bool.{Bool, true, ◌&&◌}
use mathlib.Core.List.{List, [], ◌∷◌, map}
use lib.ListN.{get_or}
use Rattle.types.specs.Flags.{flags}
use Rattle.entries.specs.Ring.{listed}
use Rattle.entries.specs.Queue.{queue, waiting, pushed}
use Rattle.entries.specs.History.{error_history, history, joined}
use Rattle.entries.specs.declared.status_response.ErrorEntry.{ErrorEntry}
use Rattle.entries.specs.declared.emergency_queue.EmergencyQueue.{EmergencyQueue}
use Rattle.entries.specs.declared.error_history.ErrorHistory.{ErrorHistory}
use Rattle.head.specs.declared.state.Dictionary.{Dictionary}
use Rattle.head.specs.Words.{errors_of, queue_of, history_of, head_of}
use Rattle.std.specs.declared.result.Result.{Result}
use Rattle.std.specs.declared.result.Result.TheVariants.{Ok, Err}
use Rattle.types.specs.declared.refusals.Refusal.{Refusal}
use Rattle.types.proofs.Cases.{first_same, rest_same}
use Rattle.node.specs.Plain.{Plain, Call, Answer, taken, Step, begins}
use Rattle.node.specs.Steps.{fresh, started}
use Rattle.watched.specs.Watched.{well_formed, Run, run}
use Rattle.watched.specs.Nodes.{nodes_of}
use Rattle.node.specs.Run.{step}
use Rattle.counters.specs.Counters.{same_for_all, thresholds_fit, Thresholds}
use Rattle.node.specs.Refines.{plain, Rings, rings, joins, joins_all}
use Rattle.node.specs.InPlace.{said}
use Rattle.start.specs.declared.start.Setup.{Setup}
use Rattle.start.specs.Started.{start_of, StartedIn}
use Rattle.node.specs.Examples.{Coming, Example, comings, comes_of, stated, values, sw_reset, examples}
use Rattle.node.proofs.Examples.{examples_hold}
use Rattle.examples.specs.Shown.{placed, Stands, Came, last, Shown}
use Rattle.examples.proofs.Answering.{clash}

-- what the table proves of its k-th example
pub holds : (k : ℕ) → get_or (map comes_of examples) k [] ≡ get_or (map stated examples) k []
holds k = ap (λ (l : List (List Coming)). get_or l k []) examples_hold.0

-- The words on the way stand for p, with queue and history empty, and the calls to come make what is stated of them.
pub record Along (ws q m : List ℕ) (p : Plain) (cs : List Call) (xs : List Coming) : Type 0 where
  pub whole : plain (head_of ws) q m ≡ p
  pub queue : (head_of ws).queue ≡ queue 0 0 1
  pub history : (head_of ws).history ≡ error_history 0 0
  pub coming : comings p cs ≡ xs

pub along : {ws : List ℕ} {p : Plain} {cs : List Call} {xs : List Coming} → Stands ws p → comings p cs ≡ xs → (q m : List ℕ) → Along ws q m p cs xs
along s h q m =
    record { whole = s.whole q m; queue = ap (λ z. z.queue) s.places; history = ap (λ z. z.history) s.places; coming = h }

pub begin : (e : Example) (ws : List ℕ) → Stands ws e.before → comes_of e ≡ stated e → (q m : List ℕ) → Along ws q m e.before e.calls e.after
begin e ws s = along s

-- What a call came to, of which the table states x: head, run, and that it was found so.
pub record Arrived (x : Coming) (ws q m : List ℕ) (l : Run) (r : Bool) : Type 0 where
  pub whole : plain (head_of ws) q m ≡ x.all.head
  pub lent : l ≡ x.all.lent
  pub same : r ≡ true

-- what is to come behind the first call
pub then_coming : (p : Plain) (c : Call) (cs : List Call) (x : Coming) (xs : List Coming) → comings p (c ∷ cs) ≡ x ∷ xs → comings x.all.head cs ≡ xs
then_coming p c cs x xs h = ap (λ (y : Coming). comings y.all.head cs) (sym (first_same h)) ∙ rest_same h

module _
    {ws q m : List ℕ} {p : Plain} {c : Call} {cs : List Call} {x : Coming} {xs : List Coming}
    {a : Answer} {after ws' q' m' : List ℕ} {l : Run} {r : Bool}
    (w : Along ws q m p (c ∷ cs) (x ∷ xs)) (k : Came ws q m c a after ws' q' m' l r) (says : x.all.answer ≡ a) where
  stepped : step p c ≡ x.all
  stepped = ap (λ (y : Coming). y.all) (first_same w.coming)

  here : step (plain (head_of ws) q m) c ≡ x.all
  here = ap (λ (p : Plain). step p c) w.whole ∙ stepped

  whole' : plain (head_of ws') q' m' ≡ x.all.head
  whole' = k.head ∙ ap (λ (s : Step). s.head) here

  places' : rings (head_of ws') q' m' ≡ joins_all (rings (head_of ws) q m) x.all.crossings
  places' = k.places ∙ ap (λ (s : Step). joins_all (rings (head_of ws) q m) s.crossings) here

  -- the head that is left, where its queue and its history stand
  arrived : (o : EmergencyQueue) (n : ErrorHistory) → (head_of ws').queue ≡ o → (head_of ws').history ≡ n → head_of after ≡ placed x.all.head o n → Arrived x ws' q' m' l r
  arrived o n e f g =
      record {
        whole = whole';
        lent = k.lent ∙ ap (λ (s : Step). s.lent) here;
        same = k.tells.holds (ap (λ (s : Step). s.answer) here ∙ says, (λ i. placed (whole' i) (e i) (f i)) ∙ sym g);
      }

  -- THE law of a call: where no entry joins, it comes as stated, and the next one is called on what it left
  pub next : x.all.crossings ≡ [] → Stands after x.all.head → Arrived x ws' q' m' l r × Along ws' q' m' x.all.head cs xs
  next none s =
      let same : rings (head_of ws') q' m' ≡ rings (head_of ws) q m = places' ∙ ap (joins_all (rings (head_of ws) q m)) none in
      let o = ap (λ (k : Rings). k.queue) same ∙ w.queue in
      let n = ap (λ (k : Rings). k.history) same ∙ w.history in (
        arrived (queue 0 0 1) (error_history 0 0) o n s.places,
        record { whole = whole'; queue = o; history = n; coming = then_coming p c cs x xs w.coming },
      )

  -- where an entry joins queue and history
  pub crosses : (y : ErrorEntry) → x.all.crossings ≡ y ∷ [] → head_of after ≡ placed x.all.head (queue 0 1 1) (error_history 253 1) → Arrived x ws' q' m' l r
  unfolding joins pushed joined
  crosses y one g =
      let empty : rings (head_of ws) q m ≡ record { queue = queue 0 0 1; queue_bytes = q; history = error_history 0 0; history_bytes = m } =
      (λ i. record { queue = w.queue i; queue_bytes = q; history = w.history i; history_bytes = m }) in
      let joins' = places' ∙ ap (joins_all (rings (head_of ws) q m)) one ∙ ap (λ (k : Rings). joins k y) empty in
      arrived (queue 0 1 1) (error_history 253 1) (ap (λ (k : Rings). k.queue) joins') (ap (λ (k : Rings). k.history) joins') g

-- What an example left that came to its last call, where all that was compared came so; and one of a single call.
pub shown : {e : Example} {x : Coming} {ws q m : List ℕ} {l : Run} {r s : Bool} → last e ≡ x.all → Arrived x ws q m l r → s ≡ true → Shown e ws q m l s
shown z a y = record { head = a.whole ∙ sym (ap (λ (s : Step). s.head) z); lent = a.lent ∙ sym (ap (λ (s : Step). s.lent) z); same = y }

pub shown_once :
    {e : Example} {ws q m : List ℕ} {c : Call} {x : Coming} {a : Answer} {after ws' q' m' : List ℕ} {l : Run} {r : Bool} →
    Along ws q m e.before (c ∷ []) (x ∷ []) → last e ≡ x.all → Came ws q m c a after ws' q' m' l r → x.all.answer ≡ a → x.all.crossings ≡ [] →
    Stands after x.all.head → Shown e ws' q' m' l r
shown_once w z k says none s = let n = next w k says none s in shown z n.0 n.0.same

-- a head that was found to be the one that is stated stands for what that one stands for
pub stands_there :
    {ws q m : List ℕ} {c : Call} {a : Answer} {after ws' q' m' : List ℕ} {l : Run} {r : Bool} {p : Plain} →
    Came ws q m c a after ws' q' m' l r → r ≡ true → Stands after p → Stands ws' p
stands_there k y s =
    let h = (k.tells.says y).1 in
    record { places = h ∙ s.places; whole = λ q m. ap (λ h. plain h q m) h ∙ s.whole q m }

-- all that was compared
pub also : {a b : Bool} → a ≡ true → b ≡ true → (a && b) ≡ true
also {a} {b} e f = (λ i. e i && b) ∙ f

-- the call is the table's, where what is lent to it is
pub at_call :
    {ws q m : List ℕ} {c d : Call} {a : Answer} {after ws' q' m' : List ℕ} {l : Run} {r : Bool} →
    c ≡ d → Came ws q m c a after ws' q' m' l r → Came ws q m d a after ws' q' m' l r
at_call {ws} {q} {m} {c} {d} {a} {after} {ws'} {q'} {m'} {l} {r} e k = subst (λ (c : Call). Came ws q m c a after ws' q' m' l r) e k

-- parts of what the words stand for
module _ (ws q m : List ℕ) (p : Plain) (e : plain (head_of ws) q m ≡ p) where
  pub counters_are : errors_of ws ≡ p.errors
  unfolding head_of
  counters_are = ap (λ (p : Plain). p.errors) e

  pub queue_is : waiting q (queue_of ws) ≡ p.queue
  unfolding head_of
  queue_is = ap (λ (p : Plain). p.queue) e

  pub history_is : history m (history_of ws) ≡ p.history
  unfolding head_of
  history_is = ap (λ (p : Plain). p.history) e

-- what the first example's head is started with
abbrev setup : Dictionary → Thresholds → Setup
setup o ts =
    record {
      node = 1;
      feature_flags = flags 0;
      basic_ethernet_timeout = 5;
      queue_capacity = 1;
      od = o;
      thresholds = ts;
    }

-- the fresh head of the first example
begun_with :
    (ws ns : List ℕ) (od : Dictionary) (a : Result (Unit {0}) Refusal) (ws' ns' : List ℕ) →
    od ≡ values 0 0 0 0 0 →
    StartedIn ws ns 0 (setup od (same_for_all 15)) a ws' ns' →
    (said a ≡ taken) × ((q m : List ℕ) → Along ws' q m sw_reset.before sw_reset.calls sw_reset.after)
unfolding started fresh well_formed nodes_of listed thresholds_fit
begun_with ws ns od (Ok _) ws' ns' e s = (
  refl,
  λ q m.
      record {
        whole = same_begun (s.on.begins.begun q m) ∙ ap (λ (o : Dictionary). fresh (start_of (setup o (same_for_all 15)) (run (nodes_of ns) 0))) e;
        queue = s.on.places.0;
        history = s.on.places.1;
        coming = holds 0;
      },
)
  where
    same_begun : {p p' : Plain} → begins p ≡ begins p' → p ≡ p'
    same_begun e = cc
begun_with ws ns od (Err r) ws' ns' e s = absurd (let b = s.on.begins.begun [] [] in clash (cc))

pub begun :
    (ws ns : List ℕ) (od : Dictionary) (ts : Thresholds) (a : Result (Unit {0}) Refusal) (ws' ns' : List ℕ) →
    od ≡ values 0 0 0 0 0 →
    ts ≡ same_for_all 15 →
    StartedIn ws ns 0 (setup od ts) a ws' ns' →
    (said a ≡ taken) × ((q m : List ℕ) → Along ws' q m sw_reset.before sw_reset.calls sw_reset.after)
begun ws ns od ts a ws' ns' e d s =
    begun_with ws ns od a ws' ns' e (subst (λ (t : Thresholds). StartedIn ws ns 0 (setup od t) a ws' ns') d s)

-- The errors of the SoC check, over plain variables: what an entry, an error and the walk make of a
-- head is what their rule makes of the plain head.
-- Assumes nothing.
use Prim.Native.Nat.{ℕ, ◌+◌, ◌%◌, min}
use mathlib.Core.Path.{◌≡◌, refl, sym, ap, ap₂, ◌∙◌}
use mathlib.Core.Bool.{Bool, true, false, true≢false}
use mathlib.Core.List.{List, [], ◌∷◌, ◌++◌}
use lib.Dec.{ltb}
use Rattle.std.proofs.Common.{append-nil}
use Rattle.types.specs.Pick.{pick}
use Rattle.types.specs.Errors.{reported}
use Rattle.types.specs.declared.nmt.events.NmtEvent.TheVariants.{Error}
use Rattle.types.specs.declared.frame.error.types.DllError.{DllError}
use Rattle.types.specs.declared.frame.error.types.DllErrors.TheVariants as errors
use Rattle.counters.specs.Counters.{handled, HandledError}
use Rattle.counters.specs.Marks.{Mark, crosses, error_marks}
use lib.ListN.{length, take}
use Rattle.entries.specs.Entry.{FitsBytes, crossing_entry}
use Rattle.entries.specs.Ring.{put_at}
use Rattle.entries.specs.Queue.{queue, length_of, capacity_of, has_room, waiting, pushed, pushed_bytes}
use Rattle.entries.specs.History.{history, joined, joined_bytes}
use Rattle.entries.specs.declared.status_response.ErrorEntry.{ErrorEntry}
use Rattle.entries.specs.declared.emergency_queue.EmergencyQueue.{EmergencyQueue}
use Rattle.entries.specs.Queue.{Pushed}
use Rattle.entries.specs.declared.error_history.ErrorHistory.{ErrorHistory}
use Rattle.entries.proofs.Lists.{kept_exactly, waiting_pushed, pushed_capacity, history_joined}
use Rattle.head.specs.Head.{Head, of_parts}
use Rattle.node.specs.Plain.{Plain}
use Rattle.node.specs.Steps.{plain_of, with_errors}
use Rattle.node.specs.Phases.{Ticked, acts, on_handled, goes_on, behind, one_more, signalled, event_in_tick}
use Rattle.node.specs.DllErrors.{on_dll_error_by, on_dll_error, on_dll_errors, statistics, counter1, kept, dropped_one, queued}
use Rattle.node.specs.Refines.{plain, Becomes, Rings, rings, joins, joins_all}
use Rattle.phases.specs.Parts.{PartLeft, Finishes, Ticks, is_quiet}
use Rattle.phases.proofs.PartLaws.{Quiet, handled_quiet, quiet_crosses, Alike}

-- where an entry is dropped, no byte is written
dropped_bytes : (q : List ℕ) (k : EmergencyQueue) (e : ErrorEntry) → (pushed k).kept ≡ false → pushed_bytes q k e ≡ q
unfolding pushed pushed_bytes
dropped_bytes q k e = by (has_room k)
  where
    by :
        (b : Bool) →
        (pick {A = Pushed} b (record { queue = queue k.oldest (length_of k + 1) k.capacity; kept = true }) (record { queue = k; kept = false })).kept ≡ false →
        pick b (put_at q ((k.oldest + length_of k) % 32) e) q ≡ q
    by true z = absurd (true≢false z)
    by false z = refl

-- the entry of a crossing: kept with counter 2, or dropped with counter 3
module _ (h : Head) (q m q' : List ℕ) (e : ErrorEntry) (p : Pushed) (a : p ≡ pushed h.queue) (b : q' ≡ pushed_bytes q h.queue e) where
  -- the contract
  abbrev pub Queues : Head → List ℕ → Type 0
  Queues g m' = (plain g q' m' ≡ queued (plain h q m) e) × (rings g q' m' ≡ joins (rings h q m) e)

  has_room_lem : p.kept ≡ ltb (length (waiting q h.queue)) (capacity_of h.queue)
  has_room_lem = ap (λ (p : Pushed). p.kept) a ∙ kept_exactly q h.queue

  abbrev choice : Bool → Plain
  choice b = pick b (kept (plain h q m) e) (dropped_one (plain h q m))

  pub entry_kept :
      length q ≡ 640 →
      length m ≡ 5080 →
      FitsBytes e →
      p.kept ≡ true →
      (k : ErrorHistory) (m' : List ℕ) →
      (k ≡ joined h.history) × (m' ≡ joined_bytes m h.history e) →
      (c : ℕ) →
      c ≡ one_more h.od.counter_2 →
      Queues
      (of_parts h.nmt h.dll h.errors h.soc (statistics h.od h.od.counter_1 c h.od.counter_3) p.queue k h.earliest) m'
  unfolding queued joins
  entry_kept lq lm f y k m' j c d =
      let t : (pushed h.queue).kept ≡ true = sym (ap (λ (p : Pushed). p.kept) a) ∙ y in
      let cap : capacity_of p.queue ≡ capacity_of h.queue =
      ap (λ (p : Pushed). capacity_of p.queue) a ∙ ap (λ (n : ℕ). min n 32) (pushed_capacity q h.queue) in
      let waits : waiting q' p.queue ≡ waiting q h.queue ++ (e ∷ []) =
      ap₂ waiting b (ap (λ (p : Pushed). p.queue) a) ∙ waiting_pushed q h.queue e lq f
      ∙ ap (λ (b : Bool). pick b (waiting q h.queue ++ (e ∷ [])) (waiting q h.queue)) t in
      let past : history m' k ≡ take 254 (e ∷ history m h.history) =
      ap₂ history j.1 j.0 ∙ history_joined m h.history e lm f in (
        (λ i.
            plain_of h.nmt h.dll.state h.errors h.soc (statistics h.od h.od.counter_1 (d i) h.od.counter_3) (cap i) (waits i) (past i) h.earliest)
            ∙ sym (ap choice (sym has_room_lem ∙ y)),
        (λ i. record { queue = (a i).queue; queue_bytes = b i; history = j.0 i; history_bytes = j.1 i })
            ∙ sym (ap (λ (b : Bool). pick b (record { queue = (pushed h.queue).queue; queue_bytes = pushed_bytes q h.queue e; history = joined h.history; history_bytes = joined_bytes m h.history e }) (rings h q m)) t),
      )

  pub entry_dropped :
      length q ≡ 640 →
      p.kept ≡ false →
      (c : ℕ) →
      c ≡ one_more h.od.counter_3 →
      Queues
      (of_parts h.nmt h.dll h.errors h.soc (statistics h.od h.od.counter_1 h.od.counter_2 c) h.queue h.history h.earliest) m
  unfolding queued joins
  entry_dropped lq y c d =
      let t : (pushed h.queue).kept ≡ false = sym (ap (λ (p : Pushed). p.kept) a) ∙ y in
      let bytes : q' ≡ q = b ∙ dropped_bytes q h.queue e t in (
        (λ i.
            plain_of h.nmt h.dll.state h.errors h.soc (statistics h.od h.od.counter_1 h.od.counter_2 (d i)) (capacity_of h.queue)
            (waiting (bytes i) h.queue) (history m h.history) h.earliest)
            ∙ sym (ap choice (sym has_room_lem ∙ y)),
        (λ i. record { queue = h.queue; queue_bytes = bytes i; history = h.history; history_bytes = m })
            ∙ sym (ap (λ (b : Bool). pick b (record { queue = (pushed h.queue).queue; queue_bytes = pushed_bytes q h.queue e; history = joined h.history; history_bytes = joined_bytes m h.history e }) (rings h q m)) t),
      )

-- one error of the SoC check, from what its parts left
module _ (h : Head) (q m : List ℕ) (e : DllError) (t : ℕ) (quiet : is_quiet e ≡ true) (r : HandledError) (e₁ : r ≡ handled h.errors e) where
  abbrev p₀ : Plain
  p₀ = plain h q m

  abbrev ms : List Mark
  ms = error_marks h.errors e

  crossed : r.signal ≡ crosses h.errors e
  crossed = ap (λ (r : HandledError). r.signal) e₁ ∙ quiet_crosses h.errors e quiet

  by_handled : on_dll_error t p₀ e ≡ on_dll_error_by p₀ ms r.signal (crossing_entry e t) r
  unfolding on_dll_error
  by_handled = ap₂ (λ (b : Bool) (r : HandledError). on_dll_error_by p₀ ms b (crossing_entry e t) r) (sym crossed) (sym e₁)

  module _ (g : Head) (q' m' : List ℕ) (b : Bool) (cs : List ErrorEntry) (p : Plain) (s : on_dll_error_by p₀ ms r.signal (crossing_entry e t) r ≡ on_handled r ms ms cs p) (x : plain g q' m' ≡ p) (j : rings g q' m' ≡ joins_all (rings h q m) cs) where
    on_dll_error_ends : (a : Bool) → a ≡ acts r.action → (f : PartLeft) → Finishes g r.logged a f → Ticks h q m (on_dll_error t p₀ e) f q' m'
    on_dll_error_ends a d f k =
        let k' : on_dll_error t p₀ e ≡ on_handled r ms ms cs p = by_handled ∙ s in
        record {
          head =
              k.head q' m'
              ∙ ap₂ (λ (a : Bool) (p : Plain). pick a (event_in_tick p Error) p) d x
              ∙ sym (ap (λ (k : Ticked). k.head) k');
          logged = ap reported k.logged ∙ sym (ap (λ (k : Ticked). k.logged) k');
          ended = k.ended ∙ d ∙ sym (ap (λ (k : Ticked). k.ended) k');
          joined =
              (λ i. record { queue = k.places.queue i; queue_bytes = q'; history = k.places.history i; history_bytes = m' })
              ∙ j
              ∙ sym (ap (λ (k : Ticked). joins_all (rings h q m) k.crossings) k');
        }

  module _ (c : Head) (d : Becomes h (λ p. with_errors (counter1 p) r.counters) c) (a : Bool) (n : a ≡ acts r.action) (f : PartLeft) where
    pub on_dll_error_unsignalled : r.signal ≡ false → Finishes c r.logged a f → Ticks h q m (on_dll_error t p₀ e) f q m
    on_dll_error_unsignalled z k =
        on_dll_error_ends c q m a [] (with_errors (counter1 p₀) r.counters)
        (ap (λ (b : Bool). on_handled r ms ms (pick b (crossing_entry e t ∷ []) []) (pick b (queued (signalled (with_errors (counter1 p₀) r.counters)) (crossing_entry e t)) (with_errors (counter1 p₀) r.counters))) z)
        (d.0 q m) (λ i. record { queue = d.1.queue i; queue_bytes = q; history = d.1.history i; history_bytes = m }) a n f k

    pub on_dll_error_signalled :
        r.signal ≡ true →
        (s : Head) →
        Becomes c signalled s →
        (g : Head) (q' m' : List ℕ) →
        (plain g q' m' ≡ queued (plain s q m) (crossing_entry e t)) × (rings g q' m' ≡ joins (rings s q m) (crossing_entry e t)) →
        Finishes g r.logged a f →
        Ticks h q m (on_dll_error t p₀ e) f q' m'
    on_dll_error_signalled z s u g q' m' v k =
        on_dll_error_ends g q' m' a (crossing_entry e t ∷ []) (queued (signalled (with_errors (counter1 p₀) r.counters)) (crossing_entry e t))
        (ap (λ (b : Bool). on_handled r ms ms (pick b (crossing_entry e t ∷ []) []) (pick b (queued (signalled (with_errors (counter1 p₀) r.counters)) (crossing_entry e t)) (with_errors (counter1 p₀) r.counters))) z)
        (v.0 ∙ ap (λ (p : Plain). queued p (crossing_entry e t)) (u.0 q m ∙ ap signalled (d.0 q m)))
        (v.1
        ∙ (λ i. joins (record { queue = u.1.queue i; queue_bytes = q; history = u.1.history i; history_bytes = m }) (crossing_entry e t))
        ∙ (λ i. joins (record { queue = d.1.queue i; queue_bytes = q; history = d.1.history i; history_bytes = m }) (crossing_entry e t)))
        a n f k

-- a quiet error that brings no action: the walk goes on from the head that it left, and nothing has
-- joined
module _ (t : ℕ) (p : Plain) (e : DllError) (q : is_quiet e ≡ true) (n : (on_dll_error t p e).ended ≡ false) where
  quiet_handled : Quiet (handled p.errors e)
  unfolding on_dll_error
  quiet_handled = handled_quiet p.errors e q n

  pub quiet_logged : (on_dll_error t p e).logged ≡ []
  unfolding on_dll_error
  quiet_logged = quiet_handled.logged

  pub quiet_crossings : (on_dll_error t p e).crossings ≡ []
  unfolding on_dll_error
  quiet_crossings = ap (λ (b : Bool). pick b (crossing_entry e t ∷ []) []) (sym (quiet_crosses p.errors e q) ∙ quiet_handled.signal)

  walk_on : (es : List DllError) → Alike (on_dll_errors t p (e ∷ es)) (on_dll_errors t (on_dll_error t p e).head es)
  unfolding on_dll_errors
  walk_on es =
      let d = on_dll_error t p e in
      let r = on_dll_errors t d.head es in
      let s : on_dll_errors t p (e ∷ es) ≡ behind d r = ap (λ (b : Bool). pick b d (behind d r)) n in
      record {
        head = ap (λ (k : Ticked). k.head) s;
        logged = ap (λ (k : Ticked). k.logged) s ∙ ap (λ (l : List DllError). l ++ r.logged) quiet_logged;
        crossings = ap (λ (k : Ticked). k.crossings) s ∙ ap (λ (l : List ErrorEntry). l ++ r.crossings) quiet_crossings;
        ended = ap (λ (k : Ticked). k.ended) s;
      }

walk_ends : (t : ℕ) (p : Plain) (e : DllError) (es : List DllError) → (on_dll_error t p e).ended ≡ true → on_dll_errors t p (e ∷ es) ≡ on_dll_error t p e
unfolding on_dll_errors
walk_ends t p e es n = ap (λ (b : Bool). pick b (on_dll_error t p e) (behind (on_dll_error t p e) (on_dll_errors t (on_dll_error t p e).head es))) n

-- the walk: no error, one that ends it, one behind which it goes on, and the last
pub walk_none : (t : ℕ) (h : Head) (q m : List ℕ) → Ticks h q m (on_dll_errors t (plain h q m) []) (record { head = h; logged = errors.None; ended = false }) q m
unfolding on_dll_errors
walk_none t h q m = record { head = refl; logged = refl; ended = refl; joined = refl }

module _ (t : ℕ) (h : Head) (q m : List ℕ) (e : DllError) (r : PartLeft) (q' m' : List ℕ) (k : Ticks h q m (on_dll_error t (plain h q m) e) r q' m') where
  abbrev p : Plain
  p = plain h q m

  abbrev d : Ticked
  d = on_dll_error t (plain h q m) e

  pub walk_stops : (es : List DllError) → r.ended ≡ true → Ticks h q m (on_dll_errors t (plain h q m) (e ∷ es)) r q' m'
  walk_stops es y =
      let s : on_dll_errors t p (e ∷ es) ≡ d = walk_ends t p e es (sym k.ended ∙ y) in
      record {
        head = k.head ∙ sym (ap (λ (k : Ticked). k.head) s);
        logged = k.logged ∙ sym (ap (λ (k : Ticked). k.logged) s);
        ended = k.ended ∙ sym (ap (λ (k : Ticked). k.ended) s);
        joined = k.joined ∙ sym (ap (λ (k : Ticked). joins_all (rings h q m) k.crossings) s);
      }

  pub walk_goes_on :
      is_quiet e ≡ true →
      r.ended ≡ false →
      (es : List DllError) (r' : PartLeft) (q'' m'' : List ℕ) →
      Ticks r.head q' m' (on_dll_errors t (plain r.head q' m') es) r' q'' m'' →
      Ticks h q m (on_dll_errors t (plain h q m) (e ∷ es)) r' q'' m''
  walk_goes_on c y es r' q'' m'' w =
      let n : (on_dll_error t p e).ended ≡ false = sym k.ended ∙ y in
      let a = walk_on t p e c n es in
      record {
        head = w.head ∙ ap (λ (p : Plain). (on_dll_errors t p es).head) k.head ∙ sym a.head;
        logged = w.logged ∙ ap (λ (p : Plain). (on_dll_errors t p es).logged) k.head ∙ sym a.logged;
        ended = w.ended ∙ ap (λ (p : Plain). (on_dll_errors t p es).ended) k.head ∙ sym a.ended;
        joined =
            w.joined
            ∙ ap (λ (g : Rings). joins_all g (on_dll_errors t (plain r.head q' m') es).crossings) (k.joined ∙ ap (joins_all (rings h q m)) (quiet_crossings t p e c n))
            ∙ ap (λ (p : Plain). joins_all (rings h q m) (on_dll_errors t p es).crossings) k.head
            ∙ sym (ap (joins_all (rings h q m)) a.crossings);
      }

  pub walk_last : Ticks h q m (on_dll_errors t (plain h q m) (e ∷ [])) r q' m'
  unfolding on_dll_errors
  walk_last = by r.ended refl
    where
      by : (b : Bool) → r.ended ≡ b → Ticks h q m (on_dll_errors t (plain h q m) (e ∷ [])) r q' m'
      by true y = walk_stops [] y
      by false y =
          let s : on_dll_errors t p (e ∷ []) ≡ behind d (goes_on d.head) = ap (λ (b : Bool). pick b d (behind d (goes_on d.head))) (sym k.ended ∙ y) in
          record {
            head = k.head ∙ sym (ap (λ (k : Ticked). k.head) s);
            logged = k.logged ∙ sym (append-nil d.logged) ∙ sym (ap (λ (k : Ticked). k.logged) s);
            ended = y ∙ sym (ap (λ (k : Ticked). k.ended) s);
            joined = k.joined ∙ ap (joins_all (rings h q m)) (sym (append-nil d.crossings)) ∙ sym (ap (λ (k : Ticked). joins_all (rings h q m) k.crossings) s);
          }

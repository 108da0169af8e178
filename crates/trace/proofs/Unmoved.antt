-- THE HISTORY WITHOUT MOVING, over any list of calls of the real functions, from their contracts in src/ alone.
-- Assumes nothing.
use Prim.Native.Nat.{ℕ, zero, suc, ◌+◌, ◌/◌, ◌≤◌, ◌<◌, min}
use mathlib.Core.Path.{◌≡◌, refl, sym, ap, ap₂, subst, ◌∙◌}
use mathlib.Core.Logic.{⊎_elim}
use mathlib.Core.Bool.{Bool, true, false, not, true≢false}
use mathlib.Core.List.{List, [], ◌∷◌, ◌++◌}
use native.Mathlib.Omega.{arith}
use lib.Dec.{eqb}
use lib.ListN.{length}
use lib.Seq.{ext_get_or}
use borrow.Author.Tests.{eq-eqb, eqb-false}
use Rattle.types.specs.Pick.{pick, either}
use Rattle.entries.specs.Ring.{listed}
use Rattle.entries.specs.Queue.{capacity_of, waiting, pushed}
use Rattle.entries.specs.History.{error_history, place_before, joined, joined_bytes, entries_in, taken_of, loaded, loaded_bytes}
use Rattle.entries.specs.declared.status_response.ErrorEntry.{ErrorEntry}
use Rattle.entries.specs.declared.error_history.ErrorHistory.{ErrorHistory}
use Rattle.entries.proofs.Rings.{lt_or_ge, listed_long}
use Rattle.entries.proofs.Lists.{kept_exactly, others_stay, joined_long, loaded_long, behind_loaded}
use Rattle.head.specs.Head.{Head}
use Rattle.head.specs.Words.{head_of}
use Rattle.node.specs.Plain.{Plain, Call}
use Rattle.node.specs.Run.{step}
use Rattle.node.specs.Refines.{plain, Rings, rings, joins, joins_all, history_update, loaded_places, loaded_memory}
use Rattle.std.specs.declared.option.Option.{Option}
use Rattle.std.specs.declared.option.Option.TheVariants.{Some, None}
use Rattle.trace.specs.Tally.{is_full, dropped_by}
use Rattle.trace.specs.Claim.{Queued, still, kept, dropped, handed}
use Rattle.node.specs.Loaded.{bytes_named}
use Rattle.calling.specs.declared.Call as made
use Rattle.calling.specs.declared.Call.TheVariants as of
use Rattle.calling.specs.Held.{Held, plain_at, rings_of}
use Rattle.calling.specs.Values.{Reply, call_of}
use Rattle.calling.specs.Made.{Made}
use Rattle.trace.specs.Driven.{Driven, stop, call, lend, calls_of}
use Rattle.calling.specs.Declined.{is_among}
use Rattle.trace.specs.Unmoved.{Brought, by_crossings, nothing_new, kept_by, loaded_new, brought_by, stands_after, joined_at, written_at, stands_after_all, written_at_all, OthersStay, Unmoved}
use Rattle.trace.proofs.Ticking.{room_or_full}
use Rattle.trace.proofs.Shares.{rule}
use Rattle.trace.proofs.Keeps.{either_first, either_second}
use Rattle.trace.proofs.Driven.{runs}

-- a place that is among neither of two lists
first_apart : (i : ℕ) (ps rs : List ℕ) → is_among i (ps ++ rs) ≡ false → is_among i ps ≡ false
first_apart i [] rs h = refl
first_apart i (p ∷ ps) rs h = by (eqb i p) (first_apart i ps rs) h
  where
    by :
        (b : Bool) → (is_among i (ps ++ rs) ≡ false → is_among i ps ≡ false) → either b (is_among i (ps ++ rs)) ≡ false →
        either b (is_among i ps) ≡ false
    by true more g = g
    by false more g = more g

second_apart : (i : ℕ) (ps rs : List ℕ) → is_among i (ps ++ rs) ≡ false → is_among i rs ≡ false
second_apart i [] rs h = h
second_apart i (p ∷ ps) rs h = second_apart i ps rs (either_second (eqb i p) (is_among i (ps ++ rs)) h)

-- nothing is written, and one after another
none_written : (m : List ℕ) → OthersStay [] m m
none_written m = record { long = refl; bytes = λ k h. refl }

written_then : {ps rs m m₁ m' : List ℕ} → OthersStay ps m m₁ → OthersStay rs m₁ m' → OthersStay (ps ++ rs) m m'
written_then {ps = ps} {rs = rs} a b =
    record {
      long = b.long ∙ a.long;
      bytes = λ k h. b.bytes k (second_apart (k / 20) ps rs h) ∙ a.bytes k (first_apart (k / 20) ps rs h);
    }

-- an entry joins
entry_joins : (m : List ℕ) (h : ErrorHistory) (e : ErrorEntry) → length m ≡ 5080 → OthersStay (place_before h ∷ []) m (joined_bytes m h e)
entry_joins m h e long =
    record {
      long = joined_long m h e long;
      bytes =
          λ k f.
          others_stay m h e long k (eqb-false (k / 20) (place_before h) (either_first (eqb (k / 20) (place_before h)) false f));
    }

-- a load
among_listed : (f : ℕ → ℕ) (n j : ℕ) → j < n → is_among (f j) (listed f n) ≡ true
unfolding listed
among_listed f zero j h = absurd (omega arith)
among_listed f (suc n) zero h = rw (eq-eqb (f 0) (f 0) refl)
among_listed f (suc n) (suc j) h = by (eqb (f (suc j)) (f 0)) (among_listed (λ i. f (suc i)) n j (omega arith))
  where
    by : (b : Bool) → is_among (f (suc j)) (listed (λ i. f (suc i)) n) ≡ true → either b (is_among (f (suc j)) (listed (λ i. f (suc i)) n)) ≡ true
    by true g = refl
    by false g = g

entries_load : (m s : List ℕ) → length m ≡ 5080 → OthersStay (listed (λ i. i) (taken_of s)) m (loaded_bytes m s)
entries_load m s long =
    record {
      long = loaded_long m s long;
      bytes =
          λ k f.
          behind_loaded m s k
          (⊎_elim (λ h. absurd (true≢false (sym (among_listed (λ i. i) (taken_of s) (k / 20) h) ∙ f))) (λ h. h) (lt_or_ge (k / 20) (taken_of s)));
    }

-- Of a history h with its bytes m, into which these entries were brought, and which is h' with the bytes m' then.
record Brings (h : ErrorHistory) (m : List ℕ) (b : Brought) (h' : ErrorHistory) (m' : List ℕ) : Type 0 where
  others : OthersStay (written_at h b) m m'
  stands : h' ≡ stands_after h b

brings_none : {h h' : ErrorHistory} {m m' : List ℕ} → h' ≡ h → m' ≡ m → Brings h m nothing_new h' m'
brings_none {m = m} e f = record { others = subst (OthersStay [] m) (sym f) (none_written m); stands = e }

brings_loaded :
    (es : Option (List ℕ)) {h h' : ErrorHistory} {m m' : List ℕ} →
    length m ≡ 5080 →
    h' ≡ loaded_places es h →
    m' ≡ loaded_memory es m →
    Brings h m (loaded_new (history_update es)) h' m'
unfolding loaded entries_in
brings_loaded (Some s) {m = m} {m' = m'} long e f =
    let n : length s / 20 ≡ length (entries_in s) = sym (listed_long _ (length s / 20)) in
    record {
      others =
          subst (λ (n : ℕ). OthersStay (listed (λ i. i) (min n 254)) m m') n
          (subst (OthersStay (listed (λ i. i) (taken_of s)) m) (sym f) (entries_load m s long));
      stands = e ∙ ap (λ (n : ℕ). error_history 0 (min n 254)) n;
    }
brings_loaded None long e f = brings_none e f

-- a tick has at most one crossing
data OneAtMost : List ErrorEntry → Type 0 where
  none : OneAtMost []
  one : (e : ErrorEntry) → OneAtMost (e ∷ [])

one_at_most : {n : ℕ} {q cs h d q' : List ErrorEntry} → Queued n q cs h d q' → OneAtMost cs
one_at_most still = none
one_at_most (kept {e = e} r) = one e
one_at_most (dropped {e = e} r) = one e
one_at_most handed = none

-- its entry joins where the queue has room, and then the history is written at one place; else nothing is written
none_kept : (b : Bool) → [] ≡ pick {A = List ErrorEntry} b [] []
none_kept true = refl
none_kept false = refl

joins_by :
    (r : Rings) (e : ErrorEntry) (b : Bool) →
    (pushed r.queue).kept ≡ b →
    ((joins r e).history ≡ pick b (joined r.history) r.history)
    × ((joins r e).history_bytes ≡ pick b (joined_bytes r.history_bytes r.history e) r.history_bytes)
unfolding joins
joins_by r e true h = (rw h, rw h)
joins_by r e false h = (rw h, rw h)

brings_crossed :
    (h h' : Head) (q m q' m' : List ℕ) (cs : List ErrorEntry) →
    OneAtMost cs →
    length m ≡ 5080 →
    rings h' q' m' ≡ joins_all (rings h q m) cs →
    Brings h.history m (by_crossings (kept_by (plain h q m) cs)) h'.history m'
brings_crossed h h' q m q' m' cs none long r =
    subst (λ (es : List ErrorEntry). Brings h.history m (by_crossings es) h'.history m') (none_kept (is_full (plain h q m)))
    (brings_none (ap (λ (r : Rings). r.history) r) (ap (λ (r : Rings). r.history_bytes) r))
brings_crossed h h' q m q' m' cs (one e) long r = by (is_full (plain h q m)) refl
  where
    room : (pushed h.queue).kept ≡ not (is_full (plain h q m))
    room = kept_exactly q h.queue ∙ room_or_full (length (waiting q h.queue)) (capacity_of h.queue)

    by : (b : Bool) → is_full (plain h q m) ≡ b → Brings h.history m (by_crossings (pick b [] (e ∷ []))) h'.history m'
    by true f =
        let j = joins_by (rings h q m) e false (room ∙ ap not f) in
        brings_none (ap (λ (r : Rings). r.history) r ∙ j.0) (ap (λ (r : Rings). r.history_bytes) r ∙ j.1)
    by false f =
        let j = joins_by (rings h q m) e true (room ∙ ap not f) in
        record {
          others =
              subst (OthersStay (place_before h.history ∷ []) m) (sym (ap (λ (r : Rings). r.history_bytes) r ∙ j.1))
              (entry_joins m h.history e long);
          stands = ap (λ (r : Rings). r.history) r ∙ j.0;
        }

-- one call
abbrev BringsTo : Held → Brought → Held → Type 0
BringsTo x b x' = Brings (head_of x.head).history x.history b (head_of x'.head).history x'.history

none_by :
    (x x' : Held) (y : Rings) → y.history ≡ (head_of x.head).history → y.history_bytes ≡ x.history → rings_of x' ≡ y → BringsTo x nothing_new x'
none_by x x' y f g r = brings_none (ap (λ (r : Rings). r.history) r ∙ f) (ap (λ (r : Rings). r.history_bytes) r ∙ g)

module _ {x x' : Held} {o : Reply} (long : length x.history ≡ 5080) where
  brings : (c : made.Call) → Made x c o x' → BringsTo x (brought_by (plain_at x) (call_of c x.lent)) x'
  brings (of.NmtEvent n) t = none_by x x' _ refl refl t.rings
  brings (of.DllEvent n b) t = none_by x x' _ refl refl t.rings
  brings (of.Error n a b) t = none_by x x' _ refl refl t.rings
  brings of.CycleComplete t = none_by x x' _ refl refl t.rings
  brings of.Withdraw t = none_by x x' _ refl refl t.rings
  brings (of.Heard n s) t = none_by x x' _ refl refl t.rings
  brings of.HandOut t = none_by x x' _ refl refl t.rings
  brings (of.Load u h) t =
      brings_loaded (bytes_named h) long (ap (λ (r : Rings). r.history) t.rings) (ap (λ (r : Rings). r.history_bytes) t.rings)
  brings (of.Arm s) t = none_by x x' _ refl refl t.rings
  brings (of.Tick s) t =
      brings_crossed (head_of x.head) (head_of x'.head) x.queue x.history x'.queue x'.history (step (plain_at x) (Call.tick s x.lent)).crossings
      (one_at_most (rule (plain_at x) (Call.tick s x.lent)).queue) long t.rings
  brings (of.Range a b) t = none_by x x' _ refl refl t.rings
  brings (of.Margin s) t = none_by x x' _ refl refl t.rings
  brings (of.Add n s) t = none_by x x' _ refl refl t.rings
  brings (of.Remove n) t = none_by x x' _ refl refl t.rings
  brings of.NextDue t = none_by x x' _ refl refl t.rings
  brings (of.Frame s b) t =
      brings_crossed (head_of x.head) (head_of x'.head) x.queue x.history x'.queue x'.history (step (plain_at x) (Call.frame s b.now)).crossings
      (one_at_most (rule (plain_at x) (Call.frame s b.now)).queue) long t.rings

-- and a list of them, between any two moments
abbrev Stands : Held → List Call → Held → Type 0
Stands x cs x' =
    OthersStay (written_at_all (plain (head_of x.head) x.queue x.history) (head_of x.head).history cs) x.history x'.history
    × ((head_of x'.head).history ≡ stands_after_all (plain (head_of x.head) x.queue x.history) (head_of x.head).history cs)

brings_all : {x x' : Held} → length x.history ≡ 5080 → (d : Driven x x') → Stands x (calls_of d) x'
unfolding written_at_all stands_after_all
brings_all {x} long stop = (none_written x.history, refl)
brings_all {x' = x'} long (call {x} {x₁ = x₁} {c = c} t d) =
    let a = brings long c t in
    let b = brings_all (a.others.long ∙ long) d in
    let p = t.refines.head in (
      written_then a.others
          (subst (λ (ps : List ℕ). OthersStay ps x₁.history x'.history) (ap₂ (λ (p : Plain) (h : ErrorHistory). written_at_all p h (calls_of d)) p a.stands) b.0),
      b.1 ∙ ap₂ (λ (p : Plain) (h : ErrorHistory). stands_after_all p h (calls_of d)) p a.stands,
    )
brings_all {x' = x'} long (lend e d) =
    subst (λ (z : Held). Stands z (calls_of d) x') e (brings_all (ap (λ (z : Held). length z.history) e ∙ long) d)

pub unmoved :
    {x x' : Held} → length x.history ≡ 5080 → (d : Driven x x') → Unmoved (head_of x.head) x.queue x.history (calls_of d) (head_of x'.head) x'.history
unmoved long d =
    let b = brings_all long d in
    record { others = b.0; stands = b.1; list = ap (λ (p : Plain). p.history) (runs d) }

-- A call has at most one crossing, which is kept and writes one place, or is dropped.
pub at_most_one : (p : Plain) (c : Call) → length (step p c).crossings ≤ 1
at_most_one p c = by (one_at_most (rule p c).queue)
  where
    by : {cs : List ErrorEntry} → OneAtMost cs → length cs ≤ 1
    by none = omega arith
    by (one e) = omega arith

pub one_place_each : (p : Plain) (h : ErrorHistory) (cs : List ErrorEntry) → length (joined_at h (kept_by p cs)) + length (dropped_by p cs) ≡ length cs
one_place_each p h cs = by (is_full p)
  where
    as_many : (h : ErrorHistory) (cs : List ErrorEntry) → length (joined_at h cs) + 0 ≡ length cs
    as_many h [] = refl
    as_many h (e ∷ es) = let n = as_many (joined h) es in omega arith

    by : (b : Bool) → length (joined_at h (pick b [] cs)) + length (pick b cs []) ≡ length cs
    by true = omega arith
    by false = as_many h cs

-- where no place is written, the memory is as it was: so it is by a tick on a head whose queue is full
pub nothing_written : {m m' : List ℕ} → OthersStay [] m m' → m' ≡ m
nothing_written {m = m} {m' = m'} o = ext_get_or 0 m' m o.long (λ k h. o.bytes k refl)

pub dropped_writes_none :
    {x x' : Held} {t : ℕ} {o : Reply} →
    length x.history ≡ 5080 →
    Made x (of.Tick t) o x' →
    is_full (plain (head_of x.head) x.queue x.history) ≡ true →
    x'.history ≡ x.history
dropped_writes_none {x} {x'} {t} long f full =
    let p = plain (head_of x.head) x.queue x.history in
    nothing_written
    (subst (λ (b : Bool). OthersStay (joined_at (head_of x.head).history (pick b [] (step p (Call.tick t x.lent)).crossings)) x.history x'.history) full (brings long (of.Tick t) f).others)

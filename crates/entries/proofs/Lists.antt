-- What waits in the queue and what the history lists, after each call.
-- Assumes nothing.
use Prim.Native.Nat.{ℕ, suc, ◌+◌, ◌-◌, ◌*◌, ◌/◌, ◌%◌, ◌≤◌, ◌<◌, min}
use mathlib.Core.Path.{◌≡◌, refl, sym, ap, ◌∙◌}
use mathlib.Core.Logic.{⊎_elim}
use mathlib.Core.Bool.{Bool, true, false}
use mathlib.Core.List.{List, [], ◌∷◌, ◌++◌}
use native.Mathlib.Omega.{arith}
use lib.Dec.{ltb}
use lib.ListN.{length, get_or, take, drop, take-append-drop, length-append, length-drop}
use lib.Seq.{length-take-le, get_or-append-add, get_or-drop}
use borrow.Author.Tests.{lt-ltb, le-ltb}
use Rattle.types.specs.Pick.{pick}
use Rattle.entries.specs.declared.status_response.ErrorEntry.{ErrorEntry}
use Rattle.std.specs.declared.option.Option.{Option}
use Rattle.std.specs.declared.option.Option.TheVariants.{Some}
use Rattle.entries.specs.declared.emergency_queue.EmergencyQueue.{EmergencyQueue}
use Rattle.entries.specs.declared.error_history.ErrorHistory.{ErrorHistory}
use Rattle.entries.specs.Entry.{FitsBytes}
use Rattle.entries.specs.Ring.{entry_at, listed, ring, nth, rest}
use Rattle.entries.specs.Queue.{queue, length_of, capacity_of, waiting, pushed, pushed_bytes, handed_out}
use Rattle.entries.specs.History.{error_history, history, place_before, joined, joined_bytes, entries_in, taken_of, loaded, loaded_bytes}
use Rattle.entries.proofs.Rings.{lt_or_ge, listed_same, listed_take, listed_long, nth_in, place_before_lem, byte_other, put_long, ring_rest, ring_behind, ring_before}

-- a push and a hand out by their parts
pub pushed_as :
    {n p q : EmergencyQueue} {k : Bool} → n ≡ (pushed p).queue → k ≡ (pushed p).kept → p ≡ q → record { queue = n; kept = k } ≡ pushed q
pushed_as e f o = (λ i. record { queue = e i; kept = f i }) ∙ ap pushed o

pub handed_as :
    {n p q : EmergencyQueue} {x : Option ErrorEntry} (m : List ℕ) →
    n ≡ (handed_out m p).queue →
    x ≡ (handed_out m p).entry →
    p ≡ q →
    record { queue = n; entry = x } ≡ handed_out m q
handed_as m e f o = (λ i. record { queue = e i; entry = f i }) ∙ ap (handed_out m) o

-- the two cases of a test
decide : {G : Type 0} (i j : ℕ) → (i < j → ltb i j ≡ true → G) → (j ≤ i → ltb i j ≡ false → G) → G
decide i j below above = ⊎_elim (λ h. below h (lt-ltb i j h)) (λ h. above h (le-ltb i j h)) (lt_or_ge i j)

module _ (m : List ℕ) (q : EmergencyQueue) where
  pub waiting_long : length (waiting m q) ≡ length_of q
  unfolding waiting
  waiting_long = listed_long _ (length_of q)

  -- an entry is kept exactly where fewer wait than may
  pub kept_exactly : (pushed q).kept ≡ ltb (length (waiting m q)) (capacity_of q)
  unfolding pushed
  kept_exactly = rw waiting_long (decide (length_of q) (capacity_of q) (λ room t. rw t) (λ full t. rw t))

  -- a kept entry waits last, and a dropped one changes nothing
  pub waiting_pushed :
      (e : ErrorEntry) →
      length m ≡ 640 →
      FitsBytes e →
      waiting (pushed_bytes m q e) (pushed q).queue ≡ pick (pushed q).kept (waiting m q ++ (e ∷ [])) (waiting m q)
  unfolding waiting pushed_bytes pushed
  waiting_pushed e long f =
      decide (length_of q) (capacity_of q)
      (λ room t.
      let n : min (length_of q + 1) 32 ≡ suc (length_of q) = omega arith in
      rw (t, n) (ring_behind 32 m long q.oldest e f (length_of q) (omega arith)))
      (λ full t. rw t)

  -- the capacity stays as large
  pub pushed_capacity : (pushed q).queue.capacity ≡ q.capacity
  unfolding pushed
  pushed_capacity = decide (length_of q) (capacity_of q) (λ room t. rw t) (λ full t. rw t)

  pub handed_capacity : (handed_out m q).queue.capacity ≡ q.capacity
  unfolding handed_out
  handed_capacity = decide 0 (length_of q) (λ some t. rw t) (λ none t. rw t)

  -- what is handed out is the first that waits, and the others wait on; where none waits, it is none
  first_and_rest :
      (n : ℕ) → length_of q ≡ suc n → waiting m q ≡ entry_at m (q.oldest % 32) ∷ ring 32 m ((q.oldest + 1) % 32) n
  unfolding waiting
  first_and_rest n h = rw h (ring_rest 32 m q.oldest n)

  nothing : length_of q ≡ 0 → waiting m q ≡ []
  unfolding waiting listed
  nothing h = rw h

  pub handed_first : (handed_out m q).entry ≡ nth (waiting m q) 0
  unfolding handed_out nth
  handed_first =
      decide 0 (length_of q)
      (λ some t. rw (t, first_and_rest (length_of q - 1) (omega arith)))
      (λ none t. rw (t, nothing (omega arith)))

  pub rest_waits : waiting m (handed_out m q).queue ≡ rest (waiting m q)
  unfolding waiting handed_out
  rest_waits =
      decide 0 (length_of q)
      (λ some t.
      let k : min (length_of q - 1) 32 ≡ length_of q - 1 = omega arith in
      rw (first_and_rest (length_of q - 1) (omega arith)) (rw (t, k)))
      (λ none t. rw (t, nothing (omega arith)))

-- nothing waits in a new queue
pub waiting_new : (m : List ℕ) (c : ℕ) → waiting m (queue 0 0 c) ≡ []
unfolding waiting listed
waiting_new m c = refl

module _ (m : List ℕ) (h : ErrorHistory) (e : ErrorEntry) (long : length m ≡ 5080) where
  -- an entry joins in front, and of 255 the oldest is gone
  pub history_joined : FitsBytes e → history (joined_bytes m h e) (joined h) ≡ take 254 (e ∷ history m h)
  unfolding history joined_bytes joined
  history_joined f =
      let n : ℕ = min h.count 253 in
      let more : min (min (h.count + 1) 254) 254 ≡ suc n = omega arith in
      let less : min 253 (min h.count 254) ≡ n = omega arith in
      rw (more, listed_take (λ j. entry_at m ((h.newest + j) % 254)) 253 (min h.count 254), less)
      (ring_before 254 m long h.newest e f n (omega arith))

  -- no other moves: each byte of the other 253 places is as it was, the byte k being one of the place k / 20; and the memory keeps its length
  pub others_stay : (k : ℕ) → (k / 20 ≡ place_before h → ⊥) → get_or (joined_bytes m h e) k 0 ≡ get_or m k 0
  unfolding joined_bytes
  others_stay = byte_other 254 m long (place_before h) (omega arith) e

  pub joined_long : length (joined_bytes m h e) ≡ length m
  unfolding joined_bytes
  joined_long = put_long 254 m long (place_before h) (omega arith) e

-- the place before the newest has, in a full history, the oldest entry: the 254th of the list
pub oldest_there : (m : List ℕ) (h : ErrorHistory) → 254 ≤ h.count → nth (history m h) 253 ≡ Some (entry_at m (place_before h))
unfolding history
oldest_there m h full =
    let all : min h.count 254 ≡ 254 = omega arith in
    rw all (nth_in (λ j. entry_at m ((h.newest + j) % 254)) 254 253 (omega arith))

-- a new history is empty
pub history_new : (m : List ℕ) → history m (error_history 0 0) ≡ []
unfolding history listed
history_new m = refl

-- a loaded history is the newest 254 of the entries that were lent
module _ (m s : List ℕ) where
  taken_long : length (take (20 * taken_of s) s) ≡ 20 * taken_of s
  taken_long = length-take-le (20 * taken_of s) s (omega arith)

  pub history_loaded : history (loaded_bytes m s) (loaded s) ≡ take 254 (entries_in s)
  unfolding history loaded_bytes loaded entries_in
  history_loaded =
      let n : ℕ = taken_of s in
      let most : n ≤ 254 = omega arith in
      let all : min n 254 ≡ n = omega arith in
      let first : min 254 (length s / 20) ≡ n = omega arith in
      rw (all, listed_take (entry_at s) 254 (length s / 20), first)
      (listed_same _ _ n
      (λ j lt.
      let p : (0 + j) % 254 ≡ j = omega arith in
      rw p
      (place_before_lem (take (20 * n) s) (drop (20 * n) m) (drop (20 * n) s) j (rw taken_long (omega arith))
      ∙ ap (λ (l : List ℕ). entry_at l j) (take-append-drop (20 * n) s))))

  pub loaded_long : length m ≡ 5080 → length (loaded_bytes m s) ≡ length m
  unfolding loaded_bytes
  loaded_long long =
      let most : taken_of s ≤ 254 = omega arith in
      simp (length-append, length-drop, taken_long) (omega arith)

  -- the places behind them are as they were
  pub behind_loaded : (k : ℕ) → taken_of s ≤ k / 20 → get_or (loaded_bytes m s) k 0 ≡ get_or m k 0
  unfolding loaded_bytes
  behind_loaded k h =
      let n : ℕ = 20 * taken_of s in
      let far : n + (k - n) ≡ k = omega arith in
      let sum : length (take n s) + (k - n) ≡ k = omega (arith, taken_long) in
      ap (λ (i : ℕ). get_or (take n s ++ drop n m) i 0) (sym sum)
      ∙ get_or-append-add (take n s) (drop n m) (k - n) 0
      ∙ get_or-drop n m (k - n) 0
      ∙ ap (λ (i : ℕ). get_or m i 0) far

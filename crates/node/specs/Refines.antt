-- What a head with its lent memory stands for, what a call leaves, and the one predicate that every
-- call's contract is.
-- Assumes nothing.
use Rattle.std.specs.Prelude.{ℕ, ◌≡◌, List, [], ◌∷◌}
use Rattle.types.specs.Pick.{pick}
use Rattle.std.specs.declared.option.Option.{Option}
use Rattle.std.specs.declared.option.Option.TheVariants.{Some, None}
use Rattle.entries.specs.Queue.{capacity_of, waiting, pushed, pushed_bytes}
use Rattle.entries.specs.History.{history, joined, joined_bytes, entries_in, loaded, loaded_bytes}
use Rattle.entries.specs.declared.status_response.ErrorEntry.{ErrorEntry}
use Rattle.entries.specs.declared.emergency_queue.EmergencyQueue.{EmergencyQueue}
use Rattle.entries.specs.declared.error_history.ErrorHistory.{ErrorHistory}
use Rattle.head.specs.Head.{Head}
use Rattle.watched.specs.Watched.{Run}
use Rattle.node.specs.Plain.{Plain, HistoryUpdate, set, keep, Call, Answer}
use Rattle.node.specs.Run.{step}

-- the plain head that a head, its queue's bytes q and its history's bytes m stand for
abbrev pub plain : Head → List ℕ → List ℕ → Plain
plain h q m =
    record {
      nmt = h.nmt;
      dll = h.dll.state;
      errors = h.errors;
      soc = h.soc;
      od = h.od;
      capacity = capacity_of h.queue;
      queue = waiting q h.queue;
      history = history m h.history;
      earliest = h.earliest;
    }

-- the queue and the history stand where they stood: of what Refines sees through the memory,
-- nothing moved
pub record SamePlaces (h h' : Head) : Type 0 where
  pub queue : h'.queue ≡ h.queue
  pub history : h'.history ≡ h.history

-- what Refines sees only through the memory: the places of queue and history, and the bytes
pub record Rings : Type 0 where
  pub queue : EmergencyQueue
  pub queue_bytes : List ℕ
  pub history : ErrorHistory
  pub history_bytes : List ℕ

-- the places and the bytes of a head's queue and history
abbrev pub rings : Head → List ℕ → List ℕ → Rings
rings h q m = record { queue = h.queue; queue_bytes = q; history = h.history; history_bytes = m }

-- an entry joins queue and history, where the queue has room for it
unfoldable pub joins : Rings → ErrorEntry → Rings
joins r e =
    pick (pushed r.queue).kept
    (record {
      queue = (pushed r.queue).queue;
      queue_bytes = pushed_bytes r.queue_bytes r.queue e;
      history = joined r.history;
      history_bytes = joined_bytes r.history_bytes r.history e;
    })
    r

-- some entries join, one after the other
abbrev pub joins_all : Rings → List ErrorEntry → Rings
joins_all r [] = r
joins_all r (e ∷ es) = joins_all (joins r e) es

-- a head becomes what f makes of the plain head, whatever stands in its memory, and its queue and
-- history stay in their places
abbrev pub Becomes : Head → (Plain → Plain) → Head → Type 0
Becomes h f g = ((q m : List ℕ) → plain g q m ≡ f (plain h q m)) × SamePlaces h g

-- what a call leaves: the head, and the plain head's answer
pub record Left : Type 0 where
  pub head : Head
  pub answer : Answer

-- what a call leaves: the head h and the answer a
abbrev pub left : Head → Answer → Left
left h a = record { head = h; answer = a }

-- the history that a load names, from the bytes of its entries
abbrev pub history_update : Option (List ℕ) → HistoryUpdate
history_update (Some s) = set (entries_in s)
history_update None = keep

-- where the history stands after a load: it moves only where the load names one
abbrev pub loaded_places : Option (List ℕ) → ErrorHistory → ErrorHistory
loaded_places (Some s) h = loaded s
loaded_places None h = h

-- the history's bytes after a load: they change only where the load names one
abbrev pub loaded_memory : Option (List ℕ) → List ℕ → List ℕ
loaded_memory (Some s) m = loaded_bytes m s
loaded_memory None m = m

-- Of a call c on a head h with its memory q and m, which left o, the memory q' and m' and the run
-- l: head and memory stand for the plain head after c, the answer is the plain head's, and so is
-- the run, all its places and the number.
pub record Refines (h : Head) (q m : List ℕ) (c : Call) (o : Left) (q' m' : List ℕ) (l : Run) : Type 0 where
  pub head : plain o.head q' m' ≡ (step (plain h q m) c).head
  pub answer : o.answer ≡ (step (plain h q m) c).answer
  pub lent : l ≡ (step (plain h q m) c).lent

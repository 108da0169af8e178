-- One table of the calls (RULES 3): what each may be refused with, what it is lent, and what it may
-- do. What is said of calls by their kind reads it.
-- Assumes nothing.
use Rattle.std.specs.Prelude.{ℕ, Bool, true, false, List, [], ◌∷◌}
use Rattle.watched.specs.Watched.{Run}
use Rattle.node.specs.declared.load.DictionaryUpdate.{DictionaryUpdate}
use Rattle.node.specs.Plain.{HistoryUpdate, Call, nmt_event, dll_event, error, cycle_complete, withdraw, heard, hand_out, load, arm, tick, range, margin, add, remove, next_due, frame}
use Rattle.node.specs.Steps.{no_run}

-- the watched nodes that a call is lent
pub data Lends : Type 0 where
  no_nodes : Lends
  -- this run, from which it works the earliest moment out afresh
  nodes : Run → Lends
  -- this run, to read alone
  read : Run → Lends

-- what a call tells the node
pub data Tells : Type 0 where
  nothing : Tells
  -- an event, to the NMT machine
  event : Tells
  -- that the ready word is taken back
  withdrawal : Tells

-- what a call does to what is stored: the dictionary values, the queue and the history
pub data Stores : Type 0 where
  none : Stores
  -- it loads what is named
  named : DictionaryUpdate → HistoryUpdate → Stores
  -- the oldest entry leaves the queue
  handed : Stores
  -- the entries of its crossings join queue and history
  crossings : Stores

-- a call's row: how it may be refused, what it is lent, and what it may do
pub record Row : Type 0 where
  -- the numbers that it may be refused with, in the order in which they are tried
  pub refusals : List ℕ
  -- the watched nodes that it is lent
  pub lends : Lends
  -- what it tells the node
  pub tells : Tells
  -- what it does to dictionary values, queue and history
  pub stores : Stores

-- the row of these parts
abbrev pub row : List ℕ → Lends → Tells → Stores → Row
row ns l w t = record { refusals = ns; lends = l; tells = w; stores = t }

-- the table: a row for each call of the plain head (RULES 3)
abbrev pub row_of : Call → Row
row_of (nmt_event n) = row (4 ∷ []) no_nodes event none
row_of (dll_event n x) = row (4 ∷ []) no_nodes nothing none
row_of (error k a b) = row (4 ∷ 1 ∷ []) no_nodes nothing none
row_of cycle_complete = row [] no_nodes nothing none
row_of withdraw = row (8 ∷ []) no_nodes withdrawal none
row_of (heard n t r) = row (3 ∷ 5 ∷ 7 ∷ []) (nodes r) nothing none
row_of hand_out = row [] no_nodes nothing handed
row_of (load v h) = row [] no_nodes nothing (named v h)
row_of (arm t) = row (5 ∷ []) no_nodes nothing none
row_of (tick t r) = row (3 ∷ 5 ∷ 6 ∷ []) (nodes r) event crossings
row_of (range a b) = row (5 ∷ 21 ∷ []) no_nodes nothing none
row_of (margin t) = row (5 ∷ []) no_nodes nothing none
row_of (add n o r) = row (1 ∷ 3 ∷ 10 ∷ 9 ∷ []) (nodes r) nothing none
row_of (remove n r) = row (3 ∷ 7 ∷ []) (nodes r) nothing none
row_of (next_due r) = row (3 ∷ []) (read r) nothing none
row_of (frame t b) = row (18 ∷ 19 ∷ 20 ∷ 4 ∷ 5 ∷ []) no_nodes event crossings

-- the run that is lent
abbrev pub lent_in : Lends → Run
lent_in no_nodes = no_run
lent_in (nodes r) = r
lent_in (read r) = r

-- the first where no run is lent, the second where one is
abbrev pub if_lent : {A : Type 0} → Lends → A → A → A
if_lent no_nodes x y = x
if_lent (nodes r) x y = y
if_lent (read r) x y = y

-- whether the earliest moment is worked out afresh
abbrev pub renews : Lends → Bool
renews no_nodes = false
renews (nodes r) = true
renews (read r) = false

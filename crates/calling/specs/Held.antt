-- What a call is made on.
-- Assumes nothing.
use Rattle.std.specs.Prelude.{ℕ, List}
use Rattle.head.specs.Words.{head_of}
use Rattle.watched.specs.Watched.{Run}
use Rattle.node.specs.Plain.{Plain}
use Rattle.node.specs.Refines as refines

-- the words of the head, the bytes of queue and history, and the run of watched nodes that is lent,
-- in whatever form
pub record Held : Type 0 where
  pub head : List ℕ
  pub queue : List ℕ
  pub history : List ℕ
  pub lent : Run

-- what a call is made on, by its parts
abbrev pub held : List ℕ → List ℕ → List ℕ → Run → Held
held ws q m r = record { head = ws; queue = q; history = m; lent = r }

-- the plain head that they stand for
abbrev pub plain_at : Held → Plain
plain_at x = refines.plain (head_of x.head) x.queue x.history

-- queue and history: where they stand, and their bytes
abbrev pub rings_of : Held → refines.Rings
rings_of x = refines.rings (head_of x.head) x.queue x.history

-- what is lent is another run: the head, its queue and its history stay
abbrev pub relent : Held → Run → Held
relent x r = held x.head x.queue x.history r

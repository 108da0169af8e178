-- A call that was compared: from its own contract and the two comparisons, what is said of it against the plain head.
-- Assumes nothing.
use Prim.Native.Nat.{ℕ}
use mathlib.Core.Path.{◌≡◌, sym, ap, ◌∙◌}
use mathlib.Core.Bool.{Bool, ◌&&◌}
use mathlib.Core.List.{List, []}
use Rattle.head.specs.Words.{head_of}
use Rattle.node.specs.Plain.{Plain, Call, Answer, cycle_answer}
use Rattle.node.specs.Steps.{no_run}
use Rattle.watched.specs.Watched.{Run}
use Rattle.node.specs.Run.{step}
use Rattle.node.specs.Refines.{plain, SamePlaces, rings, joins_all, left, Refines}
use Rattle.node.specs.InPlace.{InPlace}
use Rattle.examples.specs.Same.{Exactly}
use Rattle.examples.specs.Shown.{Came}
use Rattle.examples.proofs.Exact.{exact_by, exact_and}

module _ (ws ws' stated : List ℕ) (a b : Answer) {x y : Bool} (s : Exactly x (a ≡ b)) (e : Exactly y (head_of ws' ≡ head_of stated)) where
  tells : (a' : Answer) → a ≡ a' → Exactly (x && y) ((a' ≡ b) × (head_of ws' ≡ head_of stated))
  tells a' f = exact_and (exact_by s (λ g. sym f ∙ g) (λ g. f ∙ g)) e

  -- a call that crosses nothing in the SoC check, and leaves the run l
  came_by :
      (c : Call) (l : Run) →
      ((q m : List ℕ) → Refines (head_of ws) q m c (left (head_of ws') a) q m l) →
      SamePlaces (head_of ws) (head_of ws') →
      ((p : Plain) → (step p c).crossings ≡ []) →
      (q m : List ℕ) →
      Came ws q m c b stated ws' q m l (x && y)
  came_by c l r o u q m =
      record {
        head = (r q m).head;
        places =
            (λ i. record { queue = o.queue i; queue_bytes = q; history = o.history i; history_bytes = m })
            ∙ ap (joins_all (rings (head_of ws) q m)) (sym (u (plain (head_of ws) q m)));
        lent = (r q m).lent;
        tells = tells _ (r q m).answer;
      }

  -- on the words alone
  pub came : (c : Call) (known : List ℕ) → InPlace ws c a ws' known → ((p : Plain) → (step p c).crossings ≡ []) → (q m : List ℕ) → Came ws q m c b stated ws' q m no_run (x && y)
  came c known w u = came_by c no_run w.refines w.places u

pub exact_cleared : (a b : Bool) {r : Bool} → Exactly r (a ≡ b) → Exactly r (cycle_answer a ≡ cycle_answer b)
exact_cleared a b x = exact_by x (ap cycle_answer) (λ e. cc)

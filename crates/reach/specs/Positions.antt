-- Every position that a fresh head can reach (RULES 11.3): what the lines must say, by the steps of
-- the plain head.
-- Assumes nothing.
use Rattle.std.specs.Prelude.{ℕ, suc, ◌<◌, ◌≤◌, ◌≡◌, Bool, true, false, not, List, [], ◌∷◌, ◌⊎◌, eqb, ltb}
use Rattle.types.specs.Pick.{pick, both, either}
use Rattle.types.specs.States.{state_number, same_state}
use Rattle.types.specs.declared.nmt.states.NmtState.{NmtState}
use Rattle.nmt.specs.declared.cn_state_machine.Position.{Position}
use Rattle.head.specs.Words.{one}
use Rattle.node.specs.Plain.{Plain, nmt_event, withdraw, Start, taken}
use Rattle.node.specs.Steps.{fresh}
use Rattle.node.specs.Run.{step}
use Rattle.reach.specs.declared.Line.{Line}

-- a position by its state, enabled and ready
abbrev pub position_at : NmtState → Bool → Bool → Position
position_at s enabled ready = record { state = s; enabled = enabled; ready = ready }

-- a head's position: its NMT state, enabled and ready
abbrev pub position : Plain → Position
position p = position_at p.nmt.current_state p.nmt.ready_to_operate_enabled p.nmt.app_ready

-- So many steps lead from the head p to a head. A step is one whole NMT event, or a withdrawal that
-- is taken.
pub data Steps (p : Plain) : ℕ → Plain → Type 0 where
  -- no step: the head p itself
  none : Steps p 0 p
  -- behind n steps an NMT event, by its number, which is below 19
  event : {n : ℕ} {q : Plain} → Steps p n q → (k : ℕ) → k < 19 → Steps p (suc n) (step q (nmt_event k)).head
  -- behind n steps a withdrawal that is taken
  withdrawal : {n : ℕ} {q : Plain} → Steps p n q → (step q withdraw).answer ≡ taken → Steps p (suc n) (step q withdraw).head

-- a fresh head, whatever it was started with, reaches the position x in n steps
pub record Reached (s : Start) (n : ℕ) (x : Position) : Type 0 where
  pub head : Plain
  pub steps : Steps (fresh s) n head
  pub there : position head ≡ x

-- the position that a line names
abbrev pub named : Line → Position
named l = l.position

-- the number of steps that a line says
abbrev pub steps_to : Line → ℕ
steps_to l = l.steps

-- the line of a state, enabled, ready and a number of steps
abbrev pub line_of : NmtState × Bool × Bool × ℕ → Line
line_of r = record { position = position_at r.0 r.1 r.2; steps = r.3 }

-- x is one of some
abbrev pub Among : {A : Type 0} → A → List A → Type 0
Among x [] = ⊥
Among x (y ∷ ys) = (x ≡ y) ⊎ Among x ys

-- a position has a line among some
pub record HasLine (x : Position) (ls : List Line) : Type 0 where
  pub line : Line
  pub among : Among line ls
  pub names : named line ≡ x

-- two flags are the same
abbrev pub same_flag : Bool → Bool → Bool
same_flag a b = eqb (one a) (one b)

-- two positions are the same
abbrev pub same_position : Position → Position → Bool
same_position x y = both (same_state x.state y.state) (both (same_flag x.enabled y.enabled) (same_flag x.ready y.ready))

-- the position x has a line among some
abbrev pub is_named : Position → List Line → Bool
is_named x [] = false
is_named x (l ∷ ls) = either (same_position x (named l)) (is_named x ls)

-- no position has two lines among some
abbrev pub each_once : List Line → Bool
each_once [] = true
each_once (l ∷ ls) = both (not (is_named (named l) ls)) (each_once ls)

-- what the lines are ordered by: steps, then the state's number, then enabled, then ready
abbrev pub key : Line → List ℕ
key l = steps_to l ∷ state_number (named l).state ∷ one (named l).enabled ∷ one (named l).ready ∷ []

-- the first of two such keys is before the second, by the first number in which they differ
abbrev pub is_before : List ℕ → List ℕ → Bool
is_before [] ks = false
is_before (j ∷ js) [] = false
is_before (j ∷ js) (k ∷ ks) = pick (eqb j k) (is_before js ks) (ltb j k)

-- each of some lines is before the next
abbrev pub in_order : List Line → Bool
in_order [] = true
in_order (l ∷ []) = true
in_order (l ∷ m ∷ ls) = both (is_before (key l) (key m)) (in_order (m ∷ ls))

-- the lines, whatever a head was started with
pub record EveryPosition (ls : List Line) : Type 0 where
  -- no position that is reached is missing
  pub complete : (s : Start) (n : ℕ) (x : Position) → Reached s n x → HasLine x ls
  -- no other has a line: each is reached, in the number of steps that the line says
  pub reached : (s : Start) (l : Line) → Among l ls → Reached s (steps_to l) (named l)
  -- and in no fewer steps
  pub least : (s : Start) (l : Line) → Among l ls → (n : ℕ) → Reached s n (named l) → steps_to l ≤ n
  -- no position has two lines
  pub once : each_once ls ≡ true
  -- the lines are in the order of their keys
  pub ordered : in_order ls ≡ true

-- A list of actions, each on what the last one left, and what each answered; and a start with a
-- list from there.
-- Assumes nothing.
use Rattle.std.specs.Prelude.{ℕ, ◌≡◌, List, set}
use Rattle.std.specs.declared.result.Result.{Result}
use Rattle.std.specs.declared.result.Result.TheVariants.{Ok, Err}
use Rattle.types.specs.declared.refusals.Refusal.{Refusal}
use Rattle.watched.specs.Watched.{Run, run}
use Rattle.start.specs.declared.start.Setup.{Setup}
use Rattle.start.specs.Started.{StartedOn}
use Rattle.calling.specs.declared.Answer.TheVariants.{Taken}
use Rattle.calling.specs.declared.play.Action.{Action}
use Rattle.calling.specs.declared.play.Action.TheVariants.{Call, Lend}
use Rattle.calling.specs.Held.{Held, held, relent}
use Rattle.calling.specs.Values.{Reply}
use Rattle.calling.specs.Made.{Made}
use Rattle.calling.specs.Chain.{Chain, ChainInto}

-- One action: a call as it was made, or another run.
abbrev pub Acted : Held → Action → Reply → Held → Type 0
Acted x (Call c) o x' = Made x c o x'
Acted x (Lend i v k) o x' = (o ≡ Ok Taken) × (x' ≡ relent x (run (set x.lent.places i v) k))

-- The actions, what each answered, and what they left.
abbrev pub Played : Held → List Action → List Reply → Held → Type 0
Played = Chain Acted

-- A list that was played, and its answers in `out`.
abbrev pub PlayedInto : Held → List Action → List Reply → Held → List Reply → Type 0
PlayedInto = ChainInto Acted

-- A start that was taken, the head and the run that it left, and a list from there.
pub record StartedThen
    (s : Setup)
    (acts : List Action)
    (x : Held)
    (out : List Reply)
    (x' : Held)
    (out' : List Reply) : Type 0 where
  pub head : List ℕ
  pub lent : Run
  pub started : StartedOn x.head x.lent s (Ok tt) head lent
  pub played : PlayedInto (held head x.queue x.history lent) acts out x' out'

-- A start that was taken, with a list from there; or one that was refused: all is as it was.
abbrev pub StartedInto :
    Setup → List Action → Result (Unit {0}) Refusal → Held → List Reply → Held → List Reply → Type 0
StartedInto s acts (Ok _) x out x' out' = StartedThen s acts x out x' out'
StartedInto s acts (Err r) x out x' out' =
    StartedOn x.head x.lent s (Err r) x'.head x'.lent × (x' ≡ x) × (out' ≡ out)

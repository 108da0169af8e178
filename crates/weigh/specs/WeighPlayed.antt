-- A list of actions on a weigh head, each on what the last one left, and what each answered.
-- Assumes nothing.
use Rattle.std.specs.Prelude.{◌≡◌, List, set}
use Rattle.std.specs.declared.result.Result.TheVariants.{Ok}
use Rattle.watched.specs.Watched.{run}
use Rattle.calling.specs.declared.Answer.TheVariants.{Taken}
use Rattle.calling.specs.Chain.{Chain, ChainInto}
use Rattle.weigh.specs.declared.WeighAnswer.TheVariants.{Node}
use Rattle.weigh.specs.declared.play.WeighAction.{WeighAction}
use Rattle.weigh.specs.declared.play.WeighAction.TheVariants.{Call, Lend}
use Rattle.weigh.specs.WeighHeld.{Held, relent}
use Rattle.weigh.specs.WeighValues.{Reply}
use Rattle.weigh.specs.WeighMade.{Made}

-- One action: a call as it was made, or another run.
abbrev pub Acted : Held → WeighAction → Reply → Held → Type 0
Acted y (Call c) o y' = Made y c o y'
Acted y (Lend i v k) o y' =
    (o ≡ Ok (Node Taken)) × (y' ≡ relent y (run (set y.node.lent.places i v) k))

-- The actions, what each answered, and what they left.
abbrev pub Played : Held → List WeighAction → List Reply → Held → Type 0
Played = Chain Acted

-- A list that was played, and its answers in `out`.
abbrev pub PlayedInto : Held → List WeighAction → List Reply → Held → List Reply → Type 0
PlayedInto = ChainInto Acted

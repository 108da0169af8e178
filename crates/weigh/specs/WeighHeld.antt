-- What a call on a weigh head is made on.
-- Assumes nothing.
use Rattle.std.specs.Prelude.{ℕ, List}
use Rattle.watched.specs.Watched.{Run}
use Rattle.calling.specs.Held as node
use Rattle.recipes.specs.declared.Component.{Component}
use Rattle.weigh.specs.WeighParts.{Parts}
use Rattle.weigh.specs.PlainWeigh.{Weigh, weigh}

-- what its node's calls are made on, and its places
pub record Held : Type 0 where
  pub node : node.Held
  pub places : List Component

-- of its two parts
abbrev pub held_with : node.Held → List Component → Held
held_with x ps = record { node = x; places = ps }

-- a weigh head, with the bytes of queue and history, and the run of watched nodes that is lent
abbrev pub held : Parts → List ℕ → List ℕ → Run → Held
held v q m r = held_with (node.held v.node q m r) v.places

-- the plain weigh head that they stand for
abbrev pub plain_at : Held → Weigh
plain_at y = weigh (node.plain_at y.node) y.places

-- what is lent is another run: all else stays
abbrev pub relent : Held → Run → Held
relent y r = held_with (node.relent y.node r) y.places

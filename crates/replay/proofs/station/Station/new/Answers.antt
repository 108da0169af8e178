-- The weigh head is blank, and no byte lies on the desk.
use Rattle.std.proofs.Common.{ℕ, List, ap₂}
use Rattle.weigh.specs.WeighParts.{Parts}
use Rattle.replay.specs.Played.{fresh, with_desk}
use Rattle.replay.proofs.station.Station.new.Goals as goal

pub returns : goal.returns
returns c = ap₂ (λ (h : Parts) (bs : List ℕ). with_desk (record fresh { head = h }) bs) c.blank.ensures c.new.ensures

-- `watched::record::NodeRecord::put` meets its contract: three words are one place.
-- Assumes nothing.
use mathlib.Core.Path.{refl}
use native.Mathlib.Omega.{arith}
use Rattle.watched.proofs.Written.{place_written}
use Rattle.watched.proofs.record.NodeRecord.put.Goals as goal

pub returns : goal.returns
returns c =
    let r = c.args.self in
    (refl, place_written c.args.nodes.now (omega arith) c.args.place c.requires r.node r.timeout r.last_heard)

-- `lent::run::unhear` meets its contract: the loop is over the part that is watched.
-- Assumes nothing.
use Prim.Native.Nat.{min}
use Rattle.std.proofs.Common.{◌≡◌, length, arith}
use Rattle.watched.specs.Watched.{heard_now}
use Rattle.lent.proofs.Set.{set_part}
use Rattle.lent.proofs.run.unhear.Goals as goal

pub returns : goal.returns
returns c =
    let few : c.min-watched.result ≡ min c.args.number (length c.args.nodes.now) = omega arith in
    set_part (heard_now 0) c.args.nodes.now c.args.number c.loop-w.w-items few (omega arith) c.loop-w.invariant

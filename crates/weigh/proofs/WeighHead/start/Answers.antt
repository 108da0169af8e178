-- `weigh::WeighHead::start` meets its contract: what the node's start ensures.
-- Assumes nothing.
use Rattle.std.proofs.Common.{◌≡◌, refl, subst, ℕ, List, rules}
use Rattle.std.specs.declared.result.Result.TheVariants.{Err}
use Rattle.start.specs.Started.{StartedOn}
use Rattle.watched.specs.Watched.{run}
use Rattle.calling.proofs.Starting.{refused_lent}
use Rattle.weigh.specs.WeighMade.{blank}
use Rattle.weigh.proofs.WeighHead.start.Goals as goal

pub returns-clause-started : goal.returns-clause-started
returns-clause-started g c = (c.in_ok-start.ensures.on, refl)

pub returns-in_err-start-clause-started : goal.returns-in_err-start-clause-started
returns-in_err-start-clause-started g c =
    let s = c.in_err-start.ensures.on in
    let e : c.from_residual.result ≡ Err c.in_err-start.field-0.0 = search rules in
    let places = g.N.Nodes.places in
    let old = run (places c.args.nodes.now) c.args.number in
    let new = run (places c.start.new.self) c.args.number in
    rw e (
      subst (λ (ws : List ℕ). StartedOn blank.node old c.args.setup (Err c.in_err-start.field-0.0) ws new) s.words s,
      refused_lent s,
    )

-- `calling::play::play` meets its contract: the actions that were taken are the first ones.
-- Assumes nothing.
use Rattle.std.proofs.Common.{refl, ◌∙◌}
use Rattle.watched.specs.Watched.{run}
use Rattle.calling.specs.Held.{held}
use Rattle.calling.specs.Played.{Acted}
use Rattle.calling.proofs.Playing.{none_yet, one_more}
use Rattle.calling.proofs.play.play.Goals as goal

pub loop-i-init : goal.loop-i-init
loop-i-init g c =
    let a = c.args in
    let lent = run (g.N.Nodes.places a.nodes.now) a.number.now in
    (refl, none_yet Acted (held a.head.now a.queue.now a.history.now lent) a.actions.now a.out.now)

pub loop-i-preserved : goal.loop-i-preserved
loop-i-preserved g c =
    let v = c.loop-i.invariant in
    let e = c.act-answer.ensures in
    let acts = c.args.actions.now in (
      e.same_reference ∙ v.0,
      rw c.put.ensures (one_more Acted acts c.loop-i.i _ c.act-answer.result c.loop-i-test.true v.1 e.acted),
    )

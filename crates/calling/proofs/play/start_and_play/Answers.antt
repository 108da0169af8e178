-- `calling::play::start_and_play` meets its contract: the start that was taken and the list from
-- there, or a start that was refused.
-- Assumes nothing.
use Rattle.std.proofs.Common.{◌≡◌, refl, rules}
use Rattle.std.specs.declared.result.Result.TheVariants.{Err}
use Rattle.watched.specs.Watched.{run}
use Rattle.calling.proofs.Starting.{refused_held}
use Rattle.calling.proofs.play.start_and_play.Goals as goal

pub returns-clause-started : goal.returns-clause-started
returns-clause-started g c =
    record {
      head = c.start.new.head;
      lent = run (g.N.Nodes.places c.start.new.self) c.args.number.now;
      started = rw c.in_ok-start.was at c.start.ensures.on;
      played = c.play.ensures.played;
    }

pub returns-in_err-start-clause-started : goal.returns-in_err-start-clause-started
returns-in_err-start-clause-started g c =
    let a = c.args in
    let e : c.from_residual.result ≡ Err c.in_err-start.field-0.0 = search rules in
    let s = rw c.in_err-start.was at c.start.ensures.on in
    rw e (s, refused_held a.queue.now a.history.now s, refl)

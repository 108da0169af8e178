-- `calling::make` meets its contract: what the single calls ensure, call by call.
-- Assumes nothing.
use Rattle.std.proofs.Common.{rules}
use Rattle.calling.proofs.Waiting.{due_made}
use Rattle.calling.proofs.make.Goals as goal

pub returns-in-NextDue-clause-made : goal.returns-in-NextDue-clause-made
returns-in-NextDue-clause-made g c =
    due_made c.args.head.now c.args.queue.now c.args.history.now _ c.args.call c.next_due.result c.map-in-NextDue.result
    c.in-NextDue.is c.next_due.ensures (search rules)

-- `reception::give_event` meets its contract: the event is processed, a reset too.
-- Assumes nothing.
use mathlib.Core.Path.{sym, subst, ◌∙◌}
use Rattle.std.specs.declared.option.Option.{Option}
use Rattle.std.specs.declared.option.Option.TheVariants.{Some}
use Rattle.types.specs.declared.nmt.events.NmtEvent.{NmtEvent}
use Rattle.reception.specs.FrameIn.{GivenIn}
use Rattle.reception.proofs.Receiving.{gives}
use Rattle.reception.proofs.give_event.Goals as goal

pub returns : goal.returns
returns c =
    subst (λ (e : Option NmtEvent). GivenIn c.args.head.now e (Some c.process_event.result) c.process_event.new.head)
    (sym c.in_ok-event.was ∙ c.nmt_event.ensures)
    (gives c.args.head.now c.told-head _ c.in_ok-event.event c.process_event.result c.process_event.ensures)

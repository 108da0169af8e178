-- `types::nmt::events::NmtEvent::all_in_order` meets its contract: every event is found at its place, and the places are counted from 0.
-- Assumes nothing.
use Rattle.std.proofs.Common.{refl}
use Rattle.std.specs.Prelude.{Some, slice_get}
use Rattle.types.specs.Events.{event_number}
use Rattle.types.specs.declared.nmt.events.TheConstants as constant
use Rattle.types.proofs.Cases.{everywhere, NmtEvents}
use Rattle.types.proofs.Listing.{in_order}
use Rattle.types.proofs.nmt.events.NmtEvent.all_in_order.Goals as goal

pub returns : goal.returns
returns c = in_order event_number constant.NmtEvent.ALL (everywhere NmtEvents (λ x. slice_get constant.NmtEvent.ALL (event_number x)) Some refl refl) refl

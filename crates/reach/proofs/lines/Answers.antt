-- The lines pass the tests: the steps from each line, the step to each, the steps of each position, each position once, and the order.
-- Assumes nothing.
use Rattle.std.proofs.Common.{rules, map, true, false}
use Rattle.types.specs.declared.nmt.states.NmtState.TheVariants.{NmtGsInitialising}
use mathlib.Core.Path.{◌≡◌, refl}
use Rattle.reach.specs.declared.TheConstants.{LINES}
use Rattle.reach.specs.Positions.{line_of}
use Rattle.nmt.specs.Resets.{is_reset, states_entered}
use Rattle.nmt.specs.Nmt.{enter, row_of, applied, reset_by, processed}
use Rattle.nmt.specs.Table.{ruled}
use Rattle.reach.proofs.Mapped.{mapped}
use Rattle.reach.proofs.Reaching.{every_position}
use Rattle.reach.proofs.lines.Goals as goal

pub returns : goal.returns
unfolding ruled processed reset_by applied enter row_of is_reset states_entered
returns c =
    let e : c.map.result ≡ map line_of LINES = mapped _ line_of (λ p x y q k. search rules) _ _ _ _ (NmtGsInitialising, false, true, 0) refl c.map.ensures.items in
    rw e (every_position _ refl refl refl refl refl refl, refl)

-- When the next tick is due (RULES 7.13), of any words of a head and any run: the refusal
-- WatchedNodes, or the moment in µs, or none.
-- Assumes nothing.
use Rattle.std.specs.Prelude.{ℕ, List}
use Rattle.std.specs.declared.option.Option.{Option}
use Rattle.std.specs.declared.result.Result.{Result}
use Rattle.std.specs.declared.result.Result.TheVariants.{Ok, Err}
use Rattle.types.specs.Pick.{pick}
use Rattle.types.specs.declared.refusals.Refusal.{Refusal}
use Rattle.types.specs.declared.refusals.Refusal.TheVariants.{WatchedNodes}
use Rattle.watched.specs.Watched.{Run, watching, well_lent}
use Rattle.node.specs.Due.{due}
use Rattle.tick.specs.TickWords.{unlent}

-- the moment of the next tick in µs, 0 for at once, or none; WatchedNodes where the run is not well
-- formed
abbrev pub next_due : List ℕ → Run → Result (Option ℕ) Refusal
next_due ws r = pick (well_lent r) (Ok (due (unlent ws) (watching r))) (Err WatchedNodes)

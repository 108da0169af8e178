-- The slice up to 100 or the end is the first 100.
use Rattle.std.proofs.Common.{rules, arith}
use Rattle.std.proofs.lemmas.List.{take_min}
use Rattle.replay.proofs.station.Station.set_desk.Goals as goal

pub returns : goal.returns
returns c = rw (← take_min 100 c.args.bytes.now) (search (rules, arith))

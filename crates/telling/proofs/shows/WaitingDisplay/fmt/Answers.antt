-- One entry more is written behind those before.
use Rattle.std.proofs.Common.{rules}
use Rattle.std.proofs.lemmas.Grind.{put_two}
use Rattle.telling.proofs.EntriesShown.{entry_more}
use Rattle.telling.proofs.shows.WaitingDisplay.fmt.Goals as goal

pub loop-place-preserved : goal.loop-place-preserved
loop-place-preserved g c = λ p.
    let h = c.loop-place.invariant p in
    put_two _ _ _ _ _ _ _ h (c.in_ok-write.ensures.writes h.plain (search rules)) (entry_more _ _ _ (search rules))

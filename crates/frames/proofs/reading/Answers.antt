-- `frames::reading`: the law of the reading holds.
-- Assumes nothing.
use Rattle.frames.proofs.ReadingLaws.{frames_lem, refusals_lem, behind_lem}
use Rattle.frames.proofs.reading.Goals as goal

pub returns-clause-frames : goal.returns-clause-frames
returns-clause-frames c = frames_lem

pub returns-clause-refusals : goal.returns-clause-refusals
returns-clause-refusals c = refusals_lem

pub returns-clause-behind : goal.returns-clause-behind
returns-clause-behind c = behind_lem

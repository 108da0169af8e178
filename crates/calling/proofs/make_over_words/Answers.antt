-- 96 words are those of the 32 places that they stand for.
-- Assumes nothing.
use Rattle.std.proofs.Common.{ap, ◌∙◌}
use Rattle.watched.specs.Watched.{Run}
use Rattle.partners.specs.Partners.{words_of}
use Rattle.partners.proofs.Fixed.{words_of_lem}
use Rattle.calling.proofs.make_over_words.Goals as goal

pub returns-clause-words : goal.returns-clause-words
returns-clause-words c =
    words_of_lem c.make.new.nodes c.make.array_long4
    ∙ ap (λ (r : Run). words_of r.places) c.make.ensures.made.lent

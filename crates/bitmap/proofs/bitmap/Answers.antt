-- `bitmap::bitmap` meets its contract: WatchedNodes first, then the bytes, then the count of their bits.
-- Assumes nothing.
use mathlib.Core.Path.{sym, ◌∙◌}
use Rattle.watched.specs.Watched.{run}
use Rattle.watched.specs.Nodes.{nodes_of}
use Rattle.watched.proofs.Watching.{lent_words}
use Rattle.bitmap.proofs.Bitmaps.{turned_away_lem, written}
use Rattle.bitmap.proofs.bitmap.Goals as goal

pub returns-then-not-well_formed : goal.returns-then-not-well_formed
returns-then-not-well_formed c =
    let a = c.args in
    turned_away_lem (run (nodes_of a.nodes.now) a.count) a.bytes.now (lent_words a.nodes.now a.count ∙ sym c.well_formed-2.ensures ∙ c.if-not-well_formed.true)

pub returns : goal.returns
returns c =
    let a = c.args in
    written (run (nodes_of a.nodes.now) a.count) a.bytes.now _ c.count_bits.result
    (lent_words a.nodes.now a.count ∙ sym c.well_formed-2.ensures ∙ c.if-not-well_formed.false) c.set_bits.ensures c.count_bits.ensures

-- `watched::nodes::Ahead::hear_first` meets its contract: the first node, then those behind it.
-- Assumes nothing.
use mathlib.Core.Path.{◌∙◌}
use Rattle.watched.specs.Nodes.{node_of}
use Rattle.watched.specs.Scan.{scanned_of, nodes_from}
use Rattle.watched.proofs.Walk.{first_stops, first_next}
use Rattle.watched.proofs.nodes.Ahead.hear_first.Goals as goal

pub returns-then-not-comes_after : goal.returns-then-not-comes_after
returns-then-not-comes_after c =
    let s = c.args.self in
    first_stops s.nodes.now s.count s.few s.place s.last c.args.«before» c.args.time c.if-self.false (node_of c.at-node.result) c.at-node.ensures
    c.comes_after.result c.comes_after.ensures c.if-not-comes_after.true

pub returns : goal.returns
returns c =
    let s = c.args.self in
    let b = c.behind-rest.ensures in
    c.scan_from.ensures
    ∙ (λ i. scanned_of (b.3 i) c.sooner.result (nodes_from (b.2 i) (b.1 i) (b.0 i)))
    ∙ first_next s.nodes.now s.count s.few s.place s.last c.args.«before» c.args.time c.if-self.false (node_of c.at-node.result) c.at-node.ensures
    c.comes_after.result c.comes_after.ensures c.if-not-comes_after.false c.sooner.result c.sooner.ensures

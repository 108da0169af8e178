-- The items that were passed have other names.
use Rattle.std.proofs.Common.{◌≡◌, drop}
use Rattle.script.specs.Numerals.{number_named}
use Rattle.script.proofs.numerals.number_named.Given as goal

abbrev pub invariant-loop-item : goal.invariant-loop-item
invariant-loop-item g l =
    number_named g.T.Named.name_of g.T.Named.number_of (drop l.item-index l.item-items) l.name
    ≡ number_named g.T.Named.name_of g.T.Named.number_of g.T.Named.items l.name

-- `start::start::unheard` meets its contract. The invariant: the first i nodes are set, as words
-- and as nodes.
-- Assumes nothing.
use native.Mathlib.Omega.{arith}
use Prim.Native.Nat.{◌<◌}
use mathlib.Core.Path.{◌≡◌, refl, sym, ap, ◌∙◌}
use lib.ListN.{length, length-set}
use Rattle.watched.specs.Nodes.{nodes_of}
use Rattle.start.proofs.Begun.{unheard_begins, unheard_words_lem, unheard_nodes}
use Rattle.start.proofs.start.unheard.Goals as goal

pub loop-i-init : goal.loop-i-init
loop-i-init c =
    (unheard_begins c.args.nodes.now, refl, c.requires)

pub loop-i-preserved : goal.loop-i-preserved
loop-i-preserved c =
    let l = c.loop-i in
    let long : length l.nodes ≡ 96 = sym (length-set l.nodes _ _) ∙ sym (ap length c.set_heard.ensures) ∙ c.set_heard.array_long in
    let h : l.i < 32 = omega (arith, c.loop-i-test.true, l.invariant.2) in (
      c.set_heard.ensures ∙ unheard_words_lem c.args.nodes.now l.nodes l.i h long l.invariant.0,
      ap nodes_of c.set_heard.ensures ∙ unheard_nodes c.args.nodes.now l.nodes l.i h long l.invariant.1,
      l.invariant.2,
    )

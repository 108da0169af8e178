-- `node::calls::handled` meets its contract: by the effect of the error.
-- Assumes nothing.
use Prim.Native.Nat.{ℕ}
use mathlib.Core.Path.{refl, sym, ap, ◌∙◌}
use lib.ListN.{set}
use Rattle.counters.specs.Counters.{add_top, counts, loses_link, is_logged, nothing, effect_of}
use Rattle.head.specs.Places as at
use Rattle.node.proofs.Refining.{count_answers, handled_by}
use Rattle.node.proofs.calls.handled.Goals as goal

pub returns-in-Counts : goal.returns-in-Counts
returns-in-Counts c =
    let a = c.args in
    handled_by a.head.now a.error (counts c.in-Counts.kind) _ _ (sym c.effect_of.ensures ∙ ap effect_of c.in-Counts.is)
    (c.counted.ensures ∙ count_answers a.head.now c.in-Counts.kind a.error c.count.result c.count.ensures.0)
    c.count.ensures.1

pub returns-in-LosesLink : goal.returns-in-LosesLink
returns-in-LosesLink c =
    let a = c.args in
    handled_by a.head.now a.error loses_link _ _ (sym c.effect_of.ensures ∙ ap effect_of c.in-LosesLink.is) c.signalled.ensures
    (c.set_links.ensures ∙ ap (set a.head.now at.links) (c.saturating_add.ensures ∙ ap (λ (n : ℕ). add_top n 1) c.links_of.ensures))

pub returns-in-IsLogged : goal.returns-in-IsLogged
returns-in-IsLogged c =
    let a = c.args in
    handled_by a.head.now a.error is_logged _ _ (sym c.effect_of.ensures ∙ ap effect_of c.in-IsLogged.is) c.signalled-in-IsLogged.ensures refl

pub returns-in-Nothing : goal.returns-in-Nothing
returns-in-Nothing c =
    let a = c.args in
    handled_by a.head.now a.error nothing _ _ (sym c.effect_of.ensures ∙ ap effect_of c.in-Nothing.is) c.unsignalled.ensures refl

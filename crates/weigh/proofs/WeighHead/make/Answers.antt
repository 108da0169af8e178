-- `weigh::WeighHead::make` meets its contract: what its calls on the node ensure, call by call.
-- Assumes nothing.
use Rattle.std.proofs.Common.{◌≡◌, refl, ap, sym, ◌∙◌, Bool, rules}
use Rattle.std.specs.declared.result.Result.TheVariants.{Ok, Err}
use Rattle.types.specs.Pick.{pick}
use Rattle.recipes.specs.Recipe.{no_places}
use Rattle.watched.specs.Watched.{run}
use Rattle.weigh.specs.declared.WeighCall.{WeighCall}
use Rattle.weigh.specs.WeighValues.{call_of}
use Rattle.weigh.proofs.Making.{node_done, load_refused, load_done, ready_taken, weight_done}
use Rattle.weigh.proofs.WeighHead.make.Goals as goal

pub returns-in_err-answer-in-Node-clause-made : goal.returns-in_err-answer-in-Node-clause-made
returns-in_err-answer-in-Node-clause-made g c =
    let e : c.from_residual.result ≡ Err c.in_err-answer-in-Node.field-0.0 = search rules in
    rw e (node_done c.self.view_is c.in-Node.call (Err c.in_err-answer-in-Node.field-0.0) c.in-Node.is refl refl c.in_err-answer-in-Node.ensures.made)

pub returns-then-tells_reset-clause-made : goal.returns-then-tells_reset-clause-made
returns-then-tells_reset-clause-made g c =
    node_done c.self.view_is c.in-Node.call (Ok c.in_ok-answer-in-Node.answer) c.in-Node.is refl
    (ap (λ (b : Bool). pick b no_places c.self.inside.places) (sym (sym c.tells_reset.ensures ∙ c.if-tells_reset.true)))
    c.in_ok-answer-in-Node.ensures.made

pub returns-else-tells_reset-clause-made : goal.returns-else-tells_reset-clause-made
returns-else-tells_reset-clause-made g c =
    node_done c.self.view_is c.in-Node.call (Ok c.in_ok-answer-in-Node.answer) c.in-Node.is refl
    (ap (λ (b : Bool). pick b no_places c.self.inside.places) (sym (sym c.tells_reset.ensures ∙ c.if-tells_reset.false)))
    c.in_ok-answer-in-Node.ensures.made

pub returns-in-Weight-clause-made : goal.returns-in-Weight-clause-made
returns-in-Weight-clause-made g c = weight_done c.in-Weight.place c.in-Weight.is c.answer_weight.ensures

pub returns-in_err-recipe-in-LoadRecipe-clause-made : goal.returns-in_err-recipe-in-LoadRecipe-clause-made
returns-in_err-recipe-in-LoadRecipe-clause-made g c =
    let lent = run (g.N.Nodes.places c.args.nodes.now) c.args.number.now in
    let e : c.from_residual-in_err-recipe-in-LoadRecipe.result ≡ Err c.in_err-recipe-in-LoadRecipe.field-0.0 = search rules in
    rw e (load_refused c.in-LoadRecipe.components.now (ap (λ (d : WeighCall). call_of d lent) c.in-LoadRecipe.is) _ c.in_err-recipe-in-LoadRecipe.ensures)

pub returns-in_err-make-in-LoadRecipe-clause-made : goal.returns-in_err-make-in-LoadRecipe-clause-made
returns-in_err-make-in-LoadRecipe-clause-made g c = absurd (ready_taken c.in_err-make-in-LoadRecipe.ensures.made)

pub returns-in_ok-make-in-LoadRecipe-clause-made : goal.returns-in_ok-make-in-LoadRecipe-clause-made
returns-in_ok-make-in-LoadRecipe-clause-made g c =
    let lent = run (g.N.Nodes.places c.args.nodes.now) c.args.number.now in
    load_done c.in-LoadRecipe.components.now (ap (λ (d : WeighCall). call_of d lent) c.in-LoadRecipe.is)
    c.in_ok-recipe-in-LoadRecipe.recipe c.self.view_is c.in_ok-recipe-in-LoadRecipe.ensures
    c.places-self-inside.ensures.filled c.in_ok-make-in-LoadRecipe.ensures.made

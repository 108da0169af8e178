-- A component more, none where the line goes on, more components than there is room for, and the end of the line.
use Rattle.std.proofs.Common.{◌≡◌, ◌∙◌, ◌-◌, ◌++◌, List, [], ◌∷◌, length, Some, None, sym, subst, rules, arith}
use Rattle.recipes.specs.declared.Component.{Component}
use Rattle.script.specs.Components.{components_from}
use Rattle.script.proofs.Collecting.{goes, fails, full, done, at_end}
use Rattle.script.proofs.words.Words.components.Goals as goal

pub returns-in_err-component : goal.returns-in_err-component
returns-in_err-component c =
    let none : None ≡ components_from 20 [] c.args.self.now.rest.now =
    fails (20 - length c.loop-memory.memory.items) c.loop-memory.memory.items c.loop-memory.self.rest.now (search rules) (search rules)
    ∙ c.loop-memory.invariant
    in
    search (rules, none)

pub loop-memory-preserved : goal.loop-memory-preserved
loop-memory-preserved c =
    let more : c.try_push.new.self.items ≡ c.loop-memory.memory.items ++ c.in_ok-component.field-0 ∷ [] = search rules in
    subst (λ (cs : List Component). components_from (20 - length cs) cs c.component.new.self.rest.now ≡ components_from 20 [] c.args.self.now.rest.now)
    (sym more)
    (goes c.loop-memory.memory.items c.loop-memory.self.rest.now c.component.new.self.rest.now c.in_ok-component.field-0
    (search (rules, arith)) (search rules) (search rules)
    ∙ c.loop-memory.invariant)

pub returns-in_err-ok : goal.returns-in_err-ok
returns-in_err-ok c =
    let none : None ≡ components_from 20 [] c.args.self.now.rest.now =
    full c.loop-memory.memory.items c.loop-memory.self.rest.now (search (rules, arith)) (search rules) ∙ c.loop-memory.invariant
    in
    search (rules, none)

pub returns : goal.returns
returns c =
    let all : Some c.loop-memory.memory.items ≡ components_from 20 [] c.args.self.now.rest.now =
    done (20 - length c.loop-memory.memory.items) c.loop-memory.memory.items c.loop-memory.self.rest.now (search rules) ∙ c.loop-memory.invariant
    in
    let rest : c.loop-memory.self.rest.now ≡ [] = at_end c.loop-memory.self.rest.now (search rules) in
    search (rules, all, rest)

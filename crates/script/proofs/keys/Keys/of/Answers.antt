-- A word more, no word where the line goes on, more words than keys, and the end of the line.
use Rattle.std.proofs.Common.{◌≡◌, ◌++◌, ℕ, List, [], ◌∷◌, Bor, None, subst, sym, rules, arith}
use Rattle.script.specs.Keys.{words_within}
use Rattle.script.proofs.Taking.{Split, goes_split, all_split, no_word_split, full_split}
use Rattle.script.proofs.keys.Keys.of.Goals as goal

pub returns-in_err-word : goal.returns-in_err-word
returns-in_err-word c =
    let fails : None ≡ words_within 18 c.args.words.now.rest.now =
    no_word_split c.loop-ahead.keys.words.items c.loop-ahead.ahead.rest.now c.args.words.now.rest.now (search rules) (search rules) c.loop-ahead.invariant in
    search (rules, fails)

pub loop-ahead-preserved : goal.loop-ahead-preserved
loop-ahead-preserved c =
    let more : c.try_push.new.self.items ≡ c.loop-ahead.keys.words.items ++ c.in_ok-word.field-0 ∷ [] = search rules in
    subst (λ (ws : List (Bor (List ℕ))). Split ws c.word.new.self.rest.now c.args.words.now.rest.now) (sym more)
    (goes_split c.loop-ahead.keys.words.items c.loop-ahead.ahead.rest.now c.word.new.self.rest.now c.args.words.now.rest.now c.in_ok-word.field-0
    (search (rules, arith)) (search rules) (search rules) c.loop-ahead.invariant)

pub returns-in_err-ok : goal.returns-in_err-ok
returns-in_err-ok c =
    let fails : None ≡ words_within 18 c.args.words.now.rest.now =
    full_split c.loop-ahead.keys.words.items c.loop-ahead.ahead.rest.now c.args.words.now.rest.now (search (rules, arith)) (search rules) c.loop-ahead.invariant in
    search (rules, fails)

pub returns : goal.returns
returns c =
    all_split c.loop-ahead.keys.words.items c.loop-ahead.ahead.rest.now c.args.words.now.rest.now (search rules) c.loop-ahead.invariant

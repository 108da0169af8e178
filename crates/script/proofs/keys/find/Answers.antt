-- A word that has the key, one that has not, and the end of the words.
use Rattle.std.proofs.Common.{ℕ, List, subst, sym}
use Rattle.script.specs.Keys.{Finds}
use Rattle.script.proofs.Taking.{passes, finds, lacks}
use Rattle.script.proofs.keys.find.Goals as goal

pub returns-in-Some : goal.returns-in-Some
returns-in-Some c =
    subst (λ (v : List ℕ). Finds c.args.key.now c.args.words.now c.loop-place.place v) (sym c.in-Some.ensures.cases.1)
    (finds c.args.key.now c.args.words.now c.loop-place.place _ c.loop-place-test.true c.in-Some.ensures.cases.0 c.loop-place.invariant)

pub loop-place-preserved : goal.loop-place-preserved
loop-place-preserved c =
    passes c.args.key.now c.args.words.now c.loop-place.place _ c.loop-place-test.true c.in_default.ensures.cases c.loop-place.invariant

pub returns : goal.returns
returns c = lacks c.args.key.now c.args.words.now c.loop-place.place c.loop-place-test.false c.loop-place.invariant

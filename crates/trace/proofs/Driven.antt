-- THE CLAIM HOLDS of any list of calls behind a start, from the contracts of the two alone.
-- Assumes nothing.
use Prim.Native.Nat.{ℕ}
use mathlib.Core.Path.{◌≡◌, refl, sym, ap, ap₂, ◌∙◌}
use mathlib.Core.List.{List, ◌∷◌, ◌++◌}
use Rattle.std.specs.declared.result.Result.TheVariants.{Ok}
use Rattle.head.specs.Words.{head_of}
use Rattle.watched.specs.Watched.{Run}
use Rattle.node.specs.Plain as plain
use Rattle.node.specs.Run.{step_all, Said, said_all}
use Rattle.start.specs.declared.start.Setup.{Setup}
use Rattle.start.specs.Started.{start_of, StartedOn}
use Rattle.calling.specs.declared.play.Action.{Action}
use Rattle.calling.specs.declared.play.Action.TheVariants as action
use Rattle.calling.specs.Held.{Held, held, plain_at, relent}
use Rattle.calling.specs.Values.{Reply, call_of}
use Rattle.calling.specs.Chain as played
use Rattle.calling.specs.Played.{Played, StartedThen}
use Rattle.trace.specs.Claim.{Claim}
use Rattle.trace.specs.Driven.{Driven, stop, call, lend, calls_of, says, said_by}
use Rattle.trace.proofs.Follows.{followed}

-- what the plain head does at these calls
pub runs : {x x' : Held} (d : Driven x x') → plain_at x' ≡ step_all (plain_at x) (calls_of d)
unfolding step_all
runs stop = refl
runs (call t d) = runs d ∙ ap (λ (p : plain.Plain). step_all p (calls_of d)) t.refines.head
runs (lend e d) = runs d ∙ ap (λ (z : Held). step_all (plain_at z) (calls_of d)) e

pub says_all : {x x' : Held} (d : Driven x x') → said_by d ≡ said_all (plain_at x) (calls_of d)
unfolding said_all
says_all stop = refl
says_all (call t d) =
    ap₂ (λ (s : Said) (l : List Said). s ∷ l) (ap₂ says t.refines.answer t.refines.lent)
    (says_all d ∙ ap (λ (p : plain.Plain). said_all p (calls_of d)) t.refines.head)
says_all (lend e d) = says_all d ∙ ap (λ (z : Held). said_all (plain_at z) (calls_of d)) e

-- one list behind another
pub joined : {x x₁ x' : Held} → Driven x x₁ → Driven x₁ x' → Driven x x'
joined stop f = f
joined (call t d) f = call t (joined d f)
joined (lend e d) f = lend e (joined d f)

pub calls_joined :
    {x x₁ x' : Held} (d : Driven x x₁) (f : Driven x₁ x') → calls_of (joined d f) ≡ calls_of d ++ calls_of f
unfolding joined
calls_joined stop f = refl
calls_joined (call {x} {c = c} t d) f =
    ap (λ (l : List plain.Call). call_of c x.lent ∷ l) (calls_joined d f)
calls_joined (lend e d) f = calls_joined d f

-- what `play` plays is such a list
pub driven_of : {x x' : Held} {acts : List Action} {os : List Reply} → Played x acts os x' → Driven x x'
driven_of played.stop = stop
driven_of (played.next {a = action.Call c} t p) = call t (driven_of p)
driven_of {x = x} (played.next {x₁ = x₁} {a = action.Lend i v k} t p) =
    lend (t.1 ∙ ap (λ (z : Held). relent x z.lent) (sym t.1)) (driven_of p)

-- from what start left: of the calls that were made, what they said, and the head with its memory
-- after them
pub claim_holds :
    {s : Setup} {x' : Held} {l r : Run} {ws₀ ws q m : List ℕ} →
    StartedOn ws₀ l s (Ok tt) ws r →
    (d : Driven (held ws q m r) x') →
    Claim (start_of s l) (calls_of d) (said_by d) (head_of x'.head) x'.queue x'.history
claim_holds {s} {l = l} {r = r} {ws = ws} {q = q} {m = m} b d =
    followed (start_of s l) (plain_at (held ws q m r)) (b.begins.begun q m) (runs d) (says_all d)

-- and so of all that `start_and_play` plays
pub claim_holds_played :
    {s : Setup} {x x' : Held} {acts : List Action} {out out' : List Reply} (r : StartedThen s acts x out x' out') →
    let d = driven_of r.played.played in
    Claim (start_of s x.lent) (calls_of d) (said_by d) (head_of x'.head) x'.queue x'.history
claim_holds_played r = claim_holds r.started (driven_of r.played.played)

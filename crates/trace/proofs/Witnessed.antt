-- What `start_and_play` ensures, as its contract in src/ is read by the prover (`Learnt`), and no
-- more: the claim of the calls that it made behind a start that was taken; a start that was refused
-- leaves all as it was.
-- Assumes nothing.
use mathlib.Core.Path.{◌≡◌}
use mathlib.Core.List.{List}
use Rattle.std.specs.declared.result.Result.{Result}
use Rattle.std.specs.declared.result.Result.TheVariants.{Ok, Err}
use Rattle.types.specs.declared.refusals.Refusal.{Refusal}
use Rattle.head.specs.Words.{head_of}
use Rattle.start.specs.declared.start.Setup.{Setup}
use Rattle.start.specs.Started.{start_of}
use Rattle.watched.specs.Watched.{run}
use Rattle.calling.specs.declared.play.Action.{Action}
use Rattle.calling.specs.Held.{Held, held}
use Rattle.calling.specs.Values.{Reply}
use Rattle.calling.specs.Played.{StartedInto}
use Rattle.trace.specs.Claim.{Claim}
use Rattle.trace.specs.Driven.{calls_of, said_by}
use Rattle.trace.proofs.Driven.{driven_of, claim_holds_played}
use Rattle.calling.proofs.play.start_and_play.Reads as reads

module _ (s : Setup) (acts : List Action) (x x' : Held) (out out' : List Reply) where
  -- what holds of a start that answered o, and of what was played behind it
  pub Witnessed : (o : Result (Unit {0}) Refusal) → StartedInto s acts o x out x' out' → Type 0
  Witnessed (Ok u) r =
      let d = driven_of r.played.played in
      Claim (start_of s x.lent) (calls_of d) (said_by d) (head_of x'.head) x'.queue x'.history
  Witnessed (Err n) r = (x' ≡ x) × (out' ≡ out)

  pub witnessed : (o : Result (Unit {0}) Refusal) (r : StartedInto s acts o x out x' out') → Witnessed o r
  unfolding Witnessed
  witnessed (Ok u) r = claim_holds_played r
  witnessed (Err n) r = (r.1, r.2)

-- t, b, n, d: the form of the nodes, with what its traits say; κs: the lifetimes; a: the arguments;
-- o: what is returned; x: what is lent, as it is left
pub play_witnesses :
    (t : _) (b : _) (n : _) (d : _) (κs : _) (a : _) (o : Result (Unit {0}) Refusal) (x : _) →
    (e : reads.Learnt t b n d κs a o x) →
    Witnessed _ _ _ _ _ _ o e.0
play_witnesses t b n d κs a o x e = witnessed _ _ _ _ _ _ o e.0

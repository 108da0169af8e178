-- What each call for the moment of the next tick ensures, as its contract in src/ has it, held to that by `refl`. Neither asks anything of its caller.
-- Assumes nothing.
use mathlib.Core.Path.{◌≡◌, refl}
use Prim.Native.Nat.{ℕ}
use seplogic.Ra.Ura.{Ura}
use base.Logic.{SProp, emp}
use prog.Memory.{Memory}
use prog.Routine.{Routine}
use types.Logic.{Logic}
use contract.Lifetimes.{Lfts}
use contract.Monad.{Fun, fact}
use denote.Triple.Entry.{Args}
use denote.Triple.Clauses.{AtExit}
use Rattle.std.specs.declared.option.Option.{Option}
use Rattle.std.specs.declared.result.Result.{Result}
use Rattle.types.specs.declared.refusals.Refusal.{Refusal}
use Rattle.watched.specs.Watched.{run as run_of}
use Rattle.watched.specs.Nodes.{nodes_of}
use Rattle.due.specs.Moment.{next_due}
use Rattle.due.specs.contracts.words.next_due as words
use Rattle.due.specs.contracts.run.next_due as records

-- κs: the lifetimes; a: the arguments; o: what is returned; x: what is lent, as it is left
module _ {M : Type 1} {𝓤 : Ura M} (𝓛 : Logic 𝓤) (mem : Memory → SProp 𝓤) (run : Routine → Fun 𝓤) where
  pub words_ensures :
      (κs : Lfts 2) (a : Args words.signature κs) (o : Result (Option ℕ) Refusal) (x : AtExit words.ended κs) →
      (words.clauses 𝓛 mem run κs a).ensures tt o x ≡ fact 𝓤 (o ≡ next_due a.0.now (run_of (nodes_of a.1.0.now) a.1.1.0))
  words_ensures κs a o x = refl

  pub records_ensures :
      (κs : Lfts 2) (a : Args records.signature κs) (o : Result (Option ℕ) Refusal) (x : AtExit records.ended κs) →
      (records.clauses 𝓛 mem run κs a).ensures tt o x ≡ fact 𝓤 (o ≡ next_due a.0.now (run_of a.1.0.now a.1.1.0))
  records_ensures κs a o x = refl

  pub words_asks_nothing : (κs : Lfts 2) (a : Args words.signature κs) → (words.clauses 𝓛 mem run κs a).requires tt ≡ emp 𝓤
  words_asks_nothing κs a = refl

  pub records_asks_nothing : (κs : Lfts 2) (a : Args records.signature κs) → (records.clauses 𝓛 mem run κs a).requires tt ≡ emp 𝓤
  records_asks_nothing κs a = refl

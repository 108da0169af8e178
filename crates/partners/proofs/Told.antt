-- Add and remove on nodes in words, over plain variables: what was found and what the walks left
-- gives what the call must answer and leave.
-- Assumes nothing.
use Prim.Native.Nat.{ℕ, ◌+◌, ◌-◌, ◌<◌, ◌≤◌}
use mathlib.Core.Path.{◌≡◌, refl, sym, ap, ◌∙◌}
use mathlib.Core.Bool.{Bool, true, false}
use mathlib.Core.List.{List, ◌++◌}
use lib.Dec.{ltb}
use lib.ListN.{length, take, drop, replicate}
use borrow.Author.Tests.{ltb-true}
use Rattle.types.specs.Types.{is_node, read_node}
use Rattle.std.specs.declared.result.Result.{Result}
use Rattle.std.specs.declared.option.Option.{Option}
use Rattle.std.specs.declared.result.Result.TheVariants.{Ok, Err}
use Rattle.types.specs.declared.refusals.Refusal.{Refusal}
use Rattle.types.specs.declared.refusals.Refusal.TheVariants.{NodeNumber, WatchedNodes}
use Rattle.head.specs.Written.{earliest_written}
use Rattle.watched.specs.declared.nodes.WatchedNode.{WatchedNode}
use Rattle.watched.specs.Watched.{no_node, inserted, well_formed, is_watched, heard_at, place_of, watched_node, watched_of, Run, run, watching, well_lent}
use Rattle.watched.specs.Nodes.{never, nodes_of, soonest, moment_of}
use Rattle.watched.proofs.Lists.{watched_by}
use Rattle.watched.proofs.Watching.{places, few, lent_words}
use Rattle.node.specs.Steps.{earliest, added}
use Rattle.node.specs.InPlace.{unless_refused}
use Rattle.partners.specs.Partners.{add_answer, remove_answer, words_of, Added, Removed}
use Rattle.partners.specs.Walks.{closed}
use Rattle.partners.proofs.Left.{add_stored, remove_left}
use Rattle.partners.proofs.Held.{added_moment, removed_moment}
use Rattle.partners.proofs.Fixed.{words_of_lem}
use Rattle.partners.proofs.Adding as Adding
use Rattle.partners.proofs.Removing as Removing

module _ (ws ns : List ℕ) (k n : ℕ) where
  abbrev ps : List WatchedNode
  ps = nodes_of ns

  abbrev vs : List WatchedNode
  vs = watched_of ps k

  abbrev r : Run
  r = run ps k

  -- a declined call leaves every word
  leaves_all : (c : Result (Unit {0}) Refusal) (y : Refusal) → c ≡ Err y → (l : List ℕ) → ns ≡ unless_refused c ns l
  leaves_all c y g l = ap (λ (c : Result (Unit {0}) Refusal). unless_refused c ns l) (sym g)

  pub add_unknown : (o : ℕ) (x : Refusal) → read_node n ≡ Err x → Added ws ns k n o (Err x) ws ns k
  add_unknown o x e = record { on = Adding.add_unknown ws r n o x e; nodes = refl }

  pub add_unformed :
      well_formed vs ≡ false → (o : ℕ) (v : Bool) → v ≡ is_node n → (c : Result (Unit {0}) Refusal) → c ≡ add_answer v false o false k → Added ws ns k n o c ws ns k
  add_unformed f o v a c g = record { on = Adding.add_unformed ws r n o v a (lent_words ns k ∙ f) false k c g; nodes = by v g }
    where
      by : (v : Bool) → c ≡ add_answer v false o false k → ns ≡ unless_refused c ns (words_of (added n o r).places)
      by true g = leaves_all c WatchedNodes g _
      by false g = leaves_all c NodeNumber g _

  pub remove_unformed : well_formed vs ≡ false → (c : Result (Unit {0}) Refusal) → c ≡ remove_answer false false → Removed ws ns k n c ws ns k
  remove_unformed f c g = record { on = Removing.remove_unformed ws r n (lent_words ns k ∙ f) false c g; nodes = leaves_all c WatchedNodes g _ }

  module _ (f : well_formed vs ≡ true) (p : ℕ) (e : p ≡ place_of n vs) (w : Bool) (z : w ≡ ltb p k) where
    below : k ≤ 32
    below = few ns k f

    lent : well_lent r ≡ true
    lent = lent_words ns k ∙ f

    among : w ≡ is_watched n vs
    among = z ∙ watched_by ps k (places ns) below n p e

    -- add
    module _ (o : ℕ) (v : Bool) (a : v ≡ is_node n) (c : Result (Unit {0}) Refusal) (x : c ≡ add_answer v true o w k) where
      pub add_room : c ≡ (Ok tt) → k < 32
      add_room g = ltb-true k 32 (Adding.add_passed v true o w k (sym g ∙ x)).4

      pub add_declined : (y : Refusal) → c ≡ Err y → Added ws ns k n o (Err y) ws ns k
      add_declined y g = record { on = Adding.add_declined ws r n o v a true w (sym lent) among y (sym g ∙ x); nodes = refl }

      pub add_taken :
          c ≡ (Ok tt) → length ws ≡ 60 → (ns' : List ℕ) → nodes_of ns' ≡ inserted (watched_node n o 0) (take k ps) ++ replicate (31 - k) no_node → length ns' ≡ 96 →
          (m : Option ℕ) → m ≡ moment_of (soonest never (heard_at n 0 vs)) →
          (ws' : List ℕ) → ws' ≡ earliest_written ws m → Added ws ns k n o (Ok tt) ws' ns' (k + 1)
      add_taken g long ns' u all m y ws' q =
          let left = add_stored ps k n (places ns) f o (add_room g) (nodes_of ns') u in
          let none : is_watched n vs ≡ false = sym among ∙ (Adding.add_passed v true o w k (sym g ∙ x)).3 in
          record {
            on =
                Adding.add_taken ws r n o v a true w (sym lent) among (sym g ∙ x) long (run (nodes_of ns') (k + 1)) left m
                (y ∙ added_moment r n lent o none ∙ ap (λ (r : Run). earliest (watching r)) (sym left)) ws' q;
            nodes = words_of_lem ns' all ∙ ap (λ (r : Run). words_of r.places) left;
          }

    -- removal
    module _ (c : Result (Unit {0}) Refusal) (x : c ≡ remove_answer true w) where
      pub remove_inside : c ≡ (Ok tt) → (p < k) × (k ≤ 32)
      remove_inside g = (ltb-true p k (sym z ∙ (Removing.remove_passed true w (sym g ∙ x)).1), below)

      pub remove_declined : (y : Refusal) → c ≡ Err y → Removed ws ns k n (Err y) ws ns k
      remove_declined y g = record { on = Removing.remove_declined ws r n true w (sym lent) among y (sym g ∙ x); nodes = refl }

      pub remove_taken :
          c ≡ (Ok tt) → length ws ≡ 60 → (ns' : List ℕ) → nodes_of ns' ≡ take p ps ++ closed (k - p) (drop p ps) → length ns' ≡ 96 →
          (m : Option ℕ) → m ≡ moment_of (soonest never (heard_at n 0 vs)) →
          (ws' : List ℕ) → ws' ≡ earliest_written ws m → Removed ws ns k n (Ok tt) ws' ns' (k - 1)
      remove_taken g long ns' u all m y ws' q =
          let left = remove_left ps k n (places ns) f p e (remove_inside g).0 (nodes_of ns') u in
          record {
            on =
                Removing.remove_taken ws r n true w (sym lent) among (sym g ∙ x) long (run (nodes_of ns') (k - 1)) left m
                (y ∙ removed_moment r n lent ∙ ap (λ (r : Run). earliest (watching r)) (sym left)) ws' q;
            nodes = words_of_lem ns' all ∙ ap (λ (r : Run). words_of r.places) left;
          }

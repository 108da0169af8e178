-- What is found of a run, and the calls that are lent one, but for the tick, over plain variables:
-- their refusals, and what they leave. What a call makes of a run is by the laws that the form in
-- words uses too.
-- Assumes nothing.
use Prim.Native.Nat.{ℕ, ◌+◌, ◌-◌, ◌≤◌, ◌<◌}
use mathlib.Core.Path.{◌≡◌, refl, sym, ap, subst, ◌∙◌}
use mathlib.Core.Bool.{Bool, true, false}
use mathlib.Core.List.{List, ◌++◌}
use native.Mathlib.Omega.{arith}
use lib.Dec.{eqb, leb, ltb}
use lib.ListN.{length, get_or, set, take, drop, replicate}
use lib.Seq.{get_or-take, length-take-le}
use borrow.Author.Tests.{ltb-true, eqb-true}
use Rattle.types.specs.Pick.{pick, both, all_of}
use Rattle.types.specs.Types.{is_node}
use Rattle.types.proofs.Tests.{both_first, both_second}
use Rattle.types.specs.declared.refusals.Refusal.{Refusal}
use Rattle.types.specs.declared.refusals.Refusal.TheVariants.{WatchedNodes}
use Rattle.std.specs.declared.option.Option.{Option}
use Rattle.std.specs.declared.option.Option.TheVariants.{Some, None}
use Rattle.std.specs.declared.result.Result.{Result}
use Rattle.std.specs.declared.result.Result.TheVariants.{Ok, Err}
use Rattle.std.proofs.Math.Seq.{take-length}
use Rattle.head.specs.Written.{earliest_written}
use Rattle.watched.specs.declared.nodes.WatchedNode.{WatchedNode}
use Rattle.watched.specs.Watched.{in_time, ascending, fits, well_formed, no_node, watched_node, is_watched, heard_now, heard_at, place_of, watched_of, Run, run, watching, well_lent, inserted, unheard_first}
use Rattle.watched.specs.Nodes.{never, rising, soonest, moment_of}
use Rattle.watched.proofs.Lists.{rising_all, watched_take, watched_by, heard_nodes, heard_stored, whole, taken_long}
use Rattle.watched.proofs.Lists as Lists
use Rattle.watched.proofs.Limits.{all_at, fits_small}
use Rattle.watched.proofs.Watching.{tried_unformed, tried_formed, lent_inside}
use Rattle.bitmap.specs.Bitmap.{bytes_of}
use Rattle.node.specs.Steps.{earliest, added, removed}
use Rattle.node.specs.Heard.{heard_answer, HeardOn}
use Rattle.node.proofs.Moments.{moment_of_lem, all_fit, heard_fits}
use Rattle.node.proofs.OnRuns.{run_declined}
use Rattle.node.specs.Plain.{heard}
use Rattle.node.proofs.Hearing.{taken_passed, heard_declined, heard_taken}
use Rattle.start.specs.declared.start.Setup.{Setup}
use Rattle.start.specs.Started.{start_left, StartedOn, BeginsBy}
use Rattle.partners.specs.Partners.{add_answer, remove_answer, AddedOn, RemovedOn}
use Rattle.partners.specs.Walks.{closed}
use Rattle.partners.proofs.Held.{added_moment, removed_moment}
use Rattle.partners.proofs.Left.{add_stored, remove_left}
use Rattle.partners.proofs.Adding as Adding
use Rattle.partners.proofs.Removing as Removing
use Rattle.lent.specs.Runs.{found_in}

-- what find answers says of the run
module _ (n t k : ℕ) (vs : List WatchedNode) (o : Option (ℕ × ℕ)) (e : o ≡ found_in n t (run vs k)) where
  abbrev moments : ℕ
  moments = soonest never (heard_at n t (watched_of vs k))

  pub unlent : o ≡ None → well_lent (run vs k) ≡ false
  unlent = tried_unformed (well_lent (run vs k)) (place_of n (watched_of vs k), moments) o e

  pub found : (p s : ℕ) → o ≡ Some (p, s) → (well_lent (run vs k) ≡ true) × (p ≡ place_of n (watched_of vs k)) × (s ≡ soonest never (heard_at n t (watched_of vs k)))
  found p s h =
      let x = tried_formed (well_lent (run vs k)) (place_of n (watched_of vs k), moments) o e (p, s) h in
      (x.0, ap (λ (z : ℕ × ℕ). z.0) x.1, ap (λ (z : ℕ × ℕ). z.1) x.1)

-- of a run that is well formed
module _ (vs : List WatchedNode) (k : ℕ) (a : well_lent (run vs k) ≡ true) where
  pub formed : well_formed (watched_of vs k) ≡ true
  formed = both_second (eqb (length vs) 32) (well_formed (watched_of vs k)) a

  pub long : length vs ≡ 32
  long = eqb-true (length vs) 32 (both_first (eqb (length vs) 32) (well_formed (watched_of vs k)) a)

  pub below : k ≤ 32
  below = Lists.few vs k true (sym formed) refl

  pub rises : rising 0 (watched_of vs k) ≡ true
  unfolding well_formed
  rises = rising_all (watched_of vs k) ∙ both_second (leb (length (watched_of vs k)) 32) _ formed

  -- the number of each node is a byte
  pub small : (i : ℕ) (d : WatchedNode) → i < k → (get_or (take k vs) i d).node ≤ 255
  unfolding well_formed
  small i d inside =
      let f : all_of fits (take k vs) ≡ true =
      sym (ap (all_of fits) (whole vs k long below))
      ∙ both_second (ascending (watched_of vs k)) _ (both_second (leb (length (watched_of vs k)) 32) _ formed) in
      fits_small (get_or (take k vs) i d) (all_at fits (take k vs) i d (omega (arith, inside, taken_long vs k long below)) f)

  -- the bits after the walk over the watched places ws
  pub all_set :
      (ws : List WatchedNode) (i : ℕ) (b : List ℕ) →
      ws ≡ take k vs → i ≡ length ws → b ≡ bytes_of (watched_of ws i) → b ≡ bytes_of (watching (run vs k))
  all_set ws i b same end e =
      e
      ∙ ap bytes_of
      (watched_take ws i (omega arith)
      ∙ ap (λ (n : ℕ). take n ws) end
      ∙ take-length ws
      ∙ same
      ∙ sym (watched_take vs k (lent_inside (run vs k) a)))

  -- by the place of a node
  module _ (ws : List ℕ) (n p : ℕ) (e : p ≡ place_of n (watched_of vs k)) (w : Bool) (z : w ≡ ltb p k) where
    abbrev r : Run
    r = run vs k

    among : w ≡ is_watched n (watched_of vs k)
    among = z ∙ watched_by vs k long below n p e

    -- heard
    module _ (t : ℕ) (c : Result (Unit {0}) Refusal) (x : c ≡ heard_answer true t w) where
      pub heard_inside : c ≡ (Ok tt) → p < length vs
      heard_inside g =
          let l : p < k = ltb-true p k (sym z ∙ (taken_passed ws r n t true w (sym a) among (sym g ∙ x)).2) in
          omega (arith, l, long, below)

      pub heard_refused : (y : Refusal) → c ≡ Err y → HeardOn ws r n t (Err y) ws r
      heard_refused y g = heard_declined ws r n t true w (sym a) among y (sym g ∙ x)

      pub heard_done :
          c ≡ (Ok tt) → length ws ≡ 60 → (vs' : List WatchedNode) → vs' ≡ set vs p (heard_now t (get_or vs p no_node)) →
          (m : Option ℕ) → m ≡ moment_of (soonest never (heard_at n t (watched_of vs k))) →
          (ws' : List ℕ) → ws' ≡ earliest_written ws m → HeardOn ws r n t (Ok tt) ws' (run vs' k)
      heard_done g many vs' s m y ws' o =
          let passed = taken_passed ws r n t true w (sym a) among (sym g ∙ x) in
          let stored = s ∙ heard_stored vs k long below n t p e no_node (ltb-true p k (sym z ∙ passed.2)) in
          let left : watched_of vs' k ≡ heard_at n t (watched_of vs k) =
          ap (λ (l : List WatchedNode). watched_of l k) stored ∙ heard_nodes vs k long below n t in
          let moment : m ≡ earliest (watched_of vs' k) =
          y ∙ moment_of_lem (heard_at n t (watched_of vs k)) (heard_fits n t (watched_of vs k) passed.1 (all_fit (watched_of vs k) formed)) ∙ ap earliest (sym left) in
          heard_taken ws r n t true w (sym a) among (sym g ∙ x) many (run vs' k) (ap (λ (l : List WatchedNode). run l k) stored) m moment ws' o

    -- add
    module _ (o : ℕ) (v : Bool) (b : v ≡ is_node n) (c : Result (Unit {0}) Refusal) (x : c ≡ add_answer v true o w k) where
      pub add_room : c ≡ (Ok tt) → k < 32
      add_room g = ltb-true k 32 (Adding.add_passed v true o w k (sym g ∙ x)).4

      pub add_declined : (y : Refusal) → c ≡ Err y → AddedOn ws r n o (Err y) ws r
      add_declined y g = Adding.add_declined ws r n o v b true w (sym a) among y (sym g ∙ x)

      pub add_taken :
          c ≡ (Ok tt) → length ws ≡ 60 → (vs' : List WatchedNode) → vs' ≡ inserted (watched_node n o 0) (take k vs) ++ replicate (31 - k) no_node →
          (m : Option ℕ) → m ≡ moment_of (soonest never (heard_at n 0 (watched_of vs k))) →
          (ws' : List ℕ) → ws' ≡ earliest_written ws m → AddedOn ws r n o (Ok tt) ws' (run vs' (k + 1))
      add_taken g many vs' u m y ws' q =
          let left = add_stored vs k n long formed o (add_room g) vs' u in
          let none : is_watched n (watched_of vs k) ≡ false = sym among ∙ (Adding.add_passed v true o w k (sym g ∙ x)).3 in
          Adding.add_taken ws r n o v b true w (sym a) among (sym g ∙ x) many (run vs' (k + 1)) left m
          (y ∙ added_moment r n a o none ∙ ap (λ (r : Run). earliest (watching r)) (sym left)) ws' q

    -- removal
    module _ (c : Result (Unit {0}) Refusal) (x : c ≡ remove_answer true w) where
      pub remove_inside : c ≡ (Ok tt) → p < k
      remove_inside g = ltb-true p k (sym z ∙ (Removing.remove_passed true w (sym g ∙ x)).1)

      pub remove_declined : (y : Refusal) → c ≡ Err y → RemovedOn ws r n (Err y) ws r
      remove_declined y g = Removing.remove_declined ws r n true w (sym a) among y (sym g ∙ x)

      pub remove_taken :
          c ≡ (Ok tt) → length ws ≡ 60 → (vs' : List WatchedNode) → vs' ≡ take p vs ++ closed (k - p) (drop p vs) →
          (m : Option ℕ) → m ≡ moment_of (soonest never (heard_at n 0 (watched_of vs k))) →
          (ws' : List ℕ) → ws' ≡ earliest_written ws m → RemovedOn ws r n (Ok tt) ws' (run vs' (k - 1))
      remove_taken g many vs' u m y ws' q =
          let left = remove_left vs k n long formed p e (remove_inside g) vs' u in
          Removing.remove_taken ws r n true w (sym a) among (sym g ∙ x) many (run vs' (k - 1)) left m
          (y ∙ removed_moment r n a ∙ ap (λ (r : Run). earliest (watching r)) (sym left)) ws' q

-- the calls on a run that is not well formed
module _ (ws : List ℕ) (r : Run) (n : ℕ) (f : well_lent r ≡ false) where
  pub heard_unformed : (t : ℕ) → HeardOn ws r n t (Err WatchedNodes) ws r
  heard_unformed t = run_declined ws (heard n t r) r WatchedNodes (λ p. rw f)

  pub add_unformed : is_node n ≡ true → (o : ℕ) → AddedOn ws r n o (Err WatchedNodes) ws r
  add_unformed a o = Adding.add_unformed ws r n o true (sym a) f false 0 (Err WatchedNodes) refl

  pub remove_unformed : RemovedOn ws r n (Err WatchedNodes) ws r
  remove_unformed = Removing.remove_unformed ws r n f false (Err WatchedNodes) refl

-- start, by whether the nodes are well formed
module _ (ws : List ℕ) (vs : List WatchedNode) (k : ℕ) (s : Setup) (formed : Bool) (p : formed ≡ well_lent (run vs k)) (a : Result (Unit {0}) Refusal) (ws' : List ℕ) (b : BeginsBy ws s formed a ws') where
  pub start_done : a ≡ (Ok tt) → (vs' : List WatchedNode) → vs' ≡ unheard_first k vs → StartedOn ws (run vs k) s (Ok tt) ws' (run vs' k)
  start_done g vs' d =
      subst (λ (a : Result (Unit {0}) Refusal). StartedOn ws (run vs k) s a ws' (run vs' k)) g
      (b.on (run vs k) p (run vs' k) (ap (λ (l : List WatchedNode). run l k) d ∙ ap (λ (a : Result (Unit {0}) Refusal). start_left a (run vs k)) (sym g)))

  pub start_refused : (x : Refusal) → a ≡ Err x → StartedOn ws (run vs k) s (Err x) ws' (run vs k)
  start_refused x g =
      subst (λ (a : Result (Unit {0}) Refusal). StartedOn ws (run vs k) s a ws' (run vs k)) g
      (b.on (run vs k) p (run vs k) (ap (λ (a : Result (Unit {0}) Refusal). start_left a (run vs k)) (sym g)))

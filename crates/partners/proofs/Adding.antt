-- Add, by what its tests say, on a run in whatever form, over plain variables.
-- Assumes nothing.
use Prim.Native.Nat.{ℕ}
use mathlib.Core.Path.{◌≡◌, refl, sym, ap, subst, ◌∙◌}
use mathlib.Core.Bool.{Bool, true, false, not, false≢true}
use mathlib.Core.List.{List}
use native.Mathlib.Omega.{arith}
use lib.Dec.{ltb}
use lib.ListN.{length}
use Rattle.types.specs.Pick.{pick, both}
use Rattle.types.specs.Types.{is_node, node, read_node}
use Rattle.types.specs.declared.types.NodeId.{NodeId}
use Rattle.std.specs.Prelude.{is_ok}
use Rattle.types.specs.Refusals.{refusal_number}
use Rattle.types.specs.declared.refusals.Refusal.{Refusal}
use Rattle.types.specs.declared.refusals.Refusal.TheVariants.{NodeNumber, WatchedNodes, AllWatched, AlreadyWatched}
use Rattle.std.specs.declared.result.Result.{Result}
use Rattle.std.specs.declared.option.Option.{Option}
use Rattle.std.specs.declared.result.Result.TheVariants.{Ok, Err}
use Rattle.head.specs.Written.{earliest_written}
use Rattle.watched.specs.Watched.{in_time, is_watched, Run, watching, well_lent}
use Rattle.node.specs.Plain.{Plain, add}
use Rattle.node.specs.Steps.{declines, leaves, earliest, added}
use Rattle.node.specs.Run.{step}
use Rattle.node.proofs.OnRuns.{run_declined, run_taken}
use Rattle.partners.specs.Partners.{add_answer, AddedOn}

-- the number of a node that is added
known : (n : ℕ) → is_ok (read_node n) ≡ is_node n
unfolding read_node
known n = by (is_node n)
  where
    by : (b : Bool) → is_ok (pick {A = Result NodeId Refusal} b (Ok (node n)) (Err NodeNumber)) ≡ b
    by true = refl
    by false = refl

-- the number of a node that is added
pub read_known : (n : ℕ) (x : NodeId) → read_node n ≡ Ok x → is_node n ≡ true
read_known n x e = sym (known n) ∙ ap is_ok e

refusal_of : Result NodeId Refusal → Refusal
refusal_of (Ok x) = NodeNumber
refusal_of (Err x) = x

read_unknown : (n : ℕ) (x : Refusal) → read_node n ≡ Err x → (is_node n ≡ false) × (x ≡ NodeNumber)
unfolding read_node refusal_of
read_unknown n x = by (is_node n)
  where
    by : (b : Bool) → pick {A = Result NodeId Refusal} b (Ok (node n)) (Err NodeNumber) ≡ Err x → (b ≡ false) × (x ≡ NodeNumber)
    by true e = absurd (false≢true (sym (ap is_ok e)))
    by false e = (refl, sym (ap refusal_of e))

pub add_unknown : (ws : List ℕ) (r : Run) (n t : ℕ) (x : Refusal) → read_node n ≡ Err x → AddedOn ws r n t (Err x) ws r
add_unknown ws r n t x e =
    let u = read_unknown n x e in
    subst (λ (x : Refusal). AddedOn ws r n t (Err x) ws r) (sym u.1) (run_declined ws (add n t r) r NodeNumber (λ p. rw u.0))

abbrev by_tests : Bool → Bool → Bool → Bool → Bool → Result (Unit {0}) Refusal
by_tests v f b w l =
    pick v
    (pick (both f b) (pick (not w) (pick l (Ok tt) (Err AllWatched)) (Err AlreadyWatched)) (Err WatchedNodes))
    (Err NodeNumber)

-- what an accepted add passed
pub add_passed :
    (v f : Bool) (o : ℕ) (w : Bool) (k : ℕ) → (Ok tt) ≡ add_answer v f o w k →
    (v ≡ true) × (f ≡ true) × (in_time o ≡ true) × (w ≡ false) × (ltb k 32 ≡ true)
add_passed v f o w k = by v f (in_time o) w (ltb k 32)
  where
    by : (v f b w l : Bool) → (Ok tt) ≡ by_tests v f b w l → (v ≡ true) × (f ≡ true) × (b ≡ true) × (w ≡ false) × (l ≡ true)
    by true true true false true e = (refl, refl, refl, refl, refl)
    by true true true false false e = absurd (let z : ◌≡◌ {A = ℕ} 0 1 = cc in let x : ⊥ = omega arith in x)
    by true true true true l e = absurd (let z : ◌≡◌ {A = ℕ} 0 1 = cc in let x : ⊥ = omega arith in x)
    by true true false w l e = absurd (let z : ◌≡◌ {A = ℕ} 0 1 = cc in let x : ⊥ = omega arith in x)
    by true false b w l e = absurd (let z : ◌≡◌ {A = ℕ} 0 1 = cc in let x : ⊥ = omega arith in x)
    by false f b w l e = absurd (let z : ◌≡◌ {A = ℕ} 0 1 = cc in let x : ⊥ = omega arith in x)

module _ (ws : List ℕ) (r : Run) (n o : ℕ) (v : Bool) (a : v ≡ is_node n) where
  abbrev Declined : Result (Unit {0}) Refusal → Type 0
  Declined c = AddedOn ws r n o c ws r

  declines_by : (y : Refusal) → ((p : Plain) → step p (add n o r) ≡ declines p r (refusal_number y)) → (c : Result (Unit {0}) Refusal) → c ≡ Err y → Declined c
  declines_by y s c g = subst Declined (sym g) (run_declined ws (add n o r) r y s)

  -- of a run that is not well formed, nothing else is asked
  pub add_unformed : well_lent r ≡ false → (w : Bool) (k : ℕ) (c : Result (Unit {0}) Refusal) → c ≡ add_answer v false o w k → Declined c
  add_unformed f w k c = by v (sym a)
    where
      by : (v : Bool) → is_node n ≡ v → c ≡ add_answer v false o w k → Declined c
      by true a g = declines_by WatchedNodes (λ p. rw (a, f)) c g
      by false a g = declines_by NodeNumber (λ p. rw a) c g

  module _ (f w : Bool) (e : f ≡ well_lent r) (d : w ≡ is_watched n (watching r)) where
    pub add_declined : (x : Refusal) → Err x ≡ add_answer v f o w r.number → Declined (Err x)
    add_declined x = by v f (in_time o) w (ltb r.number 32) (sym a) (sym e) refl (sym d) refl
      where
        by :
            (v f b w l : Bool) → is_node n ≡ v → well_lent r ≡ f → in_time o ≡ b → is_watched n (watching r) ≡ w → ltb r.number 32 ≡ l →
            Err x ≡ by_tests v f b w l → Declined (Err x)
        by true true true false true a e b d h g = absurd (let z : ◌≡◌ {A = ℕ} 0 1 = cc in let x : ⊥ = omega arith in x)
        by true true true false false a e b d h g = declines_by AllWatched (λ p. rw (a, e, b, d, h)) _ g
        by true true true true l a e b d h g = declines_by AlreadyWatched (λ p. rw (a, e, b, d)) _ g
        by true true false w l a e b d h g = declines_by WatchedNodes (λ p. rw (a, e, b)) _ g
        by true false c w l a e b d h g = declines_by WatchedNodes (λ p. rw (a, e)) _ g
        by false f c w l a e b d h g = declines_by NodeNumber (λ p. rw a) _ g

    pub add_taken :
        (Ok tt) ≡ add_answer v f o w r.number → length ws ≡ 60 → (r' : Run) → r' ≡ added n o r → (m : Option ℕ) → m ≡ earliest (watching r') →
        (ws' : List ℕ) → ws' ≡ earliest_written ws m → AddedOn ws r n o (Ok tt) ws' r'
    add_taken g long r' s m z ws' u =
        let x = add_passed v f o w r.number g in
        let i : is_node n ≡ true = sym a ∙ x.0 in
        let j : well_lent r ≡ true = sym e ∙ x.1 in
        let q : is_watched n (watching r) ≡ false = sym d ∙ x.3 in
        run_taken ws (add n o r) r' long (λ p. rw (i, j, x.2, q, x.4) (ap (leaves p) (sym s))) m z ws' u

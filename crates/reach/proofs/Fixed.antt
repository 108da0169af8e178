-- What `lines` ensures fixes its answer: only one list of lines meets it.
-- Assumes nothing.
use Prim.Native.Nat.{ℕ, ◌<◌, ◌≤◌}
use native.Mathlib.Omega.{arith}
use mathlib.Core.Path.{◌≡◌, refl, sym, ap, subst, ◌∙◌}
use mathlib.Core.Bool.{Bool, true, false, true≢false}
use mathlib.Core.List.{List, [], ◌∷◌}
use mathlib.Core.Logic.{◌⊎◌, inl, inr}
use lib.Dec.{eqb, ltb}
use borrow.Author.Tests.{eqb-true, eq-eqb, ne_eqb, ltb-true, lt-ltb}
use Rattle.types.specs.Pick.{pick}
use Rattle.types.proofs.Tests.{both_first, both_second}
use Rattle.node.specs.Plain.{Start}
use Rattle.reach.specs.declared.Line.{Line}
use Rattle.reach.specs.Positions.{Reached, named, steps_to, Among, key, is_before, in_order, EveryPosition}

-- the order of two keys: by their first numbers, or those are the same
abbrev Lesser : ℕ → ℕ → List ℕ → List ℕ → Type 0
Lesser j k js ks = (j < k) ⊎ ((j ≡ k) × (is_before js ks ≡ true))

lesser : (j k : ℕ) (js ks : List ℕ) → is_before (j ∷ js) (k ∷ ks) ≡ true → Lesser j k js ks
lesser j k js ks = by (eqb j k) refl
  where
    by : (b : Bool) → eqb j k ≡ b → pick b (is_before js ks) (ltb j k) ≡ true → Lesser j k js ks
    by true e h = inr (eqb-true j k e, h)
    by false e h = inl (ltb-true j k h)

unlike : (j k : ℕ) → j < k → j ≡ k → ⊥
unlike j k h e = omega (arith, h, e)

before : (j k : ℕ) (js ks : List ℕ) → Lesser j k js ks → is_before (j ∷ js) (k ∷ ks) ≡ true
before j k js ks (inl h) = rw (ne_eqb j k (unlike j k h)) (lt-ltb j k h)
before j k js ks (inr h) = rw (eq-eqb j k h.0) h.1

never_before_itself : (ks : List ℕ) → is_before ks ks ≡ true → ⊥
never_before_itself [] h = true≢false (sym h)
never_before_itself (k ∷ ks) h = elim (lesser k k ks ks h) [ inl l ↦ unlike k k l refl | inr e ↦ never_before_itself ks e.1 ]

before_both : (is js ks : List ℕ) → is_before is js ≡ true → is_before js ks ≡ true → is_before is ks ≡ true
before_both [] js ks g h = absurd (true≢false (sym g))
before_both (i ∷ is) [] ks g h = absurd (true≢false (sym g))
before_both (i ∷ is) (j ∷ js) [] g h = absurd (true≢false (sym h))
before_both (i ∷ is) (j ∷ js) (k ∷ ks) g h = before i k is ks (joined (lesser i j is js g) (lesser j k js ks h) (before_both is js ks))
  where
    joined : Lesser i j is js → Lesser j k js ks → (is_before is js ≡ true → is_before js ks ≡ true → is_before is ks ≡ true) → Lesser i k is ks
    joined (inl a) (inl b) r = inl (omega (arith, a, b))
    joined (inl a) (inr b) r = inl (omega (arith, a, b.0))
    joined (inr a) (inl b) r = inl (omega (arith, a.0, b))
    joined (inr a) (inr b) r = inr (a.0 ∙ b.0, r a.1 b.1)

-- in an ordered list, the first comes before each of the others
first_before : (l : Line) (ls : List Line) (x : Line) → in_order (l ∷ ls) ≡ true → Among x ls → is_before (key l) (key x) ≡ true
first_before l [] x h m = absurd m
first_before l (m ∷ ms) x h (inl e) = ap (λ (x : Line). is_before (key l) (key x)) e ∙ both_first (is_before (key l) (key m)) _ h
first_before l (m ∷ ms) x h (inr i) =
    before_both (key l) (key m) (key x) (both_first (is_before (key l) (key m)) _ h) (first_before m ms x (both_second (is_before (key l) (key m)) _ h) i)

rest_ordered : (l : Line) (ls : List Line) → in_order (l ∷ ls) ≡ true → in_order ls ≡ true
rest_ordered l [] h = refl
rest_ordered l (m ∷ ms) h = both_second (is_before (key l) (key m)) _ h

-- two ordered lists with the same lines are the same
abbrev Included : List Line → List Line → Type 0
Included ls ms = (x : Line) → Among x ls → Among x ms

not_first : (l : Line) (ls : List Line) (x : Line) → in_order (l ∷ ls) ≡ true → Among x ls → x ≡ l → ⊥
not_first l ls x h i e = never_before_itself (key l) (ap (λ (y : Line). is_before (key l) (key y)) (sym e) ∙ first_before l ls x h i)

module _ (l m : Line) (ls ms : List Line) (g : in_order (l ∷ ls) ≡ true) (h : in_order (m ∷ ms) ≡ true) where
  same_first : Among l (m ∷ ms) → Among m (l ∷ ls) → l ≡ m
  same_first (inl e) b = e
  same_first (inr a) (inl e) = sym e
  same_first (inr a) (inr b) = absurd (never_before_itself (key l) (before_both (key l) (key m) (key l) (first_before l ls m g b) (first_before m ms l h a)))

  rest_within : l ≡ m → Included (l ∷ ls) (m ∷ ms) → Included ls ms
  rest_within e w x i = elim (w x (inr i)) [ inl f ↦ absurd (not_first l ls x g i (f ∙ sym e)) | inr k ↦ k ]

ordered_same : (ls ms : List Line) → in_order ls ≡ true → in_order ms ≡ true → Included ls ms → Included ms ls → ls ≡ ms
ordered_same [] [] g h v w = refl
ordered_same [] (m ∷ ms) g h v w = absurd (w m (inl refl))
ordered_same (l ∷ ls) [] g h v w = absurd (v l (inl refl))
ordered_same (l ∷ ls) (m ∷ ms) g h v w =
    let e : l ≡ m = same_first l m ls ms g h (v l (inl refl)) (w m (inl refl)) in
    let rest : ls ≡ ms =
    ordered_same ls ms (rest_ordered l ls g) (rest_ordered m ms h) (rest_within l m ls ms g h e v) (rest_within m l ms ls h g (sym e) w)
    in
    λ i. e i ∷ rest i

-- a line of one list is one of the other: the position is reached, and in no fewer steps either way
same_line : (l m : Line) → named l ≡ named m → steps_to l ≡ steps_to m → l ≡ m
same_line l m p n = λ i. record { position = p i; steps = n i }

no_fewer : (j k : ℕ) → j ≤ k → k ≤ j → j ≡ k
no_fewer j k a b = omega (arith, a, b)

module _ (s : Start) where
  in_other : (ls ms : List Line) → EveryPosition ls → EveryPosition ms → Included ls ms
  in_other ls ms a b l i =
      let stands = b.complete s (steps_to l) (named l) (a.reached s l i) in
      let m = stands.line in
      let down : steps_to m ≤ steps_to l = b.least s m stands.among (steps_to l) (subst (Reached s (steps_to l)) (sym stands.names) (a.reached s l i)) in
      let up : steps_to l ≤ steps_to m = a.least s l i (steps_to m) (subst (Reached s (steps_to m)) stands.names (b.reached s m stands.among)) in
      subst (λ (x : Line). Among x ms) (same_line m l stands.names (no_fewer (steps_to m) (steps_to l) down up)) stands.among

  pub lines_fixed : (ls ms : List Line) → EveryPosition ls → EveryPosition ms → ls ≡ ms
  lines_fixed ls ms a b = ordered_same ls ms a.ordered b.ordered (in_other ls ms a b) (in_other ms ls b a)

-- A turn of the walk over the components of a line.
-- Assumes nothing.
use Rattle.std.proofs.Common.{◌≡◌, ◌∙◌, ◌<◌, ℕ, zero, suc, ◌-◌, List, [], ◌∷◌, ◌++◌, length, Some, None, refl, sym, ap, arith, length-append}
use Rattle.recipes.specs.declared.Component.{Component}
use Rattle.script.specs.Reads.{ends}
use Rattle.script.specs.Components.{component, components_from}

one_more :
    (most : ℕ) (cs : List Component) (c : ℕ) (text rest : List ℕ) (d : Component) → component (c ∷ text) ≡ Some (d, rest) →
    components_from (suc most) cs (c ∷ text) ≡ components_from most (cs ++ d ∷ []) rest
unfolding components_from
one_more most cs c text rest d e = rw e

pub goes :
    (cs : List Component) (text rest : List ℕ) (d : Component) → length cs < 20 → ends text ≡ None → component text ≡ Some (d, rest) →
    components_from (20 - length (cs ++ d ∷ [])) (cs ++ d ∷ []) rest ≡ components_from (20 - length cs) cs text
goes cs [] rest d h n e = cc
goes cs (c ∷ text) rest d h n e =
    let long : length (cs ++ d ∷ []) ≡ suc (length cs) = omega (arith, length-append cs (d ∷ [])) in
    let fewer : 20 - length cs ≡ suc (20 - length (cs ++ d ∷ [])) = omega (arith, long) in
    sym (ap (λ (n : ℕ). components_from n cs (c ∷ text)) fewer ∙ one_more (20 - length (cs ++ d ∷ [])) cs c text rest d e)

pub fails : (most : ℕ) (cs : List Component) (text : List ℕ) → ends text ≡ None → component text ≡ None → None ≡ components_from most cs text
unfolding components_from
fails most cs [] n e = cc
fails zero cs (c ∷ text) n e = refl
fails (suc most) cs (c ∷ text) n e = rw e

pub full : (cs : List Component) (text : List ℕ) → length cs ≡ 20 → ends text ≡ None → None ≡ components_from (20 - length cs) cs text
unfolding components_from
full cs [] h n = cc
full cs (c ∷ text) h n =
    let over : 20 - length cs ≡ 0 = omega arith in
    sym (ap (λ (n : ℕ). components_from n cs (c ∷ text)) over)

pub done : (most : ℕ) (cs : List Component) (text : List ℕ) → ends text ≡ Some tt → Some cs ≡ components_from most cs text
unfolding components_from
done zero cs [] e = refl
done (suc most) cs [] e = refl
done most cs (c ∷ text) e = cc

pub at_end : (text : List ℕ) → ends text ≡ Some tt → text ≡ []
at_end [] e = refl
at_end (c ∷ text) e = cc

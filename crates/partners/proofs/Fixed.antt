-- The places of a run fix every word that was lent: 96 words are those of the 32 places that they
-- stand for.
-- Assumes nothing.
use Prim.Native.Nat.{ℕ, zero, suc, ◌+◌, ◌*◌}
use mathlib.Core.Path.{◌≡◌, refl, sym, ap, ◌∙◌}
use mathlib.Core.List.{List, [], ◌∷◌}
use native.Mathlib.Omega.{arith}
use lib.ListN.{length, get_or}
use Rattle.entries.specs.Ring.{listed}
use Rattle.watched.specs.Watched.{watched_node}
use Rattle.watched.specs.Nodes.{node_at, nodes_of}
use Rattle.partners.specs.Partners.{words_of}

pub same_listed : {A : Type 0} (f g : ℕ → A) (n : ℕ) → ((i : ℕ) → f i ≡ g i) → listed f n ≡ listed g n
unfolding listed
same_listed f g zero e = refl
same_listed f g (suc n) e = λ i. e 0 i ∷ same_listed (λ j. f (suc j)) (λ j. g (suc j)) n (λ j. e (suc j)) i

-- the nodes behind the first one are those of the words behind its three
pub behind : (a b c : ℕ) (ns : List ℕ) (i : ℕ) → node_at (a ∷ b ∷ c ∷ ns) (suc i) ≡ node_at ns i
behind a b c ns i =
    let x : 3 * suc i ≡ suc (suc (suc (3 * i))) = omega arith in
    let y : 3 * suc i + 1 ≡ suc (suc (suc (3 * i + 1))) = omega arith in
    let z : 3 * suc i + 2 ≡ suc (suc (suc (3 * i + 2))) = omega arith in
    let at : ℕ → ℕ = λ j. get_or (a ∷ b ∷ c ∷ ns) j 0 in
    λ j. watched_node (ap at x j) (ap at y j) (ap at z j)

words_listed : (m : ℕ) (ns : List ℕ) → length ns ≡ 3 * m → ns ≡ words_of (listed (node_at ns) m)
unfolding listed
words_listed zero [] h = refl
words_listed zero (a ∷ ns) h = absurd (omega arith)
words_listed (suc m) [] h = absurd (omega arith)
words_listed (suc m) (a ∷ []) h = absurd (omega arith)
words_listed (suc m) (a ∷ b ∷ []) h = absurd (omega arith)
words_listed (suc m) (a ∷ b ∷ c ∷ ns) h =
    ap (λ (l : List ℕ). a ∷ b ∷ c ∷ l)
    (words_listed m ns (omega arith) ∙ ap words_of (same_listed (node_at ns) (λ i. node_at (a ∷ b ∷ c ∷ ns) (suc i)) m (λ i. sym (behind a b c ns i))))

pub words_of_lem : (ns : List ℕ) → length ns ≡ 96 → ns ≡ words_of (nodes_of ns)
unfolding nodes_of
words_of_lem ns l = words_listed 32 ns l

pub words_fixed : (ns ns' : List ℕ) → nodes_of ns ≡ nodes_of ns' → length ns ≡ 96 → length ns' ≡ 96 → ns ≡ ns'
words_fixed ns ns' same l l' = words_of_lem ns l ∙ ap words_of same ∙ sym (words_of_lem ns' l')

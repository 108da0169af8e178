-- One thing more, at the end of those that were done; and its answer, written behind theirs.
-- Assumes nothing.
use Rattle.std.proofs.Common.{◌≡◌, refl, sym, ap, ◌∙◌, ℕ, suc, ◌+◌, ◌<◌, List, [], ◌∷◌, ◌++◌, length, get_or, take, set, arith}
use Rattle.std.proofs.lemmas.List.{take_more, length-take-le}
use Rattle.calling.specs.Chain.{Chain, stop, next, written_over, ChainInto}

written_behind :
    {O : Type 0} (os : List O) (o : O) (out : List O) →
    set (written_over os out) (length os) o ≡ written_over (os ++ (o ∷ [])) out
unfolding written_over
written_behind [] o [] = refl
written_behind [] o (p ∷ out) = refl
written_behind (q ∷ os) o [] = refl
written_behind {O} (q ∷ os) o (p ∷ out) =
    ap (λ (l : List O). q ∷ l) (written_behind os o out)

module _ {S A O : Type 0} (Does : S → A → O → S → Type 0) where
  pub and_then :
      {x x₁ x' : S} {acts : List A} {os : List O} (a : A) (o : O) →
      Chain Does x acts os x₁ → Does x₁ a o x' → Chain Does x (acts ++ (a ∷ [])) (os ++ (o ∷ [])) x'
  and_then a o stop t = next t stop
  and_then a o (next f p) t = next f (and_then a o p t)

  pub as_many :
      {x x' : S} {acts : List A} {os : List O} →
      Chain Does x acts os x' → length os ≡ length acts
  as_many stop = refl
  as_many (next f p) = ap suc (as_many p)

  pub none_yet : (x : S) (acts : List A) (out : List O) → ChainInto Does x (take 0 acts) out x out
  unfolding written_over
  none_yet x acts out = record { answers = []; played = stop; written = refl }

  -- of a list the thing behind the first so many
  pub one_more :
      {x x₁ x' : S} (acts : List A) {out out' : List O} (i : ℕ) (d : A) (o : O) →
      i < length acts →
      ChainInto Does x (take i acts) out x₁ out' → Does x₁ (get_or acts i d) o x' →
      ChainInto Does x (take (i + 1) acts) out x' (set out' i o)
  one_more {x} {x₁} {x'} acts {out} {out'} i d o l g t =
      rw (take_more acts i d l)
      (record { answers = g.answers ++ (o ∷ []); played = and_then _ o g.played t; written = written })
    where
      place : i ≡ length g.answers
      place = let long = length-take-le i acts (omega (arith, l)) in sym (as_many g.played ∙ long)

      written : set out' i o ≡ written_over (g.answers ++ (o ∷ [])) out
      written =
          ap (λ (z : List O). set z i o) g.written
          ∙ ap (λ (j : ℕ). set (written_over g.answers out) j o) place
          ∙ written_behind g.answers o out

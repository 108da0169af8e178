-- The lines of the codes, one a turn.
-- Assumes nothing.
use Rattle.std.proofs.Common.{◌≡◌, ℕ, ◌+◌, ◌*◌, ◌<◌, ◌≤◌, List, [], ◌++◌, length, get_or, drop, sym, ap, ◌∙◌, append_assoc, append-nil, arith}
use Rattle.types.specs.Kinds.{kind_code}
use Rattle.types.specs.declared.frame.error.kinds.DllErrorKind.TheVariants.{LossOfLink}
use Rattle.shift.specs.Report.{named_codes, code_line, if_any, code_lines}
use Rattle.shift.proofs.Named.{in_order, named_at, named_end}

-- what is written and what is left are the whole
pub record Going (f : ℕ → ℕ) (s₀ s : List ℕ) (i : ℕ) : Type 0 where
  pub text : s ++ code_lines f (drop i named_codes) ≡ s₀ ++ code_lines f named_codes
  pub short : length s ≤ length s₀ + 43 * i
  pub most : i ≤ 17

-- a turn
pub step :
    (f : ℕ → ℕ) (s₀ s s' : List ℕ) (i c : ℕ) →
    i < 17 →
    c ≡ kind_code (get_or in_order i LossOfLink) →
    Going f s₀ s i →
    s' ≡ s ++ if_any (f c) (code_line c (f c)) →
    length s' ≤ length s + 43 →
    Going f s₀ s' (i + 1)
unfolding code_lines
step f s₀ s s' i c h k g e l =
    let line : List ℕ = if_any (f c) (code_line c (f c)) in
    let here : code_lines f (drop i named_codes) ≡ line ++ code_lines f (drop (i + 1) named_codes) = rw (named_at i h, k) in
    record {
      text = rw e (append_assoc s line (code_lines f (drop (i + 1) named_codes)) ∙ ap (λ (t : List ℕ). s ++ t) (sym here) ∙ g.text);
      short = omega (arith, g.short);
      most = omega arith;
    }

pub ends : (f : ℕ → ℕ) (s₀ s : List ℕ) (i : ℕ) → i ≡ 17 → Going f s₀ s i → s ≡ s₀ ++ code_lines f named_codes
unfolding code_lines
ends f s₀ s i e g =
    let none : code_lines f (drop i named_codes) ≡ [] = rw (e, named_end) in
    sym (append-nil s) ∙ (rw none at g.text)

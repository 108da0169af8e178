-- `shift::report::others` meets its contract: the kinds in order have the codes that name one.
-- Assumes nothing.
use Rattle.std.proofs.Common.{◌≡◌, ℕ, ◌-◌, List, [], ◌∷◌, map, slice_index, refl, sym, ap, ◌∙◌, rules, tests}
use Rattle.std.specs.List.{fold}
use Rattle.std.proofs.lemmas.Iterator.{YieldsList-from_slice}
use Rattle.std.proofs.lemmas.Iterator.Consumers.{fold_from_yields_List}
use Rattle.types.specs.Kinds.{kind_code}
use Rattle.types.specs.declared.frame.error.kinds.DllErrorKind.{DllErrorKind}
use Rattle.shift.specs.Feed.{less}
use Rattle.shift.proofs.Named.{in_order, named_map}
use Rattle.shift.proofs.report.others.Goals as goal

taken_away : (f : ℕ → ℕ) (n : ℕ) (ks : List DllErrorKind) → fold (λ rest kind. rest - f (kind_code kind)) n ks ≡ less f n (map kind_code ks)
taken_away f n [] = refl
taken_away f n (k ∷ ks) = taken_away f (n - f (kind_code k)) ks

pub returns : goal.returns
returns c =
    let a = c.args in
    let f : ℕ → ℕ = λ code. slice_index a.counts.now code in
    fold_from_yields_List _ (λ rest kind. rest - f (kind_code kind)) _ _ c.fold.ensures.ran (YieldsList-from_slice in_order cc) (λ a x b q k. search (rules, tests))
    ∙ taken_away f a.entries in_order
    ∙ ap (less f a.entries) (sym named_map)

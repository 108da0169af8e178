-- Lists of calls: one behind another, and one call more.
-- Assumes nothing.
use Rattle.std.proofs.Common.{◌≡◌, refl, ap, false, List, [], ◌∷◌, ◌++◌, length}
use Rattle.std.specs.List.{slice_get}
use Rattle.std.specs.declared.option.Option.TheVariants.{Some}
use Rattle.weigh.specs.PlainWeigh.{Weigh, Call, step}
use Rattle.dosing.specs.LastRecipe.{step_all, said_all, loads, is_reset, NoneLoaded, NoReset}

pub again : (xs ys zs : List Call) → (xs ++ ys) ++ zs ≡ xs ++ (ys ++ zs)
again [] ys zs = refl
again (x ∷ xs) ys zs = ap (λ (l : List Call). x ∷ l) (again xs ys zs)

pub at_end : (xs : List Call) → xs ++ [] ≡ xs
at_end [] = refl
at_end (x ∷ xs) = ap (λ (l : List Call). x ∷ l) (at_end xs)

pub run_on : (w : Weigh) (xs ys : List Call) → step_all w (xs ++ ys) ≡ step_all (step_all w xs) ys
unfolding step_all
run_on w [] ys = refl
run_on w (x ∷ xs) ys = run_on (step w x).head xs ys

pub run_behind :
    (w : Weigh) (before : List Call) (c : Call) (after : List Call) →
    step_all w (before ++ (c ∷ after)) ≡ step_all (step (step_all w before) c).head after
unfolding step_all
run_behind w before c after = run_on w before (c ∷ after)

pub run_then : (w : Weigh) (xs : List Call) (c : Call) → step_all w (xs ++ (c ∷ [])) ≡ (step (step_all w xs) c).head
unfolding step_all
run_then w xs c = run_behind w xs c []

pub none_loaded_then :
    (w : Weigh) (xs : List Call) (c : Call) → NoneLoaded w xs → loads (step_all w xs) c ≡ false → NoneLoaded w (xs ++ (c ∷ []))
unfolding NoneLoaded step_all
none_loaded_then w [] c h e = (e, tt)
none_loaded_then w (x ∷ xs) c h e = (h.0, none_loaded_then (step w x).head xs c h.1 e)

pub no_reset_then :
    (w : Weigh) (xs : List Call) (c : Call) → NoReset w xs → is_reset (step_all w xs) c ≡ false → NoReset w (xs ++ (c ∷ []))
unfolding NoReset step_all
no_reset_then w [] c h e = (e, tt)
no_reset_then w (x ∷ xs) c h e = (h.0, no_reset_then (step w x).head xs c h.1 e)

-- the answer in a call's place
pub said_there :
    (w : Weigh) (before : List Call) (c : Call) (after : List Call) →
    slice_get (said_all w (before ++ (c ∷ after))) (length before) ≡ Some (step (step_all w before) c).answer
unfolding said_all step_all
said_there w [] c after = refl
said_there w (x ∷ before) c after = said_there (step w x).head before c after

-- One entry, a crossing's, and no other: of an entry by its parts, of a list by its first two.
-- Assumes nothing.
use mathlib.Core.Path.{◌≡◌, refl, sym, ap}
use mathlib.Core.Bool.{Bool, true, false, not, ◌&&◌}
use mathlib.Core.List.{List, [], ◌∷◌}
use Rattle.std.proofs.Common.{rules, is_some}
use Rattle.types.specs.contracts.common.NetTimePartialEq.TheImpl as a-time
use Rattle.types.specs.declared.common.NetTime.{NetTime}
use Rattle.entries.specs.Ring.{nth}
use Rattle.entries.specs.contracts.status_response.EntryTypePartialEq.TheImpl as a-type
use Rattle.entries.specs.contracts.status_response.ErrorEntryPartialEq.TheImpl as an-entry
use Rattle.entries.specs.declared.status_response.EntryType.{EntryType}
use Rattle.entries.specs.declared.status_response.ErrorEntry.{ErrorEntry}
use Rattle.std.specs.Option.{option_eq}
use Rattle.std.specs.declared.option.Option.{Option}
use Rattle.std.specs.declared.option.Option.TheVariants.{Some, None}
use Rattle.examples.specs.Same.{Exactly}
use Rattle.examples.proofs.Exact.{exact_number, exact_by, exact_and, exact_is, no}
use Rattle.examples.proofs.Answering.{clash, never, always}

exact_type : (x y : EntryType) (r : Bool) → r ≡ (a-type.ghosts).eq x y → Exactly r (x ≡ y)
exact_type x y r e = search rules

exact_time : (x y : NetTime) (r : Bool) → r ≡ (a-time.ghosts).eq x y → Exactly r (x ≡ y)
exact_time x y r e = search rules

exact_entry : (x y : ErrorEntry) (r : Bool) → r ≡ (an-entry.ghosts).eq x y → Exactly r (x ≡ y)
exact_entry x y r e =
    exact_is e
    (exact_by (exact_and (exact_type _ _ _ refl) (exact_and (exact_number _ _) (exact_and (exact_time _ _ _ refl) (exact_number _ _))))
    (λ h. λ i. record { entry_type = h.0 i; error_code = h.1.0 i; timestamp = h.1.1.0 i; additional_information = h.1.1.1 i })
    (λ e. (ap (λ z. z.entry_type) e, (ap (λ z. z.error_code) e, (ap (λ z. z.timestamp) e, ap (λ z. z.additional_information) e)))))

pub exact_found : (x : Option ErrorEntry) (y : ErrorEntry) (r : Bool) → r ≡ option_eq ((an-entry.ghosts).eq) x (Some y) → Exactly r (x ≡ Some y)
exact_found (Some x) y r e = exact_by (exact_entry x y r e) (ap Some) (λ h. cc)
exact_found None y r e = exact_is e (never (λ h. clash (cc)))

pub none_exactly : (x : Option ErrorEntry) (r : Bool) → is_some x ≡ not r → Exactly r (x ≡ None)
none_exactly None true e = always refl
none_exactly None false e = no e
none_exactly (Some a) true e = no (sym e)
none_exactly (Some a) false e = never (λ h. clash (cc))

pub exact_only :
    (l : List ErrorEntry) (e : ErrorEntry) {x y : Bool} →
    Exactly x (nth l 0 ≡ Some e) →
    Exactly y (nth l 1 ≡ None) →
    Exactly (x && y) (l ≡ e ∷ [])
unfolding nth
exact_only [] e x y = exact_by (exact_and x y) (λ h. let h₀ = h.0 in absurd (clash (cc))) (λ h. absurd (clash (cc)))
exact_only (a ∷ []) e x y =
    exact_by (exact_and x y) (λ h. let h₀ = h.0 in let f : a ≡ e = cc in ap (λ (z : ErrorEntry). z ∷ []) f) (λ h. let f : a ≡ e = cc in (ap Some f, refl))
exact_only (a ∷ b ∷ l) e x y = exact_by (exact_and x y) (λ h. let h₁ = h.1 in absurd (clash (cc))) (λ h. absurd (clash (cc)))

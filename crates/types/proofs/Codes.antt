-- The kind behind a code: the answer names the one kind that has the code, and there is no other refusal than 13.
-- Assumes nothing.
use Prim.Native.Nat.{ℕ, ◌<◌}
use mathlib.Core.Path.{◌≡◌, refl, sym, ap, ◌∙◌}
use mathlib.Core.List.{List, [], ◌∷◌}
use mathlib.Core.Bool.{Bool, true, false}
use native.Mathlib.Omega.{arith}
use lib.Dec.{eqb, leb}
use borrow.Author.Tests.{eqb-true, eqb-false, leb-true}
use Rattle.types.specs.Refusals.{refusal_number}
use Rattle.types.specs.Kinds.{kind_place, kind_code, error_kinds, kind_at, put_if, with_code, kind_number, refused_by, single, kind_behind, kind_said, Names}
use Rattle.types.specs.declared.frame.error.kinds.DllErrorKind.{DllErrorKind}
use Rattle.types.specs.declared.frame.error.kinds.DllErrorKind.TheVariants.{LossOfLink, BadPhysicalMode, MacBuffer, Crc, Collision, InvalidFormat, LossOfSoc, LossOfSoa, LossOfPreq, LossOfPres, LossOfStatusRes, CycleTimeExceeded, LatePres, SoCJitter, MsWaitSoc, MultipleMn, AddressConflict, MevAsndTimeout, UnexpectedEventInState, PdoMapVersion, PdoPayloadShort, HeartbeatTimeout}
use Rattle.std.specs.declared.result.Result.{Result}
use Rattle.std.specs.declared.result.Result.TheVariants.{Ok, Err}
use Rattle.types.specs.declared.refusals.Refusal.{Refusal}
use Rattle.types.proofs.Cases.{DllErrorKinds, everywhere, each_item}
use Rattle.std.specs.List.{AllByRecursion}
use Rattle.types.proofs.Refused.{number_fixes}

-- a list of kinds of which none has the code, or k alone
none_has : (P : DllErrorKind → Type 0) (c : ℕ) (ks : List DllErrorKind) → with_code c ks ≡ [] → AllByRecursion (λ j. kind_code j ≡ c → P j) ks
none_has P c [] e = tt
none_has P c (x ∷ xs) e = by (eqb (kind_code x) c) refl e (none_has P c xs)
  where
    by :
        (b : Bool) →
        eqb (kind_code x) c ≡ b →
        put_if b x (with_code c xs) ≡ [] →
        (with_code c xs ≡ [] → AllByRecursion (λ j. kind_code j ≡ c → P j) xs) →
        (kind_code x ≡ c → P x) × AllByRecursion (λ j. kind_code j ≡ c → P j) xs
    by true t h rest = let z : ◌≡◌ {A = ℕ} 0 1 = cc in absurd (omega arith)
    by false t h rest = (λ k. absurd (eqb-false (kind_code x) c t k), rest h)

one_has :
    (c : ℕ) (k : DllErrorKind) (ks : List DllErrorKind) →
    with_code c ks ≡ k ∷ [] →
    (kind_code k ≡ c) × AllByRecursion (λ j. kind_code j ≡ c → j ≡ k) ks
one_has c k [] e = let z : ◌≡◌ {A = ℕ} 0 1 = cc in absurd (omega arith)
one_has c k (x ∷ xs) e = by (eqb (kind_code x) c) refl e (one_has c k xs)
  where
    by :
        (b : Bool) →
        eqb (kind_code x) c ≡ b →
        put_if b x (with_code c xs) ≡ k ∷ [] →
        (with_code c xs ≡ k ∷ [] → (kind_code k ≡ c) × AllByRecursion (λ j. kind_code j ≡ c → j ≡ k) xs) →
        (kind_code k ≡ c) × ((kind_code x ≡ c → x ≡ k) × AllByRecursion (λ j. kind_code j ≡ c → j ≡ k) xs)
    by true t h rest =
        let same : x ≡ k = cc in
        let none_left : with_code c xs ≡ [] = cc in
        (ap kind_code (sym same) ∙ eqb-true (kind_code x) c t, (λ _. same, none_has (λ j. j ≡ k) c xs none_left))
    by false t h rest = let r = rest h in (r.0, (λ q. absurd (eqb-false (kind_code x) c t q), r.1))

at_place : (k : DllErrorKind) → kind_at (kind_place k) ≡ k
at_place = everywhere DllErrorKinds (λ (k : DllErrorKind). kind_at (kind_place k)) (λ (k : DllErrorKind). k) refl refl

-- no two kinds have one place
place_fixes : (j k : DllErrorKind) → kind_place j ≡ kind_place k → j ≡ k
place_fixes j k e = sym (at_place j) ∙ ap kind_at e ∙ at_place k

-- the promise fixes the answer
pub said_fixes : (r s : Result DllErrorKind Refusal) → kind_said r ≡ kind_said s → r ≡ s
said_fixes (Ok j) (Ok k) e = let p : kind_place j ≡ kind_place k = cc in ap Ok (place_fixes j k p)
said_fixes (Ok j) (Err r) e = let z : ◌≡◌ {A = ℕ} 0 1 = cc in absurd (omega arith)
said_fixes (Err r) (Ok k) e = let z : ◌≡◌ {A = ℕ} 0 1 = cc in absurd (omega arith)
said_fixes (Err r) (Err s) e =
    let n : refusal_number r ≡ refusal_number s = cc in
    ap Err (number_fixes {r = r} {s = s} n)

taken_one : (ks : List DllErrorKind) (k : DllErrorKind) → single ks ≡ kind_number (kind_place k) → ks ≡ k ∷ []
taken_one [] k e = let z : ◌≡◌ {A = ℕ} 0 1 = cc in absurd (omega arith)
taken_one (j ∷ []) k e =
    let place : kind_place j ≡ kind_place k = cc in
    let same : j ≡ k = place_fixes j k place in
    ap (λ (x : DllErrorKind). x ∷ []) same
taken_one (j ∷ i ∷ ks) k e = let z : ◌≡◌ {A = ℕ} 0 1 = cc in absurd (omega arith)

else_refused :
    (ks : List DllErrorKind) → ((k : DllErrorKind) → single ks ≡ kind_number (kind_place k) → ⊥) → single ks ≡ refused_by 13
else_refused [] h = refl
else_refused (k ∷ []) h = absurd (h k refl)
else_refused (k ∷ j ∷ ks) h = refl

-- the kind answered has the code, and no other kind has it
pub answer_names : (c : ℕ) (k : DllErrorKind) → kind_behind c ≡ kind_number (kind_place k) → Names c k
unfolding kind_behind
answer_names c k e =
    let r = one_has c k error_kinds (taken_one (with_code c error_kinds) k e) in
    (r.0, each_item DllErrorKinds (λ j. kind_code j ≡ c → j ≡ k) r.1 r.1.0)

-- kinds at two places are two
apart : {j k : DllErrorKind} → j ≡ k → (kind_place j ≡ kind_place k → ⊥) → ⊥
apart e h = h (ap kind_place e)

own_answered : (k : DllErrorKind) → ((j : DllErrorKind) → kind_code j ≡ kind_code k → j ≡ k) → kind_behind (kind_code k) ≡ kind_number (kind_place k)
unfolding kind_behind
own_answered LossOfLink h = refl
own_answered BadPhysicalMode h = refl
own_answered MacBuffer h = refl
own_answered Crc h = refl
own_answered Collision h = refl
own_answered InvalidFormat h = refl
own_answered LossOfSoc h = refl
own_answered LossOfSoa h = refl
own_answered LossOfPreq h = refl
own_answered LossOfPres h = refl
own_answered LossOfStatusRes h = refl
own_answered CycleTimeExceeded h = refl
own_answered LatePres h = refl
own_answered SoCJitter h = refl
own_answered MsWaitSoc h = absurd (apart (h MultipleMn refl) (λ e. omega (arith, e)))
own_answered MultipleMn h = absurd (apart (h MsWaitSoc refl) (λ e. omega (arith, e)))
own_answered AddressConflict h = absurd (apart (h MsWaitSoc refl) (λ e. omega (arith, e)))
own_answered MevAsndTimeout h = absurd (apart (h MsWaitSoc refl) (λ e. omega (arith, e)))
own_answered UnexpectedEventInState h = absurd (apart (h MsWaitSoc refl) (λ e. omega (arith, e)))
own_answered PdoMapVersion h = refl
own_answered PdoPayloadShort h = refl
own_answered HeartbeatTimeout h = refl

-- a kind whose code no other kind has is answered
pub named_answered : (c : ℕ) (k : DllErrorKind) → Names c k → kind_behind c ≡ kind_number (kind_place k)
named_answered c k n = ap kind_behind (sym n.0) ∙ own_answered k (λ j e. n.1 j (e ∙ n.0))

-- a code that names no single kind gets 13
pub unnamed_refused : (c : ℕ) → ((k : DllErrorKind) → Names c k → ⊥) → kind_behind c ≡ refused_by 13
unfolding kind_behind
unnamed_refused c h = else_refused (with_code c error_kinds) (λ k e. h k (answer_names c k e))

-- 0x8245 names the kind LossOfSoc; 0x8000 belongs to five kinds and names none
pub seen : kind_behind 0x8245 ≡ kind_number (kind_place LossOfSoc)
unfolding kind_behind
seen = refl

pub shared : kind_behind 0x8000 ≡ refused_by 13
unfolding kind_behind
shared = refl

-- so does every number above 16 bits
pub wide_refused : (c : ℕ) → 65535 < c → kind_behind c ≡ refused_by 13
wide_refused c h = unnamed_refused c (λ k n. fits k n.0)
  where
    fits : (k : DllErrorKind) → kind_code k ≡ c → ⊥
    fits k e =
        let below = leb-true (kind_code k) 65535 (everywhere DllErrorKinds (λ (j : DllErrorKind). leb (kind_code j) 65535) (λ j. true) refl refl k) in
        omega arith

-- The codes that name a single kind, ascending: those of 17 kinds.
-- Assumes nothing.
use Rattle.std.proofs.Common.{◌≡◌, ℕ, suc, ◌+◌, ◌<◌, List, [], ◌∷◌, map, get_or, drop, sym, refl, ap, ◌∙◌, add-one, drop-cons}
use lib.ListN.{get_or-map}
use Rattle.types.specs.Kinds.{kind_code, kind_behind}
use Rattle.types.specs.declared.frame.error.kinds.DllErrorKind.{DllErrorKind}
use Rattle.types.specs.declared.frame.error.kinds.DllErrorKind.TheVariants.{LossOfLink, BadPhysicalMode, MacBuffer, Crc, Collision, InvalidFormat, LossOfSoc, LossOfSoa, LossOfPreq, LossOfPres, LossOfStatusRes, CycleTimeExceeded, LatePres, SoCJitter, PdoMapVersion, PdoPayloadShort, HeartbeatTimeout}
use Rattle.shift.specs.Report.{named_codes}

abbrev pub in_order : List DllErrorKind
in_order =
    BadPhysicalMode ∷
    Collision ∷
    Crc ∷
    LossOfLink ∷
    MacBuffer ∷
    PdoPayloadShort ∷
    PdoMapVersion ∷
    CycleTimeExceeded ∷
    SoCJitter ∷
    LatePres ∷
    InvalidFormat ∷
    LossOfPreq ∷
    LossOfPres ∷
    LossOfSoa ∷
    LossOfSoc ∷
    LossOfStatusRes ∷
    HeartbeatTimeout ∷
    []

pub named_map : named_codes ≡ map kind_code in_order
unfolding named_codes kind_behind
named_map = refl

-- from a place on
pub named_at : (i : ℕ) → i < 17 → drop i named_codes ≡ kind_code (get_or in_order i LossOfLink) ∷ drop (i + 1) named_codes
named_at i h =
    ap (λ (l : List ℕ). drop i l) named_map
    ∙ (drop-cons (map kind_code in_order) i (kind_code LossOfLink) h
    ∙ (ap (λ (c : ℕ). c ∷ drop (suc i) (map kind_code in_order)) (get_or-map kind_code in_order i LossOfLink)
    ∙ rw add-one (ap (λ (l : List ℕ). kind_code (get_or in_order i LossOfLink) ∷ drop (suc i) l) (sym named_map))))

pub named_end : drop 17 named_codes ≡ []
named_end = ap (λ (l : List ℕ). drop 17 l) named_map

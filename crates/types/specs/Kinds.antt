-- The kinds of DLL errors, without what an error carries: their places, their codes (DS 301,
-- Appendix 3.9), and the kind behind a code.
-- Assumes nothing.
use Rattle.std.specs.Prelude.{ℕ, ◌≡◌, Bool, true, false, List, [], ◌∷◌, eqb, get_or}
use Rattle.types.specs.Pick.{read_by}
use Rattle.types.specs.Refusals.{refusal_number}
use Rattle.types.specs.declared.refusals.Refusal.TheVariants.{UnknownNumber}
use Rattle.types.specs.declared.frame.error.kinds.DllErrorKind.{DllErrorKind}
use Rattle.types.specs.declared.frame.error.kinds.DllErrorKind.TheVariants.{LossOfLink, BadPhysicalMode, MacBuffer, Crc, Collision, InvalidFormat, LossOfSoc, LossOfSoa, LossOfPreq, LossOfPres, LossOfStatusRes, CycleTimeExceeded, LatePres, SoCJitter, MsWaitSoc, MultipleMn, AddressConflict, MevAsndTimeout, UnexpectedEventInState, PdoMapVersion, PdoPayloadShort, HeartbeatTimeout}
use Rattle.std.specs.declared.result.Result.{Result}
use Rattle.std.specs.declared.result.Result.TheVariants.{Ok, Err}
use Rattle.types.specs.declared.refusals.Refusal.{Refusal}

-- a kind's place in the enum, from 0
abbrev pub kind_place : DllErrorKind → ℕ
kind_place LossOfLink = 0
kind_place BadPhysicalMode = 1
kind_place MacBuffer = 2
kind_place Crc = 3
kind_place Collision = 4
kind_place InvalidFormat = 5
kind_place LossOfSoc = 6
kind_place LossOfSoa = 7
kind_place LossOfPreq = 8
kind_place LossOfPres = 9
kind_place LossOfStatusRes = 10
kind_place CycleTimeExceeded = 11
kind_place LatePres = 12
kind_place SoCJitter = 13
kind_place MsWaitSoc = 14
kind_place MultipleMn = 15
kind_place AddressConflict = 16
kind_place MevAsndTimeout = 17
kind_place UnexpectedEventInState = 18
kind_place PdoMapVersion = 19
kind_place PdoPayloadShort = 20
kind_place HeartbeatTimeout = 21

-- the code that an entry of such an error has: that of its threshold, where it has one. Five kinds
-- share 0x8000, as in the Rust; where Wireshark's dissector names another code, or none,
-- docs/DIFFERENCES.md has a row
abbrev pub kind_code : DllErrorKind → ℕ
kind_code LossOfLink = 0x8165
kind_code BadPhysicalMode = 0x8161
kind_code MacBuffer = 0x8166
kind_code Crc = 0x8164
kind_code Collision = 0x8163
kind_code InvalidFormat = 0x8241
kind_code LossOfSoc = 0x8245
kind_code LossOfSoa = 0x8244
kind_code LossOfPreq = 0x8242
kind_code LossOfPres = 0x8243
kind_code LossOfStatusRes = 0x8246
kind_code CycleTimeExceeded = 0x8233
kind_code LatePres = 0x8236
kind_code SoCJitter = 0x8235
kind_code MsWaitSoc = 0x8000
kind_code MultipleMn = 0x8000
kind_code AddressConflict = 0x8000
kind_code MevAsndTimeout = 0x8000
kind_code UnexpectedEventInState = 0x8000
kind_code PdoMapVersion = 0x8211
kind_code PdoPayloadShort = 0x8210
kind_code HeartbeatTimeout = 0x8250

-- all kinds, in the order of the enum
abbrev pub error_kinds : List DllErrorKind
error_kinds =
    LossOfLink ∷
    BadPhysicalMode ∷
    MacBuffer ∷
    Crc ∷
    Collision ∷
    InvalidFormat ∷
    LossOfSoc ∷
    LossOfSoa ∷
    LossOfPreq ∷
    LossOfPres ∷
    LossOfStatusRes ∷
    CycleTimeExceeded ∷
    LatePres ∷
    SoCJitter ∷
    MsWaitSoc ∷
    MultipleMn ∷
    AddressConflict ∷
    MevAsndTimeout ∷
    UnexpectedEventInState ∷
    PdoMapVersion ∷
    PdoPayloadShort ∷
    HeartbeatTimeout ∷
    []

-- the kind of a number, or the refusal UnknownNumber
unfoldable pub read_kind : ℕ → Result DllErrorKind Refusal
read_kind n = read_by kind_place Ok (Err UnknownNumber) error_kinds n

-- the kind at a place; LossOfLink where no kind has the place
abbrev pub kind_at : ℕ → DllErrorKind
kind_at n = get_or error_kinds n LossOfLink

-- the kinds ks with k in front where the test holds, and ks alone where it does not
abbrev pub put_if : Bool → DllErrorKind → List DllErrorKind → List DllErrorKind
put_if true k ks = k ∷ ks
put_if false k ks = ks

-- those of some kinds that have the code c
abbrev pub with_code : ℕ → List DllErrorKind → List DllErrorKind
with_code c [] = []
with_code c (k ∷ ks) = put_if (eqb (kind_code k) c) k (with_code c ks)

-- what a code answers: the place of a kind, or the number of a refusal
pub data CodeAnswer : Type 0 where
  -- the place of the one kind that has the code
  kind_number : ℕ → CodeAnswer
  -- the number of the refusal
  refused_by : ℕ → CodeAnswer

-- of the kinds that have a code: the one kind, or 13, NoSingleKind, where there is none or more
-- than one
abbrev pub single : List DllErrorKind → CodeAnswer
single [] = refused_by 13
single (k ∷ []) = kind_number (kind_place k)
single (k ∷ j ∷ ks) = refused_by 13

-- the kind behind a code (RULES 6.7): of all kinds the one that has it, or 13, NoSingleKind
unfoldable pub kind_behind : ℕ → CodeAnswer
kind_behind c = single (with_code c error_kinds)

-- what `from_error_code` answers: the place of a kind, or the number of a refusal
abbrev pub kind_said : Result DllErrorKind Refusal → CodeAnswer
kind_said (Ok k) = kind_number (kind_place k)
kind_said (Err r) = refused_by (refusal_number r)

-- k is the one kind that has the code c
abbrev pub Names : ℕ → DllErrorKind → Type 0
Names c k = (kind_code k ≡ c) × ((j : DllErrorKind) → kind_code j ≡ c → j ≡ k)

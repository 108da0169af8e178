-- The reading of a frame: what is read is what the bytes say, each refusal is given exactly where
-- its reason holds, and what stands behind the bytes that are read is not looked at.
-- Assumes nothing.
use Prim.Native.Nat.{ℕ, ◌<◌}
use mathlib.Core.Path.{◌≡◌, refl, sym, ap, subst, ◌∙◌}
use mathlib.Core.Logic.{◌↔◌, ◌≢◌}
use mathlib.Core.List.{List, [], ◌∷◌, ◌++◌}
use mathlib.Core.Bool.{Bool, true, false}
use native.Mathlib.Omega.{arith}
use lib.Dec.{eqb, leb}
use lib.ListN.{length, drop}
use Rattle.std.proofs.Common.{append_assoc}
use borrow.Author.Tests.{eqb-true, eqb-false, ne_eqb, leb-true, leb-false}
use Rattle.std.proofs.lemmas.List.{drop-append-le, drop_all}
use Rattle.types.specs.Pick.{pick, both}
use Rattle.types.specs.Frames.{message_number, read_message}
use Rattle.types.specs.Events.{command_number, commands, read_command}
use Rattle.types.specs.declared.types.MessageType.{MessageType}
use Rattle.types.specs.declared.types.MessageType.TheVariants as kind
use Rattle.types.specs.declared.types.UnknownMessageType.{UnknownMessageType}
use Rattle.types.specs.declared.refusals.Refusal.{Refusal}
use Rattle.types.specs.declared.refusals.Refusal.TheVariants.{FrameTooShort, OtherEtherType, OtherMessageType, UnknownNumber}
use Rattle.types.specs.declared.nmt.events.NmtStateCommand.{NmtStateCommand}
use Rattle.std.specs.List.{AllByRecursion}
use Rattle.types.proofs.Reading.{reads_holds}
use Rattle.types.proofs.Cases.{first_same, rest_same}
use Rattle.types.proofs.RoundTrips.{messages_faithful, commands_faithful}
use Rattle.std.specs.declared.result.Result.{Result}
use Rattle.std.specs.declared.result.Result.TheVariants.{Ok, Err}
use Rattle.frames.specs.declared.Service.{Service}
use Rattle.frames.specs.declared.Service.TheVariants.{NmtCommand, Other}
use Rattle.frames.specs.declared.Message.{Message}
use Rattle.frames.specs.declared.Message.TheVariants.{SoC, PReq, PRes, SoA, ASnd}
use Rattle.frames.specs.declared.Frame.{Frame}
use Rattle.frames.specs.Frame.{message_type, nmt_command, read_nmt_command, read_service, asnd, read_payload, by_type, addressed, from_ether_type, read_frame}
use Rattle.frames.specs.Reading.{service_bytes, payload_bytes, frame_bytes, HasItsId, IsFrame, IsRefused, short, other_ether_type, other_message_type, no_service, no_command, other_command}

-- what a reading says of the bytes from 12 on
abbrev Says : List ℕ → Result Frame Refusal → Type 0
Says b (Ok f) = IsFrame b f
Says b (Err r) = IsRefused b r

zero_is_not_one : ◌≡◌ {A = ℕ} 0 1 → ⊥
zero_is_not_one z = omega arith

-- no reading both gives and refuses
apart : {A : Type 0} {f : Frame} {r : Refusal} → Ok f ≡ Err r → A
apart {f = f} {r = r} e = absurd (zero_is_not_one cc)

-- a command's number that is refused is no command's
given : (cs : List NmtStateCommand) → AllByRecursion (λ (c : NmtStateCommand). (r : Refusal) → ◌≡◌ {A = Result NmtStateCommand Refusal} (Ok c) (Err r) → r ≡ UnknownNumber) cs
given [] = tt
given (c ∷ cs) = (λ r e. cc, given cs)

unknown : (n : ℕ) (r : Refusal) → read_command n ≡ Err r → r ≡ UnknownNumber
unfolding read_command
unknown n =
    reads_holds command_number Ok (Err UnknownNumber)
    (λ k a. (r : Refusal) → a ≡ Err r → r ≡ UnknownNumber) commands n (λ r e. cc) (given commands)

no_such_command : (n : ℕ) (r : Refusal) → read_command n ≡ Err r → (c : NmtStateCommand) → n ≢ command_number c
no_such_command n r e c z = zero_is_not_one (differs (sym e ∙ ap read_command z ∙ commands_faithful.back c))
  where
    differs : ◌≡◌ {A = Result NmtStateCommand Refusal} (Err r) (Ok c) → ◌≡◌ {A = ℕ} 0 1
    differs x = cc

no_such_message : (n : ℕ) (u : UnknownMessageType) → read_message n ≡ Err u → (m : MessageType) → n ≢ message_number m
no_such_message n u e m z = zero_is_not_one (differs (sym e ∙ ap read_message z ∙ messages_faithful.back m))
  where
    differs : ◌≡◌ {A = Result MessageType UnknownMessageType} (Err u) (Ok m) → ◌≡◌ {A = ℕ} 0 1
    differs x = cc

-- an ASnd, from its destination on
module _ (d s : ℕ) where
  abbrev head : MessageType → List ℕ → List ℕ
  head m p = 0x88 ∷ 0xAB ∷ message_number m ∷ d ∷ s ∷ p

  command_says :
      (n : ℕ) (p : List ℕ) (r : Result NmtStateCommand Refusal) →
      read_command n ≡ r →
      Says (head kind.ASnd (4 ∷ n ∷ p)) (addressed d s (asnd (nmt_command r)))
  command_says n p (Ok c) e =
      record {
        rest = p;
        begins = ap (λ (n : ℕ). head kind.ASnd (4 ∷ n ∷ p)) (commands_faithful.only n c e);
        service = tt;
      }
  command_says n p (Err r) e =
      subst (IsRefused (head kind.ASnd (4 ∷ n ∷ p))) (sym (unknown n r e)) (other_command (no_such_command n r e))

  four_says : (p : List ℕ) → Says (head kind.ASnd (4 ∷ p)) (addressed d s (asnd (read_nmt_command p)))
  four_says [] = no_command
  four_says (n ∷ p) = command_says n p (read_command n) refl

  asnd_says : (p : List ℕ) → Says (head kind.ASnd p) (addressed d s (asnd (read_service p)))
  unfolding read_service
  asnd_says [] = no_service
  asnd_says (v ∷ p) = by (eqb v 4) refl
    where
      by :
          (b : Bool) →
          eqb v 4 ≡ b →
          Says (head kind.ASnd (v ∷ p)) (addressed d s (asnd (pick b (read_nmt_command p) (Ok (Other v)))))
      by true e =
          subst (λ (v : ℕ). Says (head kind.ASnd (v ∷ p)) (addressed d s (asnd (read_nmt_command p))))
          (sym (eqb-true v 4 e)) (four_says p)
      by false e = record { rest = p; begins = refl; service = eqb-false v 4 e }

  payload_says : (m : MessageType) (p : List ℕ) → Says (head m p) (addressed d s (read_payload m p))
  payload_says kind.SoC p = record { rest = p; begins = refl; service = tt }
  payload_says kind.PReq p = record { rest = p; begins = refl; service = tt }
  payload_says kind.PRes p = record { rest = p; begins = refl; service = tt }
  payload_says kind.SoA p = record { rest = p; begins = refl; service = tt }
  payload_says kind.ASnd p = asnd_says p

  typed_says :
      (t : ℕ) (p : List ℕ) (r : Result MessageType UnknownMessageType) →
      read_message t ≡ r →
      Says (0x88 ∷ 0xAB ∷ t ∷ d ∷ s ∷ p) (addressed d s (by_type r p))
  typed_says t p (Ok m) e =
      subst (λ (t : ℕ). Says (0x88 ∷ 0xAB ∷ t ∷ d ∷ s ∷ p) (addressed d s (read_payload m p)))
      (sym (messages_faithful.only t m e)) (payload_says m p)
  typed_says t p (Err u) e = other_message_type (no_such_message t u e)

says : (b : List ℕ) → Says b (from_ether_type b)
says [] = short (omega arith)
says (h ∷ []) = short (omega arith)
says (h ∷ l ∷ []) = short (omega arith)
says (h ∷ l ∷ t ∷ []) = short (omega arith)
says (h ∷ l ∷ t ∷ d ∷ []) = short (omega arith)
says (h ∷ l ∷ t ∷ d ∷ s ∷ p) = by (eqb h 0x88) (eqb l 0xAB) refl refl
  where
    by :
        (a b : Bool) →
        eqb h 0x88 ≡ a →
        eqb l 0xAB ≡ b →
        Says (h ∷ l ∷ t ∷ d ∷ s ∷ p)
        (pick (both a b) (addressed d s (by_type (read_message t) p)) (Err OtherEtherType))
    by true true f g =
        subst (λ (h : ℕ). Says (h ∷ l ∷ t ∷ d ∷ s ∷ p) (addressed d s (by_type (read_message t) p)))
        (sym (eqb-true h 0x88 f))
        (subst (λ (l : ℕ). Says (0x88 ∷ l ∷ t ∷ d ∷ s ∷ p) (addressed d s (by_type (read_message t) p)))
        (sym (eqb-true l 0xAB g)) (typed_says d s t p (read_message t) refl))
    by true false f g = other_ether_type (λ e. eqb-false l 0xAB g (first_same (rest_same e)))
    by false b f g = other_ether_type (λ e. eqb-false h 0x88 f (first_same e))

-- AND BACK: the bytes of a frame are read as it
service_given : (v : Service) (p : List ℕ) → HasItsId (ASnd v) → read_service (service_bytes v ++ p) ≡ Ok v
unfolding read_service
service_given (NmtCommand c) p n = ap nmt_command (commands_faithful.back c)
service_given (Other v) p n = ap (λ (b : Bool). pick b (read_nmt_command p) (Ok (Other v))) (ne_eqb v 4 n)

message_given : (m : Message) (p : List ℕ) → HasItsId m → by_type (read_message (message_number (message_type m))) (payload_bytes m ++ p) ≡ Ok m
unfolding read_message
message_given SoC p n = refl
message_given PReq p n = refl
message_given PRes p n = refl
message_given SoA p n = refl
message_given (ASnd v) p n = ap asnd (service_given v p n)

frame_given : (b : List ℕ) (f : Frame) → IsFrame b f → from_ether_type b ≡ Ok f
frame_given b f x =
    ap from_ether_type x.begins ∙ ap (addressed f.destination f.source) (message_given f.message x.rest x.service)

-- and those that have a reason are refused for it
refusal_given : (b : List ℕ) (r : Refusal) → IsRefused b r → from_ether_type b ≡ Err r
unfolding read_message read_service
refusal_given b r (short n) = by b n
  where
    by : (b : List ℕ) → length b < 5 → from_ether_type b ≡ Err FrameTooShort
    by [] n = refl
    by (h ∷ []) n = refl
    by (h ∷ l ∷ []) n = refl
    by (h ∷ l ∷ t ∷ []) n = refl
    by (h ∷ l ∷ t ∷ d ∷ []) n = refl
    by (h ∷ l ∷ t ∷ d ∷ s ∷ p) n = absurd (omega arith)
refusal_given b r (other_ether_type {high = h} {low = l} {type = t} {destination = d} {source = s} {payload = p} n) =
    by (eqb h 0x88) (eqb l 0xAB) refl refl
  where
    by :
        (x y : Bool) → eqb h 0x88 ≡ x → eqb l 0xAB ≡ y →
        pick (both x y) (addressed d s (by_type (read_message t) p)) (Err OtherEtherType) ≡ Err OtherEtherType
    by true true f g = absurd (n (λ i. eqb-true h 0x88 f i ∷ eqb-true l 0xAB g i ∷ []))
    by true false f g = refl
    by false y f g = refl
refusal_given b r (other_message_type {type = t} {destination = d} {source = s} {payload = p} n) = by (read_message t) refl
  where
    by : (x : Result MessageType UnknownMessageType) → read_message t ≡ x → addressed d s (by_type x p) ≡ Err OtherMessageType
    by (Ok m) e = absurd (n m (messages_faithful.only t m e))
    by (Err u) e = refl
refusal_given b r no_service = refl
refusal_given b r no_command = refl
refusal_given b r (other_command {destination = d} {source = s} {command = k} {rest = p} n) = by (read_command k) refl
  where
    by : (x : Result NmtStateCommand Refusal) → read_command k ≡ x → addressed d s (asnd (nmt_command x)) ≡ Err UnknownNumber
    by (Ok c) e = absurd (n c (commands_faithful.only k c e))
    by (Err r) e = ap Err (unknown k r e)

-- THE LAW
pub frames_lem : (b : List ℕ) (f : Frame) → (read_frame b ≡ Ok f) ↔ IsFrame (drop 12 b) f
unfolding read_frame
frames_lem b f = (λ e. subst (Says (drop 12 b)) e (says (drop 12 b)), frame_given (drop 12 b) f)

pub refusals_lem : (b : List ℕ) (r : Refusal) → (read_frame b ≡ Err r) ↔ IsRefused (drop 12 b) r
unfolding read_frame
refusals_lem b r = (λ e. subst (Says (drop 12 b)) e (says (drop 12 b)), refusal_given (drop 12 b) r)

-- what stands behind
later_frame : {b : List ℕ} {f : Frame} (m : List ℕ) → IsFrame b f → IsFrame (b ++ m) f
later_frame {f = f} m x =
    record {
      rest = x.rest ++ m;
      begins = ap (λ (b : List ℕ). b ++ m) x.begins ∙ append_assoc (frame_bytes f) x.rest m;
      service = x.service;
    }

later_refusal : {b : List ℕ} {r : Refusal} (m : List ℕ) → IsRefused b r → r ≢ FrameTooShort → IsRefused (b ++ m) r
later_refusal m (short n) z = absurd (z refl)
later_refusal m (other_ether_type n) z = other_ether_type n
later_refusal m (other_message_type n) z = other_message_type n
later_refusal m no_service z = absurd (z refl)
later_refusal m no_command z = absurd (z refl)
later_refusal m (other_command n) z = other_command n

later : (b m : List ℕ) → from_ether_type b ≢ Err FrameTooShort → from_ether_type (b ++ m) ≡ from_ether_type b
later b m n = by (from_ether_type b) refl (says b)
  where
    by : (x : Result Frame Refusal) → from_ether_type b ≡ x → Says b x → from_ether_type (b ++ m) ≡ x
    by (Ok f) e x = frame_given (b ++ m) f (later_frame m x)
    by (Err r) e x = refusal_given (b ++ m) r (later_refusal m x (λ z. n (e ∙ ap Err z)))

pub behind_lem : (b m : List ℕ) → read_frame b ≢ Err FrameTooShort → read_frame (b ++ m) ≡ read_frame b
unfolding read_frame
behind_lem b m n = by (leb 12 (length b)) refl
  where
    by : (x : Bool) → leb 12 (length b) ≡ x → from_ether_type (drop 12 (b ++ m)) ≡ from_ether_type (drop 12 b)
    by true e = ap from_ether_type (drop-append-le 12 b m (leb-true 12 (length b) e)) ∙ later (drop 12 b) m n
    by false e =
        let l = leb-false 12 (length b) e in
        absurd (n (ap from_ether_type (drop_all 12 b (omega (arith, l)))))

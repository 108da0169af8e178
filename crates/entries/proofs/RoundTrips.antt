-- Round trips of the public functions, from their contracts alone: what one leaves is given to the other.
-- κs: the lifetimes; a, b: the arguments; x, y: what is lent, as it is left.
-- Assumes nothing.
use Prim.Native.Nat.{ℕ, ◌+◌, ◌≤◌}
use mathlib.Core.Path.{◌≡◌, refl, sym, ap, subst, ◌∙◌}
use mathlib.Core.Bool.{Bool, true, false, true≢false}
use mathlib.Core.List.{List, [], append-nil}
use native.Mathlib.Omega.{arith}
use lib.Dec.{leb}
use borrow.Author.Tests.{le-leb, leb-true}
use lib.ListN.{length, take, drop}
use lib.Seq.{take_all}
use Rattle.types.specs.Pick.{pick}
use Rattle.types.proofs.Refused.{number_fixes}
use Rattle.types.specs.declared.refusals.Refusal.{Refusal}
use Rattle.entries.specs.declared.status_response.ErrorEntry.{ErrorEntry}
use Rattle.std.specs.declared.result.Result.{Result}
use Rattle.std.specs.declared.result.Result.TheVariants.{Ok, Err}
use Rattle.entries.specs.Entry.{Bytes, FitsBytes, entry_bytes, entry_in}
use Rattle.entries.specs.Ring.{written}
use Rattle.entries.specs.Desk.{Reply, write_said, read_said, room_at, write_reply, unless_turned_away, desk_after, read_reply}
use Rattle.entries.proofs.Entries.{entry_long, entry_read, entry_written, entry_in_fits, read_back, write_back, later}
use Rattle.entries.proofs.Written.{kept_before, kept_behind, written_long}
use Rattle.entries.proofs.DeskLaws.{no_room, no_profile, wrote}
use Rattle.entries.proofs.desk.write_at.Reads as write-at
use Rattle.entries.proofs.desk.read_at.Reads as read_at
use Rattle.entries.proofs.status_response.ErrorEntry.serialize.Reads as serialize
use Rattle.entries.proofs.status_response.ErrorEntry.deserialize.Reads as deserialize

-- What an answer says fixes it.
abbrev number_of : {A : Type 0} → Reply A → ℕ
number_of (Reply.turned_away n) = n
number_of (Reply.gives a) = 0

abbrev declines : {A : Type 0} → Reply A → Bool
declines (Reply.turned_away n) = true
declines (Reply.gives a) = false

abbrev given : {A : Type 0} → A → Reply A → A
given other (Reply.turned_away n) = other
given other (Reply.gives a) = a

apart : {A B : Type 0} {r s : Reply A} → r ≡ s → declines r ≡ true → declines s ≡ false → B
apart e p q = absurd (true≢false (sym p ∙ ap declines e ∙ q))

pub write_fixed : (a b : Result (Unit {0}) Refusal) → write_said a ≡ write_said b → a ≡ b
write_fixed (Ok _) (Ok _) e = refl
write_fixed (Ok _) (Err s) e = apart (sym e) refl refl
write_fixed (Err r) (Ok _) e = apart e refl refl
write_fixed (Err r) (Err s) e = ap Err (number_fixes (ap number_of e))

pub read_fixed : (a b : Result ErrorEntry Refusal) → read_said a ≡ read_said b → a ≡ b
read_fixed (Ok d) (Ok e) p = ap Ok (ap (given d) p)
read_fixed (Ok d) (Err s) p = apart (sym p) refl refl
read_fixed (Err r) (Ok e) p = apart p refl refl
read_fixed (Err r) (Err s) p = ap Err (number_fixes (ap number_of p))

-- of the definitions: a buffer, a place that has room, an entry that fits
module _ (s : List ℕ) (at : ℕ) (room : at + 20 ≤ length s) where
  there : room_at s at ≡ true
  there = le-leb (at + 20) (length s) room

  fits_there : (e : ErrorEntry) → at + length (entry_bytes e) ≤ length s
  fits_there e = omega (arith, entry_long e)

  taken_there : (e : ErrorEntry) → FitsBytes e → (Reply.gives tt ≡ write_reply s at e) × (written s at (entry_bytes e) ≡ desk_after s at e)
  taken_there e f = wrote s at e there (le-leb e.entry_type.profile 4095 (omega (arith, f.profile))) refl

  is_read : (t : List ℕ) → length t ≡ length s → read_reply t at ≡ Reply.gives (entry_in (drop at t))
  unfolding read_reply
  is_read t long = rw (le-leb (at + 20) (length t) (omega arith))

  after_read : (e : ErrorEntry) → FitsBytes e → read_reply (desk_after s at e) at ≡ Reply.gives e
  after_read e f =
      rw (← (taken_there e f).1)
      (is_read (written s at (entry_bytes e)) (written_long s at (entry_bytes e) (fits_there e)) ∙ ap Reply.gives (read_back s at room e f))

-- An entry whose numbers are within their widths, with a profile up to 4095, written at a place where 20 bytes are left and read there, is itself.
pub written_read :
    (κs : _) (a : _) (w : Result (Unit {0}) Refusal) (x : _) →
    write-at.Learnt κs a w x →
    (κs' : _) (b : _) (o : Result ErrorEntry Refusal) (y : _) →
    read_at.Learnt κs' b o y →
    b.0.now ≡ x.0.now →
    b.1.0 ≡ a.1.0 →
    a.1.0 + 20 ≤ length a.0.now →
    FitsBytes a.1.1.0 →
    (w ≡ (Ok tt)) × (o ≡ Ok a.1.1.0)
written_read κs a w x l κs' b o y m same place room f = (
  write_fixed w (Ok tt) (l.0 ∙ sym (taken_there a.0.now a.1.0 room a.1.1.0 f).0),
  read_fixed o (Ok a.1.1.0)
      (m ∙ ap (λ (s : List ℕ). read_reply s b.1.0) (same ∙ l.1) ∙ ap (read_reply (desk_after a.0.now a.1.0 a.1.1.0)) place
      ∙ after_read a.0.now a.1.0 room a.1.1.0 f),
)

-- a read that gave an entry: there was room, and it is the entry there
read_there : (s : List ℕ) (at : ℕ) (e : ErrorEntry) → Reply.gives e ≡ read_reply s at → (at + 20 ≤ length s) × (e ≡ entry_in (drop at s))
unfolding read_reply
read_there s at e g = by (room_at s at) refl g
  where
    by :
        (b : Bool) →
        room_at s at ≡ b →
        Reply.gives e ≡ pick b (Reply.gives (entry_in (drop at s))) (Reply.turned_away 11) →
        (at + 20 ≤ length s) × (e ≡ entry_in (drop at s))
    by true t p = (leb-true (at + 20) (length s) t, ap (given e) p)
    by false t p = apart (sym p) refl refl

-- What was read at a place, written there again, changes nothing, whatever the bytes.
pub read_written :
    (κs : _) (a : _) (e : ErrorEntry) (x : _) →
    read_at.Learnt κs a (Ok e) x →
    (κs' : _) (b : _) (w : Result (Unit {0}) Refusal) (y : _) →
    write-at.Learnt κs' b w y →
    b.0.now ≡ a.0.now →
    b.1.0 ≡ a.1.0 →
    b.1.1.0 ≡ e →
    Bytes a.0.now →
    (w ≡ (Ok tt)) × (y.0.now ≡ a.0.now)
read_written κs a e x l κs' b w y m same place entry bytes =
    again a.0.now a.1.0 e b.0.now b.1.0 b.1.1.0 w y.0.now l m.0 m.1 same place entry bytes
  where
    again :
        (s : List ℕ) (at : ℕ) (e : ErrorEntry) (s₁ : List ℕ) (at₁ : ℕ) (e₁ : ErrorEntry) (w : Result (Unit {0}) Refusal) (s' : List ℕ) →
        Reply.gives e ≡ read_reply s at →
        write_said w ≡ write_reply s₁ at₁ e₁ →
        s' ≡ desk_after s₁ at₁ e₁ →
        s₁ ≡ s →
        at₁ ≡ at →
        e₁ ≡ e →
        Bytes s →
        (w ≡ (Ok tt)) × (s' ≡ s)
    again s at e s₁ at₁ e₁ w s' l m₀ m₁ same place entry bytes =
        let r = read_there s at e l in
        let is : e₁ ≡ entry_in (drop at s) = entry ∙ r.1 in
        let f : FitsBytes (entry_in (drop at s)) = entry_in_fits (drop at s) (later s bytes at) in
        let t = taken_there s at r.0 (entry_in (drop at s)) f in (
          write_fixed w (Ok tt) (rw (same, place, is) at m₀ ∙ sym t.0),
          rw (same, place, is) at m₁ ∙ sym t.1 ∙ write_back s at r.0 bytes,
        )

-- A write that is refused changes no byte.
pub refused_keeps : (κs : _) (a : _) (r : Refusal) (x : _) → write-at.Learnt κs a (Err r) x → x.0.now ≡ a.0.now
unfolding desk_after
refused_keeps κs a r x l =
    l.1 ∙ ap (λ (p : Reply Unit). unless_turned_away p a.0.now (written a.0.now a.1.0 (entry_bytes a.1.1.0))) (sym l.0)

-- Of a run s' beside s: as long, and the same but for the 20 bytes from a place on.
pub record OthersKept (s : List ℕ) (at : ℕ) (s' : List ℕ) : Type 0 where
  pub long : length s' ≡ length s
  pub before : take at s' ≡ take at s
  pub behind : drop (at + 20) s' ≡ drop (at + 20) s

-- Any write keeps all other bytes.
others : (s : List ℕ) (at : ℕ) (e : ErrorEntry) → OthersKept s at (desk_after s at e)
others s at e = by (room_at s at) (leb e.entry_type.profile 4095) refl refl
  where
    none : s ≡ desk_after s at e → OthersKept s at (desk_after s at e)
    none p = rw (← p) (record { long = refl; before = refl; behind = refl })

    some : at + 20 ≤ length s → written s at (entry_bytes e) ≡ desk_after s at e → OthersKept s at (desk_after s at e)
    some room p =
        let fits = fits_there s at room e in
        rw (← p)
        (record {
          long = written_long s at (entry_bytes e) fits;
          before = kept_before s at (entry_bytes e) fits;
          behind = rw (entry_long e) at (kept_behind s at (entry_bytes e) fits);
        })

    by : (b c : Bool) → room_at s at ≡ b → leb e.entry_type.profile 4095 ≡ c → OthersKept s at (desk_after s at e)
    by false c t u = none (no_room s at e t).1
    by true false t u = none (no_profile s at e t u).1
    by true true t u =
        some (leb-true (at + 20) (length s) t) (wrote s at e t u refl).1

pub others_kept :
    (κs : _) (a : _) (w : Result (Unit {0}) Refusal) (x : _) → write-at.Learnt κs a w x → OthersKept a.0.now a.1.0 x.0.now
others_kept κs a w x l = subst (OthersKept a.0.now a.1.0) (sym l.1) (others a.0.now a.1.0 a.1.1.0)

-- 20 bytes as such: any are read as an entry, which is written as them
pub bytes_again :
    (κs : _) (a : _) (e : ErrorEntry) (x : _) →
    deserialize.Learnt κs a e x →
    (κs' : _) (b : _) (r : _) (y : _) →
    serialize.Learnt κs' b r y →
    b.0 ≡ e →
    length a.0 ≡ 20 →
    Bytes a.0 →
    r ≡ a.0
bytes_again κs a e x l κs' b r y m same long bytes =
    m ∙ ap entry_bytes (same ∙ l) ∙ entry_read a.0 bytes (omega arith) ∙ take_all 20 a.0 (omega arith)

pub entry_again :
    (κs : _) (a : _) (r : _) (x : _) →
    serialize.Learnt κs a r x →
    (κs' : _) (b : _) (e : ErrorEntry) (y : _) →
    deserialize.Learnt κs' b e y →
    b.0 ≡ r →
    FitsBytes a.0 →
    e ≡ a.0
entry_again κs a r x l κs' b e y m same f =
    m ∙ ap entry_in (same ∙ l ∙ sym (append-nil (entry_bytes a.0))) ∙ entry_written a.0 [] f

pub asks_nothing :
    ((κs : _) (a : _) → write-at.Asked κs a)
    × ((κs : _) (a : _) → read_at.Asked κs a)
    × ((κs : _) (a : _) → serialize.Asked κs a)
    × ((κs : _) (a : _) → deserialize.Asked κs a)
asks_nothing = (λ κs a. tt, λ κs a. tt, λ κs a. tt, λ κs a. tt)

-- The contracts fix the whole answer: of a call on a head, no two answers meet its contract. That
-- every word is fixed, they say themselves.
-- Assumes nothing.
use Prim.Native.Nat.{ℕ}
use mathlib.Core.Path.{◌≡◌, refl, sym, ap, ◌∙◌}
use mathlib.Core.Bool.{Bool, true, false, true≢false}
use mathlib.Core.List.{List, []}
use lib.IntN.{ℤ, pos}
use Rattle.types.proofs.Refused.{number_fixes}
use Rattle.types.proofs.Reported.{reported_fixes}
use Rattle.types.specs.declared.frame.error.types.DllError.{DllError}
use Rattle.types.specs.declared.frame.error.types.NmtAction.{NmtAction}
use Rattle.types.specs.declared.frame.error.types.NmtAction.TheVariants.{None}
use Rattle.nmt.specs.Resets.{Passed}
use Rattle.nmt.proofs.Fixed.{passed_fixes}
use Rattle.std.specs.declared.result.Result.{Result}
use Rattle.std.specs.declared.result.Result.TheVariants.{Ok, Err}
use Rattle.types.specs.declared.refusals.Refusal.{Refusal}
use Rattle.node.specs.declared.calls.NmtTaken.{NmtTaken}
use Rattle.types.specs.declared.frame.error.types.DllErrors.{DllErrors}
use Rattle.counters.specs.declared.counters.ErrorTaken.{ErrorTaken}
use Rattle.node.specs.declared.range.SocVerdict.{SocVerdict}
use Rattle.node.specs.declared.range.SocVerdict.TheVariants.{Open}
use Rattle.node.specs.Plain.{Call, Answer, refused, taken, nmt_answer, dll_answer, error_answer, cycle_answer, hand_out_answer, tick_answer, range_answer, margin_answer, due_answer, not_ours, frame_answer}
use Rattle.node.specs.InPlace.{InPlace, said, nmt_said, dll_said, error_said, range_said, margin_said}

-- a call leaves one answer and one head
pub in_place_fixes :
    {c : Call} {a b : Answer} {ws ws' ws'' known : List ℕ} → InPlace ws c a ws' known → InPlace ws c b ws'' known → (a ≡ b) × (ws' ≡ ws'')
in_place_fixes x y = ((x.refines [] []).answer ∙ sym (y.refines [] []).answer, x.words ∙ sym y.words)

-- the parts of an answer, where it has them: whether it is a refusal and which, errors, reset,
-- action and signal
pub record Parts : Type 0 where
  pub declines : Bool
  pub refusal : ℕ
  pub errors : List DllError
  pub reset : Passed
  pub action : NmtAction
  pub signal : Bool

abbrev pub parts : Answer → Parts
parts (refused n) = record { declines = true; refusal = n; errors = []; reset = record { states = []; ranges = [] }; action = None; signal = false }
parts taken = record { declines = false; refusal = 0; errors = []; reset = record { states = []; ranges = [] }; action = None; signal = false }
parts (nmt_answer es p) = record { declines = false; refusal = 0; errors = es; reset = p; action = None; signal = false }
parts (dll_answer es) = record { declines = false; refusal = 0; errors = es; reset = record { states = []; ranges = [] }; action = None; signal = false }
parts (error_answer a s es) = record { declines = false; refusal = 0; errors = es; reset = record { states = []; ranges = [] }; action = a; signal = s }
parts (cycle_answer b) = record { declines = false; refusal = 0; errors = []; reset = record { states = []; ranges = [] }; action = None; signal = b }
parts (hand_out_answer f) = record { declines = false; refusal = 0; errors = []; reset = record { states = []; ranges = [] }; action = None; signal = false }
parts (tick_answer es) = record { declines = false; refusal = 0; errors = es; reset = record { states = []; ranges = [] }; action = None; signal = false }
parts (range_answer v) = record { declines = false; refusal = 0; errors = []; reset = record { states = []; ranges = [] }; action = None; signal = false }
parts (margin_answer z) = record { declines = false; refusal = 0; errors = []; reset = record { states = []; ranges = [] }; action = None; signal = false }
parts (due_answer d) = record { declines = false; refusal = 0; errors = []; reset = record { states = []; ranges = [] }; action = None; signal = false }
parts not_ours = record { declines = false; refusal = 0; errors = []; reset = record { states = []; ranges = [] }; action = None; signal = false }
parts (frame_answer es r) = record { declines = false; refusal = 0; errors = es; reset = record { states = []; ranges = [] }; action = None; signal = false }

-- the verdict and the margin, where an answer is one
abbrev pub verdict_in : Answer → SocVerdict
verdict_in (refused n) = Open
verdict_in taken = Open
verdict_in (nmt_answer es p) = Open
verdict_in (dll_answer es) = Open
verdict_in (error_answer a s es) = Open
verdict_in (cycle_answer b) = Open
verdict_in (hand_out_answer f) = Open
verdict_in (tick_answer es) = Open
verdict_in (range_answer v) = v
verdict_in (margin_answer z) = Open
verdict_in (due_answer d) = Open
verdict_in not_ours = Open
verdict_in (frame_answer es r) = Open

abbrev margin_in : Answer → ℤ
margin_in (refused n) = pos 0
margin_in taken = pos 0
margin_in (nmt_answer es p) = pos 0
margin_in (dll_answer es) = pos 0
margin_in (error_answer a s es) = pos 0
margin_in (cycle_answer b) = pos 0
margin_in (hand_out_answer f) = pos 0
margin_in (tick_answer es) = pos 0
margin_in (range_answer v) = pos 0
margin_in (margin_answer z) = z
margin_in (due_answer d) = pos 0
margin_in not_ours = pos 0
margin_in (frame_answer es r) = pos 0

-- one that is declined and one that is taken are not alike
pub apart : {A : Type 0} {a b : Answer} → a ≡ b → (parts a).declines ≡ true → (parts b).declines ≡ false → A
apart e x y = absurd (true≢false (sym x ∙ ap (λ (a : Answer). (parts a).declines) e ∙ y))

pub refusal_of : {a b : Answer} → a ≡ b → (parts a).refusal ≡ (parts b).refusal
refusal_of e = ap (λ (a : Answer). (parts a).refusal) e

pub errors_of_lem : {a b : Answer} → a ≡ b → (parts a).errors ≡ (parts b).errors
errors_of_lem e = ap (λ (a : Answer). (parts a).errors) e

-- and an answer of each kind is fixed by what it says
pub said_fixed : (a b : Result (Unit {0}) Refusal) → said a ≡ said b → a ≡ b
said_fixed (Ok _) (Ok _) e = refl
said_fixed (Ok _) (Err s) e = apart (sym e) refl refl
said_fixed (Err r) (Ok _) e = apart e refl refl
said_fixed (Err r) (Err s) e = ap Err (number_fixes (refusal_of e))

pub nmt_said_fixed : (a b : Result NmtTaken Refusal) → nmt_said a ≡ nmt_said b → a ≡ b
nmt_said_fixed (Ok t) (Ok u) e =
    let r = reported_fixes t.errors u.errors (errors_of_lem e) in
    let p = passed_fixes t.reset u.reset (ap (λ (a : Answer). (parts a).reset) e) in
    λ i. Ok (record { errors = r i; reset = p i })
nmt_said_fixed (Ok t) (Err s) e = apart (sym e) refl refl
nmt_said_fixed (Err r) (Ok u) e = apart e refl refl
nmt_said_fixed (Err r) (Err s) e = ap Err (number_fixes (refusal_of e))

pub dll_said_fixed : (a b : Result DllErrors Refusal) → dll_said a ≡ dll_said b → a ≡ b
dll_said_fixed (Ok t) (Ok u) e = ap Ok (reported_fixes t u (errors_of_lem e))
dll_said_fixed (Ok t) (Err s) e = apart (sym e) refl refl
dll_said_fixed (Err r) (Ok u) e = apart e refl refl
dll_said_fixed (Err r) (Err s) e = ap Err (number_fixes (refusal_of e))

pub error_said_fixed : (a b : Result ErrorTaken Refusal) → error_said a ≡ error_said b → a ≡ b
error_said_fixed (Ok t) (Ok u) e =
    let r = reported_fixes t.logged u.logged (errors_of_lem e) in
    λ i. Ok (record { action = (parts (e i)).action; signal = (parts (e i)).signal; logged = r i })
error_said_fixed (Ok t) (Err s) e = apart (sym e) refl refl
error_said_fixed (Err r) (Ok u) e = apart e refl refl
error_said_fixed (Err r) (Err s) e = ap Err (number_fixes (refusal_of e))

pub range_said_fixed : (a b : Result SocVerdict Refusal) → range_said a ≡ range_said b → a ≡ b
range_said_fixed (Ok v) (Ok w) e = ap (λ (a : Answer). Ok (verdict_in a)) e
range_said_fixed (Ok v) (Err s) e = apart (sym e) refl refl
range_said_fixed (Err r) (Ok w) e = apart e refl refl
range_said_fixed (Err r) (Err s) e = ap Err (number_fixes (refusal_of e))

pub margin_said_fixed : (a b : Result ℤ Refusal) → margin_said a ≡ margin_said b → a ≡ b
margin_said_fixed (Ok y) (Ok z) e = ap (λ (a : Answer). Ok (margin_in a)) e
margin_said_fixed (Ok y) (Err s) e = apart (sym e) refl refl
margin_said_fixed (Err r) (Ok z) e = apart e refl refl
margin_said_fixed (Err r) (Err s) e = ap Err (number_fixes (refusal_of e))

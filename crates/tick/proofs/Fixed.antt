-- The contract fixes the whole answer: of a tick, no two answers meet it, and it leaves one head,
-- one memory and one run of watched nodes. So it is of the tick at which no node asks for anything,
-- whatever time and moment it is given.
-- Assumes nothing.
use Prim.Native.Nat.{ℕ}
use mathlib.Core.Path.{◌≡◌, refl, sym, ap, ◌∙◌}
use mathlib.Core.List.{List}
use Rattle.types.proofs.Refused.{number_fixes}
use Rattle.types.proofs.Reported.{reported_fixes}
use Rattle.head.specs.Written.{earliest_written}
use Rattle.watched.specs.Watched.{watched_of}
use Rattle.watched.specs.Nodes.{nodes_of}
use Rattle.node.specs.Steps.{earliest}
use Rattle.node.specs.Refines.{Rings}
use Rattle.tick.specs.TickWords.{tick_words}
use Rattle.node.proofs.Fixed.{apart, refusal_of, errors_of_lem}
use Rattle.std.specs.declared.result.Result.{Result}
use Rattle.std.specs.declared.result.Result.TheVariants.{Ok, Err}
use Rattle.types.specs.declared.frame.error.types.DllErrors.{DllErrors}
use Rattle.types.specs.declared.refusals.Refusal.{Refusal}
use Rattle.node.specs.InPlace.{unless_refused}
use Rattle.std.specs.declared.option.Option.{Option}
use Rattle.tick.specs.TickIn.{tick_said, TickedIn, StillTicks}

-- an answer is fixed by what it says
pub tick_said_fixed : (a b : Result DllErrors Refusal) → tick_said a ≡ tick_said b → a ≡ b
tick_said_fixed (Ok t) (Ok u) e = ap Ok (reported_fixes t u (errors_of_lem e))
tick_said_fixed (Ok t) (Err s) e = apart (sym e) refl refl
tick_said_fixed (Err r) (Ok u) e = apart e refl refl
tick_said_fixed (Err r) (Err s) e = ap Err (number_fixes (refusal_of e))

leaves_same : {a b : Result DllErrors Refusal} → a ≡ b → (ws ws' : List ℕ) → unless_refused a ws ws' ≡ unless_refused b ws ws'
leaves_same e ws ws' = ap (λ (a : Result DllErrors Refusal). unless_refused a ws ws') e

pub tick_fixes :
    {ws q m ns ws₁ q₁ m₁ ns₁ ws₂ q₂ m₂ ns₂ : List ℕ} {k t : ℕ} {a b : Result DllErrors Refusal} →
    TickedIn ws q m ns k t a ws₁ q₁ m₁ ns₁ →
    TickedIn ws q m ns k t b ws₂ q₂ m₂ ns₂ →
    (a ≡ b) × (ws₁ ≡ ws₂) × (q₁ ≡ q₂) × (m₁ ≡ m₂) × (ns₁ ≡ ns₂)
tick_fixes {ws} {q} {m} {ns} {ns₁ = ns₁} {ns₂ = ns₂} {k} {t} {a} {b} x y =
    let e : a ≡ b = tick_said_fixed a b (x.on.refines.answer ∙ sym y.on.refines.answer) in
    let r = x.on.rings ∙ sym y.on.rings in
    let n : ns₁ ≡ ns₂ = x.nodes ∙ leaves_same e _ _ ∙ sym y.nodes in (
      e,
      x.on.words
          ∙ (λ i. unless_refused (e i) ws (earliest_written (tick_words ws q m t (watched_of (nodes_of ns) k)) (earliest (watched_of (nodes_of (n i)) k))))
          ∙ sym y.on.words,
      ap (λ (r : Rings). r.queue_bytes) r,
      ap (λ (r : Rings). r.history_bytes) r,
      n,
    )

pub still_fixes :
    {ws q m ws₁ q₁ m₁ ws₂ q₂ m₂ : List ℕ} {t : ℕ} {s : Option ℕ} {a b : Result DllErrors Refusal} →
    StillTicks ws q m t s a ws₁ q₁ m₁ →
    StillTicks ws q m t s b ws₂ q₂ m₂ →
    (a ≡ b) × (ws₁ ≡ ws₂) × (q₁ ≡ q₂) × (m₁ ≡ m₂)
still_fixes {a = a} {b} x y =
    let e : a ≡ b = tick_said_fixed a b (x.answer ∙ sym y.answer) in
    let r = x.rings ∙ sym y.rings in (
      e,
      x.words ∙ leaves_same e _ _ ∙ sym y.words,
      ap (λ (r : Rings). r.queue_bytes) r,
      ap (λ (r : Rings). r.history_bytes) r,
    )

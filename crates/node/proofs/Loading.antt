-- Load in words: each word that is named is written, the value that it stands for replaced, and
-- nothing else.
-- Assumes nothing.
use Prim.Native.Nat.{ℕ, ◌+◌}
use mathlib.Core.Path.{◌≡◌, refl, sym, ap, subst, ◌∙◌}
use mathlib.Core.Bool.{Bool, true, false}
use mathlib.Core.List.{List}
use native.Mathlib.Omega.{arith}
use lib.ListN.{length, set, length-set}
use Rattle.entries.specs.History.{loaded}
use Rattle.entries.specs.declared.error_history.ErrorHistory.{ErrorHistory}
use Rattle.head.specs.Head.{Head, object_in, statistic_in, with_register, with_object, with_statistic, head_with_values, head_with_od}
use Rattle.head.specs.declared.state.Object.{Object}
use Rattle.head.specs.declared.state.Object.TheVariants.{CycleTime, Tolerance}
use Rattle.head.specs.declared.state.Statistic.{Statistic}
use Rattle.head.specs.declared.state.Statistic.TheVariants.{Counter1, Counter2, Counter3, Counter5}
use Rattle.std.specs.declared.option.Option.{Option}
use Rattle.std.specs.declared.option.Option.TheVariants.{Some, None}
use Rattle.node.specs.declared.load.DictionaryUpdate.{DictionaryUpdate}
use Rattle.node.specs.Plain.{Call, taken}
use Rattle.node.specs.Steps.{no_run, updated_byte, updated_counter, updated_object, updated}
use Rattle.node.specs.Refines.{Refines, left, history_update, loaded_places, loaded_memory}
use Rattle.node.proofs.Laws.{load_taken}
use Rattle.head.specs.Places as at
use Rattle.head.specs.Words.{od_of, head_of}
use Rattle.head.specs.Written.{history_written}
use Rattle.head.proofs.Laws.{register_written, object_written_lem, statistic_written, history_written_lem}
use Rattle.std.specs.Bool.{then_some}
use Rattle.types.specs.Pick.{pick}
use denote.Ref.{Bor}
use Rattle.node.specs.Loaded.{bytes_named, number_loaded, object_loaded, ByteFits, values_loaded, load_words, LoadedIn}

-- the number of words stays
number_long : (ws : List ℕ) (i : ℕ) (u : Option ℕ) → length (number_loaded ws i u) ≡ length ws
number_long ws i (Some n) = length-set ws i n
number_long ws i None = refl

object_long : (ws : List ℕ) (i : ℕ) (u : Option (Option ℕ)) → length (object_loaded ws i u) ≡ length ws
object_long ws i (Some (Some n)) = length-set (set ws i 1) (i + 1) n ∙ length-set ws i 1
object_long ws i (Some None) = length-set ws i 0
object_long ws i None = refl

-- each value
module _ (ws : List ℕ) (long : length ws ≡ 60) where
  register_loaded :
      (u : Option ℕ) → ByteFits u →
      head_of (number_loaded ws at.register u) ≡ head_with_od (head_of ws) (with_register (updated_byte (head_of ws).od.error_register u) (head_of ws).od)
  register_loaded (Some n) h = register_written ws long n h
  register_loaded None h = refl

  object_loaded_lem :
      (o : Object) (u : Option (Option ℕ)) →
      head_of (object_loaded ws (at.object o) u) ≡ head_with_od (head_of ws) (with_object o (updated_object (object_in o (head_of ws).od) u) (head_of ws).od)
  object_loaded_lem o (Some v) = object_written_lem ws long o v
  object_loaded_lem CycleTime None = refl
  object_loaded_lem Tolerance None = refl

  statistic_loaded :
      (s : Statistic) (u : Option ℕ) →
      head_of (number_loaded ws (at.statistic s) u) ≡ head_with_od (head_of ws) (with_statistic s (updated_counter (statistic_in s (head_of ws).od) u) (head_of ws).od)
  statistic_loaded s (Some n) = statistic_written ws long s n
  statistic_loaded Counter1 None = refl
  statistic_loaded Counter2 None = refl
  statistic_loaded Counter3 None = refl
  statistic_loaded Counter5 None = refl

-- what a value that is named makes of a head
abbrev object_by : Object → Option (Option ℕ) → Head → Head
object_by o u h = head_with_od h (with_object o (updated_object (object_in o h.od) u) h.od)

abbrev statistic_by : Statistic → Option ℕ → Head → Head
statistic_by s u h = head_with_od h (with_statistic s (updated_counter (statistic_in s h.od) u) h.od)

history_loaded : (ws : List ℕ) → length ws ≡ 60 → (s : List ℕ) → head_of (history_written ws (loaded s)) ≡ head_with_values (head_of ws) (head_of ws).od (loaded s)
unfolding loaded
history_loaded ws long s = history_written_lem ws long (loaded s) (omega arith) (omega arith)

-- all that are named, one after the other
pub values_loaded_lem :
    (ws : List ℕ) → length ws ≡ 60 → (u : DictionaryUpdate) → ByteFits u.error_register →
    (head_of (values_loaded ws u) ≡ head_with_od (head_of ws) (updated (od_of ws) u)) × (length (values_loaded ws u) ≡ 60)
unfolding head_of values_loaded updated
values_loaded_lem ws l₀ u fits =
    let w₁ = number_loaded ws at.register u.error_register in
    let l₁ : length w₁ ≡ 60 = number_long ws at.register u.error_register ∙ l₀ in
    let w₂ = object_loaded w₁ at.cycle u.cycle_time in
    let l₂ : length w₂ ≡ 60 = object_long w₁ at.cycle u.cycle_time ∙ l₁ in
    let w₃ = object_loaded w₂ at.tolerance u.tolerance in
    let l₃ : length w₃ ≡ 60 = object_long w₂ at.tolerance u.tolerance ∙ l₂ in
    let w₄ = number_loaded w₃ at.counter1 u.counter_1 in
    let l₄ : length w₄ ≡ 60 = number_long w₃ at.counter1 u.counter_1 ∙ l₃ in
    let w₅ = number_loaded w₄ at.counter2 u.counter_2 in
    let l₅ : length w₅ ≡ 60 = number_long w₄ at.counter2 u.counter_2 ∙ l₄ in
    let w₆ = number_loaded w₅ at.counter3 u.counter_3 in
    let l₆ : length w₆ ≡ 60 = number_long w₅ at.counter3 u.counter_3 ∙ l₅ in
    let e₁ = register_loaded ws l₀ u.error_register fits in
    let e₂ = object_loaded_lem w₁ l₁ CycleTime u.cycle_time ∙ ap (object_by CycleTime u.cycle_time) e₁ in
    let e₃ = object_loaded_lem w₂ l₂ Tolerance u.tolerance ∙ ap (object_by Tolerance u.tolerance) e₂ in
    let e₄ = statistic_loaded w₃ l₃ Counter1 u.counter_1 ∙ ap (statistic_by Counter1 u.counter_1) e₃ in
    let e₅ = statistic_loaded w₄ l₄ Counter2 u.counter_2 ∙ ap (statistic_by Counter2 u.counter_2) e₄ in
    let e₆ = statistic_loaded w₅ l₅ Counter3 u.counter_3 ∙ ap (statistic_by Counter3 u.counter_3) e₅ in (
      statistic_loaded w₆ l₆ Counter5 u.counter_5 ∙ ap (statistic_by Counter5 u.counter_5) e₆,
      number_long w₆ at.counter5 u.counter_5 ∙ l₆,
    )

-- the writers in their order
pub values_in :
    (ws : List ℕ) → length ws ≡ 60 → (u : DictionaryUpdate) → (w₁ w₂ w₃ w₄ w₅ w₆ w₇ : List ℕ) →
    (w₁ ≡ number_loaded ws at.register u.error_register) × ByteFits u.error_register →
    w₂ ≡ object_loaded w₁ at.cycle u.cycle_time →
    w₃ ≡ object_loaded w₂ at.tolerance u.tolerance →
    w₄ ≡ number_loaded w₃ at.counter1 u.counter_1 →
    w₅ ≡ number_loaded w₄ at.counter2 u.counter_2 →
    w₆ ≡ number_loaded w₅ at.counter3 u.counter_3 →
    w₇ ≡ number_loaded w₆ at.counter5 u.counter_5 →
    (head_of w₇ ≡ head_with_od (head_of ws) (updated (od_of ws) u)) × (w₇ ≡ values_loaded ws u)
unfolding values_loaded
values_in ws long u w₁ w₂ w₃ w₄ w₅ w₆ w₇ e₁ e₂ e₃ e₄ e₅ e₆ e₇ =
    let e : w₇ ≡ values_loaded ws u =
    e₇ ∙ ap (λ (l : List ℕ). number_loaded l at.counter5 u.counter_5)
    (e₆ ∙ ap (λ (l : List ℕ). number_loaded l at.counter3 u.counter_3)
    (e₅ ∙ ap (λ (l : List ℕ). number_loaded l at.counter2 u.counter_2)
    (e₄ ∙ ap (λ (l : List ℕ). number_loaded l at.counter1 u.counter_1)
    (e₃ ∙ ap (λ (l : List ℕ). object_loaded l at.tolerance u.tolerance)
    (e₂ ∙ ap (λ (l : List ℕ). object_loaded l at.cycle u.cycle_time) e₁.0))))) in
    (ap head_of e ∙ (values_loaded_lem ws long u e₁.1).0, e)

-- of entries that stand in an option by a test, the bytes do
pub named_by : (b : Bool) (r : Bor (List ℕ)) → bytes_named (then_some b r) ≡ pick b (Some r.now) None
named_by true r = refl
named_by false r = refl

-- the call
module _ (ws m : List ℕ) (u : DictionaryUpdate) (w₁ : List ℕ) (v : (head_of w₁ ≡ head_with_od (head_of ws) (updated (od_of ws) u)) × (w₁ ≡ values_loaded ws u)) where
  loads :
      (es : Option (List ℕ)) (ws' m' : List ℕ) (k : ErrorHistory) →
      head_of ws' ≡ head_with_values (head_of ws) (updated (od_of ws) u) k →
      k ≡ loaded_places es (head_of ws).history →
      m' ≡ loaded_memory es m →
      ws' ≡ load_words ws u es →
      LoadedIn ws m u es ws' m'
  unfolding head_of
  loads es ws' m' k h p b w =
      let x = load_taken (head_of ws) m u (updated (od_of ws) u) refl m' es k p b in
      record {
        refines = λ q. subst (λ (g : Head). Refines (head_of ws) q m (Call.load u (history_update es)) (left g taken) q m' no_run) (sym h) (x.0 q);
        queue = ap (λ (g : Head). g.queue) h;
        history = ap (λ (g : Head). g.history) h ∙ p;
        memory = b;
        words = w;
      }

  pub kept : LoadedIn ws m u None w₁ m
  unfolding head_of load_words
  kept = loads None w₁ m (head_of ws).history v.0 refl refl v.1

  pub named_too :
      length w₁ ≡ 60 → (s : List ℕ) (k : ErrorHistory) (m' ws' : List ℕ) → k ≡ loaded s → m' ≡ loaded_memory (Some s) m → ws' ≡ history_written w₁ k →
      LoadedIn ws m u (Some s) ws' m'
  unfolding load_words
  named_too long s k m' ws' e b w =
      let to : ws' ≡ history_written w₁ (loaded s) = w ∙ ap (history_written w₁) e in
      loads (Some s) ws' m' (loaded s)
      (ap head_of to ∙ history_loaded w₁ long s ∙ ap (λ (h : Head). head_with_values h h.od (loaded s)) v.0) refl b
      (to ∙ ap (λ (l : List ℕ). history_written l (loaded s)) v.1)

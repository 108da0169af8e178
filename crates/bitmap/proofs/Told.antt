-- What a call that writes the bits of a run tells, from what it ensures alone: each bit, the number, and that a refused call changes no byte.
-- Assumes nothing.
use Prim.Native.Nat.{ℕ, ◌/◌, ◌%◌, ◌≤◌}
use mathlib.Core.Path.{◌≡◌, sym, ap, ◌∙◌}
use mathlib.Core.Bool.{Bool, true, false}
use mathlib.Core.List.{List}
use native.Mathlib.Omega.{arith}
use lib.Dec.{eqb}
use lib.ListN.{length, get_or}
use Rattle.types.specs.Pick.{pick}
use Rattle.types.specs.Refusals.{refusal_number}
use Rattle.types.specs.declared.refusals.Refusal.{Refusal}
use Rattle.types.proofs.Refused.{number_fixes}
use Rattle.types.proofs.Tests.{both_second}
use Rattle.entries.specs.Desk.{Reply, unless_turned_away}
use Rattle.entries.proofs.Rings.{listed_long}
use Rattle.watched.specs.Watched.{is_watched, well_formed, no_node, Run, run, watching, well_lent}
use Rattle.watched.specs.Nodes.{nodes_of}
use Rattle.bitmap.specs.Bitmap.{is_set, bytes_of, ones_of, bitmap_said, bitmap_reply, bytes_after, BitsWritten}
use Rattle.std.specs.declared.result.Result.{Result}
use Rattle.std.specs.declared.result.Result.TheVariants.{Ok, Err}
use Rattle.bitmap.proofs.Bitmaps.{bytes_long, bit_told, counted}
use Rattle.bitmap.proofs.bitmap.Reads as bitmap

-- what an answer says fixes it
pub answer_fixed : (a b : Result ℕ Refusal) → bitmap_said a ≡ bitmap_said b → a ≡ b
answer_fixed (Ok m) (Ok n) e = cc
answer_fixed (Ok m) (Err s) e = cc
answer_fixed (Err r) (Ok n) e = cc
answer_fixed (Err r) (Err s) e = ap Err (number_fixes (cc))

module _ (r : Run) (s s' : List ℕ) where
  abbrev written : List ℕ
  written = bytes_of (watching r)

  module _ (n : ℕ) (l : BitsWritten r s (Ok n) s') where
    taken_means : (well_lent r ≡ true) × (n ≡ ones_of written)
    unfolding bitmap_reply
    taken_means = by (well_lent r) l.said
      where
        by : (b : Bool) → Reply.gives n ≡ pick b (Reply.gives (ones_of written)) (Reply.turned_away 3) → (b ≡ true) × (n ≡ ones_of written)
        by true p = (cc, cc)
        by false p = (cc, cc)

    left_written : s' ≡ written
    unfolding bytes_after
    left_written = l.bytes ∙ ap (λ (p : Reply ℕ). unless_turned_away p s written) (sym l.said)

    -- Of the numbers 0 to 255 the bits of exactly those nodes are set that are watched, whatever the bytes held before.
    pub every_bit : (length s' ≡ 32) × ((m : ℕ) → m ≤ 255 → is_set (get_or s' (m / 8) 0) (m % 8) ≡ is_watched m (watching r))
    every_bit = (
      ap length left_written ∙ bytes_long (watching r),
      λ m h. ap (λ (b : List ℕ). is_set (get_or b (m / 8) 0) (m % 8)) left_written ∙ bit_told (watching r) m (omega arith),
    )

    -- The number counted from the bits is the number of nodes watched.
    pub number_counted : (n ≡ ones_of s') × (n ≡ r.number)
    number_counted = (
      taken_means.1 ∙ ap ones_of (sym left_written),
      taken_means.1
          ∙ counted (watching r) (both_second (eqb (length r.places) 32) (well_formed (watching r)) taken_means.0)
          ∙ listed_long (λ (i : ℕ). get_or r.places i no_node) r.number,
    )

  -- A call that is refused changes no byte, and is refused by 3, WatchedNodes.
  pub refused_keeps : (e : Refusal) → BitsWritten r s (Err e) s' → (refusal_number e ≡ 3) × (s' ≡ s)
  unfolding bitmap_reply bytes_after
  refused_keeps e l =
      (by (well_lent r) l.said, l.bytes ∙ ap (λ (p : Reply ℕ). unless_turned_away p s written) (sym l.said))
    where
      by : (b : Bool) → Reply.turned_away (refusal_number e) ≡ pick b (Reply.gives (ones_of written)) (Reply.turned_away 3) → refusal_number e ≡ 3
      by true p = cc
      by false p = cc

-- `bitmap` is such a call, on the run of its words, and asks nothing.
-- κs: the lifetimes; a: the arguments; x: what is lent, as it is left.
pub words_told :
    (κs : _) (a : _) (o : Result ℕ Refusal) (x : _) →
    bitmap.Learnt κs a o x → BitsWritten (run (nodes_of a.0.now) a.1.0) a.1.1.0.now o x.1.1.0.now
words_told κs a o x l = l

pub asks_nothing : (κs : _) (a : _) → bitmap.Asked κs a
asks_nothing κs a = tt

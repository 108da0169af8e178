-- `shift::feed::Shift::feed` meets its contract: what was counted and what was moved are the whole entries of the run and the bytes behind them.
-- Assumes nothing.
use Rattle.std.proofs.Common.{◌≡◌, ℕ, ◌+◌, ◌-◌, ◌*◌, ◌/◌, ◌%◌, List, length, take, drop, ap, ◌∙◌, arith, length-drop, take_at, take_all}
use Rattle.std.specs.List.{copy_within}
use Rattle.shift.specs.Report.{codes_in}
use Rattle.shift.specs.Feed.{keeping, counted_all, behind_whole, absorbed}
use Rattle.shift.proofs.feed.Shift.feed.Goals as goal

module _ (b : List ℕ) where
  abbrev n : ℕ
  n = length b

  abbrev left : List ℕ
  left = drop (n - n % 20) b

  long : length left ≡ n % 20
  long = simp length-drop (omega arith)

  -- the bytes behind the whole entries, once they are moved to the front
  moved : (b' : List ℕ) → b' ≡ copy_within b (n - n % 20) n 0 → take (n % 20) b' ≡ behind_whole b
  unfolding behind_whole
  moved b' e =
      let few : n - (n - n % 20) ≡ n % 20 = omega arith in
      let whole : n - n % 20 ≡ 20 * (n / 20) = omega arith in
      let all : take (n % 20) left ≡ left = take_all (n % 20) left (omega (arith, long)) in
      rw (e, few, all) (take_at left _ (n % 20) long) ∙ ap (λ (m : ℕ). drop m b) whole

  feeds :
      (b' cs cs' : List ℕ) (e : ℕ) →
      cs' ≡ counted_all cs (codes_in b) →
      b' ≡ copy_within b (n - n % 20) n 0 →
      keeping ((e + n / 20) % 18446744073709551616) cs' (take (n % 20) b') ≡ absorbed e cs b
  unfolding absorbed
  feeds b' cs cs' e counts after = rw (counts, moved b' after)

pub returns-clause-kept : goal.returns-clause-kept
returns-clause-kept c =
    let a = c.args in
    feeds a.filled.now c.copy_within.new.self a.self.now.counts c.tally.new.counts a.self.now.entries c.tally.ensures c.copy_within.ensures.after

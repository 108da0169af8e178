-- How long the watch sleeps (RULES 7.12): when a tick wakes next, and what a change of the
-- tolerance does to the deadline of an arm. Of the calls it is shown in trace/proofs/Watch.antt,
-- from their contracts.
-- Assumes nothing.
use Rattle.std.specs.Prelude.{ℕ, ◌+◌, ◌/◌, ◌≤◌, ◌<◌, max, ◌≡◌, true, false}
use Rattle.types.specs.declared.nmt.states.NmtState.TheVariants.{NmtNotActive}
use Rattle.head.specs.declared.state.Deadline.TheVariants.{At}
use Rattle.head.specs.declared.state.SocWatch.{SocWatch}
use Rattle.head.specs.declared.state.Dictionary.{Dictionary}
use Rattle.node.specs.Plain.{Plain}
use Rattle.node.specs.Steps.{cycle_of, tolerance_of}
use Rattle.node.specs.Deadline.{last_soc}

-- before the tick: the head is outside NotActive, with the check on and a deadline at d
pub record Watching (p : Plain) (d : ℕ) : Type 0 where
  pub outside : p.nmt.current_state ≡ NmtNotActive → ⊥
  pub check : p.soc.soc_timeout_check_active ≡ true
  pub deadline : p.soc.next_tick_us ≡ At d

-- the watch s after a tick at t: the check is off, or a deadline stands after t
pub data OffOrLater (t : ℕ) (s : SocWatch) : Type 0 where
  off : s.soc_timeout_check_active ≡ false → OffOrLater t s
  later : (d : ℕ) → s.next_tick_us ≡ At d → t < d → OffOrLater t s

-- of a tick at t on the head p, whose deadline was d, which left the watch s
pub record Sleeps (p : Plain) (t d : ℕ) (s : SocWatch) : Type 0 where
  pub wakes : OffOrLater t s
  -- Where the deadline has passed, and so was used up, a new one is at most cycle + tolerance, in
  -- µs, after the later of now and the last SoC. (Where a heartbeat crossing ended the tick before
  -- it was looked at, it still stands, and is within this too.)
  pub soon : d ≤ t → (e : ℕ) → s.next_tick_us ≡ At e → e ≤ max t (last_soc p) + (cycle_of p.od + tolerance_of p.od / 1000)

-- the values o, and the values o' with the tolerance higher by d ns and the same cycle, as they are
-- read
pub record Raised (d : ℕ) (o o' : Dictionary) : Type 0 where
  pub cycle : cycle_of o' ≡ cycle_of o
  pub tolerance : tolerance_of o' ≡ tolerance_of o + d

-- the watches s and s' after an arm with the values o and o', where the cycle is above 0: the
-- deadline moves by at most d / 1000 µs rounded up, and never earlier
pub record Moves (d : ℕ) (s s' : SocWatch) : Type 0 where
  -- the deadline in µs after the arm with the values o
  pub from : ℕ
  -- the deadline in µs after the arm with the values o'
  pub to : ℕ
  pub stood : s.next_tick_us ≡ At from
  pub stands : s'.next_tick_us ≡ At to
  pub never_earlier : from ≤ to
  pub at_most : to ≤ from + (d + 999) / 1000

-- The watched nodes as 32 bytes (RULES 8.7).
-- Assumes nothing.
use Rattle.std.specs.Prelude.{ℕ, ◌≡◌, ◌+◌, ◌*◌, ◌/◌, ◌%◌, ◌^◌, Bool, List, [], ◌∷◌, eqb, get_or, set, bit_or, sum_by}
use Rattle.std.specs.Int.Count.{ones}
use Rattle.types.specs.Pick.{pick}
use Rattle.types.specs.Refusals.{refusal_number}
use Rattle.entries.specs.Ring.{listed}
use Rattle.entries.specs.Desk.{Reply, unless_turned_away}
use Rattle.watched.specs.declared.nodes.WatchedNode.{WatchedNode}
use Rattle.watched.specs.Watched.{is_watched, Run, watching, well_lent}
use Rattle.std.specs.declared.result.Result.{Result}
use Rattle.std.specs.declared.result.Result.TheVariants.{Ok, Err}
use Rattle.types.specs.declared.refusals.Refusal.{Refusal}

-- the number that bits stand for, the lowest bit first
abbrev pub lowest_first : List Bool → ℕ
lowest_first [] = 0
lowest_first (b ∷ bs) = pick b 1 0 + 2 * lowest_first bs

-- whether bit j of a byte is set
abbrev pub is_set : ℕ → ℕ → Bool
is_set byte j = eqb (byte / 2 ^ j % 2) 1

-- byte i: its bit j is set where the node 8 i + j is watched
abbrev pub byte_of : List WatchedNode → ℕ → ℕ
byte_of ws i = lowest_first (listed (λ j. is_watched (8 * i + j) ws) 8)

-- the 32 bytes, in which the bit of the node n is bit n mod 8 of byte n / 8
unfoldable pub bytes_of : List WatchedNode → List ℕ
bytes_of ws = listed (byte_of ws) 32

-- the bytes s with the bit of the node n set
abbrev pub with_bit : ℕ → List ℕ → List ℕ
with_bit n s = set s (n / 8) (bit_or (get_or s (n / 8) 0) (2 ^ (n % 8)))

-- how many bits of some bytes are set
abbrev pub ones_of : List ℕ → ℕ
ones_of bytes = sum_by ones bytes

-- the answer of `bitmap`, from what the function returned
abbrev pub bitmap_said : Result ℕ Refusal → Reply ℕ
bitmap_said (Ok n) = Reply.gives n
bitmap_said (Err r) = Reply.turned_away (refusal_number r)

-- what is answered for a run: turned away by 3, WatchedNodes, where it is not well formed; else how
-- many bits are set
unfoldable pub bitmap_reply : Run → Reply ℕ
bitmap_reply r = pick (well_lent r) (Reply.gives (ones_of (bytes_of (watching r)))) (Reply.turned_away 3)

-- what the call leaves of the 32 bytes s: those of the watched nodes, or s itself where it is
-- turned away
unfoldable pub bytes_after : Run → List ℕ → List ℕ
bytes_after r s = unless_turned_away (bitmap_reply r) s (bytes_of (watching r))

-- a call that is lent the run r and the bytes s answers o, and leaves the bytes s'
pub record BitsWritten (r : Run) (s : List ℕ) (o : Result ℕ Refusal) (s' : List ℕ) : Type 0 where
  pub said : bitmap_said o ≡ bitmap_reply r
  pub bytes : s' ≡ bytes_after r s

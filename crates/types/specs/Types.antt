-- Node numbers.
-- Assumes nothing.
use Rattle.std.specs.Prelude.{ℕ, Bool, leb}
use Rattle.types.specs.Pick.{pick, both, either}
use Rattle.types.specs.declared.refusals.Refusal.TheVariants.{NodeNumber}
use Rattle.types.specs.declared.types.NodeId.{NodeId}
use Rattle.std.specs.declared.result.Result.{Result}
use Rattle.std.specs.declared.result.Result.TheVariants.{Ok, Err}
use Rattle.types.specs.declared.refusals.Refusal.{Refusal}

-- n as a node's number; whether it is one is not tried
abbrev pub node : ℕ → NodeId
node n = record { 0 = n }

-- the number of the managing node (DS 301, Appendix 3)
abbrev pub managing_node : ℕ
managing_node = 240

-- the number of the diagnostic device
abbrev pub diagnostic_node : ℕ
diagnostic_node = 253

-- the number of the router
abbrev pub router_node : ℕ
router_node = 254

-- the number that stands for all nodes
abbrev pub broadcast_node : ℕ
broadcast_node = 255

-- n is a node's number: 1 to 240, 253, 254 or 255
abbrev pub is_node : ℕ → Bool
is_node n = either (both (leb 1 n) (leb n 240)) (both (leb 253 n) (leb n 255))

-- the node of a number, or the refusal NodeNumber
unfoldable pub read_node : ℕ → Result NodeId Refusal
read_node n = pick (is_node n) (Ok (node n)) (Err NodeNumber)

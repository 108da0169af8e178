-- What well formed says of a single node.
-- Assumes nothing.
use Prim.Native.Nat.{ℕ, zero, suc, ◌*◌, ◌≤◌, ◌<◌}
use mathlib.Core.Path.{◌≡◌, sym, ap, ◌∙◌}
use mathlib.Core.Logic.{⊎_elim}
use mathlib.Core.Bool.{Bool, true}
use mathlib.Core.List.{List, [], ◌∷◌}
use native.Mathlib.Omega.{arith}
use borrow.Author.Tests.{leb-true}
use lib.Dec.{leb}
use lib.ListN.{length, get_or, take}
use lib.Seq.{get_or-take, length-take-le}
use Rattle.types.specs.Pick.{both, all_of}
use Rattle.types.specs.Types.{is_node}
use Rattle.types.proofs.Tests.{both_first, both_second, either_cases}
use Rattle.watched.specs.declared.nodes.WatchedNode.{WatchedNode}
use Rattle.watched.specs.Watched.{ascending, in_time, fits, well_formed, no_node, watched_of}
use Rattle.watched.specs.Nodes.{node_at, nodes_of}
use Rattle.watched.proofs.Lists.{whole}
use Rattle.watched.proofs.Watching.{places, node_at_lem}

pub all_at : (p : WatchedNode → Bool) (ws : List WatchedNode) (i : ℕ) (d : WatchedNode) → i < length ws → all_of p ws ≡ true → p (get_or ws i d) ≡ true
all_at p [] i d h a = absurd (omega arith)
all_at p (w ∷ ws) zero d h a = both_first (p w) (all_of p ws) a
all_at p (w ∷ ws) (suc i) d h a = all_at p ws i d (omega arith) (both_second (p w) (all_of p ws) a)

-- the number of a well formed run's node is a byte
pub fits_small : (w : WatchedNode) → fits w ≡ true → w.node ≤ 255
fits_small w f =
    ⊎_elim
    (λ l. omega (arith, leb-true w.node 240 (both_second (leb 1 w.node) (leb w.node 240) l)))
    (λ r. leb-true w.node 255 (both_second (leb 253 w.node) (leb w.node 255) r))
    (either_cases (both (leb 1 w.node) (leb w.node 240)) (both (leb 253 w.node) (leb w.node 255))
    (both_first (is_node w.node) (both (in_time w.timeout) (in_time w.last_heard)) f))

-- and each of the first so many nodes in words passed it
module _ (ns : List ℕ) (k : ℕ) (few : k ≤ 32) (h : well_formed (watched_of (nodes_of ns) k) ≡ true) (i : ℕ) (inside : i < k) where
  pub node_fits : fits (node_at ns i) ≡ true
  unfolding well_formed
  node_fits =
      let vs : List WatchedNode = nodes_of ns in
      let a : all_of fits (watched_of vs k) ≡ true =
      both_second (ascending (watched_of vs k)) _ (both_second (leb (length (watched_of vs k)) 32) _ h) in
      let b : all_of fits (take k vs) ≡ true = sym (ap (all_of fits) (whole vs k (places ns) few)) ∙ a in
      let l : length (take k vs) ≡ k = length-take-le k vs (rw (places ns) few) in
      let f : fits (get_or (take k vs) i no_node) ≡ true = all_at fits (take k vs) i no_node (rw l inside) b in
      let w : get_or (take k vs) i no_node ≡ node_at ns i = get_or-take k vs i no_node inside ∙ node_at_lem ns i (omega arith) in
      sym (ap fits w) ∙ f

  pub number_small : get_or ns (3 * i) 0 ≤ 255
  number_small = fits_small (node_at ns i) node_fits

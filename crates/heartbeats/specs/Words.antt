-- The words of the watched nodes after a tick has checked them, and of the head after the errors of
-- the late ones: every word, as a function of what came in.
-- Assumes nothing.
use Rattle.std.specs.Prelude.{ℕ, zero, suc, ◌+◌, ◌*◌, List, [], ◌∷◌, ◌==◌, slice_index, slice_set, map}
use Rattle.types.specs.Pick.{pick, either}
use Rattle.counters.specs.Counters.{effect, handled}
use Rattle.watched.specs.declared.nodes.WatchedNode.{WatchedNode}
use Rattle.watched.specs.Watched.{watched_node, first}
use Rattle.node.specs.Heartbeats.{is_late, timeout_of, refreshed}
use Rattle.head.specs.Words.{errors_of}
use Rattle.node.specs.InPlace.{effect_words}
use Rattle.phases.specs.PartWords.{signal_words, finished_words, ends_by}

-- the time that the check of one node at t leaves as its last-heard time, in µs
abbrev pub refreshed_time : ℕ → ℕ → ℕ → ℕ
refreshed_time t timeout last = pick (either (last == 0) (is_late t (watched_node 0 timeout last))) t last

-- the words after the check of the i-th node at t: its last-heard time is written
abbrev pub refresh_words : ℕ → ℕ → List ℕ → List ℕ
refresh_words t i ns = slice_set ns (3 * i + 2) (refreshed_time t (slice_index ns (3 * i + 1)) (slice_index ns (3 * i + 2)))

-- the words after the check of the first so many nodes at t
unfoldable pub refreshed_words : ℕ → ℕ → List ℕ → List ℕ
refreshed_words t zero ns = ns
refreshed_words t (suc i) ns = refresh_words t i (refreshed_words t i ns)

-- the head's words after the error of a late node
unfoldable pub on_late_words : List ℕ → WatchedNode → List ℕ
on_late_words ws w =
    finished_words (ends_by ws (timeout_of w))
    (pick (handled (errors_of ws) (timeout_of w)).signal (signal_words (effect_words ws (effect (timeout_of w)))) (effect_words ws (effect (timeout_of w))))

-- the head's words after the errors of late nodes, in order: the first that brings an action ends
-- them
unfoldable pub on_late_all_words : List ℕ → List WatchedNode → List ℕ
on_late_all_words ws [] = ws
on_late_all_words ws (v ∷ vs) = pick (ends_by ws (timeout_of v)) (on_late_words ws v) (on_late_all_words (on_late_words ws v) vs)

-- all places of the watched nodes: the check of the first so many; those behind are kept
abbrev pub refreshed_first : ℕ → ℕ → List WatchedNode → List WatchedNode
refreshed_first t = first (map (refreshed t))

-- The heartbeats of the tick, over plain variables: the check of the watched nodes, and the walk
-- over the late ones.
-- Assumes nothing.
use Rattle.std.proofs.Common.{◌≡◌, ℕ, ◌+◌, ◌<◌, ◌≤◌, Bool, true, false, List, [], ◌∷◌, ◌++◌, length, get_or, take, drop, sym, refl, ap, ◌∙◌, ap₂}
use Rattle.types.specs.Pick.{pick}
use Rattle.types.specs.Errors.{reported}
use Rattle.types.specs.declared.nmt.events.NmtEvent.TheVariants.{Error}
use Rattle.types.specs.declared.frame.error.types.DllError.{DllError}
use Rattle.types.specs.declared.frame.error.types.DllErrors.TheVariants as errors
use Rattle.counters.specs.Counters.{handled, HandledError}
use Rattle.counters.specs.Marks.{error_marks}
use Rattle.entries.specs.declared.status_response.ErrorEntry.{ErrorEntry}
use Rattle.head.specs.Head.{Head, head_with_errors}
use Rattle.watched.specs.declared.nodes.WatchedNode.{WatchedNode}
use Rattle.watched.specs.Watched.{watched_of}
use Rattle.node.specs.Plain.{Plain}
use Rattle.node.specs.Phases.{Ticked, goes_on, behind, acts, signalled, event_in_tick, on_handled}
use Rattle.node.specs.Heartbeats.{is_late, late_ones, on_late_by, timeout_of, on_late, on_late_all}
use Rattle.node.specs.Refines.{plain, SamePlaces, Becomes, Rings, rings, joins_all}
use Rattle.phases.specs.Parts.{PartLeft, Finishes, Ticks}
use Rattle.watched.proofs.Lists.{from_here, at_end, whole}
use Rattle.phases.proofs.PartLaws.{handled_quiet, Alike}

-- the error of one late node, from what its parts left
module _ (h : Head) (w : WatchedNode) (r : HandledError) (e : r ≡ handled h.errors (timeout_of w)) (a : Bool) (n : a ≡ acts r.action) (f : PartLeft) where
  abbrev counted : Head
  counted = head_with_errors h r.counters

  abbrev after : Bool → List ℕ → List ℕ → Plain
  after b q m = pick b (signalled (plain counted q m)) (plain counted q m)

  on_late_ends :
      (b : Bool) →
      r.signal ≡ b →
      (g : Head) →
      ((q m : List ℕ) → plain g q m ≡ after b q m) →
      SamePlaces h g →
      Finishes g r.logged a f →
      (q m : List ℕ) →
      Ticks h q m (on_late (plain h q m) w) f q m
  unfolding on_late
  on_late_ends b z g x s k q m =
      let ms = error_marks h.errors (timeout_of w) in
      let k' : on_late (plain h q m) w ≡ on_handled r ms [] [] (after b q m) =
      ap (on_late_by (plain h q m) ms) (sym e) ∙ ap (λ (b : Bool). on_handled r ms [] [] (after b q m)) z in
      record {
        head =
            k.head q m
            ∙ ap₂ (λ (a : Bool) (p : Plain). pick a (event_in_tick p Error) p) n (x q m)
            ∙ sym (ap (λ (k : Ticked). k.head) k');
        logged = ap reported k.logged ∙ sym (ap (λ (k : Ticked). k.logged) k');
        ended = k.ended ∙ n ∙ sym (ap (λ (k : Ticked). k.ended) k');
        joined =
            (λ i. record { queue = k.places.queue i; queue_bytes = q; history = k.places.history i; history_bytes = m })
            ∙ (λ i. record { queue = s.queue i; queue_bytes = q; history = s.history i; history_bytes = m });
      }

  pub on_late_unsignalled :
      r.signal ≡ false → Finishes counted r.logged a f → (q m : List ℕ) → Ticks h q m (on_late (plain h q m) w) f q m
  on_late_unsignalled z k = on_late_ends false z counted (λ q m. refl) (record { queue = refl; history = refl }) k

  pub on_late_signalled :
      r.signal ≡ true →
      (s : Head) →
      Becomes counted signalled s →
      Finishes s r.logged a f →
      (q m : List ℕ) →
      Ticks h q m (on_late (plain h q m) w) f q m
  on_late_signalled z s u k = on_late_ends true z s u.0 (record { queue = u.1.queue; history = u.1.history }) k

-- a heartbeat that brings no action: nothing is logged, and the walk goes on from the head that it
-- left
on_late_crossings : (p : Plain) (w : WatchedNode) → (on_late p w).crossings ≡ []
unfolding on_late
on_late_crossings p w = refl

module _ (p : Plain) (w : WatchedNode) (n : (on_late p w).ended ≡ false) where
  on_late_logged : (on_late p w).logged ≡ []
  unfolding on_late
  on_late_logged = (handled_quiet p.errors (timeout_of w) refl n).logged

  pub late_errors_on : (ws : List WatchedNode) → Alike (on_late_all p (w ∷ ws)) (on_late_all (on_late p w).head ws)
  unfolding on_late_all
  late_errors_on ws =
      let d = on_late p w in
      let r = on_late_all d.head ws in
      let s : on_late_all p (w ∷ ws) ≡ behind d r = ap (λ (b : Bool). pick b d (behind d r)) n in
      record {
        head = ap (λ (k : Ticked). k.head) s;
        logged = ap (λ (k : Ticked). k.logged) s ∙ ap (λ (l : List DllError). l ++ r.logged) on_late_logged;
        crossings = ap (λ (k : Ticked). k.crossings) s ∙ ap (λ (l : List ErrorEntry). l ++ r.crossings) (on_late_crossings p w);
        ended = ap (λ (k : Ticked). k.ended) s;
      }

pub late_errors_end : (p : Plain) (w : WatchedNode) (ws : List WatchedNode) → (on_late p w).ended ≡ true → on_late_all p (w ∷ ws) ≡ on_late p w
unfolding on_late_all
late_errors_end p w ws n = ap (λ (b : Bool). pick b (on_late p w) (behind (on_late p w) (on_late_all (on_late p w).head ws))) n

-- What the walk keeps, whatever stands in the memory: the late ones among the nodes vs that are
-- left give what those of all the nodes ws give, and nothing has joined, been logged or ended.
pub record LateWalkOf (t : ℕ) (ws : List WatchedNode) (h₀ : Head) (d : PartLeft) (vs : List WatchedNode) : Type 0 where
  pub alike : (q m : List ℕ) → Alike (on_late_all (plain h₀ q m) (late_ones t ws)) (on_late_all (plain d.head q m) (late_ones t vs))
  pub joined : (q m : List ℕ) → rings d.head q m ≡ rings h₀ q m
  pub logged : reported d.logged ≡ []
  pub ended : d.ended ≡ false

-- alike in all but their marks, in two steps
pub alike_then : (a b c : Ticked) → Alike a b → Alike b c → Alike a c
alike_then a b c x y =
    record {
      head = x.head ∙ y.head;
      logged = x.logged ∙ y.logged;
      crossings = x.crossings ∙ y.crossings;
      ended = x.ended ∙ y.ended;
    }

pub same_alike : (a b : Ticked) → a ≡ b → Alike a b
same_alike a b e =
    record {
      head = ap (λ (k : Ticked). k.head) e;
      logged = ap (λ (k : Ticked). k.logged) e;
      crossings = ap (λ (k : Ticked). k.crossings) e;
      ended = ap (λ (k : Ticked). k.ended) e;
    }

-- a part of the tick, read as one that is alike
pub alike_ticks :
    (h : Head) (q m : List ℕ) (a b : Ticked) (r : PartLeft) → Alike a b → Ticks h q m b r q m → Ticks h q m a r q m
alike_ticks h q m a b r x k =
    record {
      head = k.head ∙ sym x.head;
      logged = k.logged ∙ sym x.logged;
      ended = k.ended ∙ sym x.ended;
      joined = k.joined ∙ sym (ap (joins_all (rings h q m)) x.crossings);
    }

module _ (ns : List WatchedNode) (k : ℕ) (long : length ns ≡ 32) (few : k ≤ 32) (t : ℕ) (h₀ : Head) (d : PartLeft) where
  pub late_errors_begin :
      d ≡ record { head = h₀; logged = errors.None; ended = false } → LateWalkOf t (watched_of ns k) h₀ d (drop 0 (take k ns))
  late_errors_begin e =
      rw e
      (record {
        alike = λ q m. same_alike _ _ (ap (λ (l : List WatchedNode). on_late_all (plain h₀ q m) (late_ones t l)) (whole ns k long few));
        joined = λ q m. refl;
        logged = refl;
        ended = refl;
      })

  module _ (i : ℕ) (b : LateWalkOf t (watched_of ns k) h₀ d (drop i (take k ns))) where
    -- no node is left
    pub late_errors_over : k ≤ i → (q m : List ℕ) → Ticks h₀ q m (on_late_all (plain h₀ q m) (late_ones t (watched_of ns k))) d q m
    unfolding on_late_all
    late_errors_over z q m =
        let s : on_late_all (plain d.head q m) (late_ones t (drop i (take k ns))) ≡ goes_on (plain d.head q m) =
        ap (λ (l : List WatchedNode). on_late_all (plain d.head q m) (late_ones t l)) (at_end ns k long few i z) in
        alike_ticks h₀ q m _ (goes_on (plain d.head q m)) d (alike_then _ _ _ (b.alike q m) (same_alike _ _ s))
        (record { head = refl; logged = b.logged; ended = b.ended; joined = b.joined q m })

    module _ (x : WatchedNode) (inside : i < k) (z : Bool) (l : z ≡ is_late t (get_or ns i x)) where
      abbrev w : WatchedNode
      w = get_or ns i x

      abbrev left : List WatchedNode
      left = drop (i + 1) (take k ns)

      late_turn : (y : Bool) → z ≡ y → late_ones t (drop i (take k ns)) ≡ pick y (w ∷ late_ones t left) (late_ones t left)
      late_turn y e =
          ap (late_ones t) (from_here ns k long few i x inside)
          ∙ ap (λ (b : Bool). pick b (w ∷ late_ones t left) (late_ones t left)) (sym l ∙ e)

      turned :
          (y : Bool) → z ≡ y → (q m : List ℕ) →
          Alike (on_late_all (plain h₀ q m) (late_ones t (watched_of ns k))) (on_late_all (plain d.head q m) (pick y (w ∷ late_ones t left) (late_ones t left)))
      turned y e q m =
          alike_then _ _ _ (b.alike q m) (same_alike _ _ (ap (on_late_all (plain d.head q m)) (late_turn y e)))

      -- a node that is not late
      pub late_errors_pass : z ≡ false → LateWalkOf t (watched_of ns k) h₀ d left
      late_errors_pass e = record { alike = turned false e; joined = b.joined; logged = b.logged; ended = b.ended }

      module _ (late : z ≡ true) (r : PartLeft) (y : (q m : List ℕ) → Ticks d.head q m (on_late (plain d.head q m) w) r q m) where
        pub late_errors_stop : r.ended ≡ true → (q m : List ℕ) → Ticks h₀ q m (on_late_all (plain h₀ q m) (late_ones t (watched_of ns k))) r q m
        late_errors_stop e q m =
            let p = plain d.head q m in
            let s : on_late_all p (w ∷ late_ones t left) ≡ on_late p w = late_errors_end p w (late_ones t left) (sym (y q m).ended ∙ e) in
            alike_ticks h₀ q m _ (on_late p w) r (alike_then _ _ _ (turned true late q m) (same_alike _ _ s))
            (record {
              head = (y q m).head;
              logged = (y q m).logged;
              ended = (y q m).ended;
              joined = (y q m).joined ∙ ap (λ (r : Rings). joins_all r (on_late p w).crossings) (b.joined q m);
            })

        pub late_errors_go_on : r.ended ≡ false → LateWalkOf t (watched_of ns k) h₀ r left
        late_errors_go_on e =
            record {
              alike =
                  λ q m.
                  let p = plain d.head q m in
                  alike_then _ _ _ (turned true late q m)
                  (alike_then _ _ _ (late_errors_on p w (sym (y q m).ended ∙ e) (late_ones t left))
                  (same_alike _ _ (ap (λ (p : Plain). on_late_all p (late_ones t left)) (sym (y q m).head))));
              joined =
                  λ q m.
                  (y q m).joined ∙ ap (joins_all (rings d.head q m)) (on_late_crossings (plain d.head q m) w) ∙ b.joined q m;
              logged = (y [] []).logged ∙ on_late_logged (plain d.head [] []) w (sym (y [] []).ended ∙ e);
              ended = e;
            }

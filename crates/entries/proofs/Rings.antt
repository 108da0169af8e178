-- The law of a ring of entries, for any number of places: an entry put behind the last or before the first joins there, and
-- no other changes.
-- Assumes nothing.
use Prim.Native.Nat.{ℕ, zero, suc, ◌+◌, ◌-◌, ◌*◌, ◌/◌, ◌%◌, ◌≤◌, ◌<◌, min, suc-le-suc}
use mathlib.Core.Path.{◌≡◌, refl, sym, ap, ◌∙◌}
use mathlib.Core.Logic.{◌⊎◌, inl, inr, ⊎_elim}
use mathlib.Core.Bool.{Bool, true, false}
use mathlib.Core.List.{List, [], ◌∷◌, ◌++◌}
use native.Mathlib.Nat.{add-zero, mod-lt, mod-mod, mod-add-mod, mod-eq_of_lt, mod-eq-sub-mod, add-mod_right}
use native.Mathlib.Omega.{arith}
use lib.Dec.{ltb}
use lib.ListN.{length, get_or, take, drop, take-append-drop, length-drop}
use lib.Seq.{drop-drop, drop-append-le, length-take-le}
use borrow.Author.Tests.{ltb-true, ltb-false}
use Rattle.entries.specs.declared.status_response.ErrorEntry.{ErrorEntry}
use Rattle.std.specs.declared.option.Option.TheVariants.{Some, None}
use Rattle.entries.specs.Entry.{FitsBytes, entry_bytes, entry_in}
use Rattle.entries.specs.Ring.{written, entry_at, put_at, listed, ring, nth}
use Rattle.entries.proofs.Written.{kept_behind, written_long, byte_before, byte_behind}
use Rattle.entries.proofs.Entries.{entry_long, entry_same, read_back}

pub lt_or_ge : (i j : ℕ) → (i < j) ⊎ (j ≤ i)
lt_or_ge i j = by (ltb i j) refl
  where
    by : (b : Bool) → ltb i j ≡ b → (i < j) ⊎ (j ≤ i)
    by true q = inl (ltb-true i j q)
    by false q = inr (ltb-false i j q)

-- lists by numbers
pub listed_more : {A : Type 0} (f : ℕ → A) (n : ℕ) → listed f (suc n) ≡ listed f n ++ (f n ∷ [])
unfolding listed
listed_more f zero = refl
listed_more f (suc n) = ap (λ (l : List _). f 0 ∷ l) (listed_more (λ j. f (suc j)) n)

pub listed_same : {A : Type 0} (f g : ℕ → A) (n : ℕ) → ((j : ℕ) → j < n → f j ≡ g j) → listed f n ≡ listed g n
unfolding listed
listed_same f g zero h = refl
listed_same f g (suc n) h =
    rw (h 0 (omega arith), listed_same (λ j. f (suc j)) (λ j. g (suc j)) n (λ j lt. h (suc j) (suc-le-suc lt)))

pub listed_take : {A : Type 0} (f : ℕ → A) (k n : ℕ) → take k (listed f n) ≡ listed f (min k n)
unfolding listed
listed_take f zero n = let e : min 0 n ≡ 0 = omega arith in rw e
listed_take f (suc k) zero = let e : min (suc k) 0 ≡ 0 = omega arith in rw e
listed_take f (suc k) (suc n) =
    let e : min (suc k) (suc n) ≡ suc (min k n) = omega arith in
    rw e (ap (λ (l : List _). f 0 ∷ l) (listed_take (λ j. f (suc j)) k n))

pub listed_long : {A : Type 0} (f : ℕ → A) (n : ℕ) → length (listed f n) ≡ n
unfolding listed
listed_long f zero = refl
listed_long f (suc n) = ap suc (listed_long (λ j. f (suc j)) n)

-- the entry at an index
pub nth_in : (f : ℕ → ErrorEntry) (n k : ℕ) → k < n → nth (listed f n) k ≡ Some (f k)
unfolding listed nth
nth_in f zero k h = absurd (omega arith)
nth_in f (suc n) zero h = refl
nth_in f (suc n) (suc k) h = nth_in (λ j. f (suc j)) n k (omega arith)

pub nth_out : (f : ℕ → ErrorEntry) (n k : ℕ) → n ≤ k → nth (listed f n) k ≡ None
unfolding listed nth
nth_out f zero k h = refl
nth_out f (suc n) zero h = absurd (omega arith)
nth_out f (suc n) (suc k) h = nth_out (λ j. f (suc j)) n k (omega arith)

-- an entry within the first bytes of a run is not changed by what is behind them
pub place_before_lem : (p s t : List ℕ) (j : ℕ) → 20 * j + 20 ≤ length p → entry_at (p ++ s) j ≡ entry_at (p ++ t) j
place_before_lem p s t j h =
    let l : 20 * j ≤ length p = omega arith in
    rw (drop-append-le (20 * j) p s l, drop-append-le (20 * j) p t l)
    (entry_same (drop (20 * j) p) s t (rw length-drop (omega arith)))

-- an entry put at one of p places: there it is, and at the other places nothing changed
module _ (p : ℕ) (m : List ℕ) (long : length m ≡ 20 * p) (i : ℕ) (below : i < p) (e : ErrorEntry) where
  fits : 20 * i + length (entry_bytes e) ≤ length m
  fits = omega (arith, entry_long e)

  pub put_long : length (put_at m i e) ≡ length m
  put_long = written_long m (20 * i) (entry_bytes e) fits

  pub place_same : FitsBytes e → entry_at (put_at m i e) i ≡ e
  place_same f = read_back m (20 * i) (omega arith) e f

  pub place_other : (j : ℕ) → (j ≡ i → ⊥) → entry_at (put_at m i e) j ≡ entry_at m j
  unfolding written
  place_other j ne = ⊎_elim before behind (lt_or_ge j i)
    where
      before : j < i → entry_at (put_at m i e) j ≡ entry_at m j
      before q =
          place_before_lem (take (20 * i) m) _ (drop (20 * i) m) j (rw (length-take-le (20 * i) m (omega arith)) (omega arith))
          ∙ rw (take-append-drop (20 * i) m)

      behind : i ≤ j → entry_at (put_at m i e) j ≡ entry_at m j
      behind q =
          let b : List ℕ = entry_bytes e in
          let n : ℕ = 20 * j - (20 * i + length b) in
          let far : 20 * i + length b + n ≡ 20 * j = apart q in
          let d : (s : List ℕ) → drop n (drop (20 * i + length b) s) ≡ drop (20 * j) s =
          λ s. drop-drop n (20 * i + length b) s ∙ ap (λ (k : ℕ). drop k s) far in
          ap entry_in (sym (d (put_at m i e)) ∙ ap (drop n) (kept_behind m (20 * i) b fits) ∙ d m)
        where
          apart : i ≤ j → 20 * i + length (entry_bytes e) + (20 * j - (20 * i + length (entry_bytes e))) ≡ 20 * j
          apart r = ⊎_elim (λ s. omega (arith, entry_long e)) (λ s. absurd (ne (omega arith))) (lt_or_ge i j)

  -- byte by byte: the byte k is one of the place k / 20
  pub byte_other : (k : ℕ) → (k / 20 ≡ i → ⊥) → get_or (put_at m i e) k 0 ≡ get_or m k 0
  byte_other k ne =
      ⊎_elim (byte_before m (20 * i) (entry_bytes e) fits k)
      (λ h.
      ⊎_elim (λ g. absurd (ne (omega arith))) (λ g. byte_behind m (20 * i) (entry_bytes e) fits k (omega (arith, entry_long e)))
      (lt_or_ge k (20 * i + 20)))
      (lt_or_ge k (20 * i))

-- two places of a ring, fewer than p steps apart, are not the same
apart : (p i j k : ℕ) → j < k → k < p → (i + j) % p ≡ (i + k) % p → ⊥
apart p i j k jk kp same =
    let x : ℕ = (i + j) % p in
    let small : x < p = mod-lt (i + j) (omega arith) in
    let sum : i + j + (k - j) ≡ i + k = omega arith in
    let e : (x + (k - j)) % p ≡ x = mod-add-mod (i + j) p (k - j) ∙ ap (λ (n : ℕ). n % p) sum ∙ sym same in
    ⊎_elim
    (λ q. let a : (x + (k - j)) % p ≡ x + (k - j) = mod-eq_of_lt q in omega arith)
    (λ q.
    let a : (x + (k - j)) % p ≡ (x + (k - j) - p) % p = mod-eq-sub-mod q in
    let small' : x + (k - j) - p < p = omega arith in
    let b : (x + (k - j) - p) % p ≡ x + (k - j) - p = mod-eq_of_lt small' in
    omega arith)
    (lt_or_ge (x + (k - j)) p)

-- the place at which a ring is read first, within the ring
pub ring_within : (p : ℕ) (m : List ℕ) (i n : ℕ) → ring p m (i % p) n ≡ ring p m i n
ring_within p m i n = listed_same _ _ n (λ j lt. ap (entry_at m) (mod-add-mod i p j))

-- the first entry, and the others
pub ring_rest : (p : ℕ) (m : List ℕ) (i n : ℕ) → ring p m i (suc n) ≡ entry_at m (i % p) ∷ ring p m ((i + 1) % p) n
unfolding listed
ring_rest p m i n =
    let step : (j : ℕ) → (i + suc j) % p ≡ ((i + 1) % p + j) % p = λ j.
    let sum : i + suc j ≡ i + 1 + j = omega arith in
    ap (λ (x : ℕ). x % p) sum ∙ sym (mod-add-mod (i + 1) p j) in
    rw (add-zero i)
    (ap (λ (l : List ErrorEntry). entry_at m (i % p) ∷ l) (listed_same _ _ n (λ j lt. ap (entry_at m) (step j))))

module _ (p : ℕ) (m : List ℕ) (long : length m ≡ 20 * p) (i : ℕ) (e : ErrorEntry) where
  -- the law: an entry put k places behind the first leaves the k entries before it
  pub ring_kept : (k n : ℕ) → n ≤ k → k < p → ring p (put_at m ((i + k) % p) e) i n ≡ ring p m i n
  ring_kept k n nk kp =
      listed_same _ _ n
      (λ j lt. place_other p m long ((i + k) % p) (mod-lt (i + k) (omega arith)) e ((i + j) % p) (apart p i j k (omega arith) kp))

  module _ (f : FitsBytes e) where
    put_there : (k : ℕ) → k < p → entry_at (put_at m ((i + k) % p) e) ((i + k) % p) ≡ e
    put_there k kp = place_same p m long ((i + k) % p) (mod-lt (i + k) (omega arith)) e f

    -- so an entry put behind the last of them joins there
    pub ring_behind : (n : ℕ) → n < p → ring p (put_at m ((i + n) % p) e) i (suc n) ≡ ring p m i n ++ (e ∷ [])
    ring_behind n h = listed_more _ n ∙ rw (ring_kept n n (omega arith) h, put_there n h)

    -- and an entry put before the first, which is p - 1 places behind it, joins there
    pub ring_before :
        (n : ℕ) →
        n < p →
        ring p (put_at m ((i + (p - 1)) % p) e) ((i + (p - 1)) % p) (suc n) ≡ e ∷ ring p m i n
    ring_before n h =
        let last : p - 1 < p = omega arith in
        let sum : i + (p - 1) + 1 ≡ i + p = omega arith in
        let w : ℕ = (i + (p - 1)) % p in
        let next : (w + 1) % p ≡ i % p =
        mod-add-mod (i + (p - 1)) p 1 ∙ ap (λ (x : ℕ). x % p) sum ∙ add-mod_right i p in
        let first : entry_at (put_at m w e) (w % p) ≡ e = rw (mod-mod (i + (p - 1)) p) (put_there (p - 1) last) in
        ring_rest p (put_at m w e) w n
        ∙ rw (first, next, ring_within p (put_at m w e) i n, ring_kept (p - 1) n (omega arith) last)

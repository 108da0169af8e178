-- A recording is read alike in whatever parts it comes, and step by step: how many records are
-- allowed for does not matter, as long as they are as many as the bytes.
use Rattle.std.proofs.Common.{◌≡◌, ℕ, zero, suc, ◌+◌, ◌-◌, ◌≤◌, ◌%◌, ◌^◌, min, List, [], ◌∷◌, ◌++◌, length, drop, take, refl, ap, sym, ◌∙◌, append_assoc, arith}
use Rattle.std.proofs.lemmas.List.{length-append, length-drop, take-append-le, drop-append-le, drop-drop, drop_min}
use Rattle.std.proofs.Math.Nat.{mod-add-mod}
use Rattle.std.specs.declared.result.Result.{Result}
use Rattle.std.specs.declared.result.Result.TheVariants.{Ok, Err}
use Rattle.pcap.specs.declared.fault.Halt.{Halt}
use Rattle.pcap.specs.declared.records.Record.{Record}
use Rattle.pcap.specs.declared.records.Record.TheVariants as record'
use Rattle.pcap.specs.declared.reader.State.{State}
use Rattle.pcap.specs.declared.reader.Reader.{Reader}
use Rattle.pcap.specs.Reader.{record_of, after, Seen, packets_in, further, passed, behind, Read, with_packets, read_in, read_of, joined}
use Rattle.pcap.proofs.Stays.{stays}

-- the record at the front, behind the bytes that are due
abbrev pub next_of : Reader → List ℕ → Result (Record × ℕ) Halt
next_of r xs = record_of r.state (drop r.state.due xs)

-- what is read where none is
abbrev pub stopped : Reader → List ℕ → Read
stopped r xs = record { packets = []; last = passed r (min r.state.due (length xs)); left = drop r.state.due xs }

-- what is read from a record on
abbrev pub gone_on : (Reader → List ℕ → Read) → Reader → List ℕ → Record × ℕ → Read
gone_on f r xs x = with_packets (packets_in x.0 (take x.1 (drop r.state.due xs))) (f (behind r x) (drop x.1 (drop r.state.due xs)))

abbrev by_next : Result (Record × ℕ) Halt → Read → (Record × ℕ → Read) → Read
by_next q w f = elim q [ Err e ↦ w | Ok x ↦ f x ]

alike : (q : Result (Record × ℕ) Halt) (w : Read) (f g : Record × ℕ → Read) → ((x : Record × ℕ) → q ≡ Ok x → f x ≡ g x) → by_next q w f ≡ by_next q w g
alike (Err e) w f g h = refl
alike (Ok x) w f g h = h x refl

-- a record takes a byte at least of those that are there
pub record Shorter (r : Reader) (xs : List ℕ) (x : Record × ℕ) : Type 0 where
  pub some : 1 ≤ x.1
  pub there : r.state.due + x.1 ≤ length xs
  pub rest : length (drop x.1 (drop r.state.due xs)) + (r.state.due + x.1) ≡ length xs

pub shorter : (r : Reader) (xs : List ℕ) (x : Record × ℕ) → next_of r xs ≡ Ok x → Shorter r xs x
shorter r xs x h =
    let s = stays r.state (drop r.state.due xs) x h in
    let a = s.some in
    let b = s.enough in
    let l = length-drop r.state.due xs in
    let m = length-drop x.1 (drop r.state.due xs) in
    record { some = a; there = omega arith; rest = omega arith }

empty_by :
    (r : Reader) (xs : List ℕ) (w : Read) (f : Record × ℕ → Read) (q : Result (Record × ℕ) Halt) → length xs ≡ 0 → next_of r xs ≡ q → by_next q w f ≡ w
empty_by r xs w f (Err e) h k = refl
empty_by r xs w f (Ok x) h k = let s = shorter r xs x k in let a = s.some in let b = s.there in absurd (omega arith)

empty : (n : ℕ) (r : Reader) (xs : List ℕ) → length xs ≡ 0 → read_in n r xs ≡ stopped r xs
empty zero r xs h = refl
empty (suc n) r xs h = empty_by r xs (stopped r xs) (gone_on (read_in n) r xs) (next_of r xs) h refl

fuel : (n m : ℕ) (r : Reader) (xs : List ℕ) → length xs ≤ n → length xs ≤ m → read_in n r xs ≡ read_in m r xs
fuel zero m r xs a b = sym (empty m r xs (omega arith))
fuel (suc n) zero r xs a b = empty (suc n) r xs (omega arith)
fuel (suc n) (suc m) r xs a b =
    alike (next_of r xs) (stopped r xs) (gone_on (read_in n) r xs) (gone_on (read_in m) r xs)
    (λ x h. let s = shorter r xs x h in let c = s.some in let d = s.rest in
    ap (with_packets (packets_in x.0 (take x.1 (drop r.state.due xs))))
    (fuel n m (behind r x) (drop x.1 (drop r.state.due xs)) (omega arith) (omega arith)))

-- the first record, and what is read behind it
unrolled : (r : Reader) (xs : List ℕ) → read_of r xs ≡ by_next (next_of r xs) (stopped r xs) (gone_on read_of r xs)
unfolding read_of
unrolled r [] = sym (empty_by r [] (stopped r []) (gone_on read_of r []) (next_of r []) refl refl)
unrolled r (y ∷ ys) =
    alike (next_of r (y ∷ ys)) (stopped r (y ∷ ys)) (gone_on (read_in (length ys)) r (y ∷ ys)) (gone_on read_of r (y ∷ ys))
    (λ x h. let s = shorter r (y ∷ ys) x h in let c = s.some in let d = s.rest in
    ap (with_packets (packets_in x.0 (take x.1 (drop r.state.due (y ∷ ys)))))
    (fuel (length ys) (length (drop x.1 (drop r.state.due (y ∷ ys)))) (behind r x) (drop x.1 (drop r.state.due (y ∷ ys))) (omega arith) (omega arith)))

pub goes : (r : Reader) (xs : List ℕ) (x : Record × ℕ) → next_of r xs ≡ Ok x → read_of r xs ≡ gone_on read_of r xs x
goes r xs x h = unrolled r xs ∙ ap (λ q. by_next q (stopped r xs) (gone_on read_of r xs)) h

pub stops : (r : Reader) (xs : List ℕ) (e : Halt) → next_of r xs ≡ Err e → read_of r xs ≡ stopped r xs
stops r xs e h = unrolled r xs ∙ ap (λ q. by_next q (stopped r xs) (gone_on read_of r xs)) h

-- BYTES THAT ARE DUE
-- what is known behind a record does not depend on what was due before it
same_after : (s : State) (k : ℕ) (x : Record) → after (record s { due = k }) x ≡ after s x
unfolding after
same_after s k (record'.Header c) = refl
same_after s k (record'.Section o) = refl
same_after s k (record'.Interface i) = refl
same_after s k (record'.Packet d) = refl
same_after s k (record'.Other o total) = refl
same_after s k (record'.Trailer o) = refl

-- nor does the record
same_record : (s : State) (k : ℕ) (xs : List ℕ) → record_of (record s { due = k }) xs ≡ record_of s xs
unfolding record_of
same_record s k xs = refl

twice : (p a b c : ℕ) → a + b ≡ c → further (further p a) b ≡ further p c
twice p a b c h = mod-add-mod (p + a) (2 ^ 64) b ∙ ap (λ n. n % 2 ^ 64) (omega arith)

same_drop : (k d : ℕ) (xs : List ℕ) → k ≤ d → drop (d - k) (drop k xs) ≡ drop d xs
same_drop k d xs h = drop-drop (d - k) k xs ∙ ap (λ n. drop n xs) (omega arith)

same_next : (r : Reader) (k : ℕ) (xs : List ℕ) → k ≤ r.state.due → next_of (passed r k) (drop k xs) ≡ next_of r xs
same_next r k xs h =
    same_record r.state (r.state.due - k) (drop (r.state.due - k) (drop k xs)) ∙ ap (record_of r.state) (same_drop k r.state.due xs h)

made : (p q : ℕ) (s t : State) → p ≡ q → s ≡ t →
    ◌≡◌ {A = Reader} (record { place = p; state = s }) (record { place = q; state = t })
made p q s t e f = cc (e, f)

read_made : (ps : List Seen) (r s : Reader) (xs ys : List ℕ) → r ≡ s → xs ≡ ys →
    ◌≡◌ {A = Read} (record { packets = ps; last = r; left = xs }) (record { packets = ps; last = s; left = ys })
read_made ps r s xs ys e f = cc (e, f)

same_stopped : (r : Reader) (k : ℕ) (xs : List ℕ) → k ≤ r.state.due → k ≤ length xs → stopped (passed r k) (drop k xs) ≡ stopped r xs
same_stopped r k xs h l =
    let d = length-drop k xs in
    read_made [] _ _ _ _
    (made _ _ _ _
    (twice r.place k (min (r.state.due - k) (length (drop k xs))) (min r.state.due (length xs)) (omega arith))
    (ap (λ n. record r.state { due = n }) (omega arith)))
    (same_drop k r.state.due xs h)

same_behind : (r : Reader) (k : ℕ) (x : Record × ℕ) → k ≤ r.state.due → behind (passed r k) x ≡ behind r x
same_behind r k x h =
    made _ _ _ _ (twice r.place k (r.state.due - k + x.1) (r.state.due + x.1) (omega arith)) (same_after r.state (r.state.due - k) x.0)

-- bytes that are due may be passed over before
pub passing : (r : Reader) (k : ℕ) (xs : List ℕ) → k ≤ r.state.due → k ≤ length xs → read_of r xs ≡ read_of (passed r k) (drop k xs)
passing r k xs h l = by (next_of r xs) refl
  where
    by : (q : Result (Record × ℕ) Halt) → next_of r xs ≡ q → read_of r xs ≡ read_of (passed r k) (drop k xs)
    by (Err e) n = stops r xs e n ∙ sym (stops (passed r k) (drop k xs) e (same_next r k xs h ∙ n) ∙ same_stopped r k xs h l)
    by (Ok x) n =
        goes r xs x n
        ∙ sym (goes (passed r k) (drop k xs) x (same_next r k xs h ∙ n)
        ∙ ap (λ zs. with_packets (packets_in x.0 (take x.1 zs)) (read_of (behind (passed r k) x) (drop x.1 zs))) (same_drop k r.state.due xs h)
        ∙ ap (λ t. with_packets (packets_in x.0 (take x.1 (drop r.state.due xs))) (read_of t (drop x.1 (drop r.state.due xs)))) (same_behind r k x h))

-- PARTS
regrouped : (ps : List Seen) (w : Read) (ys : List ℕ) → with_packets ps (joined w ys) ≡ joined (with_packets ps w) ys
regrouped ps w ys = ap (λ qs. record (read_of w.last (w.left ++ ys)) { packets = qs }) (sym (append_assoc ps w.packets (read_of w.last (w.left ++ ys)).packets))

stopped_parts : (r : Reader) (xs ys : List ℕ) → read_of r (xs ++ ys) ≡ joined (stopped r xs) ys
stopped_parts r xs ys =
    let l = length-append xs ys in
    passing r (min r.state.due (length xs)) (xs ++ ys) (omega arith) (omega arith)
    ∙ ap (read_of (passed r (min r.state.due (length xs))))
    (drop-append-le (min r.state.due (length xs)) xs ys (omega arith) ∙ ap (λ zs. zs ++ ys) (drop_min r.state.due xs))

-- the parts of what is read behind a record
abbrev Behind : Reader → List ℕ → List ℕ → Record × ℕ → Type 0
Behind r xs ys x = read_of (behind r x) (drop x.1 (drop r.state.due xs) ++ ys) ≡ joined (read_of (behind r x) (drop x.1 (drop r.state.due xs))) ys

parts_by :
    (r : Reader) (xs ys : List ℕ) (q : Result (Record × ℕ) Halt) → next_of r xs ≡ q →
    ((x : Record × ℕ) → next_of r xs ≡ Ok x → Behind r xs ys x) → read_of r (xs ++ ys) ≡ joined (read_of r xs) ys
parts_by r xs ys (Err e) k h = stopped_parts r xs ys ∙ ap (λ w. joined w ys) (sym (stops r xs e k))
parts_by r xs ys (Ok x) k h =
    let s = shorter r xs x k in
    let t = stays r.state (drop r.state.due xs) x k in
    let a = s.some in let b = s.there in
    let d = drop-append-le r.state.due xs ys (omega arith) in
    goes r (xs ++ ys) x (ap (record_of r.state) d ∙ t.same ys)
    ∙ ap (λ zs. with_packets (packets_in x.0 (take x.1 zs)) (read_of (behind r x) (drop x.1 zs))) d
    ∙ ap (λ zs. with_packets (packets_in x.0 zs) (read_of (behind r x) (drop x.1 (drop r.state.due xs ++ ys)))) (take-append-le x.1 (drop r.state.due xs) ys t.enough)
    ∙ ap (λ zs. with_packets (packets_in x.0 (take x.1 (drop r.state.due xs))) (read_of (behind r x) zs)) (drop-append-le x.1 (drop r.state.due xs) ys t.enough)
    ∙ ap (with_packets (packets_in x.0 (take x.1 (drop r.state.due xs)))) (h x k)
    ∙ regrouped (packets_in x.0 (take x.1 (drop r.state.due xs))) (read_of (behind r x) (drop x.1 (drop r.state.due xs))) ys
    ∙ ap (λ w. joined w ys) (sym (goes r xs x k))

parts_in : (n : ℕ) (r : Reader) (xs ys : List ℕ) → length xs ≤ n → read_of r (xs ++ ys) ≡ joined (read_of r xs) ys
parts_in zero r xs ys h =
    parts_by r xs ys (next_of r xs) refl (λ x k. let s = shorter r xs x k in let a = s.some in let b = s.there in absurd (omega arith))
parts_in (suc n) r xs ys h =
    parts_by r xs ys (next_of r xs) refl
    (λ x k. let s = shorter r xs x k in let a = s.some in let c = s.rest in
    parts_in n (behind r x) (drop x.1 (drop r.state.due xs)) ys (omega arith))

-- In whatever parts the bytes come: what is read of all is what is read of the first, and then of
-- what that left with the rest behind.
pub parts : (r : Reader) (xs ys : List ℕ) → read_of r (xs ++ ys) ≡ joined (read_of r xs) ys
parts r xs ys = parts_in (length xs) r xs ys (omega arith)

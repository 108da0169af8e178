-- What is read of some bytes is what a step gives, and then what is read behind it.
use Rattle.std.proofs.Common.{◌≡◌, ℕ, ◌-◌, ◌<◌, ◌%◌, ◌^◌, min, Bool, true, false, cond, List, [], ◌∷◌, length, drop, take, refl, ap, ◌∙◌, arith, ◌==◌}
use Rattle.std.proofs.lemmas.Bool.{eqb-true}
use Rattle.std.proofs.lemmas.List.{drop_all}
use Rattle.std.proofs.Math.Nat.{mod-eq_of_lt}
use Rattle.std.specs.declared.result.Result.{Result}
use Rattle.std.specs.declared.result.Result.TheVariants.{Ok, Err}
use Rattle.pcap.specs.declared.fault.Halt.{Halt}
use Rattle.pcap.specs.declared.fault.Halt.TheVariants.{More, Flaw}
use Rattle.pcap.specs.declared.records.Record.{Record}
use Rattle.pcap.specs.declared.records.Record.TheVariants as record'
use Rattle.pcap.specs.declared.reader.State.{State}
use Rattle.pcap.specs.declared.reader.Reader.{Reader}
use Rattle.pcap.specs.Reader.{record_of, packets_in, passed, behind, further, with_packets, read_of, Answer, more, passed_over, found, halted, answered, left_at, answer_of, behind_step, used, given, Halts}
use Rattle.pcap.proofs.InParts.{stopped, goes, stops, passing}

-- what is read, by what a step answers and where it leaves the reader
abbrev By : Reader → List ℕ → Answer → Reader → Type 0
By r xs a s = read_of r xs ≡ with_packets (given a) (read_of s (drop (used a) xs))

-- a record
of_found : (r : Reader) (xs : List ℕ) (x : Record × ℕ) → read_of r xs ≡ with_packets (packets_in x.0 (take x.1 xs)) (read_of (behind r x) (drop x.1 xs)) → By r xs (found x xs) (behind r x)
of_found r xs (record'.Header c, n) h = h
of_found r xs (record'.Section o, n) h = h
of_found r xs (record'.Interface i, n) h = h
of_found r xs (record'.Packet d, n) h = h
of_found r xs (record'.Other o t, n) h = h
of_found r xs (record'.Trailer o, n) h = h

not_found : (p : ℕ) (e : Halt) (r : Reader) (xs : List ℕ) → By r xs (halted p e) r
not_found p (More n) r xs = refl
not_found p (Flaw f) r xs = refl

-- where no bytes are due
none_due : (r : Reader) (xs : List ℕ) → r.state.due ≡ 0 → (q : Result (Record × ℕ) Halt) → record_of r.state xs ≡ q → By r xs (answered r.place q xs) (left_at r q)
none_due r xs d (Err e) h = not_found r.place e r xs
none_due r xs d (Ok x) h =
    let z : drop r.state.due xs ≡ xs = ap (λ n. drop n xs) d in
    of_found r xs x
    (goes r xs x (ap (record_of r.state) z ∙ h)
    ∙ ap (λ zs. with_packets (packets_in x.0 (take x.1 zs)) (read_of (behind r x) (drop x.1 zs))) z)

by_length :
    (b : Bool) (r : Reader) (xs : List ℕ) →
    By r xs (cond b (more 1) (passed_over (min (length xs) r.state.due))) (cond b r (passed r (min (length xs) r.state.due)))
by_length true r xs = refl
by_length false r xs = passing r (min (length xs) r.state.due) xs (omega arith) (omega arith)

by_due :
    (b : Bool) (r : Reader) (xs : List ℕ) → r.state.due == 0 ≡ b →
    By r xs
    (cond b (answered r.place (record_of r.state xs) xs) (cond (length xs == 0) (more 1) (passed_over (min (length xs) r.state.due))))
    (cond b (left_at r (record_of r.state xs)) (cond (length xs == 0) r (passed r (min (length xs) r.state.due))))
by_due true r xs h = none_due r xs (eqb-true r.state.due 0 h) (record_of r.state xs) refl
by_due false r xs h = by_length (length xs == 0) r xs

-- A step gives the first packets of what is read, and leaves the reader where the others are read.
pub steps : (r : Reader) (xs : List ℕ) → read_of r xs ≡ with_packets (given (answer_of r xs)) (read_of (behind_step r xs) (drop (used (answer_of r xs)) xs))
unfolding answer_of behind_step
steps r xs = by_due (r.state.due == 0) r xs refl

-- WHERE NOTHING IS READ
made : (p : ℕ) (s t : State) → s ≡ t → p < 2 ^ 64 → ◌≡◌ {A = Reader} (record { place = further p 0; state = s }) (record { place = p; state = t })
made p s t e h = let m : further p 0 ≡ p = ap (λ n. n % 2 ^ 64) (omega arith) ∙ mod-eq_of_lt h in cc (m, e)

-- nothing is read of the bytes
abbrev Nothing : Reader → List ℕ → Type 0
Nothing r xs = read_of r xs ≡ record { packets = []; last = r; left = xs }

-- where no bytes are due
nothing_due : (r : Reader) (xs : List ℕ) → r.state.due ≡ 0 → r.place < 2 ^ 64 → stopped r xs ≡ record { packets = []; last = r; left = xs }
nothing_due r xs d h =
    let m : min r.state.due (length xs) ≡ 0 = omega arith in
    let e : passed r (min r.state.due (length xs)) ≡ r =
    ap (passed r) m ∙ made r.place (record r.state { due = r.state.due - 0 }) r.state (ap (λ n. record r.state { due = n }) (omega arith)) h in
    let z : drop r.state.due xs ≡ xs = ap (λ n. drop n xs) d in
    ap (λ t. record { packets = []; last = t; left = drop r.state.due xs }) e ∙ ap (λ zs. record { packets = []; last = r; left = zs }) z

found_reads : (r : Reader) (xs : List ℕ) (x : Record × ℕ) → Halts (found x xs) → Nothing r xs
found_reads r xs (record'.Header c, n) h = absurd h
found_reads r xs (record'.Section o, n) h = absurd h
found_reads r xs (record'.Interface i, n) h = absurd h
found_reads r xs (record'.Packet d, n) h = absurd h
found_reads r xs (record'.Other o t, n) h = absurd h
found_reads r xs (record'.Trailer o, n) h = absurd h

nothing_found :
    (r : Reader) (xs : List ℕ) → r.state.due ≡ 0 → r.place < 2 ^ 64 → (q : Result (Record × ℕ) Halt) → record_of r.state xs ≡ q →
    Halts (answered r.place q xs) → Nothing r xs
nothing_found r xs d p (Ok x) h k = found_reads r xs x k
nothing_found r xs d p (Err e) h k =
    let z : drop r.state.due xs ≡ xs = ap (λ n. drop n xs) d in
    stops r xs e (ap (record_of r.state) z ∙ h) ∙ nothing_due r xs d p

-- bytes are due, and none is there
no_bytes : (r : Reader) → r.place < 2 ^ 64 → Nothing r []
unfolding read_of
no_bytes r p =
    let m : min r.state.due 0 ≡ 0 = omega arith in
    let e : passed r (min r.state.due 0) ≡ r =
    ap (passed r) m ∙ made r.place (record r.state { due = r.state.due - 0 }) r.state (ap (λ n. record r.state { due = n }) (omega arith)) p in
    ap (λ t. record { packets = []; last = t; left = drop r.state.due [] }) e
    ∙ ap (λ zs. record { packets = []; last = r; left = zs }) (drop_all r.state.due [] (omega arith))

waiting : (r : Reader) (xs : List ℕ) → length xs ≡ 0 → r.place < 2 ^ 64 → Nothing r xs
waiting r [] l p = no_bytes r p
waiting r (x ∷ xs) l p = absurd (omega arith)

halts_by :
    (b c : Bool) (r : Reader) (xs : List ℕ) → r.state.due == 0 ≡ b → length xs == 0 ≡ c → r.place < 2 ^ 64 →
    Halts (cond b (answered r.place (record_of r.state xs) xs) (cond c (more 1) (passed_over (min (length xs) r.state.due)))) → Nothing r xs
halts_by true c r xs d l p h = nothing_found r xs (eqb-true r.state.due 0 d) p (record_of r.state xs) refl h
halts_by false true r xs d l p h = waiting r xs (eqb-true (length xs) 0 l) p
halts_by false false r xs d l p h = absurd h

-- Where a step reads nothing, nothing can be read.
pub halts : (r : Reader) (xs : List ℕ) → r.place < 2 ^ 64 → Halts (answer_of r xs) → Nothing r xs
unfolding answer_of
halts r xs p h = halts_by (r.state.due == 0) (length xs == 0) r xs refl refl p h

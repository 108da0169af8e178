-- A record that is read at the front of some bytes is read there too where more bytes stand behind
-- them, and it has a byte at least.
use Rattle.std.proofs.Common.{◌≡◌, ℕ, ◌+◌, ◌-◌, ◌≤◌, ◌%◌, Bool, true, false, cond, List, ◌++◌, length, take, slice_index, refl, ap, sym, ◌∙◌, arith, ◌==◌, nat_lt}
use Rattle.std.proofs.lemmas.List.{length-append, get_or_append_left, take-append-le}
use Rattle.std.proofs.lemmas.Bool.{le-ltb, ltb-false}
use Rattle.std.specs.declared.option.Option.{Option}
use Rattle.std.specs.declared.option.Option.TheVariants.{Some, None}
use Rattle.std.specs.declared.result.Result.{Result}
use Rattle.std.specs.declared.result.Result.TheVariants.{Ok, Err}
use Rattle.pcap.specs.declared.order.Order.{Order}
use Rattle.pcap.specs.declared.order.Order.TheVariants.{LowestFirst, HighestFirst}
use Rattle.pcap.specs.declared.fault.Flaw.{Flaw}
use Rattle.pcap.specs.declared.fault.Halt.{Halt}
use Rattle.pcap.specs.declared.fault.Halt.TheVariants as halt
use Rattle.pcap.specs.declared.fault.Wrong.TheVariants.{LengthLies, TooLong}
use Rattle.pcap.specs.declared.classic.Classic.{Classic}
use Rattle.pcap.specs.declared.blocks.Kind.{Kind}
use Rattle.pcap.specs.declared.blocks.Kind.TheVariants as kind
use Rattle.pcap.specs.declared.blocks.Extent.{Extent}
use Rattle.pcap.specs.declared.records.Record.{Record}
use Rattle.pcap.specs.declared.reader.Stage.{Stage}
use Rattle.pcap.specs.declared.reader.Stage.TheVariants as stage
use Rattle.pcap.specs.declared.reader.Part.{Part}
use Rattle.pcap.specs.declared.reader.Part.TheVariants as part
use Rattle.pcap.specs.declared.reader.State.{State}
use Rattle.pcap.specs.Bind.{◌>>=◌, flaw, raised}
use Rattle.pcap.specs.Order.{four_at}
use Rattle.pcap.specs.Classic.{classic_of, record_size}
use Rattle.pcap.specs.Blocks.{kind_of, least, order_of_magic, known_order, order_of_block, sized, extent_by, extent_of, block_extent}
use Rattle.pcap.specs.Reader.{block_part, header_part, first_part, part_of, read_part, whole, record_of}

-- NUMBERS
at_order :
    (o : Order) (xs ys : List ℕ) (i : ℕ) → slice_index (xs ++ ys) i ≡ slice_index xs i → slice_index (xs ++ ys) (i + 1) ≡ slice_index xs (i + 1)
    → slice_index (xs ++ ys) (i + 2) ≡ slice_index xs (i + 2) → slice_index (xs ++ ys) (i + 3) ≡ slice_index xs (i + 3)
    → four_at o (xs ++ ys) i ≡ four_at o xs i
at_order LowestFirst xs ys i a b c d = omega (arith, a, b, c, d)
at_order HighestFirst xs ys i a b c d = omega (arith, a, b, c, d)

-- a number lies in the bytes in front
pub four_in : (o : Order) (xs ys : List ℕ) (i : ℕ) → i + 4 ≤ length xs → four_at o (xs ++ ys) i ≡ four_at o xs i
four_in o xs ys i h =
    let a = get_or_append_left xs ys 0 i (omega arith) in
    let b = get_or_append_left xs ys 0 (i + 1) (omega arith) in
    let c = get_or_append_left xs ys 0 (i + 2) (omega arith) in
    let d = get_or_append_left xs ys 0 (i + 3) (omega arith) in
    at_order o xs ys i a b c d

-- CHOICES
alike : {A B E : Type 0} (r : Result A E) (f g : A → Result B E) → ((x : A) → f x ≡ g x) → (r >>= f) ≡ (r >>= g)
alike (Ok x) f g h = h x
alike (Err e) f g h = refl

-- what was read by two readings was read by both
pub record Both {A B E : Type 0} (r : Result A E) (f : A → Result B E) (y : B) : Type 0 where
  pub first : A
  pub read : r ≡ Ok first
  pub then' : f first ≡ Ok y

pub both : {A B E : Type 0} (r : Result A E) (f : A → Result B E) (y : B) → (r >>= f) ≡ Ok y → Both r f y
both (Ok x) f y h = record { first = x; read = refl; then' = h }
both (Err e) f y h = absurd (cc h)

-- a choice whose first way is a fault, where something was read
pub record Chosen {A E : Type 0} (b : Bool) (x : Result A E) (y : A) : Type 0 where
  pub no : b ≡ false
  pub read : x ≡ Ok y

pub chosen : {A E : Type 0} (b : Bool) (e : E) (x : Result A E) (y : A) → cond b (Err e) x ≡ Ok y → Chosen b x y
chosen true e x y h = absurd (cc h)
chosen false e x y h = record { no = refl; read = h }

not_taken : {A : Type 0} (b : Bool) (x y : A) → b ≡ false → cond b x y ≡ y
not_taken true x y h = absurd (cc h)
not_taken false x y h = refl

-- what was read by a reading that may only find something wrong
unraised : {A : Type 0} (r : Result A Flaw) (y : A) → raised r ≡ Ok y → r ≡ Ok y
unraised (Ok x) y h = cc h
unraised (Err e) y h = absurd (cc h)

-- BLOCKS
order_same : (o : Order) (xs ys : List ℕ) → 12 ≤ length xs → order_of_block o (xs ++ ys) ≡ order_of_block o xs
unfolding order_of_block
order_same o xs ys h =
    ap (λ m. cond (m == 0x0A0D0D0A) (known_order (order_of_magic (four_at LowestFirst (xs ++ ys) 8))) (Ok o)) (four_in LowestFirst xs ys 0 (omega arith))
    ∙ ap (λ m. cond (four_at LowestFirst xs 0 == 0x0A0D0D0A) (known_order (order_of_magic m)) (Ok o)) (four_in LowestFirst xs ys 8 (omega arith))

extent_same : (o : Order) (xs ys : List ℕ) → 12 ≤ length xs → extent_of o (xs ++ ys) ≡ extent_of o xs
unfolding extent_of
extent_same o xs ys h =
    ap (λ r. r >>= λ p. extent_by p (kind_of (four_at p (xs ++ ys) 0)) (four_at p (xs ++ ys) 4)) (order_same o xs ys h)
    ∙ alike (order_of_block o xs) _ _
    (λ p. ap (λ m. extent_by p (kind_of m) (four_at p (xs ++ ys) 4)) (four_in p xs ys 0 (omega arith))
    ∙ ap (λ m. extent_by p (kind_of (four_at p xs 0)) m) (four_in p xs ys 4 (omega arith)))

-- a number of bytes is left in front of more
below : (n : ℕ) (xs ys : List ℕ) → n ≤ length xs → nat_lt (length (xs ++ ys)) n ≡ false
below n xs ys h = let l = length-append xs ys in le-ltb (length (xs ++ ys)) n (omega arith)

pub extent_stays : (o : Order) (xs ys : List ℕ) (e : Extent) → block_extent o xs ≡ Ok e → block_extent o (xs ++ ys) ≡ Ok e
unfolding block_extent
extent_stays o xs ys e h =
    let c = chosen (nat_lt (length xs) 12) (halt.More (12 - length xs)) (raised (extent_of o xs)) e h in
    let n = ltb-false (length xs) 12 c.no in
    not_taken (nat_lt (length (xs ++ ys)) 12) _ _ (below 12 xs ys n) ∙ ap raised (extent_same o xs ys n) ∙ c.read

-- it has a byte at least
by_length :
    (o : Order) (k : Kind) (total : ℕ) (e : Extent) → 1 ≤ total →
    cond (nat_lt 1048576 total) (Err (flaw 4 (TooLong total))) (Ok (record { order = o; kind = k; bytes = total })) ≡ Ok e → 1 ≤ e.bytes
by_length o k total e l h =
    let c = chosen (nat_lt 1048576 total) (flaw 4 (TooLong total)) (Ok (record { order = o; kind = k; bytes = total })) e h in
    let r = c.read in
    let g : record { order = o; kind = k; bytes = total } ≡ e = cc r in let q = ap (λ (x : Extent). x.bytes) g in omega arith

sized_some : (o : Order) (k : Kind) (total : ℕ) (e : Extent) → least k ≤ total → sized o k total ≡ Ok e → 1 ≤ e.bytes
sized_some o kind.Other total e l h = let g : record { order = o; kind = kind.Other; bytes = 8 } ≡ e = cc h in let q = ap (λ (x : Extent). x.bytes) g in omega arith
sized_some o kind.Section total e l h = by_length o kind.Section total e (omega arith) h
sized_some o kind.Interface total e l h = by_length o kind.Interface total e (omega arith) h
sized_some o kind.Packet total e l h = by_length o kind.Packet total e (omega arith) h
sized_some o kind.Simple total e l h = by_length o kind.Simple total e (omega arith) h
sized_some o kind.Enhanced total e l h = by_length o kind.Enhanced total e (omega arith) h

multiple : {A E : Type 0} (b : Bool) (e : E) (x : Result A E) (y : A) → cond b x (Err e) ≡ Ok y → x ≡ Ok y
multiple true e x y h = h
multiple false e x y h = absurd (cc h)

extent_some : (o : Order) (k : Kind) (total : ℕ) (e : Extent) → extent_by o k total ≡ Ok e → 1 ≤ e.bytes
extent_some o k total e h =
    let c = chosen (nat_lt total (least k)) (flaw 4 (LengthLies total)) (cond (total % 4 == 0) (sized o k total) (Err (flaw 4 (LengthLies total)))) e h in
    sized_some o k total e (ltb-false total (least k) c.no) (multiple (total % 4 == 0) (flaw 4 (LengthLies total)) (sized o k total) e c.read)

pub block_some : (o : Order) (xs : List ℕ) (e : Extent) → block_extent o xs ≡ Ok e → 1 ≤ e.bytes
unfolding block_extent extent_of
block_some o xs e h =
    let c = chosen (nat_lt (length xs) 12) (halt.More (12 - length xs)) (raised (extent_of o xs)) e h in
    let b = both (order_of_block o xs) (λ p. extent_by p (kind_of (four_at p xs 0)) (four_at p xs 4)) e (unraised (extent_of o xs) e c.read) in
    extent_some b.first (kind_of (four_at b.first xs 0)) (four_at b.first xs 4) e b.then'

-- PARTS
-- a part is read in front of more bytes, and has a byte at least
pub record PartStays (read : List ℕ → Result (Part × ℕ) Halt) (xs : List ℕ) (p : Part × ℕ) : Type 0 where
  pub same : (ys : List ℕ) → read (xs ++ ys) ≡ Ok p
  pub some : 1 ≤ p.1

block_stays : (o : Order) (xs : List ℕ) (p : Part × ℕ) → block_part o xs ≡ Ok p → PartStays (block_part o) xs p
unfolding block_part
block_stays o xs p h =
    let b = both (block_extent o xs) (λ e. Ok (part.Block e.order e.kind, e.bytes)) p h in
    let t = b.then' in
    let n = block_some o xs b.first b.read in
    record {
      same = λ ys. ap (λ r. r >>= λ e. Ok (part.Block e.order e.kind, e.bytes)) (extent_stays o xs ys b.first b.read) ∙ t;
      some =
          let g : (part.Block b.first.order b.first.kind, b.first.bytes) ≡ p = cc t in
          let q : b.first.bytes ≡ p.1 = ap (λ (x : Part × ℕ). x.1) g in omega arith;
    }

header_some : (c : Option Classic) (p : Part × ℕ) → header_part c ≡ Ok p → 1 ≤ p.1
header_some (Some c) p h = let g : (part.Header c, 24) ≡ p = cc h in let q : 24 ≡ p.1 = ap (λ (x : Part × ℕ). x.1) g in omega arith
header_some None p h = absurd (cc h)

-- the front of a recording behind its first four bytes, by their number
abbrev first_by : ℕ → List ℕ → Result (Part × ℕ) Halt
first_by m xs = cond (m == 0x0A0D0D0A) (block_part LowestFirst xs) (header_part (classic_of m))

first_by_stays :
    (b : Bool) (m : ℕ) (xs : List ℕ) (p : Part × ℕ) → (cond b (block_part LowestFirst xs) (header_part (classic_of m))) ≡ Ok p →
    PartStays (λ zs. cond b (block_part LowestFirst zs) (header_part (classic_of m))) xs p
first_by_stays true m xs p h = let s = block_stays LowestFirst xs p h in record { same = λ ys. s.same ys; some = s.some }
first_by_stays false m xs p h = record { same = λ ys. h; some = header_some (classic_of m) p h }

first_stays : (xs : List ℕ) (p : Part × ℕ) → first_part xs ≡ Ok p → PartStays first_part xs p
unfolding first_part
first_stays xs p h =
    let m = four_at LowestFirst xs 0 in
    let c = chosen (nat_lt (length xs) 4) (halt.More (4 - length xs)) (first_by (four_at LowestFirst xs 0) xs) p h in
    let n = ltb-false (length xs) 4 c.no in
    let s = first_by_stays (four_at LowestFirst xs 0 == 0x0A0D0D0A) (four_at LowestFirst xs 0) xs p c.read in
    record {
      same =
          λ ys. not_taken (nat_lt (length (xs ++ ys)) 4) _ _ (below 4 xs ys n)
          ∙ ap (λ k. first_by k (xs ++ ys)) (four_in LowestFirst xs ys 0 (omega arith)) ∙ s.same ys;
      some = s.some;
    }

-- the length of a record of a pcap behind its first 16 bytes
abbrev size_by : ℕ → Result ℕ Halt
size_by n = cond (nat_lt 1048560 n) (Err (halt.Flaw (flaw 8 (TooLong n)))) (Ok (16 + n))

size_some : (n m : ℕ) → size_by n ≡ Ok m → 1 ≤ m
size_some n m h =
    let c = chosen (nat_lt 1048560 n) (halt.Flaw (flaw 8 (TooLong n))) (Ok (16 + n)) m h in
    let r = c.read in let g : 16 + n ≡ m = cc r in omega arith

pub record SizeStays (c : Classic) (xs : List ℕ) (n : ℕ) : Type 0 where
  pub same : (ys : List ℕ) → record_size c (xs ++ ys) ≡ Ok n
  pub some : 1 ≤ n

size_stays : (c : Classic) (xs : List ℕ) (n : ℕ) → record_size c xs ≡ Ok n → SizeStays c xs n
unfolding record_size
size_stays c xs n h =
    let k = chosen (nat_lt (length xs) 16) (halt.More (16 - length xs)) (size_by (four_at c.order xs 8)) n h in
    let l = ltb-false (length xs) 16 k.no in
    record {
      same =
          λ ys. not_taken (nat_lt (length (xs ++ ys)) 16) _ _ (below 16 xs ys l)
          ∙ ap size_by (four_in c.order xs ys 8 (omega arith)) ∙ k.read;
      some = size_some (four_at c.order xs 8) n k.read;
    }

pub part_stays : (s : Stage) (xs : List ℕ) (p : Part × ℕ) → part_of s xs ≡ Ok p → PartStays (part_of s) xs p
unfolding part_of
part_stays stage.Start xs p h = let s = first_stays xs p h in record { same = λ ys. s.same ys; some = s.some }
part_stays (stage.Records c) xs p h =
    let b = both (record_size c xs) (λ n. Ok (part.Record c, n)) p h in
    let t = b.then' in
    let s = size_stays c xs b.first b.read in
    record {
      same = λ ys. ap (λ r. r >>= λ n. Ok (part.Record c, n)) (s.same ys) ∙ t;
      some =
          let g : (part.Record c, b.first) ≡ p = cc t in
          let q : b.first ≡ p.1 = ap (λ (x : Part × ℕ). x.1) g in let k = s.some in omega arith;
    }
part_stays (stage.Blocks o) xs p h = let s = block_stays o xs p h in record { same = λ ys. s.same ys; some = s.some }
part_stays (stage.Trailer o total) xs p h =
    record {
      same = λ ys. h;
      some = let g : (part.Trailer o total, 4) ≡ p = cc h in let q : 4 ≡ p.1 = ap (λ (x : Part × ℕ). x.1) g in omega arith;
    }

-- RECORDS
-- so many bytes are there
pub record There (n : ℕ) (xs zs : List ℕ) : Type 0 where
  pub enough : n ≤ length xs
  pub front : zs ≡ take n xs

there : (n : ℕ) (xs zs : List ℕ) → whole n xs ≡ Ok zs → There n xs zs
there n xs zs h =
    let c = chosen (nat_lt (length xs) n) (halt.More (n - length xs)) (Ok (take n xs)) zs h in
    let r = c.read in
    record { enough = ltb-false (length xs) n c.no; front = cc r }

whole_stays : (n : ℕ) (xs ys : List ℕ) → n ≤ length xs → whole n (xs ++ ys) ≡ Ok (take n xs)
whole_stays n xs ys h =
    not_taken (nat_lt (length (xs ++ ys)) n) _ _ (below n xs ys h) ∙ ap Ok (take-append-le n xs ys h)

-- a record that was read: it has a byte at least, all its bytes are there, and it is read in front of
-- more bytes
pub record Stays (s : State) (xs : List ℕ) (x : Record × ℕ) : Type 0 where
  pub some : 1 ≤ x.1
  pub enough : x.1 ≤ length xs
  pub same : (ys : List ℕ) → record_of s (xs ++ ys) ≡ Ok x

-- the reading behind a part
abbrev behind_part : State → List ℕ → Part × ℕ → Result (Record × ℕ) Halt
behind_part s xs p = whole p.1 xs >>= λ ys. raised (read_part p.0 s.interfaces ys) >>= λ r. Ok (r, p.1)

pub stays : (s : State) (xs : List ℕ) (x : Record × ℕ) → record_of s xs ≡ Ok x → Stays s xs x
unfolding record_of
stays s xs x h =
    let a = both (part_of s.stage xs) (behind_part s xs) x h in
    let p = a.first in
    let b = both (whole a.first.1 xs) (λ ys. raised (read_part a.first.0 s.interfaces ys) >>= λ r. Ok (r, a.first.1)) x a.then' in
    let t = there a.first.1 xs b.first b.read in
    let c = both (raised (read_part a.first.0 s.interfaces b.first)) (λ r. Ok (r, a.first.1)) x b.then' in
    let f = c.then' in
    let g : (c.first, a.first.1) ≡ x = cc f in
    let q : a.first.1 ≡ x.1 = ap (λ (y : Record × ℕ). y.1) g in
    let k = part_stays s.stage xs a.first a.read in
    let n = k.some in
    let e = t.enough in
    record {
      some = omega arith;
      enough = omega arith;
      same =
          λ ys. ap (λ r. r >>= behind_part s (xs ++ ys)) (k.same ys)
          ∙ ap (λ r. r >>= λ zs. raised (read_part a.first.0 s.interfaces zs) >>= λ r. Ok (r, a.first.1)) (whole_stays a.first.1 xs ys t.enough ∙ ap Ok (sym t.front))
          ∙ b.then';
    }

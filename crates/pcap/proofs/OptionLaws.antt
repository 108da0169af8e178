-- The options of a block, one by one: how many are allowed for does not matter, as long as they are
-- as many as the bytes.
use Rattle.std.proofs.Common.{◌≡◌, ℕ, zero, suc, ◌+◌, ◌-◌, ◌≤◌, Bool, true, false, cond, List, [], ◌∷◌, length, take, drop, refl, ap, sym, ◌∙◌, arith, ◌==◌, nat_lt}
use Rattle.std.proofs.lemmas.List.{length-drop, take_rest}
use Rattle.std.specs.declared.option.Option.{Option}
use Rattle.std.specs.declared.option.Option.TheVariants.{Some, None}
use Rattle.std.specs.declared.result.Result.{Result}
use Rattle.std.specs.declared.result.Result.TheVariants.{Ok, Err}
use Rattle.pcap.specs.declared.order.Order.{Order}
use Rattle.pcap.specs.declared.interface.Interface.{Interface}
use Rattle.pcap.specs.declared.fault.Flaw.{Flaw}
use Rattle.pcap.specs.declared.fault.Wrong.TheVariants.{LengthLies}
use Rattle.pcap.specs.Order.{two_at}
use Rattle.pcap.specs.Bind.{◌>>=◌, flaw}
use Rattle.pcap.specs.Options.{filled, with_option, option_at, options_in, with_options}

-- an option has four bytes at least
chain :
    (a b c d : Bool) (e f : Flaw) (r : Result Interface Flaw) (k : ℕ) (x : Interface × ℕ) →
    cond a (Ok None) (cond b (Err e) (cond c (Ok None) (cond d (Err f) (r >>= λ j. Ok (Some (j, 4 + k)))))) ≡ Ok (Some x) →
    4 ≤ x.1
chain true b c d e f r k x h = absurd (cc h)
chain false true c d e f r k x h = absurd (cc h)
chain false false true d e f r k x h = absurd (cc h)
chain false false false true e f r k x h = absurd (cc h)
chain false false false false e f (Err g) k x h = absurd (cc h)
chain false false false false e f (Ok j) k x h = let g : x ≡ (j, 4 + k) = cc h in let q : x.1 ≡ 4 + k = ap (λ (y : Interface × ℕ). y.1) g in omega arith

pub four : (o : Order) (e : ℕ) (i : Interface) (xs : List ℕ) (x : Interface × ℕ) → option_at o e i xs ≡ Ok (Some x) → 4 ≤ x.1
unfolding option_at
four o e i xs x h =
    chain (length xs == 0) (nat_lt (length xs) 4) (two_at o xs 0 == 0) (nat_lt (length xs) (4 + filled (two_at o xs 2)))
    (flaw (e - length xs) (LengthLies (length xs))) (flaw (e - length xs) (LengthLies (two_at o xs 2)))
    (with_option o (e - length xs) i (two_at o xs 0) (take (two_at o xs 2) (drop 4 xs))) (filled (two_at o xs 2)) x h

-- what follows an option, or the end of the options
abbrev pub next : {A : Type 0} → Result (Option A) Flaw → Result Interface Flaw → (A → Result Interface Flaw) → Result Interface Flaw
next r d f = r >>= λ found. elim found [ None ↦ d | Some x ↦ f x ]

alike :
    {A : Type 0} (r : Result (Option A) Flaw) (d : Result Interface Flaw) (f g : A → Result Interface Flaw) →
    ((x : A) → r ≡ Ok (Some x) → f x ≡ g x) → next r d f ≡ next r d g
alike (Ok None) d f g h = refl
alike (Ok (Some x)) d f g h = h x refl
alike (Err e) d f g h = refl

shorter : (xs : List ℕ) (n k : ℕ) → 4 ≤ k → length xs ≤ suc n → length (drop k xs) ≤ n
shorter xs n k a b = let l = length-drop k xs in omega arith

fuel : (n m : ℕ) (o : Order) (e : ℕ) (i : Interface) (xs : List ℕ) → length xs ≤ n → length xs ≤ m → options_in n o e i xs ≡ options_in m o e i xs
unfolding option_at
fuel zero zero o e i xs a b = refl
fuel zero (suc m) o e i [] a b = refl
fuel zero (suc m) o e i (x ∷ xs) a b = absurd (omega arith)
fuel (suc n) zero o e i [] a b = refl
fuel (suc n) zero o e i (x ∷ xs) a b = absurd (omega arith)
fuel (suc n) (suc m) o e i xs a b =
    alike (option_at o e i xs) (Ok i) _ _
    (λ x h. let k = four o e i xs x h in fuel n m o e x.0 (drop x.1 xs) (shorter xs n x.1 k a) (shorter xs m x.1 k b))

-- the first option, and those behind it
pub unrolled :
    (o : Order) (e : ℕ) (i : Interface) (xs : List ℕ) →
    with_options o e i xs ≡ next (option_at o e i xs) (Ok i) (λ x. with_options o e x.0 (drop x.1 xs))
unfolding with_options option_at
unrolled o e i [] = refl
unrolled o e i (y ∷ ys) =
    alike (option_at o e i (y ∷ ys)) (Ok i) _ _
    (λ x h. let k = four o e i (y ∷ ys) x h in
    fuel (length ys) (length (drop x.1 (y ∷ ys))) o e x.0 (drop x.1 (y ∷ ys)) (shorter (y ∷ ys) (length ys) x.1 k (omega arith)) (omega arith))

-- by what stands at the front
pub option_more :
    (o : Order) (e : ℕ) (i j : Interface) (xs : List ℕ) (n : ℕ) →
    option_at o e i xs ≡ Ok (Some (j, n)) → with_options o e j (take (length xs - n) (drop n xs)) ≡ with_options o e i xs
option_more o e i j xs n h =
    ap (with_options o e j) (take_rest xs n)
    ∙ sym (unrolled o e i xs ∙ ap (λ r. next r (Ok i) (λ y. with_options o e y.0 (drop y.1 xs))) h)

pub option_end :
    (o : Order) (e : ℕ) (i : Interface) (xs : List ℕ) → option_at o e i xs ≡ Ok None → Ok i ≡ with_options o e i xs
option_end o e i xs h = sym (unrolled o e i xs ∙ ap (λ r. next r (Ok i) (λ y. with_options o e y.0 (drop y.1 xs))) h)

pub option_wrong :
    (o : Order) (e : ℕ) (i : Interface) (xs : List ℕ) (f : Flaw) → option_at o e i xs ≡ Err f → Err f ≡ with_options o e i xs
option_wrong o e i xs f h = sym (unrolled o e i xs ∙ ap (λ r. next r (Ok i) (λ y. with_options o e y.0 (drop y.1 xs))) h)

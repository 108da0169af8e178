-- How a script goes on: what is printed of the rest follows what was printed before.
-- Assumes nothing.
use Rattle.std.proofs.Common.{◌≡◌, ◌<◌, ℕ, Bool, true, false, ◌&&◌, refl, ◌+◌, ◌-◌, suc, take, eqb, ltb, lt-ltb, slice_index, List, [], ◌∷◌, ◌++◌, length, Option, Some, None, sym, ap, subst, ◌∙◌, append_assoc, append-nil, arith, IfSome}
use Rattle.std.proofs.lemmas.List.{length-take-le}
use Rattle.std.specs.Io.BufRead.{first_piece, strip_last, ends_with_byte, take_through, drop_through, DropsThrough}
use Rattle.std.specs.Io.KnownBytes.{Appends, Keeps, IsAtEnd}
use Rattle.script.specs.declared.Line.{Line}
use Rattle.script.specs.Grammar.{says, line_says}
use Rattle.replay.specs.declared.play.Options.{Options}
use Rattle.replay.specs.declared.station.Station.{Station}
use Rattle.replay.specs.declared.station.Said.{Said}
use Rattle.replay.specs.Played.{fresh, line_text, is_played, Plays, Script, ended, goes as next_line}

-- the station, the place and the bytes that are left, of a script of which a text was printed so far, and whether each line of it could be played
pub record Going (how : Options) (bs : List ℕ) (x : Station) (n : ℕ) (rest text : List ℕ) (played : Bool) : Type 0 where
  pub goes : (page : List ℕ) (whole : Bool) → Script how x n rest page whole → Script how fresh 1 bs (text ++ page) (played && whole)

pub begins : (how : Options) (bs : List ℕ) → Going how bs fresh 1 bs [] true
begins how bs = record { goes = λ page whole s. s }

and_behind : (a b c : Bool) → (a && b) && c ≡ a && (b && c)
and_behind true b c = refl
and_behind false b c = refl

and_true : (a : Bool) → a && true ≡ a
and_true true = refl
and_true false = refl

pub goes_on :
    {how : Options} {bs rest text : List ℕ} {x y : Station} {n : ℕ} {played : Bool} (l : Line) (o : Said) →
    Going how bs x n rest text played → 0 < length rest → says l ≡ line_says (first_piece 10 rest) → Plays l x o y →
    Going how bs y (n + 1) (drop_through 10 rest) (text ++ line_text how l o n x y) (played && is_played o)
goes_on {how} {bs} {rest} {text} {x} {y} {n} {played} l o g more reads plays =
    record {
      goes = λ page whole s.
          subst (λ (b : Bool). Script how fresh 1 bs ((text ++ line_text how l o n x y) ++ page) b) (sym (and_behind played (is_played o) whole))
          (subst (λ (xs : List ℕ). Script how fresh 1 bs xs (played && (is_played o && whole))) (sym (append_assoc text (line_text how l o n x y) page))
          (g.goes (line_text how l o n x y ++ page) (is_played o && whole) (next_line l o more reads plays s)));
    }

pub all_of_it : {how : Options} {bs text : List ℕ} {x : Station} {n : ℕ} {played : Bool} → Going how bs x n [] text played → Script how fresh 1 bs text played
all_of_it {how} {bs} {text} {x} {n} {played} g =
    subst (λ (b : Bool). Script how fresh 1 bs text b) (and_true played)
    (subst (λ (xs : List ℕ). Script how fresh 1 bs xs (played && true)) (append-nil text) (g.goes [] true ended))

-- bytes that join those before
pub none_joins : (known : Option (List ℕ)) → Appends known known []
none_joins None = tt
none_joins (Some xs) = sym (append-nil xs)

pub joins : (a b c : Option (List ℕ)) (s t : List ℕ) → Appends a b s → Appends b c t → Appends a c (s ++ t)
joins None b c s t p q = tt
joins (Some xs) None c s t p q = absurd p
joins (Some xs) (Some ys) None s t p q = absurd q
joins (Some xs) (Some ys) (Some zs) s t p q = q ∙ ap (λ (l : List ℕ). l ++ t) p ∙ append_assoc xs s t

pub keeps : (a b c : Option (List ℕ)) (s : List ℕ) → Appends a b s → Keeps b c → Appends a c s
keeps None b c s p q = tt
keeps (Some xs) None c s p q = absurd p
keeps (Some xs) (Some ys) None s p q = absurd q
keeps (Some xs) (Some ys) (Some zs) s p q = q ∙ p

-- a line that does not end with a newline is the last one
strips_one : (xs : List ℕ) → 0 < length xs → length (strip_last 10 xs) ≡ length xs → ends_with_byte 10 xs ≡ false
strips_one xs some same = by (ends_with_byte 10 xs) refl
  where
    by : (b : Bool) → ends_with_byte 10 xs ≡ b → ends_with_byte 10 xs ≡ false
    by false q = q
    by true q =
        let shorter : strip_last 10 xs ≡ take (length xs - 1) xs = rw q refl in
        let long : length (take (length xs - 1) xs) ≡ length xs = rw shorter at same in
        let short : length (take (length xs - 1) xs) ≡ length xs - 1 = length-take-le (length xs - 1) xs (omega arith) in
        absurd (omega (arith, long, short, some))

ends_of : (ws : List ℕ) (k : ℕ) → length ws ≡ suc k → ends_with_byte 10 ws ≡ eqb (slice_index ws k) 10
ends_of ws k h =
    let last : length ws - 1 ≡ k = omega (arith, h) in
    let some : ltb 0 (length ws) ≡ true = lt-ltb 0 (length ws) (omega (arith, h)) in
    rw some (rw last refl)

ends_so : (x : ℕ) (ys : List ℕ) → ends_with_byte 10 (x ∷ ys) ≡ false → ends_with_byte 10 ys ≡ false
ends_so x [] e = refl
ends_so x (y ∷ ys) e =
    ends_of (y ∷ ys) (length ys) refl ∙ (sym (ends_of (x ∷ y ∷ ys) (suc (length ys)) refl) ∙ e)

nothing_behind : (xs : List ℕ) → ends_with_byte 10 (take_through 10 xs) ≡ false → drop_through 10 xs ≡ []
nothing_behind [] e = refl
nothing_behind (x ∷ xs) e = by (nothing_behind xs) (eqb x 10) refl
  where
    by :
        (ends_with_byte 10 (take_through 10 xs) ≡ false → drop_through 10 xs ≡ []) →
        (b : Bool) → eqb x 10 ≡ b → drop_through 10 (x ∷ xs) ≡ []
    by behind true q =
        let one : take_through 10 (x ∷ xs) ≡ x ∷ [] = rw q refl in
        let ends : ends_with_byte 10 (x ∷ []) ≡ false = rw one at e in
        let clash : true ≡ false = sym q ∙ (sym (ends_of (x ∷ []) 0 refl) ∙ ends) in cc
    by behind false q =
        let more : take_through 10 (x ∷ xs) ≡ x ∷ take_through 10 xs = rw q refl in
        let ends : ends_with_byte 10 (x ∷ take_through 10 xs) ≡ false = rw more at e in
        rw q (behind (ends_so x (take_through 10 xs) ends))

-- The same of a reader with bytes left, and a writer.
pub record Goes (how : Options) (bs : List ℕ) (left : Option (List ℕ)) (x : Station) (n : ℕ) (played : Bool) (before now : Option (List ℕ)) : Type 0 where
  pub rest : List ℕ
  pub text : List ℕ
  pub left_is : left ≡ Some rest
  pub written : Appends before now text
  pub going : Going how bs x n rest text played

-- the start of a script
pub starts :
    (how : Options) (first before : Option (List ℕ)) (x : Station) →
    x ≡ fresh → IfSome first (λ bs. Goes how bs first x 1 true before before)
starts how None before x e = tt
starts how (Some bs) before x e =
    record {
      rest = bs;
      text = [];
      left_is = refl;
      written = none_joins before;
      going = subst (λ (y : Station). Going how bs y 1 bs [] true) (sym e) (begins how bs);
    }

-- the end of one of which nothing is left, where that is known
pub finishes :
    (how : Options) (x : Station) (n : ℕ) (played : Bool) (before first left now now' : Option (List ℕ)) →
    IfSome first (λ bs. Goes how bs left x n played before now) →
    IfSome first (λ bs. IsAtEnd left) →
    Keeps now now' →
    IfSome first (λ bs. (page : List ℕ) × Script how fresh 1 bs page played × Appends before now' page)
finishes how x n played before None left now now' g z k = tt
finishes how x n played before (Some bs) left now now' g z k =
    let none : g.rest ≡ [] = rw g.left_is at z in (
      g.text,
      all_of_it (subst (λ (rest : List ℕ). Going how bs x n rest g.text played) none g.going),
      keeps before now now' g.text g.written k,
    )

module _ (how : Options) (x : Station) (n : ℕ) (played : Bool) (before : Option (List ℕ)) where
  -- a line more was played, and what it prints written
  pub next :
      (first left left' now now' now'' : Option (List ℕ)) (read text : List ℕ) (l : Line) (o : Said) (y : Station) (outcome : Bool) →
      outcome ≡ is_played o →
      IfSome first (λ bs. Goes how bs left x n played before now) →
      Keeps now now' →
      IfSome left (λ xs. read ≡ take_through 10 xs) →
      DropsThrough left left' 10 →
      0 < length read →
      says l ≡ line_says (strip_last 10 read) →
      Plays l x o y →
      text ≡ line_text how l o n x y →
      Appends now' now'' text →
      IfSome first (λ bs. Goes how bs left' y (n + 1) (played && outcome) before now'')
  next None left left' now now' now'' read text l o y outcome e g k t d more s p h a = tt
  next (Some bs) left left' now now' now'' read text l o y outcome e g k t d more s p h a =
      let piece : read ≡ take_through 10 g.rest = rw g.left_is at t in
      let behind : left' ≡ Some (drop_through 10 g.rest) = rw g.left_is at d in
      record {
        rest = drop_through 10 g.rest;
        text = g.text ++ line_text how l o n x y;
        left_is = behind;
        written = joins before now' now'' g.text (line_text how l o n x y) (keeps before now now' g.text g.written k)
            (subst (λ (xs : List ℕ). Appends now' now'' xs) h a);
        going = subst (λ (b : Bool). Going how bs y (n + 1) (drop_through 10 g.rest) (g.text ++ line_text how l o n x y) (played && b)) (sym e)
            (goes_on l o g.going (some_left g.rest read piece more) (s ∙ ap (λ (cs : List ℕ). line_says (strip_last 10 cs)) piece) p);
      }
    where
      some_left : (xs read : List ℕ) → read ≡ take_through 10 xs → 0 < length read → 0 < length xs
      some_left [] read e h = let none : length read ≡ 0 = ap length e in absurd (omega (arith, none, h))
      some_left (c ∷ cs) read e h = omega arith

  -- nothing is left
  pub finish :
      (first left now now' now'' : Option (List ℕ)) →
      IfSome first (λ bs. Goes how bs left x n played before now) →
      IsAtEnd left →
      Keeps now now' →
      Keeps now' now'' →
      IfSome first (λ bs. (page : List ℕ) × Script how fresh 1 bs page played × Appends before now'' page)
  finish None left now now' now'' g z k k' = tt
  finish (Some bs) left now now' now'' g z k k' =
      let none : g.rest ≡ [] = rw g.left_is at z in (
        g.text,
        all_of_it (subst (λ (rest : List ℕ). Going how bs x n rest g.text played) none g.going),
        keeps before now' now'' g.text (keeps before now now' g.text g.written k) k',
      )

  -- nothing is left behind a line that did not end with a newline
  pub finish_last :
      (first left left' now now' : Option (List ℕ)) (read : List ℕ) (y : Station) (k : ℕ) (whole : Bool) →
      IfSome first (λ bs. Goes how bs left x n played before now) →
      IfSome left (λ xs. read ≡ take_through 10 xs) →
      DropsThrough left left' 10 →
      0 < length read →
      length (strip_last 10 read) ≡ length read →
      IfSome first (λ bs. Goes how bs left' y k whole before now') →
      IfSome first (λ bs. IsAtEnd left')
  finish_last None left left' now now' read y k whole e t d some same g = tt
  finish_last (Some bs) left left' now now' read y k whole e t d some same g =
      let piece : read ≡ take_through 10 e.rest = rw e.left_is at t in
      let behind : left' ≡ Some (drop_through 10 e.rest) = rw e.left_is at d in
      let none : drop_through 10 e.rest ≡ [] =
      nothing_behind e.rest (subst (λ (cs : List ℕ). ends_with_byte 10 cs ≡ false) piece (strips_one read some same))
      in
      rw behind none

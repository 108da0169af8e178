-- Taking a value by its key: the walk up to the first word that has it, and the walk over the words of a text.
-- Assumes nothing.
use Rattle.std.proofs.Common.{◌≡◌, ◌∙◌, ◌<◌, ◌≤◌, ℕ, zero, suc, ◌+◌, ◌-◌, true, false, Option, option_map, List, [], ◌∷◌, ◌++◌, length, get_or, take, drop, Some, None, Bor, refl, sym, ap, arith, append_assoc, add-one, length-append, append-nil}
use Rattle.std.proofs.Math.Seq.{drop-cons, take-suc}
use Rattle.std.proofs.lemmas.List.{drop_all, take_all}
use Rattle.script.specs.Reads.{word, ends}
use Rattle.script.specs.Keys.{words_within, has_key, value_behind, without, texts, Lacks, Finds}

abbrev Word : Type 0
Word = Bor (List ℕ)

-- none of the words before a place has the key
pub record Passed (key : List ℕ) (ws : List Word) (place : ℕ) : Type 0 where
  pub value : value_behind key (texts (drop place ws)) ≡ value_behind key (texts ws)
  pub rest : texts (take place ws) ++ without key (texts (drop place ws)) ≡ without key (texts ws)

pub none_passed : (key : List ℕ) (ws : List Word) → Passed key ws 0
none_passed key ws = record { value = refl; rest = refl }

texts_more : (xs ys : List Word) → texts (xs ++ ys) ≡ texts xs ++ texts ys
texts_more [] ys = refl
texts_more (x ∷ xs) ys = ap (λ (zs : List (List ℕ)). x.now ∷ zs) (texts_more xs ys)

-- a word that has the key or not, in front of others
value_goes : (key w : List ℕ) (ws : List (List ℕ)) → has_key key w ≡ false → value_behind key (w ∷ ws) ≡ value_behind key ws
unfolding value_behind
value_goes key w ws e = rw e

rest_goes : (key w : List ℕ) (ws : List (List ℕ)) → has_key key w ≡ false → without key (w ∷ ws) ≡ w ∷ without key ws
unfolding without
rest_goes key w ws e = rw e

value_ends : (key w : List ℕ) (ws : List (List ℕ)) → has_key key w ≡ true → value_behind key (w ∷ ws) ≡ Some (drop (length key) w)
unfolding value_behind
value_ends key w ws e = rw e

rest_ends : (key w : List ℕ) (ws : List (List ℕ)) → has_key key w ≡ true → without key (w ∷ ws) ≡ ws
unfolding without
rest_ends key w ws e = rw e

module _ (key : List ℕ) (ws : List Word) (place : ℕ) (d : Word) (within : place < length ws) where
  abbrev here : Word
  here = get_or ws place d

  ahead : texts (drop place ws) ≡ here.now ∷ texts (drop (suc place) ws)
  ahead = ap texts (drop-cons ws place d within)

  behind : texts (take (suc place) ws) ≡ texts (take place ws) ++ here.now ∷ []
  behind = ap texts (take-suc ws place d within) ∙ texts_more (take place ws) (here ∷ [])

  pub passes : has_key key here.now ≡ false → Passed key ws place → Passed key ws (place + 1)
  passes other p =
      record {
        value = rw add-one (sym (ap (value_behind key) ahead ∙ value_goes key here.now (texts (drop (suc place) ws)) other) ∙ p.value);
        rest =
            rw add-one
            (ap (λ (f : List (List ℕ)). f ++ without key (texts (drop (suc place) ws))) behind ∙
            append_assoc (texts (take place ws)) (here.now ∷ []) (without key (texts (drop (suc place) ws))) ∙
            ap (λ (r : List (List ℕ)). texts (take place ws) ++ r)
            (sym (ap (without key) ahead ∙ rest_goes key here.now (texts (drop (suc place) ws)) other)) ∙
            p.rest);
      }

  pub finds : has_key key here.now ≡ true → Passed key ws place → Finds key ws place (drop (length key) here.now)
  finds same p =
      record {
        within = within;
        found = sym p.value ∙ ap (value_behind key) ahead ∙ value_ends key here.now (texts (drop (suc place) ws)) same;
        rest =
            texts_more (take place ws) (drop (suc place) ws) ∙
            ap (λ (r : List (List ℕ)). texts (take place ws) ++ r)
            (sym (ap (without key) ahead ∙ rest_ends key here.now (texts (drop (suc place) ws)) same)) ∙
            p.rest;
      }

pub lacks : (key : List ℕ) (ws : List Word) (place : ℕ) → length ws ≤ place → Passed key ws place → Lacks key ws
unfolding value_behind without
lacks key ws place over p =
    let past : drop place ws ≡ [] = drop_all place ws over in
    let all : take place ws ≡ ws = take_all place ws over in
    record {
      value = sym p.value ∙ ap (λ (l : List Word). value_behind key (texts l)) past;
      rest =
          sym p.rest ∙ ap (λ (l : List Word). texts (take place ws) ++ without key (texts l)) past ∙ append-nil (texts (take place ws)) ∙ ap texts all;
    }

-- the words so far, with those that are left, of which so many may be, are the words of the whole
abbrev pub Split : List Word → List ℕ → List ℕ → Type 0
Split ws rest whole = option_map (λ us. texts ws ++ us) (words_within (18 - length ws) rest) ≡ words_within 18 whole

option_twice :
    (ws : List Word) (w : Word) (o : Option (List (List ℕ))) →
    option_map (λ us. texts ws ++ us) (option_map (λ us. w.now ∷ us) o) ≡ option_map (λ us. texts (ws ++ w ∷ []) ++ us) o
option_twice ws w None = refl
option_twice ws w (Some us) =
    ap Some (sym (ap (λ (f : List (List ℕ)). f ++ us) (texts_more ws (w ∷ [])) ∙ append_assoc (texts ws) (w.now ∷ []) us))

within_goes :
    (most : ℕ) (c : ℕ) (cs w rest : List ℕ) → word (c ∷ cs) ≡ Some (w, rest) →
    words_within (suc most) (c ∷ cs) ≡ option_map (λ us. w ∷ us) (words_within most rest)
unfolding words_within
within_goes most c cs w rest e = rw e

within_fails : (most : ℕ) (c : ℕ) (cs : List ℕ) → word (c ∷ cs) ≡ None → words_within most (c ∷ cs) ≡ None
unfolding words_within
within_fails zero c cs e = refl
within_fails (suc most) c cs e = rw e

within_none : (most : ℕ) → words_within most [] ≡ Some []
unfolding words_within
within_none zero = refl
within_none (suc most) = refl

within_full : (c : ℕ) (cs : List ℕ) → words_within 0 (c ∷ cs) ≡ None
unfolding words_within
within_full c cs = refl

pub nothing_split : (whole : List ℕ) → Split [] whole whole
nothing_split whole = same (words_within 18 whole)
  where
    same : (o : Option (List (List ℕ))) → option_map (λ us. us) o ≡ o
    same None = refl
    same (Some us) = refl

pub goes_split :
    (ws : List Word) (rest rest' whole : List ℕ) (w : Word) → length ws < 18 → ends rest ≡ None → word rest ≡ Some (w.now, rest') → Split ws rest whole →
    Split (ws ++ w ∷ []) rest' whole
goes_split ws [] rest' whole w h n e s = cc
goes_split ws (c ∷ cs) rest' whole w h n e s =
    let one_more : length (ws ++ w ∷ []) ≡ suc (length ws) = omega (arith, length-append ws (w ∷ [])) in
    let fewer : 18 - length ws ≡ suc (18 - length (ws ++ w ∷ [])) = omega (arith, one_more) in
    sym (option_twice ws w (words_within (18 - length (ws ++ w ∷ [])) rest')) ∙
    ap (option_map (λ us. texts ws ++ us))
    (sym (ap (λ (n : ℕ). words_within n (c ∷ cs)) fewer ∙ within_goes (18 - length (ws ++ w ∷ [])) c cs w.now rest' e)) ∙
    s

pub all_split : (ws : List Word) (rest whole : List ℕ) → ends rest ≡ Some tt → Split ws rest whole → Some (texts ws) ≡ words_within 18 whole
all_split ws [] whole e s =
    ap Some (sym (append-nil (texts ws))) ∙ sym (ap (option_map (λ us. texts ws ++ us)) (within_none (18 - length ws))) ∙ s
all_split ws (c ∷ cs) whole e s = cc

pub no_word_split : (ws : List Word) (rest whole : List ℕ) → ends rest ≡ None → word rest ≡ None → Split ws rest whole → None ≡ words_within 18 whole
no_word_split ws [] whole n e s = cc
no_word_split ws (c ∷ cs) whole n e s = sym (ap (option_map (λ us. texts ws ++ us)) (within_fails (18 - length ws) c cs e)) ∙ s

pub full_split : (ws : List Word) (rest whole : List ℕ) → length ws ≡ 18 → ends rest ≡ None → Split ws rest whole → None ≡ words_within 18 whole
full_split ws [] whole full n s = cc
full_split ws (c ∷ cs) whole full n s =
    let over : 18 - length ws ≡ 0 = omega arith in
    sym (ap (option_map (λ us. texts ws ++ us)) (ap (λ (n : ℕ). words_within n (c ∷ cs)) over ∙ within_full c cs)) ∙ s

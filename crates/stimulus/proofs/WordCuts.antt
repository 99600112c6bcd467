-- Words, from the front.
use Rattle.std.proofs.Common.{◌≡◌, ℕ, ◌+◌, ◌<◌, List, [], ◌∷◌, length, take, drop, Bool, true, false, cond, refl, sym, ap, ◌∙◌, subst, arith, suc}
use Rattle.std.specs.Prelude.{take_while, not}
use Rattle.std.specs.List.{prefix_len}
use Rattle.std.proofs.lemmas.Bool.{false≢true, not-true}
use Rattle.std.proofs.lemmas.List.Folds.{length-prefix_len}
use Rattle.stimulus.specs.StimulusText.{is_space, words_of, begins_word, onto_first}
use Rattle.stimulus.specs.Cuts.{is_inside, IsFirstWord}

-- blanks before a word make no difference
words_skip : (bs : List ℕ) → words_of (drop (prefix_len is_space bs) bs) ≡ words_of bs
words_skip [] = refl
words_skip (c ∷ cs) = by_test (is_space c) refl (words_skip cs)
  where
    by_test : (b : Bool) → is_space c ≡ b → words_of (drop (prefix_len is_space cs) cs) ≡ words_of cs → words_of (drop (prefix_len is_space (c ∷ cs)) (c ∷ cs)) ≡ words_of (c ∷ cs)
    by_test true is again =
        let n : prefix_len is_space (c ∷ cs) ≡ suc (prefix_len is_space cs) = ap (λ (b : Bool). cond b (1 + prefix_len is_space cs) 0) is ∙ omega arith in
        ap (λ (k : ℕ). words_of (drop k (c ∷ cs))) n ∙ again ∙ sym (ap (λ (b : Bool). cond b (words_of cs) (cond (begins_word cs) (onto_first c (words_of cs)) ((c ∷ []) ∷ words_of cs))) is)
    by_test false is again =
        let n : prefix_len is_space (c ∷ cs) ≡ 0 = ap (λ (b : Bool). cond b (1 + prefix_len is_space cs) 0) is in
        ap (λ (k : ℕ). words_of (drop k (c ∷ cs))) n

-- what is left begins with a word
skip_begins : (bs : List ℕ) → 0 < length (drop (prefix_len is_space bs) bs) → begins_word (drop (prefix_len is_space bs) bs) ≡ true
skip_begins [] some = absurd (omega arith)
skip_begins (c ∷ cs) some = by_test (is_space c) refl (skip_begins cs) some
  where
    by_test : (b : Bool) → is_space c ≡ b → (0 < length (drop (prefix_len is_space cs) cs) → begins_word (drop (prefix_len is_space cs) cs) ≡ true)
        → 0 < length (drop (prefix_len is_space (c ∷ cs)) (c ∷ cs)) → begins_word (drop (prefix_len is_space (c ∷ cs)) (c ∷ cs)) ≡ true
    by_test true is again some =
        let n : prefix_len is_space (c ∷ cs) ≡ suc (prefix_len is_space cs) = ap (λ (b : Bool). cond b (1 + prefix_len is_space cs) 0) is ∙ omega arith in
        subst (λ (k : ℕ). begins_word (drop k (c ∷ cs)) ≡ true) (sym n) (again (subst (λ (k : ℕ). 0 < length (drop k (c ∷ cs))) n some))
    by_test false is again some =
        let n : prefix_len is_space (c ∷ cs) ≡ 0 = ap (λ (b : Bool). cond b (1 + prefix_len is_space cs) 0) is in
        subst (λ (k : ℕ). begins_word (drop k (c ∷ cs)) ≡ true) (sym n) (ap not is)

ends_none : (cs : List ℕ) → begins_word cs ≡ false → prefix_len is_inside cs ≡ 0
ends_none [] h = refl
ends_none (d ∷ ds) h = ap (λ (b : Bool). cond b (1 + prefix_len is_inside ds) 0) h

-- a word and the words after it
words_take : (bs : List ℕ) → begins_word bs ≡ true → words_of bs ≡ take (prefix_len is_inside bs) bs ∷ words_of (drop (prefix_len is_inside bs) bs)
words_take [] h = absurd (false≢true h)
words_take (c ∷ cs) h = by_next (begins_word cs) refl (words_take cs)
  where
    chosen : words_of (c ∷ cs) ≡ cond (begins_word cs) (onto_first c (words_of cs)) ((c ∷ []) ∷ words_of cs)
    chosen = ap (λ (b : Bool). cond b (words_of cs) (cond (begins_word cs) (onto_first c (words_of cs)) ((c ∷ []) ∷ words_of cs))) (not-true (is_space c) h)

    size : prefix_len is_inside (c ∷ cs) ≡ suc (prefix_len is_inside cs)
    size = ap (λ (b : Bool). cond b (1 + prefix_len is_inside cs) 0) h ∙ omega arith

    by_next : (b : Bool) → begins_word cs ≡ b → (begins_word cs ≡ true → words_of cs ≡ take (prefix_len is_inside cs) cs ∷ words_of (drop (prefix_len is_inside cs) cs))
        → words_of (c ∷ cs) ≡ take (prefix_len is_inside (c ∷ cs)) (c ∷ cs) ∷ words_of (drop (prefix_len is_inside (c ∷ cs)) (c ∷ cs))
    by_next true is again =
        chosen ∙ ap (λ (b : Bool). cond b (onto_first c (words_of cs)) ((c ∷ []) ∷ words_of cs)) is ∙ ap (onto_first c) (again is)
        ∙ ap (λ (k : ℕ). take k (c ∷ cs) ∷ words_of (drop k (c ∷ cs))) (sym size)
    by_next false is again =
        chosen ∙ ap (λ (b : Bool). cond b (onto_first c (words_of cs)) ((c ∷ []) ∷ words_of cs)) is
        ∙ ap (λ (k : ℕ). take (suc k) (c ∷ cs) ∷ words_of (drop (suc k) (c ∷ cs))) (sym (ends_none cs is))
        ∙ ap (λ (k : ℕ). take k (c ∷ cs) ∷ words_of (drop k (c ∷ cs))) (sym size)

-- ---- the cuts of the code

no_words : (bs : List ℕ) → length bs ≡ 0 → words_of bs ≡ []
no_words [] h = refl
no_words (c ∷ cs) h = absurd (omega arith)

-- what is left after so many blanks
module _ (line after : List ℕ) (n : ℕ) (size : n ≡ length (take_while is_space line)) (is_after : after ≡ drop n line) where
  left : after ≡ drop (prefix_len is_space line) line
  left = is_after ∙ ap (λ (k : ℕ). drop k line) (size ∙ length-prefix_len is_space line)

  words_left : words_of after ≡ words_of line
  words_left = ap words_of left ∙ words_skip line

  pub all_blank : length after ≡ 0 → words_of line ≡ []
  all_blank none = sym words_left ∙ no_words after none

  left_begins : 0 < length after → begins_word after ≡ true
  left_begins some = subst (λ (l : List ℕ). begins_word l ≡ true) (sym left) (skip_begins line (subst (λ (l : List ℕ). 0 < length l) left some))

word_some : (bs : List ℕ) (n : ℕ) → begins_word bs ≡ true → n ≡ length (take_while is_inside bs) → 0 < n
word_some [] n h size = absurd (false≢true h)
word_some (c ∷ cs) n h size =
    let one : prefix_len is_inside (c ∷ cs) ≡ 1 + prefix_len is_inside cs = ap (λ (b : Bool). cond b (1 + prefix_len is_inside cs) 0) h in
    let e = length-prefix_len is_inside (c ∷ cs) in
    omega arith

pub first_word : (line after word rest : List ℕ) (n m : ℕ) → n ≡ length (take_while is_space line) → after ≡ drop n line → 0 < length after
    → m ≡ length (take_while is_inside after) → word ≡ take m after → rest ≡ drop m after → length word ≡ m → IsFirstWord line word rest
first_word line after word rest n m size is_after some word_size is_word is_rest long =
    let begins = left_begins line after n size is_after some in
    let e : m ≡ prefix_len is_inside after = word_size ∙ length-prefix_len is_inside after in
    let m_some : 0 < m = word_some after m begins word_size in
    record {
      words = sym (words_left line after n size is_after) ∙ words_take after begins ∙ ap (λ (k : ℕ). take k after ∷ words_of (drop k after)) (sym e) ∙ (λ i. sym is_word i ∷ words_of (sym is_rest i));
      some = omega arith;
    }

-- No two processes write a common word where each keeps the marks that it made.
use Rattle.std.proofs.Common.{◌≡◌, ◌+◌, ◌<◌, ◌^◌, ℕ, List, [], ◌∷◌, length, get_or, take, max, min, true, false, nat_lt, nat_le, sym, ap, ◌∙◌, inl, inr, ◌⊎◌, arith}
use Rattle.std.specs.List.{list_any}
use Rattle.std.proofs.lemmas.Bool.{cases_eq, cases_Bool, and_from, or_cases, or_left, or_right, ltb-true, lt-ltb, le-leb}
use Rattle.std.proofs.lemmas.List.{get_or_default}
use Rattle.std.proofs.lemmas.List.Folds.{list_any_more}
use Rattle.logic_graph.specs.declared.ranges.WordRange.{WordRange}
use Rattle.logic_graph.specs.declared.ranges.Touched.{Touched}
use Rattle.logic_graph.specs.Reading.{has_word, meets, meet_somewhere, OneWriter}
use Rattle.logic_graph.specs.Noting.{has_word_of, WritersAre, Keeps, AllKeep}
use Rattle.logic_graph.proofs.NoteLemmas.{marked_at}

pub keeps_more : (of_word : List ℕ) (writer : ℕ) (ranges : List WordRange) (i : ℕ) (d : WordRange) → i < length ranges → Keeps of_word writer (take i ranges)
    → ((w : ℕ) → has_word w (get_or ranges i d) ≡ true → get_or of_word w 0 ≡ writer) → Keeps of_word writer (take (i + 1) ranges)
keeps_more of_word writer ranges i d inside so_far here w has = by_cases (or_cases (has_word_of w (take i ranges)) (has_word w (get_or ranges i d)) (sym (list_any_more (has_word w) ranges i d inside) ∙ has))
  where
    by_cases : (has_word_of w (take i ranges) ≡ true) ⊎ (has_word w (get_or ranges i d) ≡ true) → get_or of_word w 0 ≡ writer
    by_cases (inl e) = so_far w e
    by_cases (inr e) = here w e

-- ranges that meet have a word in common
common_of_one : (r : WordRange) (others : List WordRange) → list_any (meets r) others ≡ true → (w : ℕ) × (has_word w r ≡ true) × (has_word_of w others ≡ true)
common_of_one r [] met = absurd (let e : false ≡ true = met in cc)
common_of_one r (s ∷ others) met = by_cases (λ rest. common_of_one r others rest) (or_cases (meets r s) (list_any (meets r) others) met)
  where
    by_cases : (list_any (meets r) others ≡ true → (w : ℕ) × (has_word w r ≡ true) × (has_word_of w others ≡ true)) → (meets r s ≡ true) ⊎ (list_any (meets r) others ≡ true)
        → (w : ℕ) × (has_word w r ≡ true) × (has_word_of w (s ∷ others) ≡ true)
    by_cases more (inl e) =
        let less = ltb-true (max r.first s.first) (min r.end s.end) e in
        let w = max r.first s.first in
        let in_one : has_word w r ≡ true = and_from (nat_le r.first w) (nat_lt w r.end) (le-leb r.first w (omega arith)) (lt-ltb w r.end (omega arith)) in
        let in_other : has_word w s ≡ true = and_from (nat_le s.first w) (nat_lt w s.end) (le-leb s.first w (omega arith)) (lt-ltb w s.end (omega arith)) in
        (w, in_one, or_left (has_word w s) (has_word_of w others) in_other)
    by_cases more (inr rest) = let w = more rest in (w.0, w.1, or_right (has_word w.0 s) (has_word_of w.0 others) w.2)

common_word : (some others : List WordRange) → meet_somewhere some others ≡ true → (w : ℕ) × (has_word_of w some ≡ true) × (has_word_of w others ≡ true)
common_word [] others met = absurd (let e : false ≡ true = met in cc)
common_word (r ∷ some) others met = by_cases (λ rest. common_word some others rest) (or_cases (list_any (meets r) others) (meet_somewhere some others) met)
  where
    by_cases : (meet_somewhere some others ≡ true → (w : ℕ) × (has_word_of w some ≡ true) × (has_word_of w others ≡ true)) → (list_any (meets r) others ≡ true) ⊎ (meet_somewhere some others ≡ true)
        → (w : ℕ) × (has_word_of w (r ∷ some) ≡ true) × (has_word_of w others ≡ true)
    by_cases more (inl e) = let w = common_of_one r others e in (w.0, or_left (has_word w.0 r) (has_word_of w.0 some) w.1, w.2)
    by_cases more (inr rest) = let w = more rest in (w.0, or_right (has_word w.0 r) (has_word_of w.0 some) w.1, w.2)

pub one_where_all_keep : (of_word : List ℕ) (procs : List Touched) → AllKeep of_word procs → OneWriter procs
one_where_all_keep of_word procs keep i j d low high = by_test (cases_Bool (meet_somewhere (get_or procs i d).writes (get_or procs j d).writes))
  where
    by_test : (meet_somewhere (get_or procs i d).writes (get_or procs j d).writes ≡ true) ⊎ (meet_somewhere (get_or procs i d).writes (get_or procs j d).writes ≡ false)
        → meet_somewhere (get_or procs i d).writes (get_or procs j d).writes ≡ false
    by_test (inr apart) = apart
    by_test (inl met) =
        let w = common_word (get_or procs i d).writes (get_or procs j d).writes met in
        let first = keep i d (omega arith) w.0 w.1 in
        let second = keep j d high w.0 w.2 in
        absurd (omega arith)

pub all_keep_where_one : (procs : List Touched) (of_word run_end : List ℕ) → length procs < 2 ^ 32 → WritersAre procs of_word run_end → OneWriter procs → AllKeep of_word procs
all_keep_where_one procs of_word run_end few are one = λ i d inside w has. (marked_at procs of_word run_end i d few one are inside w has).1

-- one process more
pub all_keep_more : (of_word : List ℕ) (procs : List Touched) (i : ℕ) (e : Touched) → i < length procs → ((k : ℕ) (d : Touched) → k < i → Keeps of_word k (get_or procs k d).writes)
    → Keeps of_word i (get_or procs i e).writes → (k : ℕ) (d : Touched) → k < i + 1 → Keeps of_word k (get_or procs k d).writes
all_keep_more of_word procs i e inside so_far here k d less = by_eq (cases_eq k i)
  where
    by_eq : (k ≡ i) ⊎ (k ≡ i → ⊥) → Keeps of_word k (get_or procs k d).writes
    by_eq (inr other) = so_far k d (let apart : k ≡ i → ⊥ = other in omega arith)
    by_eq (inl is) = λ w has.
        let same : get_or procs k d ≡ get_or procs i e = ap (λ j. get_or procs j d) is ∙ get_or_default procs i d e inside in
        here w (sym (ap (λ (p : Touched). has_word_of w p.writes) same) ∙ has) ∙ sym is

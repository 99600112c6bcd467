-- What is noted at each writer.
use Rattle.std.proofs.Common.{◌≡◌, ◌+◌, ◌-◌, ◌<◌, ◌≤◌, ◌==◌, ◌^◌, ℕ, zero, suc, List, [], ◌∷◌, ◌++◌, length, get_or, set, take, max, min, Bool, true, false, not, cond, ◌&&◌, ◌||◌, nat_lt, nat_le, refl, sym, ap, subst, ◌∙◌, inl, inr, ◌⊎◌, arith, get_or-set_same, get_or-set_other, append-nil, zero-add}
use Rattle.std.specs.List.{list_any}
use Rattle.std.proofs.lemmas.Bool.{cases_eq, cases_lt, cases_Bool, eq-eqb, ne_eqb, eqb-true, and_from, and_left, and_right, or_cases, or_left, or_right, ltb-true, lt-ltb, le-ltb, le-leb}
use Rattle.std.proofs.lemmas.List.{get_or_push, length-set, length_push, length-take, set_past, take_more}
use Rattle.logic_graph.specs.declared.ranges.WordRange.{WordRange}
use Rattle.logic_graph.specs.declared.ranges.Touched.{Touched}
use Rattle.logic_graph.specs.declared.writers.TheConstants.{NOBODY}
use Rattle.logic_graph.specs.Reading.{has_word, meets, meet_somewhere, OneWriter}
use Rattle.logic_graph.specs.Noting.{has_word_of, writer_from, IsRun, WritersAre, is_last, note_in, note_span, note_range_in, note_all_in, readers_from, HasNoted}
use Rattle.logic_graph.proofs.WriterLemmas.{word_within, both_meet, writer_is}

-- ---- one note

abbrev pub noted : ℕ → List ℕ → List ℕ
noted r list = cond (is_last r list) list (list ++ r ∷ [])

pub last_pushed : (r : ℕ) (list : List ℕ) → is_last r (list ++ r ∷ []) ≡ true
last_pushed r list =
    let len = length_push list r in
    let place : length list ≡ length (list ++ r ∷ []) - 1 = omega arith in
    and_from (nat_lt 0 (length (list ++ r ∷ []))) (get_or (list ++ r ∷ []) (length (list ++ r ∷ []) - 1) 0 == r)
    (lt-ltb 0 (length (list ++ r ∷ [])) (omega arith))
    (eq-eqb (get_or (list ++ r ∷ []) (length (list ++ r ∷ []) - 1) 0) r (get_or_push list r 0 (length (list ++ r ∷ []) - 1) place))

noted_twice : (r : ℕ) (list : List ℕ) → noted r (noted r list) ≡ noted r list
noted_twice r list = by_test (cases_Bool (is_last r list))
  where
    by_test : (is_last r list ≡ true) ⊎ (is_last r list ≡ false) → noted r (noted r list) ≡ noted r list
    by_test (inl e) = ap (noted r) (ap (λ (b : Bool). cond b list (list ++ r ∷ [])) e)
    by_test (inr e) =
        let is : noted r list ≡ list ++ r ∷ [] = ap (λ (b : Bool). cond b list (list ++ r ∷ [])) e in
        ap (noted r) is ∙ ap (λ (b : Bool). cond b (list ++ r ∷ []) ((list ++ r ∷ []) ++ r ∷ [])) (last_pushed r list) ∙ sym is

pub note_twice : (r x : ℕ) (readers : List (List ℕ)) → note_in r (note_in r readers x) x ≡ note_in r readers x
note_twice r x readers = by_test (cases_Bool ((x == r) || is_last r (get_or readers x [])))
  where
    pushed : List (List ℕ)
    pushed = set readers x (get_or readers x [] ++ r ∷ [])

    by_test : (((x == r) || is_last r (get_or readers x [])) ≡ true) ⊎ (((x == r) || is_last r (get_or readers x [])) ≡ false) → note_in r (note_in r readers x) x ≡ note_in r readers x
    by_test (inl e) = ap (λ (rs : List (List ℕ)). note_in r rs x) (ap (λ (b : Bool). cond b readers pushed) e)
    by_test (inr e) = by_place (cases_lt x (length readers))
      where
        is : note_in r readers x ≡ pushed
        is = ap (λ (b : Bool). cond b readers pushed) e

        by_place : (x < length readers) ⊎ (length readers ≤ x) → note_in r (note_in r readers x) x ≡ note_in r readers x
        by_place (inl less) =
            let here : get_or pushed x [] ≡ get_or readers x [] ++ r ∷ [] = get_or-set_same readers x (get_or readers x [] ++ r ∷ []) [] less in
            let last : ((x == r) || is_last r (get_or pushed x [])) ≡ true = or_right (x == r) (is_last r (get_or pushed x [])) (ap (is_last r) here ∙ last_pushed r (get_or readers x [])) in
            ap (λ (rs : List (List ℕ)). note_in r rs x) is
            ∙ ap (λ (b : Bool). cond b pushed (set pushed x (get_or pushed x [] ++ r ∷ []))) last
            ∙ sym is
        by_place (inr more) = ap (λ (rs : List (List ℕ)). note_in r rs x) (is ∙ set_past readers x (get_or readers x [] ++ r ∷ []) more)

pub note_past : (r x : ℕ) (readers : List (List ℕ)) → ((x == r) ≡ true) ⊎ (length readers ≤ x) → note_in r readers x ≡ readers
note_past r x readers (inl e) = ap (λ (b : Bool). cond (b || is_last r (get_or readers x [])) readers (set readers x (get_or readers x [] ++ r ∷ []))) e
note_past r x readers (inr past) = by_test (((x == r) || is_last r (get_or readers x [])))
  where
    by_test : (b : Bool) → cond b readers (set readers x (get_or readers x [] ++ r ∷ [])) ≡ readers
    by_test true = refl
    by_test false = set_past readers x (get_or readers x [] ++ r ∷ []) past

length-note : (r x : ℕ) (readers : List (List ℕ)) → length (note_in r readers x) ≡ length readers
length-note r x readers = by_test ((x == r) || is_last r (get_or readers x []))
  where
    by_test : (b : Bool) → length (cond b readers (set readers x (get_or readers x [] ++ r ∷ []))) ≡ length readers
    by_test true = refl
    by_test false = length-set readers x (get_or readers x [] ++ r ∷ [])

note_at : (r x i : ℕ) (readers : List (List ℕ)) → i < length readers
    → get_or (note_in r readers x) i [] ≡ cond (not (r == i) && (x == i)) (noted r (get_or readers i [])) (get_or readers i [])
note_at r x i readers inside = by_self (cases_eq x r) (cases_eq x i)
  where
    pushed : List (List ℕ)
    pushed = set readers x (get_or readers x [] ++ r ∷ [])

    answer : Bool → List ℕ
    answer b = cond b (noted r (get_or readers i [])) (get_or readers i [])

    by_self : (x ≡ r) ⊎ (x ≡ r → ⊥) → (x ≡ i) ⊎ (x ≡ i → ⊥) → get_or (note_in r readers x) i [] ≡ cond (not (r == i) && (x == i)) (noted r (get_or readers i [])) (get_or readers i [])
    by_self (inl e) place =
        ap (λ (rs : List (List ℕ)). get_or rs i []) (note_past r x readers (inl (eq-eqb x r e)))
        ∙ sym (ap (λ (b : Bool). cond b (noted r (get_or readers i [])) (get_or readers i [])) (ap (λ k. not (r == i) && (k == i)) e ∙ apart (r == i)))
      where
        apart : (b : Bool) → (not b && b) ≡ false
        apart true = refl
        apart false = refl
    by_self (inr other) (inl e) =
        ap (λ (b : Bool). get_or (cond (b || is_last r (get_or readers x [])) readers pushed) i []) (ne_eqb x r other)
        ∙ by_last (cases_Bool (is_last r (get_or readers x [])))
        ∙ sym (ap (λ (b : Bool). cond b (noted r (get_or readers i [])) (get_or readers i [])) (and_from (not (r == i)) (x == i) (ap not (ne_eqb r i (λ is. other (e ∙ sym is)))) (eq-eqb x i e)))
      where
        by_last : (is_last r (get_or readers x []) ≡ true) ⊎ (is_last r (get_or readers x []) ≡ false) → get_or (cond (is_last r (get_or readers x [])) readers pushed) i [] ≡ noted r (get_or readers i [])
        by_last (inl last) =
            ap (λ (b : Bool). get_or (cond b readers pushed) i []) last
            ∙ sym (ap (λ (b : Bool). cond b (get_or readers i []) (get_or readers i [] ++ r ∷ [])) (ap (λ k. is_last r (get_or readers k [])) (sym e) ∙ last))
        by_last (inr last) =
            ap (λ (b : Bool). get_or (cond b readers pushed) i []) last
            ∙ ap (λ k. get_or (set readers k (get_or readers k [] ++ r ∷ [])) i []) e
            ∙ get_or-set_same readers i (get_or readers i [] ++ r ∷ []) [] inside
            ∙ sym (ap (λ (b : Bool). cond b (get_or readers i []) (get_or readers i [] ++ r ∷ [])) (ap (λ k. is_last r (get_or readers k [])) (sym e) ∙ last))
    by_self (inr other) (inr apart) =
        by_any ((x == r) || is_last r (get_or readers x []))
        ∙ sym (ap (λ (b : Bool). cond b (noted r (get_or readers i [])) (get_or readers i [])) (and_right (not (r == i)) (x == i) (ne_eqb x i apart)))
      where
        by_any : (b : Bool) → get_or (cond b readers pushed) i [] ≡ get_or readers i []
        by_any true = refl
        by_any false = get_or-set_other readers x i (get_or readers x [] ++ r ∷ []) [] (λ e. apart (sym e))

-- ---- the words of a range

-- one of so many words has this writer
abbrev pub any_in : List ℕ → ℕ → ℕ → ℕ → Bool
any_in of_word i w zero = false
any_in of_word i w (suc many) = (get_or of_word w 0 == i) || any_in of_word i (suc w) many

-- noted twice is noted once
both_noted : (r : ℕ) (list : List ℕ) (a b c : Bool) → cond (a && c) (noted r (cond (a && b) (noted r list) list)) (cond (a && b) (noted r list) list) ≡ cond (a && (b || c)) (noted r list) list
both_noted r list false b c = refl
both_noted r list true true true = noted_twice r list
both_noted r list true true false = refl
both_noted r list true false c = refl

length-span : (of_word : List ℕ) (r w many : ℕ) (readers : List (List ℕ)) → length (note_span of_word r w many readers) ≡ length readers
length-span of_word r w zero readers = refl
length-span of_word r w (suc many) readers = length-span of_word r (suc w) many (note_in r readers (get_or of_word w 0)) ∙ length-note r (get_or of_word w 0) readers

span_at : (of_word : List ℕ) (r i w many : ℕ) (readers : List (List ℕ)) → i < length readers
    → get_or (note_span of_word r w many readers) i [] ≡ cond (not (r == i) && any_in of_word i w many) (noted r (get_or readers i [])) (get_or readers i [])
span_at of_word r i w zero readers inside = sym (ap (λ (b : Bool). cond b (noted r (get_or readers i [])) (get_or readers i [])) (and_right (not (r == i)) false refl))
span_at of_word r i w (suc many) readers inside =
    span_at of_word r i (suc w) many (note_in r readers (get_or of_word w 0)) (let len = length-note r (get_or of_word w 0) readers in omega arith)
    ∙ ap (λ (list : List ℕ). cond (not (r == i) && any_in of_word i (suc w) many) (noted r list) list) (note_at r (get_or of_word w 0) i readers inside)
    ∙ both_noted r (get_or readers i []) (not (r == i)) (get_or of_word w 0 == i) (any_in of_word i (suc w) many)

-- once the first word of a run is noted, the others add nothing
within_run : (of_word : List ℕ) (r w e end fuel v : ℕ) (readers : List (List ℕ)) → IsRun of_word w e → note_in r readers (get_or of_word w 0) ≡ readers → w ≤ v → v + fuel ≡ e
    → note_span of_word r e (end - e) readers ≡ note_span of_word r v (end - v) readers
within_run of_word r w e end zero v readers run once low is = let same : e ≡ v = omega arith in ap (λ k. note_span of_word r k (end - k) readers) same
within_run of_word r w e end (suc fuel) v readers run once low is =
    by_place (λ (less : v < end). within_run of_word r w e end fuel (suc v) readers run once (omega arith) (omega arith)) (cases_lt v end)
  where
    by_place : (v < end → note_span of_word r e (end - e) readers ≡ note_span of_word r (suc v) (end - suc v) readers) → (v < end) ⊎ (end ≤ v)
        → note_span of_word r e (end - e) readers ≡ note_span of_word r v (end - v) readers
    by_place further (inr past) =
        let none : end - e ≡ 0 = omega arith in
        let neither : end - v ≡ 0 = omega arith in
        ap (λ k. note_span of_word r e k readers) none ∙ sym (ap (λ k. note_span of_word r v k readers) neither)
    by_place further (inl less) =
        let many : end - v ≡ suc (end - suc v) = omega arith in
        let here : note_in r readers (get_or of_word v 0) ≡ readers = ap (note_in r readers) (run.same v low (omega arith)) ∙ once in
        further less ∙ ap (note_span of_word r (suc v) (end - suc v)) (sym here) ∙ sym (ap (λ k. note_span of_word r v k readers) many)

pub span_skips : (of_word : List ℕ) (r w e end : ℕ) (readers : List (List ℕ)) → IsRun of_word w e → w < end
    → note_span of_word r e (end - e) (note_in r readers (get_or of_word w 0)) ≡ note_span of_word r w (end - w) readers
span_skips of_word r w e end readers run less =
    let goes_on = run.goes_on in
    let many : end - w ≡ suc (end - suc w) = omega arith in
    within_run of_word r w e end (e - suc w) (suc w) (note_in r readers (get_or of_word w 0)) run (note_twice r (get_or of_word w 0) readers) (omega arith) (omega arith)
    ∙ sym (ap (λ k. note_span of_word r w k readers) many)

-- ---- all ranges of a reader

abbrev pub any_in_range : List ℕ → ℕ → WordRange → Bool
any_in_range of_word i s = any_in of_word i s.first (min s.end (length of_word) - s.first)

length-note_all : (of_word : List ℕ) (r : ℕ) (readers : List (List ℕ)) (ranges : List WordRange) → length (note_all_in of_word r readers ranges) ≡ length readers
length-note_all of_word r readers [] = refl
length-note_all of_word r readers (s ∷ ranges) =
    length-note_all of_word r (note_range_in of_word r readers s) ranges ∙ length-span of_word r s.first (min s.end (length of_word) - s.first) readers

all_at : (of_word : List ℕ) (r i : ℕ) (readers : List (List ℕ)) (ranges : List WordRange) → i < length readers
    → get_or (note_all_in of_word r readers ranges) i [] ≡ cond (not (r == i) && list_any (any_in_range of_word i) ranges) (noted r (get_or readers i [])) (get_or readers i [])
all_at of_word r i readers [] inside = sym (ap (λ (b : Bool). cond b (noted r (get_or readers i [])) (get_or readers i [])) (and_right (not (r == i)) false refl))
all_at of_word r i readers (s ∷ ranges) inside =
    all_at of_word r i (note_range_in of_word r readers s) ranges (let len = length-span of_word r s.first (min s.end (length of_word) - s.first) readers in omega arith)
    ∙ ap (λ (list : List ℕ). cond (not (r == i) && list_any (any_in_range of_word i) ranges) (noted r list) list) (span_at of_word r i s.first (min s.end (length of_word) - s.first) readers inside)
    ∙ both_noted r (get_or readers i []) (not (r == i)) (any_in_range of_word i s) (list_any (any_in_range of_word i) ranges)

-- ---- a word of the range is written by the process where the ranges meet

any_from_one : (of_word : List ℕ) (i w many k : ℕ) → w ≤ k → k < w + many → get_or of_word k 0 ≡ i → any_in of_word i w many ≡ true
any_from_one of_word i w zero k low high is = absurd (omega arith)
any_from_one of_word i w (suc many) k low high is = by_place (λ (apart : w ≡ k → ⊥). any_from_one of_word i (suc w) many k (omega arith) (omega arith) is) (cases_eq w k)
  where
    by_place : ((w ≡ k → ⊥) → any_in of_word i (suc w) many ≡ true) → (w ≡ k) ⊎ (w ≡ k → ⊥) → ((get_or of_word w 0 == i) || any_in of_word i (suc w) many) ≡ true
    by_place further (inl e) = or_left (get_or of_word w 0 == i) (any_in of_word i (suc w) many) (eq-eqb (get_or of_word w 0) i (ap (λ j. get_or of_word j 0) e ∙ is))
    by_place further (inr apart) = or_right (get_or of_word w 0 == i) (any_in of_word i (suc w) many) (further apart)

one_from_any : (of_word : List ℕ) (i w many : ℕ) → any_in of_word i w many ≡ true → (k : ℕ) × (w ≤ k) × (k < w + many) × (get_or of_word k 0 ≡ i)
one_from_any of_word i w zero any = absurd (let e : false ≡ true = any in cc)
one_from_any of_word i w (suc many) any = by_cases (λ rest. one_from_any of_word i (suc w) many rest) (or_cases (get_or of_word w 0 == i) (any_in of_word i (suc w) many) any)
  where
    by_cases : (any_in of_word i (suc w) many ≡ true → (k : ℕ) × (suc w ≤ k) × (k < suc w + many) × (get_or of_word k 0 ≡ i))
        → ((get_or of_word w 0 == i) ≡ true) ⊎ (any_in of_word i (suc w) many ≡ true) → (k : ℕ) × (w ≤ k) × (k < w + suc many) × (get_or of_word k 0 ≡ i)
    by_cases more (inl e) = (w, omega arith, omega arith, eqb-true (get_or of_word w 0) i e)
    by_cases more (inr rest) = let k = more rest in (k.0, omega (arith, k.1), omega (arith, k.2), k.3)

list_any_each : (p q : WordRange → Bool) (xs : List WordRange) → ((x : WordRange) → p x ≡ true → q x ≡ true) → list_any p xs ≡ true → list_any q xs ≡ true
list_any_each p q [] each any = any
list_any_each p q (x ∷ xs) each any = by_cases (λ rest. list_any_each p q xs each rest) (or_cases (p x) (list_any p xs) any)
  where
    by_cases : (list_any p xs ≡ true → list_any q xs ≡ true) → (p x ≡ true) ⊎ (list_any p xs ≡ true) → (q x || list_any q xs) ≡ true
    by_cases more (inl e) = or_left (q x) (list_any q xs) (each x e)
    by_cases more (inr rest) = or_right (q x) (list_any q xs) (more rest)

written_where_met : (of_word : List ℕ) (i : ℕ) (writes reads : List WordRange) → ((w : ℕ) → has_word_of w writes ≡ true → (w < length of_word) × (get_or of_word w 0 ≡ i))
    → meet_somewhere writes reads ≡ true → list_any (any_in_range of_word i) reads ≡ true
written_where_met of_word i [] reads written met = absurd (let e : false ≡ true = met in cc)
written_where_met of_word i (r ∷ writes) reads written met =
    by_cases (λ rest. written_where_met of_word i writes reads (λ w has. written w (or_right (has_word w r) (has_word_of w writes) has)) rest) (or_cases (list_any (meets r) reads) (meet_somewhere writes reads) met)
  where
    here : (s : WordRange) → meets r s ≡ true → any_in_range of_word i s ≡ true
    here s meet =
        let less = ltb-true (max r.first s.first) (min r.end s.end) meet in
        let w = max r.first s.first in
        let has : has_word w r ≡ true = and_from (nat_le r.first w) (nat_lt w r.end) (le-leb r.first w (omega arith)) (lt-ltb w r.end (omega arith)) in
        let at = written w (or_left (has_word w r) (has_word_of w writes) has) in
        let inside = at.0 in
        any_from_one of_word i s.first (min s.end (length of_word) - s.first) w (omega arith) (omega arith) at.1

    by_cases : (meet_somewhere writes reads ≡ true → list_any (any_in_range of_word i) reads ≡ true) → (list_any (meets r) reads ≡ true) ⊎ (meet_somewhere writes reads ≡ true) → list_any (any_in_range of_word i) reads ≡ true
    by_cases more (inl one) = list_any_each (meets r) (any_in_range of_word i) reads here one
    by_cases more (inr rest) = more rest

word_where_written : (of_word : List ℕ) (i : ℕ) (reads : List WordRange) → list_any (any_in_range of_word i) reads ≡ true
    → (w : ℕ) × (w < length of_word) × (get_or of_word w 0 ≡ i) × (has_word_of w reads ≡ true)
word_where_written of_word i [] any = absurd (let e : false ≡ true = any in cc)
word_where_written of_word i (s ∷ reads) any = by_cases (λ rest. word_where_written of_word i reads rest) (or_cases (any_in_range of_word i s) (list_any (any_in_range of_word i) reads) any)
  where
    by_cases : (list_any (any_in_range of_word i) reads ≡ true → (w : ℕ) × (w < length of_word) × (get_or of_word w 0 ≡ i) × (has_word_of w reads ≡ true))
        → (any_in_range of_word i s ≡ true) ⊎ (list_any (any_in_range of_word i) reads ≡ true) → (w : ℕ) × (w < length of_word) × (get_or of_word w 0 ≡ i) × (has_word_of w (s ∷ reads) ≡ true)
    by_cases more (inl e) =
        let one = one_from_any of_word i s.first (min s.end (length of_word) - s.first) e in
        let low = one.1 in
        let high = one.2 in
        (one.0, omega arith, one.3, or_left (has_word one.0 s) (has_word_of one.0 reads) (and_from (nat_le s.first one.0) (nat_lt one.0 s.end) (le-leb s.first one.0 low) (lt-ltb one.0 s.end (omega arith))))
    by_cases more (inr rest) = let w = more rest in (w.0, w.1, w.2, or_right (has_word w.0 s) (has_word_of w.0 reads) w.3)

same_tests : (a b : Bool) → (a ≡ true → b ≡ true) → (b ≡ true → a ≡ true) → a ≡ b
same_tests true b there back = sym (there refl)
same_tests false true there back = back refl
same_tests false false there back = refl

-- marking leaves a process at each word that it writes, where no other writes it
is_writer : (procs : List Touched) (i : ℕ) (d : Touched) → length procs < 2 ^ 32 → OneWriter procs → i < length procs → (w : ℕ) → (writer_from 0 NOBODY procs w == i) ≡ has_word_of w (get_or procs i d).writes
is_writer procs i d few one inside w = ap (λ k. writer_from 0 NOBODY procs w == k) (sym (zero-add i)) ∙ writer_is 0 NOBODY procs w i d one inside (inr (omega arith))

pub marked_at : (procs : List Touched) (of_word run_end : List ℕ) (i : ℕ) (d : Touched) → length procs < 2 ^ 32 → OneWriter procs → WritersAre procs of_word run_end → i < length procs
    → (w : ℕ) → has_word_of w (get_or procs i d).writes ≡ true → (w < length of_word) × (get_or of_word w 0 ≡ i)
marked_at procs of_word run_end i d few one are inside w has =
    let within = word_within w (length of_word) (get_or procs i d).writes (are.within i d inside) has in
    (within, are.writers w within ∙ eqb-true (writer_from 0 NOBODY procs w) i (is_writer procs i d few one inside w ∙ has))

read_where_met : (procs : List Touched) (of_word run_end : List ℕ) (i : ℕ) (d : Touched) (reads : List WordRange) → length procs < 2 ^ 32 → OneWriter procs → WritersAre procs of_word run_end → i < length procs
    → list_any (any_in_range of_word i) reads ≡ meet_somewhere (get_or procs i d).writes reads
read_where_met procs of_word run_end i d reads few one are inside =
    same_tests (list_any (any_in_range of_word i) reads) (meet_somewhere (get_or procs i d).writes reads) there (written_where_met of_word i (get_or procs i d).writes reads (marked_at procs of_word run_end i d few one are inside))
  where
    there : list_any (any_in_range of_word i) reads ≡ true → meet_somewhere (get_or procs i d).writes reads ≡ true
    there any =
        let w = word_where_written of_word i reads any in
        both_meet w.0 (get_or procs i d).writes reads
        (sym (is_writer procs i d few one inside w.0) ∙ eq-eqb (writer_from 0 NOBODY procs w.0) i (sym (are.writers w.0 w.1) ∙ w.2)) w.3

-- ---- one reader more

pub readers_push : (i : ℕ) (writes : List WordRange) (at : ℕ) (front : List Touched) (p : Touched)
    → readers_from i writes at (front ++ p ∷ []) ≡ readers_from i writes at front ++ cond (not ((at + length front) == i) && meet_somewhere writes p.reads) ((at + length front) ∷ []) []
readers_push i writes at [] p = let e : at ≡ at + 0 = omega arith in ap (λ k. cond (not (k == i) && meet_somewhere writes p.reads) (k ∷ []) []) e
readers_push i writes at (q ∷ front) p = by_test (not (at == i) && meet_somewhere writes q.reads) (readers_push i writes (suc at) front p ∙ shift)
  where
    last : ℕ → List ℕ
    last k = cond (not (k == i) && meet_somewhere writes p.reads) (k ∷ []) []

    shift : readers_from i writes (suc at) front ++ cond (not ((suc at + length front) == i) && meet_somewhere writes p.reads) ((suc at + length front) ∷ []) []
        ≡ readers_from i writes (suc at) front ++ cond (not ((at + suc (length front)) == i) && meet_somewhere writes p.reads) ((at + suc (length front)) ∷ []) []
    shift = let e : suc at + length front ≡ at + suc (length front) = omega arith in ap (λ k. readers_from i writes (suc at) front ++ cond (not (k == i) && meet_somewhere writes p.reads) (k ∷ []) []) e

    by_test : (b : Bool) → readers_from i writes (suc at) (front ++ p ∷ []) ≡ readers_from i writes (suc at) front ++ cond (not ((at + suc (length front)) == i) && meet_somewhere writes p.reads) ((at + suc (length front)) ∷ []) []
        → cond b (at ∷ readers_from i writes (suc at) (front ++ p ∷ [])) (readers_from i writes (suc at) (front ++ p ∷ []))
        ≡ cond b (at ∷ readers_from i writes (suc at) front) (readers_from i writes (suc at) front) ++ cond (not ((at + suc (length front)) == i) && meet_somewhere writes p.reads) ((at + suc (length front)) ∷ []) []
    by_test true others = ap (λ (xs : List ℕ). at ∷ xs) others
    by_test false others = others

-- readers are below the number of processes that were looked at
readers_below : (i : ℕ) (writes : List WordRange) (at : ℕ) (front : List Touched) (k : ℕ) → k < length (readers_from i writes at front) → get_or (readers_from i writes at front) k 0 < at + length front
readers_below i writes at [] k inside = absurd (omega arith)
readers_below i writes at (p ∷ front) k inside = by_test (λ j less. readers_below i writes (suc at) front j less) (not (at == i) && meet_somewhere writes p.reads) k inside
  where
    by_test : ((j : ℕ) → j < length (readers_from i writes (suc at) front) → get_or (readers_from i writes (suc at) front) j 0 < suc at + length front) → (b : Bool) (k : ℕ)
        → k < length (cond b (at ∷ readers_from i writes (suc at) front) (readers_from i writes (suc at) front))
        → get_or (cond b (at ∷ readers_from i writes (suc at) front) (readers_from i writes (suc at) front)) k 0 < at + suc (length front)
    by_test others true zero within = omega arith
    by_test others true (suc k) within = let less = others k (omega arith) in omega arith
    by_test others false k within = let less = others k within in omega arith

not_last : (i : ℕ) (writes : List WordRange) (front : List Touched) (j : ℕ) → length front ≤ j → is_last j (readers_from i writes 0 front) ≡ false
not_last i writes front j low = by_place (cases_lt 0 (length (readers_from i writes 0 front)))
  where
    list : List ℕ
    list = readers_from i writes 0 front

    by_place : (0 < length (readers_from i writes 0 front)) ⊎ (length (readers_from i writes 0 front) ≤ 0) → is_last j (readers_from i writes 0 front) ≡ false
    by_place (inr none) = and_left (nat_lt 0 (length (readers_from i writes 0 front))) (get_or (readers_from i writes 0 front) (length (readers_from i writes 0 front) - 1) 0 == j) (le-ltb 0 (length (readers_from i writes 0 front)) none)
    by_place (inl some) =
        let less = readers_below i writes 0 front (length (readers_from i writes 0 front) - 1) (omega arith) in
        and_right (nat_lt 0 (length (readers_from i writes 0 front))) (get_or (readers_from i writes 0 front) (length (readers_from i writes 0 front) - 1) 0 == j)
        (ne_eqb (get_or (readers_from i writes 0 front) (length (readers_from i writes 0 front) - 1) 0) j (λ e. omega arith))

pub noted_none : (procs : List Touched) (readers : List (List ℕ)) → length readers ≡ length procs → ((i : ℕ) → get_or readers i [] ≡ []) → HasNoted procs [] readers
noted_none procs readers len empty = record { len = len; lists = λ i d inside. empty i }

pub noted_more : (procs : List Touched) (of_word run_end : List ℕ) (readers : List (List ℕ)) (j : ℕ) (e : Touched) → length procs < 2 ^ 32 → OneWriter procs → WritersAre procs of_word run_end → j < length procs
    → HasNoted procs (take j procs) readers → HasNoted procs (take (j + 1) procs) (note_all_in of_word j readers (get_or procs j e).reads)
noted_more procs of_word run_end readers j e few one are within so_far =
    record {
      len = length-note_all of_word j readers (get_or procs j e).reads ∙ so_far.len;
      lists = step;
    }
  where
    front : List Touched
    front = take j procs

    len : length (take j procs) ≡ j
    len = let taken = length-take j procs in omega arith

    step : (i : ℕ) (d : Touched) → i < length procs → get_or (note_all_in of_word j readers (get_or procs j e).reads) i [] ≡ readers_from i (get_or procs i d).writes 0 (take (j + 1) procs)
    step i d inside =
        all_at of_word j i readers reads (let same = so_far.len in omega arith)
        ∙ (λ k. cond (not (j == i) && read_where_met procs of_word run_end i d reads few one are inside k) (noted j (is k)) (is k))
        ∙ ap (λ (b : Bool). cond met (cond b list (list ++ j ∷ [])) list) (not_last i writes (take j procs) j (let low = len in omega arith))
        ∙ push met
        ∙ (λ k. list ++ cond (not (place k == i) && meet_somewhere writes reads) (place k ∷ []) [])
        ∙ sym (readers_push i writes 0 (take j procs) (get_or procs j e))
        ∙ ap (readers_from i writes 0) (sym (take_more procs j e within))
      where
        writes : List WordRange
        writes = (get_or procs i d).writes

        reads : List WordRange
        reads = (get_or procs j e).reads

        list : List ℕ
        list = readers_from i writes 0 (take j procs)

        is : get_or readers i [] ≡ readers_from i (get_or procs i d).writes 0 (take j procs)
        is = so_far.lists i d inside

        met : Bool
        met = not (j == i) && meet_somewhere writes reads

        place : j ≡ 0 + length (take j procs)
        place = let same = len in omega arith

        push : (b : Bool) → cond b (list ++ j ∷ []) list ≡ list ++ cond b (j ∷ []) []
        push true = refl
        push false = sym (append-nil list)

-- the same of lists that are known by equations
pub noted_on : (procs : List Touched) (of_word run_end : List ℕ) (readers new : List (List ℕ)) (reads : List WordRange) (j : ℕ) (e : Touched) → length procs < 2 ^ 32 → OneWriter procs → WritersAre procs of_word run_end
    → j < length procs → reads ≡ (get_or procs j e).reads → new ≡ note_all_in of_word j readers reads → HasNoted procs (take j procs) readers → HasNoted procs (take (j + 1) procs) new
noted_on procs of_word run_end readers new reads j e few one are within same is so_far =
    subst (λ (rs : List (List ℕ)). HasNoted procs (take (j + 1) procs) rs) (sym (is ∙ ap (note_all_in of_word j readers) same))
    (noted_more procs of_word run_end readers j e few one are within so_far)

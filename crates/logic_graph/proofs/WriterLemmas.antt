-- The writer of each word, and where the run of words with one writer ends.
use Rattle.std.proofs.Common.{◌≡◌, ◌+◌, ◌<◌, ◌≤◌, ◌==◌, ℕ, zero, suc, List, [], ◌∷◌, ◌++◌, length, get_or, set, take, max, min, Bool, true, false, cond, ◌&&◌, ◌||◌, nat_lt, nat_le, refl, sym, ap, ◌∙◌, inl, inr, ◌⊎◌, arith, get_or-set_same, get_or-set_other}
use Rattle.std.specs.List.{list_any}
use Rattle.std.proofs.lemmas.Bool.{cases_eq, cases_lt, cases_Bool, eq-eqb, ne_eqb, and_parts, and_from, or_cases, or_left, or_right, ltb-true, leb-true, lt-ltb, le-ltb, le-leb, lt-leb}
use Rattle.std.proofs.lemmas.List.{length-take, take_more}
use Rattle.std.proofs.lemmas.List.Elements.{All-more}
use Rattle.std.proofs.lemmas.List.Folds.{list_any_more, Any-from_list_any}
use Rattle.logic_graph.specs.declared.ranges.WordRange.{WordRange}
use Rattle.logic_graph.specs.declared.ranges.Touched.{Touched}
use Rattle.logic_graph.specs.Reading.{has_word, meets, meet_somewhere, OneWriter}
use Rattle.logic_graph.specs.Noting.{has_word_of, writer_from, EndsWithin, AllEndWithin, IsRun}

-- ---- how far the ranges go

pub ends_weaker : (low high : ℕ) (ranges : List WordRange) → EndsWithin low ranges → low ≤ high → EndsWithin high ranges
ends_weaker low high ranges within less = λ k d inside. let here = within k d inside in omega arith

pub ends_more : (ranges : List WordRange) (i low high : ℕ) (d : WordRange) → i < length ranges → EndsWithin low (take i ranges) → low ≤ high → (get_or ranges i d).end ≤ high → EndsWithin high (take (i + 1) ranges)
ends_more ranges i low high d inside within less here = All-more (λ (r : WordRange). r.end ≤ high) ranges i d inside (ends_weaker low high (take i ranges) within less) here

pub all_end_weaker : (low high : ℕ) (procs : List Touched) → AllEndWithin low procs → low ≤ high → AllEndWithin high procs
all_end_weaker low high procs within less = λ k d inside. ends_weaker low high (get_or procs k d).writes (within k d inside) less

pub all_end_more : (procs : List Touched) (i low high : ℕ) (d : Touched) → i < length procs → AllEndWithin low (take i procs) → low ≤ high → EndsWithin high (get_or procs i d).writes → AllEndWithin high (take (i + 1) procs)
all_end_more procs i low high d inside within less here = All-more (λ (p : Touched). EndsWithin high p.writes) procs i d inside (all_end_weaker low high (take i procs) within less) here

-- a word of a range is before the end
pub word_within : (w end : ℕ) (ranges : List WordRange) → EndsWithin end ranges → has_word_of w ranges ≡ true → w < end
word_within w end ranges within has =
    let one = Any-from_list_any (has_word w) ranges has in
    let r : WordRange = one.1 in
    let low = within one.0 r one.2 in
    let is = ap (λ (s : WordRange). s.end) one.3 in
    let inside = ltb-true w r.end (and_parts (nat_le r.first w) (nat_lt w r.end) one.4).1 in
    omega arith

-- ---- marking

pub marked_more : (words : List ℕ) (first w writer old k : ℕ) → w < length words → first ≤ w → get_or words k 0 ≡ cond (nat_le first k && nat_lt k w) writer old
    → get_or (set words w writer) k 0 ≡ cond (nat_le first k && nat_lt k (w + 1)) writer old
marked_more words first w writer old k inside low so_far = by_eq (cases_eq k w)
  where
    by_eq : (k ≡ w) ⊎ (k ≡ w → ⊥) → get_or (set words w writer) k 0 ≡ cond (nat_le first k && nat_lt k (w + 1)) writer old
    by_eq (inl e) =
        ap (λ j. get_or (set words w writer) j 0) e ∙ get_or-set_same words w writer 0 inside
        ∙ sym (ap (λ (b : Bool). cond b writer old) (and_from (nat_le first k) (nat_lt k (w + 1)) (le-leb first k (omega arith)) (lt-ltb k (w + 1) (omega arith))))
    by_eq (inr other) =
        get_or-set_other words w k writer 0 other ∙ so_far ∙ ap (λ (b : Bool). cond (nat_le first k && b) writer old) (by_place (cases_lt k w))
      where
        by_place : (k < w) ⊎ (w ≤ k) → nat_lt k w ≡ nat_lt k (w + 1)
        by_place (inl less) = lt-ltb k w less ∙ sym (lt-ltb k (w + 1) (omega arith))
        by_place (inr more) = le-ltb k w more ∙ sym (le-ltb k (w + 1) (let apart : k ≡ w → ⊥ = other in omega arith))

-- at the end of the loop, which stops at the end of the range, or at once where that is not past its start
pub marked_all : (first end w writer old k : ℕ) → first ≤ w → end ≤ w → w ≤ max first end → cond (nat_le first k && nat_lt k w) writer old ≡ cond (nat_le first k && nat_lt k end) writer old
marked_all first end w writer old k low done high = by_place (cases_lt k end)
  where
    by_place : (k < end) ⊎ (end ≤ k) → cond (nat_le first k && nat_lt k w) writer old ≡ cond (nat_le first k && nat_lt k end) writer old
    by_place (inl less) = ap (λ (b : Bool). cond (nat_le first k && b) writer old) (lt-ltb k w (omega arith) ∙ sym (lt-ltb k end less))
    by_place (inr more) = by_start (cases_lt k first)
      where
        by_start : (k < first) ⊎ (first ≤ k) → cond (nat_le first k && nat_lt k w) writer old ≡ cond (nat_le first k && nat_lt k end) writer old
        by_start (inl less) = ap (λ (b : Bool). cond (b && nat_lt k w) writer old) (lt-leb first k less) ∙ sym (ap (λ (b : Bool). cond (b && nat_lt k end) writer old) (lt-leb first k less))
        by_start (inr from) = ap (λ (b : Bool). cond (nat_le first k && b) writer old) (le-ltb k w (omega arith) ∙ sym (le-ltb k end more))

pub marked_range_more : (ranges : List WordRange) (i writer now old was k : ℕ) (d : WordRange) → i < length ranges → now ≡ cond (has_word k (get_or ranges i d)) writer was
    → was ≡ cond (has_word_of k (take i ranges)) writer old → now ≡ cond (has_word_of k (take (i + 1) ranges)) writer old
marked_range_more ranges i writer now old was k d inside is so_far =
    is ∙ ap (cond (has_word k (get_or ranges i d)) writer) so_far
    ∙ both (has_word_of k (take i ranges)) (has_word k (get_or ranges i d))
    ∙ ap (λ (b : Bool). cond b writer old) (sym (list_any_more (has_word k) ranges i d inside))
  where
    both : (had here : Bool) → cond here writer (cond had writer old) ≡ cond (had || here) writer old
    both true true = refl
    both true false = refl
    both false true = refl
    both false false = refl

pub writer_push : (at so_far : ℕ) (procs : List Touched) (p : Touched) (w : ℕ) → writer_from at so_far (procs ++ p ∷ []) w ≡ cond (has_word_of w p.writes) (at + length procs) (writer_from at so_far procs w)
writer_push at so_far [] p w = let e : at ≡ at + 0 = omega arith in ap (λ k. cond (has_word_of w p.writes) k so_far) e
writer_push at so_far (q ∷ procs) p w =
    let e : suc at + length procs ≡ at + suc (length procs) = omega arith in
    writer_push (suc at) (cond (has_word_of w q.writes) at so_far) procs p w
    ∙ ap (λ k. cond (has_word_of w p.writes) k (writer_from (suc at) (cond (has_word_of w q.writes) at so_far) procs w)) e

pub writer_more : (so_far : ℕ) (procs : List Touched) (i : ℕ) (p : Touched) (w : ℕ) → i < length procs → p ≡ get_or procs i p
    → writer_from 0 so_far (take (i + 1) procs) w ≡ cond (has_word_of w p.writes) i (writer_from 0 so_far (take i procs) w)
writer_more so_far procs i p w inside is =
    let len = length-take i procs in
    let place : 0 + length (take i procs) ≡ i = omega arith in
    ap (λ (ps : List Touched). writer_from 0 so_far ps w) (take_more procs i p inside ∙ ap (λ (q : Touched). take i procs ++ q ∷ []) (sym is))
    ∙ writer_push 0 so_far (take i procs) p w
    ∙ ap (λ k. cond (has_word_of w p.writes) k (writer_from 0 so_far (take i procs) w)) place

-- ---- two lists of ranges meet where some word stands in both

pub meets_at : (w : ℕ) (r s : WordRange) → has_word w r ≡ true → has_word w s ≡ true → meets r s ≡ true
meets_at w r s here there =
    let a = and_parts (nat_le r.first w) (nat_lt w r.end) here in
    let b = and_parts (nat_le s.first w) (nat_lt w s.end) there in
    let a_low = leb-true r.first w a.0 in
    let a_high = ltb-true w r.end a.1 in
    let b_low = leb-true s.first w b.0 in
    let b_high = ltb-true w s.end b.1 in
    lt-ltb (max r.first s.first) (min r.end s.end) (omega arith)

meets_one : (w : ℕ) (r : WordRange) (others : List WordRange) → has_word w r ≡ true → has_word_of w others ≡ true → list_any (meets r) others ≡ true
meets_one w r [] here there = absurd (let e : false ≡ true = there in cc)
meets_one w r (s ∷ others) here there = by_cases (λ rest. meets_one w r others here rest) (or_cases (has_word w s) (has_word_of w others) there)
  where
    by_cases : (has_word_of w others ≡ true → list_any (meets r) others ≡ true) → (has_word w s ≡ true) ⊎ (has_word_of w others ≡ true) → (meets r s || list_any (meets r) others) ≡ true
    by_cases more (inl e) = or_left (meets r s) (list_any (meets r) others) (meets_at w r s here e)
    by_cases more (inr rest) = or_right (meets r s) (list_any (meets r) others) (more rest)

pub both_meet : (w : ℕ) (some others : List WordRange) → has_word_of w some ≡ true → has_word_of w others ≡ true → meet_somewhere some others ≡ true
both_meet w [] others here there = absurd (let e : false ≡ true = here in cc)
both_meet w (r ∷ some) others here there = by_cases (λ rest. both_meet w some others rest there) (or_cases (has_word w r) (has_word_of w some) here)
  where
    by_cases : (has_word_of w some ≡ true → meet_somewhere some others ≡ true) → (has_word w r ≡ true) ⊎ (has_word_of w some ≡ true) → (list_any (meets r) others || meet_somewhere some others) ≡ true
    by_cases more (inl e) = or_left (list_any (meets r) others) (meet_somewhere some others) (meets_one w r others e there)
    by_cases more (inr rest) = or_right (list_any (meets r) others) (meet_somewhere some others) (more rest)

-- ---- where each word has one writer at most, it is the one that marking leaves

no_later : (at so_far : ℕ) (procs : List Touched) (w : ℕ) → ((k : ℕ) (d : Touched) → k < length procs → has_word_of w (get_or procs k d).writes ≡ false) → writer_from at so_far procs w ≡ so_far
no_later at so_far [] w none = refl
no_later at so_far (p ∷ procs) w none =
    no_later (suc at) (cond (has_word_of w p.writes) at so_far) procs w (λ k d less. none (suc k) d (omega arith))
    ∙ ap (λ (b : Bool). cond b at so_far) (none 0 p (omega arith))

-- it is what it was, or one of these processes
marked_by : (at so_far : ℕ) (procs : List Touched) (w : ℕ) → (writer_from at so_far procs w ≡ so_far) ⊎ (at ≤ writer_from at so_far procs w)
marked_by at so_far [] w = inl refl
marked_by at so_far (p ∷ procs) w = by_cases (marked_by (suc at) (cond (has_word_of w p.writes) at so_far) procs w) (cases_Bool (has_word_of w p.writes))
  where
    writer : ℕ
    writer = writer_from (suc at) (cond (has_word_of w p.writes) at so_far) procs w

    by_cases : (writer ≡ cond (has_word_of w p.writes) at so_far) ⊎ (suc at ≤ writer) → (has_word_of w p.writes ≡ true) ⊎ (has_word_of w p.writes ≡ false) → (writer ≡ so_far) ⊎ (at ≤ writer)
    by_cases (inr more) has = inr (omega arith)
    by_cases (inl e) (inl has) = let is : writer ≡ at = e ∙ ap (λ (b : Bool). cond b at so_far) has in inr (omega arith)
    by_cases (inl e) (inr has) = inl (e ∙ ap (λ (b : Bool). cond b at so_far) has)

pub writer_is : (at so_far : ℕ) (procs : List Touched) (w i : ℕ) (d : Touched) → OneWriter procs → i < length procs → (so_far < at) ⊎ (at + length procs ≤ so_far)
    → (writer_from at so_far procs w == (at + i)) ≡ has_word_of w (get_or procs i d).writes
writer_is at so_far [] w i d one inside outside = absurd (omega arith)
writer_is at so_far (p ∷ procs) w zero d one inside outside = by_test (cases_Bool (has_word_of w p.writes))
  where
    writer : ℕ
    writer = writer_from (suc at) (cond (has_word_of w p.writes) at so_far) procs w

    apart : has_word_of w p.writes ≡ true → (k : ℕ) (e : Touched) → k < length procs → has_word_of w (get_or procs k e).writes ≡ false
    apart has k e less = by_other (cases_Bool (has_word_of w (get_or procs k e).writes))
      where
        by_other : (has_word_of w (get_or procs k e).writes ≡ true) ⊎ (has_word_of w (get_or procs k e).writes ≡ false) → has_word_of w (get_or procs k e).writes ≡ false
        by_other (inr false') = false'
        by_other (inl too) = absurd (let both : true ≡ false = sym (both_meet w p.writes (get_or procs k e).writes has too) ∙ one 0 (suc k) e (omega arith) (omega arith) in cc)

    by_test : (has_word_of w p.writes ≡ true) ⊎ (has_word_of w p.writes ≡ false) → (writer == (at + 0)) ≡ has_word_of w p.writes
    by_test (inl has) =
        let is : writer ≡ at = no_later (suc at) (cond (has_word_of w p.writes) at so_far) procs w (apart has) ∙ ap (λ (b : Bool). cond b at so_far) has in
        eq-eqb writer (at + 0) (omega arith) ∙ sym has
    by_test (inr none) = ne_eqb writer (at + 0) (by_cases (marked_by (suc at) (cond (has_word_of w p.writes) at so_far) procs w) outside) ∙ sym none
      where
        by_cases : (writer ≡ cond (has_word_of w p.writes) at so_far) ⊎ (suc at ≤ writer) → (so_far < at) ⊎ (at + suc (length procs) ≤ so_far) → writer ≡ at + 0 → ⊥
        by_cases (inr more) out is = omega arith
        by_cases (inl e) (inl less) is = let old : writer ≡ so_far = e ∙ ap (λ (b : Bool). cond b at so_far) none in omega arith
        by_cases (inl e) (inr past) is = let old : writer ≡ so_far = e ∙ ap (λ (b : Bool). cond b at so_far) none in omega arith
writer_is at so_far (p ∷ procs) w (suc i) d one inside outside =
    let e : at + suc i ≡ suc at + i = omega arith in
    ap (λ k. writer_from (suc at) (cond (has_word_of w p.writes) at so_far) procs w == k) e
    ∙ writer_is (suc at) (cond (has_word_of w p.writes) at so_far) procs w i d (λ a b f less within. one (suc a) (suc b) f (omega arith) (omega arith)) (omega arith) (by_test (has_word_of w p.writes) outside)
  where
    by_test : (has : Bool) → (so_far < at) ⊎ (at + suc (length procs) ≤ so_far) → (cond has at so_far < suc at) ⊎ (suc at + length procs ≤ cond has at so_far)
    by_test true out = inl (omega arith)
    by_test false (inl less) = inl (omega arith)
    by_test false (inr past) = inr (omega arith)

-- ---- runs

pub last_run : (of_word : List ℕ) (k end : ℕ) → k + 1 ≡ length of_word → end ≡ length of_word → IsRun of_word k end
last_run of_word k end last is =
    record {
      goes_on = omega arith;
      within = omega arith;
      same = λ j low high. let e : j ≡ k = omega arith in ap (λ i. get_or of_word i 0) e;
    }

pub run_before_same : (of_word : List ℕ) (k end : ℕ) → get_or of_word k 0 ≡ get_or of_word (k + 1) 0 → IsRun of_word (k + 1) end → IsRun of_word k end
run_before_same of_word k end e run =
    let goes_on = run.goes_on in
    record {
      goes_on = omega arith;
      within = run.within;
      same = λ j low high. by_place j low high (cases_eq j k);
    }
  where
    by_place : (j : ℕ) → k ≤ j → j < end → (j ≡ k) ⊎ (j ≡ k → ⊥) → get_or of_word j 0 ≡ get_or of_word k 0
    by_place j low high (inl is) = ap (λ i. get_or of_word i 0) is
    by_place j low high (inr other) = run.same j (let apart : j ≡ k → ⊥ = other in omega arith) high ∙ sym e

pub run_of_one : (of_word : List ℕ) (k end : ℕ) → end ≡ k + 1 → k + 1 < length of_word → IsRun of_word k end
run_of_one of_word k end is inside =
    record {
      goes_on = omega arith;
      within = omega arith;
      same = λ j low high. let e : j ≡ k = omega arith in ap (λ i. get_or of_word i 0) e;
    }

-- That the edges between processes by their words are those by their bits, and that each word has one writer at most.
use Rattle.std.proofs.Common.{◌≡◌, ℕ, zero, suc, ◌+◌, ◌<◌, ◌≤◌, ◌==◌, Bool, true, false, cond, ◌&&◌, ◌||◌, not, List, [], ◌∷◌, ◌++◌, length, Option, Some, None, max, min, refl, sym, ap, ◌∙◌, subst, arith, inl, inr, ◌⊎◌}
use Rattle.std.specs.Prelude.{nat_lt, nat_le, slice_get, ⊤}
use Rattle.std.specs.List.{list_any, All}
use Rattle.std.proofs.lemmas.Bool.{and_parts, and_from, cases_Bool, cases_eq, ltb-true, ltb-false, leb-true, le-leb, lt-ltb, or_cases, or_left, or_right}
use Rattle.std.proofs.lemmas.List.Kept.{AllPairs-cons}
use Rattle.rtl_ir.specs.declared.design.Proc.{Proc}
use Rattle.rtl_ir.specs.declared.whole.Design.{Design}
use Rattle.rtl_pieces.specs.declared.layout.Word.{Word}
use Rattle.rtl_pieces.specs.Line.{Line, has}
use Rattle.rtl_pieces.specs.Bits.{line_in, writes, reads, named_left}
use Rattle.rtl_pieces.specs.Cover.{places_of}
use Rattle.rtl_pieces.specs.Words.{writer_of, first_writer}
use Rattle.logic_graph.specs.declared.ranges.WordRange.{WordRange}
use Rattle.logic_graph.specs.declared.ranges.Touched.{Touched}
use Rattle.order_levels.specs.Serial.{numbers_from}
use Rattle.logic_graph.specs.Reading.{has_word, meets, meet_somewhere, edge_to, edges_out_of, edges_of, OneWriter}
use Rattle.logic_graph.specs.Reading as words
use Rattle.plan_types.specs.Drivers.{OneDriver}
use Rattle.plan_types.specs.Cuts.{IsCut}
use Rattle.task_code.specs.Compiled.{Each}
use Rattle.model_build.specs.Touching.{IsTouched, WordsAre}
use Rattle.plan_types.specs.Settle.{some_below, feeds, edges_out, edges_from, read_edges, clocked_of, combs_of}
use Rattle.model_build.proofs.Covering.{Stands, places_with, places_in, covered, same_writer, has_bits, bit_in, word_in}

-- ---- ranges meet where they have a word in common

common_of_one : (r : WordRange) (others : List WordRange) → list_any (meets r) others ≡ true → (w : ℕ) × (has_word w r ≡ true) × (list_any (has_word w) others ≡ true)
common_of_one r [] met = absurd (let e : false ≡ true = met in cc)
common_of_one r (s ∷ others) met = by_cases (λ rest. common_of_one r others rest) (or_cases (meets r s) (list_any (meets r) others) met)
  where
    by_cases : (list_any (meets r) others ≡ true → (w : ℕ) × (has_word w r ≡ true) × (list_any (has_word w) others ≡ true)) → (meets r s ≡ true) ⊎ (list_any (meets r) others ≡ true)
        → (w : ℕ) × (has_word w r ≡ true) × (list_any (has_word w) (s ∷ others) ≡ true)
    by_cases more (inl e) =
        let less = ltb-true (max r.first s.first) (min r.end s.end) e in
        let w = max r.first s.first in
        let in_one : has_word w r ≡ true = and_from (nat_le r.first w) (nat_lt w r.end) (le-leb r.first w (omega arith)) (lt-ltb w r.end (omega arith)) in
        let in_other : has_word w s ≡ true = and_from (nat_le s.first w) (nat_lt w s.end) (le-leb s.first w (omega arith)) (lt-ltb w s.end (omega arith)) in
        (w, in_one, or_left (has_word w s) (list_any (has_word w) others) in_other)
    by_cases more (inr rest) = let w = more rest in (w.0, w.1, or_right (has_word w.0 s) (list_any (has_word w.0) others) w.2)

common_word : (some others : List WordRange) → meet_somewhere some others ≡ true → (w : ℕ) × (list_any (has_word w) some ≡ true) × (list_any (has_word w) others ≡ true)
common_word [] others met = absurd (let e : false ≡ true = met in cc)
common_word (r ∷ some) others met = by_cases (λ rest. common_word some others rest) (or_cases (list_any (meets r) others) (meet_somewhere some others) met)
  where
    by_cases : (meet_somewhere some others ≡ true → (w : ℕ) × (list_any (has_word w) some ≡ true) × (list_any (has_word w) others ≡ true)) → (list_any (meets r) others ≡ true) ⊎ (meet_somewhere some others ≡ true)
        → (w : ℕ) × (list_any (has_word w) (r ∷ some) ≡ true) × (list_any (has_word w) others ≡ true)
    by_cases more (inl e) = let w = common_of_one r others e in (w.0, or_left (has_word w.0 r) (list_any (has_word w.0) some) w.1, w.2)
    by_cases more (inr rest) = let w = more rest in (w.0, or_right (has_word w.0 r) (list_any (has_word w.0) some) w.1, w.2)

meets_at : (w : ℕ) (r s : WordRange) → has_word w r ≡ true → has_word w s ≡ true → meets r s ≡ true
meets_at w r s one two =
    let a = and_parts (nat_le r.first w) (nat_lt w r.end) one in
    let b = and_parts (nat_le s.first w) (nat_lt w s.end) two in
    let c = ltb-true w r.end a.1 in
    let d = ltb-true w s.end b.1 in
    let e = leb-true r.first w a.0 in
    let f = leb-true s.first w b.0 in
    lt-ltb (max r.first s.first) (min r.end s.end) (omega arith)

meet_one : (w : ℕ) (r : WordRange) (others : List WordRange) → has_word w r ≡ true → list_any (has_word w) others ≡ true → list_any (meets r) others ≡ true
meet_one w r [] here any = absurd (let e : false ≡ true = any in cc)
meet_one w r (s ∷ others) here any = by_cases (λ rest. meet_one w r others here rest) (or_cases (has_word w s) (list_any (has_word w) others) any)
  where
    by_cases : (list_any (has_word w) others ≡ true → list_any (meets r) others ≡ true) → (has_word w s ≡ true) ⊎ (list_any (has_word w) others ≡ true) → list_any (meets r) (s ∷ others) ≡ true
    by_cases more (inl e) = or_left (meets r s) (list_any (meets r) others) (meets_at w r s here e)
    by_cases more (inr rest) = or_right (meets r s) (list_any (meets r) others) (more rest)

meet_from : (w : ℕ) (some others : List WordRange) → list_any (has_word w) some ≡ true → list_any (has_word w) others ≡ true → meet_somewhere some others ≡ true
meet_from w [] others one two = absurd (let e : false ≡ true = one in cc)
meet_from w (r ∷ some) others one two = by_cases (λ rest. meet_from w some others rest two) (or_cases (has_word w r) (list_any (has_word w) some) one)
  where
    by_cases : (list_any (has_word w) some ≡ true → meet_somewhere some others ≡ true) → (has_word w r ≡ true) ⊎ (list_any (has_word w) some ≡ true) → meet_somewhere (r ∷ some) others ≡ true
    by_cases more (inl e) = or_left (list_any (meets r) others) (meet_somewhere some others) (meet_one w r others e two)
    by_cases more (inr rest) = or_right (list_any (meets r) others) (meet_somewhere some others) (more rest)

-- ---- the writer of a bit

writer_writes : (test : ℕ → ℕ → Bool) (number more b p : ℕ) → first_writer test number more b ≡ Some p → test p b ≡ true
writer_writes test number zero b p is = absurd (let e : None ≡ Some p = is in cc)
writer_writes test number (suc more) b p is = by_test (λ rest. writer_writes test (suc number) more b p rest) (cases_Bool (test number b))
  where
    by_test : (first_writer test (suc number) more b ≡ Some p → test p b ≡ true) → (test number b ≡ true) ⊎ (test number b ≡ false) → test p b ≡ true
    by_test others (inl e) =
        let here : Some number ≡ Some p = sym (ap (λ (t : Bool). cond t (Some number) (first_writer test (suc number) more b)) e) ∙ is in
        let same : number ≡ p = cc in
        ap (λ (n : ℕ). test n b) (sym same) ∙ e
    by_test others (inr e) = others (sym (ap (λ (t : Bool). cond t (Some number) (first_writer test (suc number) more b)) e) ∙ is)

writer_some : (test : ℕ → ℕ → Bool) (number more b p : ℕ) → number ≤ p → p < number + more → test p b ≡ true → (q : ℕ) × (first_writer test number more b ≡ Some q)
writer_some test number zero b p low high is = absurd (omega arith)
writer_some test number (suc more) b p low high is = by_test (λ above. writer_some test (suc number) more b p above (omega arith) is) (cases_Bool (test number b)) (cases_eq number p)
  where
    by_test : (suc number ≤ p → (q : ℕ) × (first_writer test (suc number) more b ≡ Some q)) → (test number b ≡ true) ⊎ (test number b ≡ false) → (number ≡ p) ⊎ (number ≡ p → ⊥) → (q : ℕ) × (first_writer test number (suc more) b ≡ Some q)
    by_test others (inl e) other = (number, ap (λ (t : Bool). cond t (Some number) (first_writer test (suc number) more b)) e)
    by_test others (inr e) (inl same) = absurd (let one : test number b ≡ true = ap (λ (n : ℕ). test n b) same ∙ is in let two : true ≡ false = sym one ∙ e in cc)
    by_test others (inr e) (inr other) =
        let rest = others (omega arith) in
        (rest.0, ap (λ (t : Bool). cond t (Some number) (first_writer test (suc number) more b)) e ∙ rest.1)

get_past : (procs : List Proc) (p : ℕ) → length procs ≤ p → slice_get procs p ≡ None
get_past [] p past = refl
get_past (process ∷ more) zero past = absurd (omega arith)
get_past (process ∷ more) (suc p) past = get_past more p (omega arith)

-- what writes is a process
is_process : (line : Line) (procs : List Proc) (p b : ℕ) → writes line procs p b ≡ true → p < length procs
is_process line procs p b is = by_test (cases_Bool (nat_lt p (length procs)))
  where
    by_test : (nat_lt p (length procs) ≡ true) ⊎ (nat_lt p (length procs) ≡ false) → p < length procs
    by_test (inl e) = ltb-true p (length procs) e
    by_test (inr e) =
        let none = get_past procs p (ltb-false p (length procs) e) in
        let parts = and_parts (nat_lt b line.bits) (has b (named_left line (slice_get procs p))) is in
        absurd (let no : false ≡ true = sym (ap (λ (o : Option Proc). has b (named_left line o)) none) ∙ parts.1 in cc)

some_same : {a b : ℕ} → Some a ≡ Some b → a ≡ b
some_same e = cc

-- ---- the numbers of processes rise

abbrev Rises : ℕ → List ℕ → Type 0
Rises low [] = ⊤
Rises low (n ∷ more) = (low ≤ n) × Rises (suc n) more

rises_lower : (low : ℕ) (list : List ℕ) → Rises (suc low) list → Rises low list
rises_lower low [] rises = tt
rises_lower low (n ∷ more) rises = (let from = rises.0 in omega arith, rises.1)

numbers_rise : (passes : Bool → Bool) (at : ℕ) (marks : List Bool) → Rises at (numbers_from at passes marks)
numbers_rise passes at [] = tt
numbers_rise passes at (m ∷ more) = either (numbers_rise passes (suc at) more) (passes m)
  where
    either : Rises (suc at) (numbers_from (suc at) passes more) → (t : Bool) → Rises at (cond t (at ∷ numbers_from (suc at) passes more) (numbers_from (suc at) passes more))
    either rest true = (omega arith, rest)
    either rest false = rises_lower at (numbers_from (suc at) passes more) rest

module _ (design : Design) (one : OneDriver design) where
  is_writer : (p b : ℕ) → writes (line_in design) design.procs p b ≡ true → writer_of (line_in design) design.procs b ≡ Some p
  is_writer p b is =
      let some = writer_some (writes (line_in design) design.procs) 0 (length design.procs) b p (omega arith) (let less = is_process (line_in design) design.procs p b is in omega arith) is in
      some.1 ∙ ap Some (one.single b some.0 p (writer_writes (writes (line_in design) design.procs) 0 (length design.procs) b some.0 some.1) is)

-- ---- some number below a bound

below_from : (passes : ℕ → Bool) (n b : ℕ) → b < n → passes b ≡ true → some_below passes n ≡ true
below_from passes zero b less is = absurd (omega arith)
below_from passes (suc n) b less is = by_eq (λ below. below_from passes n b below is) (cases_eq b n)
  where
    by_eq : (b < n → some_below passes n ≡ true) → (b ≡ n) ⊎ (b ≡ n → ⊥) → (passes n || some_below passes n) ≡ true
    by_eq others (inl same) = or_left (passes n) (some_below passes n) (ap passes (sym same) ∙ is)
    by_eq others (inr other) = or_right (passes n) (some_below passes n) (others (let apart : b ≡ n → ⊥ = other in omega arith))

below_some : (passes : ℕ → Bool) (n : ℕ) → some_below passes n ≡ true → (b : ℕ) × (b < n) × (passes b ≡ true)
below_some passes zero is = absurd (let e : false ≡ true = is in cc)
below_some passes (suc n) is = by_cases (λ rest. below_some passes n rest) (or_cases (passes n) (some_below passes n) is)
  where
    by_cases : (some_below passes n ≡ true → (b : ℕ) × (b < n) × (passes b ≡ true)) → (passes n ≡ true) ⊎ (some_below passes n ≡ true) → (b : ℕ) × (b < suc n) × (passes b ≡ true)
    by_cases more (inl e) = (n, omega arith, e)
    by_cases more (inr rest) = let found = more rest in (found.0, let less = found.1 in omega arith, found.2)

both : (a b : Bool) → (a ≡ true → b ≡ true) → (b ≡ true → a ≡ true) → a ≡ b
both true b one two = sym (one refl)
both false true one two = two refl
both false false one two = refl

-- ---- one process feeds another where their words meet

module _ (design : Design) (cut_words : List Word) (cut : IsCut design cut_words) (one : OneDriver design) where
  abbrev places : List ℕ
  places = places_with (line_in design) design.procs

  abbrev Of : ℕ → Touched → Type 0
  Of = IsTouched (line_in design) design.procs (places_with (line_in design) design.procs)

  bit_of : (bits : ℕ → Bool) (ranges : List WordRange) → WordsAre places bits ranges → (w : ℕ) → list_any (has_word w) ranges ≡ true → (b : ℕ) × Stands places w b × (bits b ≡ true)
  bit_of bits ranges are w has_it =
      let found = bit_in places (has_bits design cut_words cut) w are.ranges (sym (are.same_words w) ∙ has_it) in
      (found.0, found.1, sym (are.same_bits found.0) ∙ found.2)

  word_of_bit : (bits : ℕ → Bool) (ranges : List WordRange) → WordsAre places bits ranges → (w b : ℕ) → Stands places w b → bits b ≡ true → list_any (has_word w) ranges ≡ true
  word_of_bit bits ranges are w b stands is =
      are.same_words w ∙ word_in places (has_bits design cut_words cut) w b are.ranges stands (are.same_bits b ∙ is)

  feeds_where_met : (p q : ℕ) (t u : Touched) → Of p t → Of q u → meet_somewhere t.writes u.reads ≡ true → feeds (line_in design) design.procs p q ≡ true
  feeds_where_met p q t u of_p of_q met =
      let w = common_word t.writes u.reads met in
      let written = bit_of (writes (line_in design) design.procs p) t.writes of_p.written w.0 w.1 in
      let read = bit_of (reads (line_in design) design.procs q) u.reads of_q.read w.0 w.2 in
      let c = read.0 in
      let of_c : writer_of (line_in design) design.procs c ≡ Some p = same_writer design cut_words cut w.0 c written.0 read.1 written.1 ∙ is_writer design one p written.0 written.2 in
      let writes_c = writer_writes (writes (line_in design) design.procs) 0 (length design.procs) c p of_c in
      let less = ltb-true c (line_in design).bits (and_parts (nat_lt c (line_in design).bits) (has c (named_left (line_in design) (slice_get design.procs p))) writes_c).0 in
      below_from (λ b. writes (line_in design) design.procs p b && reads (line_in design) design.procs q b) (line_in design).bits c less (and_from (writes (line_in design) design.procs p c) (reads (line_in design) design.procs q c) writes_c read.2)

  met_where_feeds : (p q : ℕ) (t u : Touched) → Of p t → Of q u → feeds (line_in design) design.procs p q ≡ true → meet_somewhere t.writes u.reads ≡ true
  met_where_feeds p q t u of_p of_q fed =
      let found = below_some (λ b. writes (line_in design) design.procs p b && reads (line_in design) design.procs q b) (line_in design).bits fed in
      let b = found.0 in
      let parts = and_parts (writes (line_in design) design.procs p b) (reads (line_in design) design.procs q b) found.2 in
      let w = covered design cut_words cut b found.1 in
      meet_from w.0 t.writes u.reads
      (word_of_bit (writes (line_in design) design.procs p) t.writes of_p.written w.0 b w.1 parts.0)
      (word_of_bit (reads (line_in design) design.procs q) u.reads of_q.read w.0 b w.1 parts.1)

  meets_is_feeds : (p q : ℕ) (t u : Touched) → Of p t → Of q u → meet_somewhere t.writes u.reads ≡ feeds (line_in design) design.procs p q
  meets_is_feeds p q t u of_p of_q = both (meet_somewhere t.writes u.reads) (feeds (line_in design) design.procs p q) (feeds_where_met p q t u of_p of_q) (met_where_feeds p q t u of_p of_q)

  -- ---- the edges

  out_same : (i p : ℕ) (t : Touched) → Of p t → (at : ℕ) (qs : List ℕ) (us : List Touched) → Each Of qs us → edges_out_of i t.writes at us ≡ edges_out (feeds (line_in design) design.procs) i p at qs
  out_same i p t of_p at [] [] each = refl
  out_same i p t of_p at [] (u ∷ us) each = absurd each
  out_same i p t of_p at (q ∷ qs) [] each = absurd each
  out_same i p t of_p at (q ∷ qs) (u ∷ us) each =
      let met = meets_is_feeds p q t u of_p each.0 in
      let rest = out_same i p t of_p (suc at) qs us each.1 in
      λ j. cond (not (at == i) && met j) (edge_to i at ∷ rest j) (rest j)

  from_same : (at : ℕ) (ps : List ℕ) (ts : List Touched) → Each Of ps ts → (qs : List ℕ) (us : List Touched) → Each Of qs us → words.edges_from at ts us ≡ edges_from (feeds (line_in design) design.procs) at ps qs
  from_same at [] [] each qs us others = refl
  from_same at [] (t ∷ ts) each qs us others = absurd each
  from_same at (p ∷ ps) [] each qs us others = absurd each
  from_same at (p ∷ ps) (t ∷ ts) each qs us others =
      let here = out_same at p t each.0 0 qs us others in
      let rest = from_same (suc at) ps ts each.1 qs us others in
      λ j. here j ++ rest j

  -- ---- no two processes write a common word

  apart : (p q : ℕ) (t u : Touched) → Of p t → Of q u → p < q → meet_somewhere t.writes u.writes ≡ false
  apart p q t u of_p of_q less = by_test (cases_Bool (meet_somewhere t.writes u.writes))
    where
      by_test : (meet_somewhere t.writes u.writes ≡ true) ⊎ (meet_somewhere t.writes u.writes ≡ false) → meet_somewhere t.writes u.writes ≡ false
      by_test (inr e) = e
      by_test (inl met) =
          let w = common_word t.writes u.writes met in
          let b = bit_of (writes (line_in design) design.procs p) t.writes of_p.written w.0 w.1 in
          let c = bit_of (writes (line_in design) design.procs q) u.writes of_q.written w.0 w.2 in
          let of_c : writer_of (line_in design) design.procs c.0 ≡ Some p = same_writer design cut_words cut w.0 c.0 b.0 c.1 b.1 ∙ is_writer design one p b.0 b.2 in
          let is_c : writer_of (line_in design) design.procs c.0 ≡ Some q = is_writer design one q c.0 c.2 in
          let same : p ≡ q = some_same (sym of_c ∙ is_c) in
          absurd (omega arith)

  all_apart : (p : ℕ) (t : Touched) → Of p t → (low : ℕ) → p < low → (qs : List ℕ) (us : List Touched) → Rises low qs → Each Of qs us → All (λ u. meet_somewhere t.writes u.writes ≡ false) us
  all_apart p t of_p low less [] [] rises each k d within = absurd (omega arith)
  all_apart p t of_p low less [] (u ∷ us) rises each k d within = absurd each
  all_apart p t of_p low less (q ∷ qs) [] rises each k d within = absurd each
  all_apart p t of_p low less (q ∷ qs) (u ∷ us) rises each zero d within =
      let from = rises.0 in
      apart p q t u of_p each.0 (omega arith)
  all_apart p t of_p low less (q ∷ qs) (u ∷ us) rises each (suc k) d within =
      let from = rises.0 in
      all_apart p t of_p (suc q) (omega arith) qs us rises.1 each.1 k d (omega arith)

  one_each : (low : ℕ) (ps : List ℕ) (ts : List Touched) → Rises low ps → Each Of ps ts → OneWriter ts
  one_each low [] [] rises each i j d less within = absurd (omega arith)
  one_each low [] (t ∷ ts) rises each i j d less within = absurd each
  one_each low (p ∷ ps) [] rises each i j d less within = absurd each
  one_each low (p ∷ ps) (t ∷ ts) rises each i j d less within =
      AllPairs-cons (λ a b. meet_somewhere a.writes b.writes ≡ false) t ts
      (all_apart p t each.0 (suc p) (omega arith) ps ts rises.1 each.1)
      (one_each (suc p) ps ts rises.1 each.1) i j d less within

each_at : (R : List ℕ → ℕ → Touched → Type 0) (x y : List ℕ) → x ≡ y → (ps : List ℕ) (ts : List Touched) → Each (R x) ps ts → Each (R y) ps ts
each_at R x y e ps ts each = subst (λ (z : List ℕ). Each (R z) ps ts) e each

-- the edges by words are those by bits
pub edges_same : (design : Design) (cut_words : List Word) (combs : List ℕ) (ts : List Touched) → IsCut design cut_words → OneDriver design → combs ≡ combs_of design.procs
    → Each (IsTouched (line_in design) design.procs (places_of 0 cut_words)) combs ts → edges_of ts ≡ read_edges design
unfolding read_edges
edges_same design cut_words combs ts cut one are each =
    let is : places_of 0 cut_words ≡ places_with (line_in design) design.procs = ap (places_of 0) cut.words_are ∙ places_in (line_in design) design.procs in
    let all = each_at (λ places. IsTouched (line_in design) design.procs places) (places_of 0 cut_words) (places_with (line_in design) design.procs) is combs ts each in
    from_same design cut_words cut one 0 combs ts all combs ts all
    ∙ ap (λ (ps : List ℕ). edges_from (feeds (line_in design) design.procs) 0 ps ps) are

-- each word that combinational processes touch has one writer at most
pub one_writer : (design : Design) (cut_words : List Word) (combs : List ℕ) (ts : List Touched) → IsCut design cut_words → OneDriver design → combs ≡ combs_of design.procs
    → Each (IsTouched (line_in design) design.procs (places_of 0 cut_words)) combs ts → OneWriter ts
one_writer design cut_words combs ts cut one are each =
    let is : places_of 0 cut_words ≡ places_with (line_in design) design.procs = ap (places_of 0) cut.words_are ∙ places_in (line_in design) design.procs in
    let all = each_at (λ places. IsTouched (line_in design) design.procs places) (places_of 0 cut_words) (places_with (line_in design) design.procs) is combs ts each in
    one_each design cut_words cut one 0 combs ts (subst (Rises 0) (sym are) (numbers_rise not 0 (clocked_of design.procs))) all

pub each_length : {A B : Type 0} (R : A → B → Type 0) (xs : List A) (ys : List B) → Each R xs ys → length ys ≡ length xs
each_length R [] [] each = refl
each_length R [] (y ∷ ys) each = absurd each
each_length R (x ∷ xs) [] each = absurd each
each_length R (x ∷ xs) (y ∷ ys) each = let rest = each_length R xs ys each.1 in omega arith

pub each_push : {A B : Type 0} (R : A → B → Type 0) (xs : List A) (ys : List B) (a : A) (b : B) → Each R xs ys → R a b → Each R (xs ++ a ∷ []) (ys ++ b ∷ [])
each_push R [] [] a b each is = (is, tt)
each_push R [] (y ∷ ys) a b each is = absurd each
each_push R (x ∷ xs) [] a b each is = absurd each
each_push R (x ∷ xs) (y ∷ ys) a b each is = (each.0, each_push R xs ys a b each.1 is)

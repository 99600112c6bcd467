-- What holds of paths: what leads where, how long a path is, and edges under other names.
use Rattle.std.proofs.Common.{◌≡◌, ◌+◌, ◌<◌, ◌≤◌, ◌==◌, ℕ, List, [], ◌∷◌, length, map, Bool, true, false, not, cond, ◌&&◌, ◌||◌, nat_lt, refl, sym, ap, subst, ◌∙◌, inl, inr, ◌⊎◌, arith}
use Rattle.std.specs.List.{filter}
use Rattle.std.proofs.lemmas.Bool.{cases_Bool, eq-eqb, eqb-true, ne_eqb, and_parts, and_from, or_cases, or_left, or_right, not_from_false, false_from_ne_true, lt-ltb, both_ways}
use Rattle.plan_graph.specs.declared.node.Edge.{Edge}
use Rattle.plan_graph.specs.Graphs.{has_edge, joins, is_among, is_path_to, HasNoCycle, Leads, cost_of_all, IsCostliest, turned}
use Rattle.plan_graph.specs.Groupings.{is_across, through, image}
use Rattle.plan_graph.specs.ListLaws.{all_below, is_distinct, no_longer, eqb_turned}

-- ---- what leads where

pub leads_edge : (edges : List Edge) (i j : ℕ) → has_edge edges i j ≡ true → Leads edges i j
leads_edge edges i j edge = record {
  back = i ∷ [];
  is_path = and_from (has_edge edges i j) true edge refl;
  starts = or_left (i == i) false (eq-eqb i i refl);
}

pub leads_more : (edges : List Edge) (i k j : ℕ) → Leads edges i k → has_edge edges k j ≡ true → Leads edges i j
leads_more edges i k j path edge = record {
  back = k ∷ path.back;
  is_path = and_from (has_edge edges k j) (is_path_to k edges path.back) edge path.is_path;
  starts = or_right (k == i) (is_among i path.back) path.starts;
}

leads_along : (edges : List Edge) (i k j : ℕ) → Leads edges i k → (back : List ℕ) → is_path_to j edges back ≡ true → is_among k back ≡ true → Leads edges i j
leads_along edges i k j path [] on among = absurd (both_ways false refl among)
leads_along edges i k j path (m ∷ back) on among = by_cases (λ others. leads_along edges i k m path back parts.1 others) (or_cases (m == k) (is_among k back) among)
  where
    parts : (has_edge edges m j ≡ true) × (is_path_to m edges back ≡ true)
    parts = and_parts (has_edge edges m j) (is_path_to m edges back) on

    by_cases : (is_among k back ≡ true → Leads edges i m) → ((m == k) ≡ true) ⊎ (is_among k back ≡ true) → Leads edges i j
    by_cases more (inl e) = leads_more edges i m j (subst (λ (n : ℕ). Leads edges i n) (sym (eqb-true m k e)) path) parts.0
    by_cases more (inr others) = leads_more edges i m j (more others) parts.0

pub leads_on : (edges : List Edge) (i k j : ℕ) → Leads edges i k → Leads edges k j → Leads edges i j
leads_on edges i k j path more = leads_along edges i k j path more.back more.is_path more.starts

pub never_back : (edges : List Edge) (j : ℕ) → HasNoCycle edges → Leads edges j j → ⊥
never_back edges j acyclic path = both_ways (is_among j path.back) (acyclic j path.back path.is_path) path.starts

-- an edge, and a path from where it leads
leads_first_along : (edges : List Edge) (i k : ℕ) → has_edge edges i k ≡ true → (back : List ℕ) (j : ℕ) → is_path_to j edges back ≡ true → is_among k back ≡ true → Leads edges i j
leads_first_along edges i k edge [] j path among = absurd (both_ways false refl among)
leads_first_along edges i k edge (m ∷ back) j path among = by_cases (λ others. leads_first_along edges i k edge back m parts.1 others) (or_cases (m == k) (is_among k back) among)
  where
    parts : (has_edge edges m j ≡ true) × (is_path_to m edges back ≡ true)
    parts = and_parts (has_edge edges m j) (is_path_to m edges back) path

    more : (n : ℕ) → Leads edges i n → has_edge edges n j ≡ true → Leads edges i j
    more n before last = record {
      back = n ∷ before.back;
      is_path = and_from (has_edge edges n j) (is_path_to n edges before.back) last before.is_path;
      starts = or_right (n == i) (is_among i before.back) before.starts;
    }

    by_cases : (is_among k back ≡ true → Leads edges i m) → ((m == k) ≡ true) ⊎ (is_among k back ≡ true) → Leads edges i j
    by_cases others (inl e) = more k (leads_edge edges i k edge) (subst (λ (n : ℕ). has_edge edges n j ≡ true) (eqb-true m k e) parts.0)
    by_cases others (inr rest) = more m (others rest) parts.0

pub leads_first : (edges : List Edge) (i k j : ℕ) → has_edge edges i k ≡ true → Leads edges k j → Leads edges i j
leads_first edges i k j edge path = leads_first_along edges i k edge path.back j path.is_path path.starts

-- ---- paths without a cycle are short

abbrev pub FromBelow : ℕ → List Edge → Type 0
FromBelow nodes edges = (i j : ℕ) → has_edge edges i j ≡ true → i < nodes

path_below : (nodes : ℕ) (edges : List Edge) → FromBelow nodes edges → (back : List ℕ) (j : ℕ) → is_path_to j edges back ≡ true → all_below nodes back ≡ true
path_below nodes edges below [] j path = refl
path_below nodes edges below (i ∷ back) j path =
    let parts = and_parts (has_edge edges i j) (is_path_to i edges back) path in
    and_from (nat_lt i nodes) (all_below nodes back) (lt-ltb i nodes (below i j parts.0)) (path_below nodes edges below back i parts.1)

path_distinct : (edges : List Edge) → HasNoCycle edges → (back : List ℕ) (j : ℕ) → is_path_to j edges back ≡ true → is_distinct back ≡ true
path_distinct edges acyclic [] j path = refl
path_distinct edges acyclic (i ∷ back) j path =
    let parts = and_parts (has_edge edges i j) (is_path_to i edges back) path in
    and_from (not (is_among i back)) (is_distinct back) (not_from_false (is_among i back) (acyclic i back parts.1)) (path_distinct edges acyclic back i parts.1)

pub path_short : (nodes : ℕ) (edges : List Edge) → FromBelow nodes edges → HasNoCycle edges → (back : List ℕ) (j : ℕ) → is_path_to j edges back ≡ true → length back ≤ nodes
path_short nodes edges below acyclic back j path = no_longer nodes back (path_below nodes edges below back j path) (path_distinct edges acyclic back j path)

-- ---- the edges under names

-- each comes from an edge
pub record Comes (f : ℕ → ℕ) (edges : List Edge) (x y : ℕ) : Type 0 where
  pub i : ℕ
  pub j : ℕ
  pub edge : has_edge edges i j ≡ true
  pub from : f i ≡ x
  pub to : f j ≡ y
  pub across : x ≡ y → ⊥

comes_later : (f : ℕ → ℕ) (e : Edge) (edges : List Edge) (x y : ℕ) → Comes f edges x y → Comes f (e ∷ edges) x y
comes_later f e edges x y c = record { i = c.i; j = c.j; edge = or_right (joins c.i c.j e) (has_edge edges c.i c.j) c.edge; from = c.from; to = c.to; across = c.across }

pub image_comes : (f : ℕ → ℕ) (edges : List Edge) (x y : ℕ) → has_edge (image f edges) x y ≡ true → Comes f edges x y
image_comes f [] x y has = absurd (both_ways false refl has)
image_comes f (e ∷ edges) x y has = by_across (image_comes f edges x y) (f e.from == f e.to) refl
  where
    by_first : (has_edge (image f edges) x y ≡ true → Comes f edges x y) → (f e.from == f e.to) ≡ false → (joins x y (through f e) ≡ true) ⊎ (has_edge (image f edges) x y ≡ true) → Comes f (e ∷ edges) x y
    by_first others apart (inl now) =
        let ends = and_parts (f e.from == x) (f e.to == y) now in
        let from = eqb-true (f e.from) x ends.0 in
        let to = eqb-true (f e.to) y ends.1 in
        record {
          i = e.from;
          j = e.to;
          edge = or_left (joins e.from e.to e) (has_edge edges e.from e.to) (and_from (e.from == e.from) (e.to == e.to) (eq-eqb e.from e.from refl) (eq-eqb e.to e.to refl));
          from = from;
          to = to;
          across = λ same. both_ways (f e.from == f e.to) apart (eq-eqb (f e.from) (f e.to) (from ∙ same ∙ sym to));
        }
    by_first others apart (inr more) = comes_later f e edges x y (others more)

    by_across : (has_edge (image f edges) x y ≡ true → Comes f edges x y) → (b : Bool) → (f e.from == f e.to) ≡ b → Comes f (e ∷ edges) x y
    by_across others true same = comes_later f e edges x y (others (ap (λ (b : Bool). has_edge (cond (not b) (through f e ∷ image f edges) (image f edges)) x y) (sym same) ∙ has))
    by_across others false apart =
        by_first others apart (or_cases (joins x y (through f e)) (has_edge (image f edges) x y)
        (ap (λ (b : Bool). has_edge (cond (not b) (through f e ∷ image f edges) (image f edges)) x y) (sym apart) ∙ has))

-- and each edge across names is there
pub image_has : (f : ℕ → ℕ) (edges : List Edge) (i j : ℕ) → has_edge edges i j ≡ true → (f i ≡ f j → ⊥) → has_edge (image f edges) (f i) (f j) ≡ true
image_has f [] i j has apart = absurd (both_ways false refl has)
image_has f (e ∷ edges) i j has apart = by_first (λ more. image_has f edges i j more apart) (or_cases (joins i j e) (has_edge edges i j) has)
  where
    kept : (b : Bool) → has_edge (image f edges) (f i) (f j) ≡ true → has_edge (cond b (through f e ∷ image f edges) (image f edges)) (f i) (f j) ≡ true
    kept true more = or_right (joins (f i) (f j) (through f e)) (has_edge (image f edges) (f i) (f j)) more
    kept false more = more

    by_first : (has_edge edges i j ≡ true → has_edge (image f edges) (f i) (f j) ≡ true) → (joins i j e ≡ true) ⊎ (has_edge edges i j ≡ true) → has_edge (image f (e ∷ edges)) (f i) (f j) ≡ true
    by_first others (inr more) = kept (not (f e.from == f e.to)) (others more)
    by_first others (inl now) =
        let ends = and_parts (e.from == i) (e.to == j) now in
        let from = ap f (eqb-true e.from i ends.0) in
        let to = ap f (eqb-true e.to j ends.1) in
        let across : (f e.from == f e.to) ≡ false = ne_eqb (f e.from) (f e.to) (λ same. apart (sym from ∙ same ∙ to)) in
        ap (λ (b : Bool). has_edge (cond (not b) (through f e ∷ image f edges) (image f edges)) (f i) (f j)) across
        ∙ or_left (joins (f i) (f j) (through f e)) (has_edge (image f edges) (f i) (f j)) (and_from (f e.from == f i) (f e.to == f j) (eq-eqb (f e.from) (f i) from) (eq-eqb (f e.to) (f j) to))

-- names of names
pub image_twice : (f r : ℕ → ℕ) (edges : List Edge) → image r (image f edges) ≡ image (λ n. r (f n)) edges
image_twice f r [] = refl
image_twice f r (e ∷ edges) = by_across (image_twice f r edges) (f e.from == f e.to) refl
  where
    short : Bool → List Edge → List Edge
    short b rest = image r (cond (not b) (through f e ∷ rest) rest)

    by_across : image r (image f edges) ≡ image (λ n. r (f n)) edges → (b : Bool) → (f e.from == f e.to) ≡ b → image r (image f (e ∷ edges)) ≡ image (λ n. r (f n)) (e ∷ edges)
    by_across others true same =
        ap (λ (b : Bool). short b (image f edges)) same
        ∙ others
        ∙ sym (ap (λ (b : Bool). cond (not b) (through (λ n. r (f n)) e ∷ image (λ n. r (f n)) edges) (image (λ n. r (f n)) edges)) (eq-eqb (r (f e.from)) (r (f e.to)) (ap r (eqb-true (f e.from) (f e.to) same))))
    by_across others false apart =
        ap (λ (b : Bool). short b (image f edges)) apart
        ∙ ap (λ (rest : List Edge). cond (not (r (f e.from) == r (f e.to))) (through (λ n. r (f n)) e ∷ rest) rest) others

-- ---- paths under other names

pub path_under : (f : ℕ → ℕ) (some others : List Edge) → ((i j : ℕ) → has_edge some i j ≡ true → has_edge others (f i) (f j) ≡ true)
    → (back : List ℕ) (j : ℕ) → is_path_to j some back ≡ true → is_path_to (f j) others (map f back) ≡ true
path_under f some others maps [] j path = refl
path_under f some others maps (i ∷ back) j path =
    let parts = and_parts (has_edge some i j) (is_path_to i some back) path in
    and_from (has_edge others (f i) (f j)) (is_path_to (f i) others (map f back)) (maps i j parts.0) (path_under f some others maps back i parts.1)

pub among_under : (f : ℕ → ℕ) (j : ℕ) (back : List ℕ) → is_among j back ≡ true → is_among (f j) (map f back) ≡ true
among_under f j [] among = absurd (both_ways false refl among)
among_under f j (i ∷ back) among = by_cases (λ more. among_under f j back more) (or_cases (i == j) (is_among j back) among)
  where
    by_cases : (is_among j back ≡ true → is_among (f j) (map f back) ≡ true) → ((i == j) ≡ true) ⊎ (is_among j back ≡ true) → is_among (f j) (map f (i ∷ back)) ≡ true
    by_cases others (inl e) = or_left (f i == f j) (is_among (f j) (map f back)) (eq-eqb (f i) (f j) (ap f (eqb-true i j e)))
    by_cases others (inr more) = or_right (f i == f j) (is_among (f j) (map f back)) (others more)

pub no_cycle_under : (f : ℕ → ℕ) (some others : List Edge) → ((i j : ℕ) → has_edge some i j ≡ true → has_edge others (f i) (f j) ≡ true) → HasNoCycle others → HasNoCycle some
no_cycle_under f some others maps acyclic j back path = by_among (cases_Bool (is_among j back))
  where
    by_among : (is_among j back ≡ true) ⊎ (is_among j back ≡ false) → is_among j back ≡ false
    by_among (inl among) = absurd (both_ways (is_among (f j) (map f back)) (acyclic (f j) (map f back) (path_under f some others maps back j path)) (among_under f j back among))
    by_among (inr none) = none

-- ---- turned edges

pub turned_has : (edges : List Edge) (i j : ℕ) → has_edge (map turned edges) i j ≡ has_edge edges j i
turned_has [] i j = refl
turned_has (e ∷ edges) i j = (λ n. swap (e.to == i) (e.from == j) n || turned_has edges i j n)
  where
    swap : (a b : Bool) → (a && b) ≡ (b && a)
    swap true true = refl
    swap true false = refl
    swap false true = refl
    swap false false = refl

turned_leads_along : (edges : List Edge) (i j : ℕ) → (back : List ℕ) → is_path_to j (map turned edges) back ≡ true → is_among i back ≡ true → Leads edges j i
turned_leads_along edges i j [] path among = absurd (both_ways false refl among)
turned_leads_along edges i j (m ∷ back) path among = by_cases (λ more. turned_leads_along edges i m back parts.1 more) (or_cases (m == i) (is_among i back) among)
  where
    parts : (has_edge (map turned edges) m j ≡ true) × (is_path_to m (map turned edges) back ≡ true)
    parts = and_parts (has_edge (map turned edges) m j) (is_path_to m (map turned edges) back) path

    edge : has_edge edges j m ≡ true
    edge = sym (turned_has edges m j) ∙ parts.0

    by_cases : (is_among i back ≡ true → Leads edges m i) → ((m == i) ≡ true) ⊎ (is_among i back ≡ true) → Leads edges j i
    by_cases others (inl e) = subst (λ (n : ℕ). Leads edges j n) (eqb-true m i e) (leads_edge edges j m edge)
    by_cases others (inr more) = leads_on edges j m i (leads_edge edges j m edge) (others more)

pub turned_acyclic : (edges : List Edge) → HasNoCycle edges → HasNoCycle (map turned edges)
turned_acyclic edges acyclic j back path = false_from_ne_true (is_among j back) (λ among. never_back edges j acyclic (turned_leads_along edges j j back path among))

pub turned_image : (f : ℕ → ℕ) (edges : List Edge) → map turned (image f edges) ≡ image f (map turned edges)
turned_image f [] = refl
turned_image f (e ∷ edges) =
    by_test (not (f e.from == f e.to)) (image f edges)
    ∙ ap (λ (rest : List Edge). cond (not (f e.from == f e.to)) (turned (through f e) ∷ rest) rest) (turned_image f edges)
    ∙ ap (λ (b : Bool). cond (not b) (turned (through f e) ∷ image f (map turned edges)) (image f (map turned edges))) (eqb_turned (f e.from) (f e.to))
  where
    by_test : (b : Bool) (rest : List Edge) → map turned (cond b (through f e ∷ rest) rest) ≡ cond b (turned (through f e) ∷ map turned rest) (map turned rest)
    by_test true rest = refl
    by_test false rest = refl

-- ---- at most one cost is that of the costliest path

pub one_most : (cost : ℕ → ℕ) (edges : List Edge) (j a b : ℕ) → IsCostliest cost edges j a → IsCostliest cost edges j b → a ≡ b
one_most cost edges j a b x y =
    let low = y.longest x.path x.is_path in
    let high = x.longest y.path y.is_path in
    let e : cost j + cost_of_all cost x.path ≡ a = x.so_much in
    let f : cost j + cost_of_all cost y.path ≡ b = y.so_much in
    omega arith

-- Each node of both parts has a code.
use Rattle.std.proofs.Common.{◌≡◌, ℕ, zero, suc, ◌+◌, ◌-◌, ◌<◌, ◌≤◌, Bool, true, false, cond, not, List, [], ◌∷◌, ◌++◌, map, length, take, refl, sym, ap, ◌∙◌, arith}
use Rattle.std.specs.Prelude.{nat_lt, slice_index}
use Rattle.std.specs.List.{list_all, count_by, All}
use Rattle.std.proofs.lemmas.Bool.{and_parts, and_from, lt-ltb, ltb-true}
use Rattle.std.proofs.lemmas.List.{length-map}
use Rattle.std.proofs.lemmas.List.Sums.{sum_by-cons}
use Rattle.rtl_ir.specs.declared.design.Proc.{Proc}
use Rattle.plan_graph.specs.declared.node.Node.{Node}
use Rattle.plan_graph.specs.declared.node.Node.TheVariants as node
use Rattle.plan_graph.specs.declared.node.Part.{Part}
use Rattle.plan_graph.specs.declared.node.Part.TheVariants as part
use Rattle.order_levels.specs.Serial.{numbers_from, clocked_procs, settle_nodes, clocked_nodes, serial_nodes}
use Rattle.task_eval.specs.Codes.{Ops}
use Rattle.task_eval.specs.Soundness.{IsWithin}
use Rattle.task_code.specs.Compiled.{clocked_from, with_number}
use Rattle.plan_types.specs.Coded.{AllWithin, code_count, code_number, has_code, is_clocked}
use Rattle.plan_types.specs.Settle.{clocked_of, combs_of}

-- ---- how many codes there are

pub clocked_count : (n : ℕ) (procs : List Proc) → length (clocked_from n procs) ≡ count_by is_clocked procs
clocked_count n [] = refl
clocked_count n (process ∷ more) =
    either (is_clocked process)
    ∙ ap (λ (k : ℕ). cond (is_clocked process) 1 0 + k) (clocked_count (suc n) more)
    ∙ sym (sum_by-cons (λ (p : Proc). cond (is_clocked p) 1 0) process more)
  where
    either : (t : Bool) → length (with_number t n (clocked_from (suc n) more)) ≡ cond t 1 0 + length (clocked_from (suc n) more)
    either true = omega arith
    either false = omega arith

pub all_within : (words imports : ℕ) (codes : List Ops) → All (λ code. IsWithin words imports code.ops) codes → AllWithin words imports codes
all_within words imports [] all = tt
all_within words imports (code ∷ more) all = (all 0 code (omega arith), all_within words imports more (λ k d less. all (suc k) d (omega arith)))

-- ---- numbers of processes

module _ (passes : Bool → Bool) where
  numbers_below : (at : ℕ) (marks : List Bool) (k : ℕ) → k < length (numbers_from at passes marks) → slice_index (numbers_from at passes marks) k < at + length marks
  numbers_below at [] k less = absurd (omega arith)
  numbers_below at (m ∷ more) k less = either (numbers_below (suc at) more) (passes m) k less
    where
      either : ((j : ℕ) → j < length (numbers_from (suc at) passes more) → slice_index (numbers_from (suc at) passes more) j < suc at + length more)
          → (t : Bool) (k : ℕ) → k < length (cond t (at ∷ numbers_from (suc at) passes more) (numbers_from (suc at) passes more))
          → slice_index (cond t (at ∷ numbers_from (suc at) passes more) (numbers_from (suc at) passes more)) k < at + suc (length more)
      either others true zero less = omega arith
      either others true (suc k) less = let rest = others k (omega arith) in omega arith
      either others false k less = let rest = others k less in omega arith

-- before a clocked process stand fewer of them than there are
record Before (at : ℕ) (procs : List Proc) (n : ℕ) : Type 0 where
  pub low : at ≤ n
  pub fewer : count_by is_clocked (take (n - at) procs) < count_by is_clocked procs

one_more : (at : ℕ) (p : Proc) (procs : List Proc) (n : ℕ) → Before (suc at) procs n → Before at (p ∷ procs) n
one_more at p procs n is =
    let low = is.low in
    let fewer = is.fewer in
    let step : n - at ≡ suc (n - suc at) = omega arith in
    let whole = sum_by-cons (λ (q : Proc). cond (is_clocked q) 1 0) p procs in
    let front = sum_by-cons (λ (q : Proc). cond (is_clocked q) 1 0) p (take (n - suc at) procs) in
    let taken : count_by is_clocked (take (n - at) (p ∷ procs)) ≡ cond (is_clocked p) 1 0 + count_by is_clocked (take (n - suc at) procs) =
    ap (λ (m : ℕ). count_by is_clocked (take m (p ∷ procs))) step ∙ front in
    record { low = omega arith; fewer = omega arith }

clocked_before : (at : ℕ) (procs : List Proc) (k : ℕ) → k < length (numbers_from at (λ c. c) (map is_clocked procs)) → Before at procs (slice_index (numbers_from at (λ c. c) (map is_clocked procs)) k)
clocked_before at [] k less = absurd (omega arith)
clocked_before at (p ∷ procs) k less = either (clocked_before (suc at) procs) (is_clocked p) refl k less
  where
    either : ((j : ℕ) → j < length (numbers_from (suc at) (λ c. c) (map is_clocked procs)) → Before (suc at) procs (slice_index (numbers_from (suc at) (λ c. c) (map is_clocked procs)) j))
        → (t : Bool) → is_clocked p ≡ t → (k : ℕ) → k < length (cond t (at ∷ numbers_from (suc at) (λ c. c) (map is_clocked procs)) (numbers_from (suc at) (λ c. c) (map is_clocked procs)))
        → Before at (p ∷ procs) (slice_index (cond t (at ∷ numbers_from (suc at) (λ c. c) (map is_clocked procs)) (numbers_from (suc at) (λ c. c) (map is_clocked procs))) k)
    either others true e zero less =
        let none : at - at ≡ 0 = omega arith in
        let whole = sum_by-cons (λ (q : Proc). cond (is_clocked q) 1 0) p procs in
        let here : cond {A = ℕ} (is_clocked p) 1 0 ≡ 1 = ap (λ (t : Bool). cond {A = ℕ} t 1 0) e in
        let taken : count_by is_clocked (take (at - at) (p ∷ procs)) ≡ 0 = ap (λ (m : ℕ). count_by is_clocked (take m (p ∷ procs))) none in
        record { low = omega arith; fewer = omega arith }
    either others true e (suc k) less = one_more at p procs (slice_index (numbers_from (suc at) (λ c. c) (map is_clocked procs)) k) (others k (omega arith))
    either others false e k less = one_more at p procs (slice_index (numbers_from (suc at) (λ c. c) (map is_clocked procs)) k) (others k less)

-- ---- nodes

all_nodes : (p : Node → Bool) (xs ys : List Node) → list_all p xs ≡ true → list_all p ys ≡ true → list_all p (xs ++ ys) ≡ true
all_nodes p [] ys one two = two
all_nodes p (x ∷ xs) ys one two =
    let parts = and_parts (p x) (list_all p xs) one in
    and_from (p x) (list_all p (xs ++ ys)) parts.0 (all_nodes p xs ys parts.1 two)

all_mapped : (p : Node → Bool) (f : ℕ → Node) (xs : List ℕ) → ((k : ℕ) → k < length xs → p (f (slice_index xs k)) ≡ true) → list_all p (map f xs) ≡ true
all_mapped p f [] each = refl
all_mapped p f (x ∷ xs) each = and_from (p (f x)) (list_all p (map f xs)) (each 0 (omega arith)) (all_mapped p f xs (λ k less. each (suc k) (omega arith)))

module _ (procs : List Proc) where
  abbrev has : Node → Bool
  has = has_code procs (code_count procs)

  settle_has : (order : List ℕ) → list_all (λ (k : ℕ). nat_lt k (length (combs_of procs))) order ≡ true → list_all has (settle_nodes (combs_of procs) order) ≡ true
  settle_has [] within = refl
  settle_has (k ∷ order) within =
      let parts = and_parts (nat_lt k (length (combs_of procs))) (list_all (λ (j : ℕ). nat_lt j (length (combs_of procs))) order) within in
      let below = numbers_below not 0 (clocked_of procs) k (ltb-true k (length (combs_of procs)) parts.0) in
      let long = length-map procs is_clocked in
      and_from (has (node.Comb (slice_index (combs_of procs) k))) (list_all has (settle_nodes (combs_of procs) order))
      (lt-ltb (slice_index (combs_of procs) k) (code_count procs) (omega arith))
      (settle_has order parts.1)

  bodies_have : list_all has (map (λ p. node.Body p) (clocked_procs (clocked_of procs))) ≡ true
  bodies_have =
      all_mapped has (λ p. node.Body p) (clocked_procs (clocked_of procs)) (λ k less.
      let below = numbers_below (λ c. c) 0 (clocked_of procs) k less in
      let long = length-map procs is_clocked in
      lt-ltb (slice_index (clocked_procs (clocked_of procs)) k) (code_count procs) (omega arith))

  commits_have : list_all has (map (λ p. node.Commit p) (clocked_procs (clocked_of procs))) ≡ true
  commits_have =
      all_mapped has (λ p. node.Commit p) (clocked_procs (clocked_of procs)) (λ k less.
      let n = slice_index (clocked_procs (clocked_of procs)) k in
      let before = (clocked_before 0 procs k less).fewer in
      let same : n - 0 ≡ n = omega arith in
      let counted : count_by is_clocked (take (n - 0) procs) ≡ count_by is_clocked (take n procs) = ap (λ (m : ℕ). count_by is_clocked (take m procs)) same in
      lt-ltb (code_number procs (node.Commit n)) (code_count procs) (omega arith))

  clocked_has : (numbers : List ℕ) (settle : List Node) → list_all has (map (λ p. node.Body p) numbers) ≡ true → list_all has (map (λ p. node.Commit p) numbers) ≡ true → list_all has settle ≡ true
      → list_all has (clocked_nodes numbers settle) ≡ true
  clocked_has [] settle bodies commits last = refl
  clocked_has (p ∷ numbers) settle bodies commits last =
      all_nodes has (map (λ q. node.Body q) (p ∷ numbers) ++ map (λ q. node.Commit q) (p ∷ numbers)) settle
      (all_nodes has (map (λ q. node.Body q) (p ∷ numbers)) (map (λ q. node.Commit q) (p ∷ numbers)) bodies commits) last

  pub nodes_have : (order : List ℕ) (part : Part) → list_all (λ (k : ℕ). nat_lt k (length (combs_of procs))) order ≡ true → list_all has (serial_nodes (clocked_of procs) order part) ≡ true
  nodes_have order part.Settle within = settle_has order within
  nodes_have order part.Clocked within = clocked_has (clocked_procs (clocked_of procs)) (settle_nodes (combs_of procs) order) bodies_have commits_have (settle_has order within)

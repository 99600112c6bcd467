-- The edges from the readers that are noted.
use Rattle.std.proofs.Common.{◌≡◌, ◌+◌, ◌<◌, ◌≤◌, ◌==◌, ℕ, zero, suc, List, [], ◌∷◌, ◌++◌, length, get_or, take, map, Bool, true, false, not, cond, ◌&&◌, nat_lt, refl, sym, ap, ◌∙◌, arith, append-nil, append_assoc, zero-add, length-append}
use Rattle.std.specs.List.{list_all, sum_by}
use Rattle.std.proofs.lemmas.Bool.{and_from, lt-ltb}
use Rattle.std.proofs.lemmas.List.{length-map, length-take, take_more}
use Rattle.std.proofs.lemmas.List.Folds.{list_all-append}
use Rattle.std.proofs.lemmas.List.Sums.{sum_by-cons}
use Rattle.plan_graph.specs.declared.node.Edge.{Edge}
use Rattle.plan_graph.specs.Graphs.{ends_within}
use Rattle.logic_graph.specs.declared.ranges.WordRange.{WordRange}
use Rattle.logic_graph.specs.declared.ranges.Touched.{Touched}
use Rattle.logic_graph.specs.Reading.{meet_somewhere, edge_to, edges_out_of, edges_from, edges_of}
use Rattle.logic_graph.specs.Noting.{readers_from, Counted, HasNoted, listed}
use Rattle.vs_base.specs.declared.limits.TheConstants.{EDGES}

pub out_is : (i : ℕ) (writes : List WordRange) (at : ℕ) (procs : List Touched) → map (edge_to i) (readers_from i writes at procs) ≡ edges_out_of i writes at procs
out_is i writes at [] = refl
out_is i writes at (p ∷ procs) = by_test (not (at == i) && meet_somewhere writes p.reads) (out_is i writes (suc at) procs)
  where
    by_test : (b : Bool) → map (edge_to i) (readers_from i writes (suc at) procs) ≡ edges_out_of i writes (suc at) procs
        → map (edge_to i) (cond b (at ∷ readers_from i writes (suc at) procs) (readers_from i writes (suc at) procs)) ≡ cond b (edge_to i at ∷ edges_out_of i writes (suc at) procs) (edges_out_of i writes (suc at) procs)
    by_test true others = ap (λ (es : List Edge). edge_to i at ∷ es) others
    by_test false others = others

-- what the lists of some processes on hold
abbrev HasFrom : ℕ → List Touched → List Touched → List (List ℕ) → Type 0
HasFrom at more front readers = (k : ℕ) (d : Touched) → k < length more → get_or readers k [] ≡ readers_from (at + k) (get_or more k d).writes 0 front

has_rest : (at : ℕ) (p : Touched) (more front : List Touched) (list : List ℕ) (readers : List (List ℕ)) → HasFrom at (p ∷ more) front (list ∷ readers) → HasFrom (suc at) more front readers
has_rest at p more front list readers has = λ k d inside.
    let e : at + suc k ≡ suc at + k = omega arith in
    has (suc k) d (omega arith) ∙ ap (λ i. readers_from i (get_or more k d).writes 0 front) e

has_first : (at : ℕ) (p : Touched) (more front : List Touched) (list : List ℕ) (readers : List (List ℕ)) → HasFrom at (p ∷ more) front (list ∷ readers) → list ≡ readers_from at p.writes 0 front
has_first at p more front list readers has =
    let e : at + 0 ≡ at = omega arith in
    has 0 p (omega arith) ∙ ap (λ i. readers_from i p.writes 0 front) e

listed_from : (at : ℕ) (readers : List (List ℕ)) (more procs : List Touched) → length readers ≡ length more → HasFrom at more procs readers → listed at readers ≡ edges_from at more procs
listed_from at [] [] procs len has = refl
listed_from at [] (p ∷ more) procs len has = absurd (omega arith)
listed_from at (list ∷ readers) [] procs len has = absurd (omega arith)
listed_from at (list ∷ readers) (p ∷ more) procs len has =
    let first = ap (map (edge_to at)) (has_first at p more procs list readers has) ∙ out_is at p.writes 0 procs in
    let rest = listed_from (suc at) readers more procs (omega arith) (has_rest at p more procs list readers has) in
    λ i. first i ++ rest i

from_noted : (procs front : List Touched) (readers : List (List ℕ)) → HasNoted procs front readers → HasFrom 0 procs front readers
from_noted procs front readers noted = λ k d inside. noted.lists k d inside ∙ ap (λ i. readers_from i (get_or procs k d).writes 0 front) (sym (zero-add k))

-- all that is noted makes the edges
pub listed_is : (procs : List Touched) (readers : List (List ℕ)) → HasNoted procs procs readers → listed 0 readers ≡ edges_of procs
listed_is procs readers noted = listed_from 0 readers procs procs noted.len (from_noted procs procs readers noted)

pub listed_push : (at : ℕ) (readers : List (List ℕ)) (list : List ℕ) → listed at (readers ++ list ∷ []) ≡ listed at readers ++ map (edge_to (at + length readers)) list
listed_push at [] list = let e : at ≡ at + 0 = omega arith in append-nil (map (edge_to at) list) ∙ ap (λ i. map (edge_to i) list) e
listed_push at (first ∷ readers) list =
    let e : suc at + length readers ≡ at + suc (length readers) = omega arith in
    ap (λ (es : List Edge). map (edge_to at) first ++ es) (listed_push (suc at) readers list ∙ ap (λ i. listed (suc at) readers ++ map (edge_to i) list) e)
    ∙ sym (append_assoc (map (edge_to at) first) (listed (suc at) readers) (map (edge_to (at + suc (length readers))) list))

pub listed_more : (readers : List (List ℕ)) (i : ℕ) (list : List ℕ) → i < length readers → list ≡ get_or readers i list → listed 0 (take (i + 1) readers) ≡ listed 0 (take i readers) ++ map (edge_to i) list
listed_more readers i list inside is =
    let len = length-take i readers in
    let place : 0 + length (take i readers) ≡ i = omega arith in
    ap (listed 0) (take_more readers i list inside ∙ ap (λ (xs : List ℕ). take i readers ++ xs ∷ []) (sym is))
    ∙ listed_push 0 (take i readers) list
    ∙ ap (λ k. listed 0 (take i readers) ++ map (edge_to k) list) place

-- ---- how many

front_fewer : (i : ℕ) (writes : List WordRange) (at j : ℕ) (procs : List Touched) → length (readers_from i writes at (take j procs)) ≤ length (readers_from i writes at procs)
front_fewer i writes at j [] = by_none j
  where
    by_none : (j : ℕ) → length (readers_from i writes at (take j [])) ≤ 0
    by_none zero = omega arith
    by_none (suc j) = omega arith
front_fewer i writes at zero (p ∷ procs) = omega arith
front_fewer i writes at (suc j) (p ∷ procs) = by_test (not (at == i) && meet_somewhere writes p.reads) (front_fewer i writes (suc at) j procs)
  where
    by_test : (b : Bool) → length (readers_from i writes (suc at) (take j procs)) ≤ length (readers_from i writes (suc at) procs)
        → length (cond b (at ∷ readers_from i writes (suc at) (take j procs)) (readers_from i writes (suc at) (take j procs))) ≤ length (cond b (at ∷ readers_from i writes (suc at) procs) (readers_from i writes (suc at) procs))
    by_test true others = omega arith
    by_test false others = others

fewer_from : (at j : ℕ) (readers : List (List ℕ)) (more procs : List Touched) → length readers ≡ length more → HasFrom at more (take j procs) readers
    → sum_by (λ (list : List ℕ). length list) readers ≤ length (edges_from at more procs)
fewer_from at j [] [] procs len has = omega arith
fewer_from at j [] (p ∷ more) procs len has = absurd (omega arith)
fewer_from at j (list ∷ readers) [] procs len has = absurd (omega arith)
fewer_from at j (list ∷ readers) (p ∷ more) procs len has =
    let all = length-append (edges_out_of at p.writes 0 procs) (edges_from (suc at) more procs) in
    let out = sym (ap length (out_is at p.writes 0 procs)) ∙ length-map (readers_from at p.writes 0 procs) (edge_to at) in
    let first = ap length (has_first at p more (take j procs) list readers has) in
    let front = front_fewer at p.writes 0 j procs in
    let rest = fewer_from (suc at) j readers more procs (omega arith) (has_rest at p more (take j procs) list readers has) in
    let both = sum_by-cons (λ (xs : List ℕ). length xs) list readers in
    omega arith

-- as many are noted as there are edges, or fewer where some are left to be looked at
pub no_more_than_edges : (procs : List Touched) (j : ℕ) (readers : List (List ℕ)) → HasNoted procs (take j procs) readers → sum_by (λ (list : List ℕ). length list) readers ≤ length (edges_of procs)
no_more_than_edges procs j readers noted = fewer_from 0 j readers procs procs noted.len (from_noted procs (take j procs) readers noted)

length-listed : (at : ℕ) (readers : List (List ℕ)) → length (listed at readers) ≡ sum_by (λ (list : List ℕ). length list) readers
length-listed at [] = refl
length-listed at (list ∷ readers) =
    let all = length-append (map (edge_to at) list) (listed (suc at) readers) in
    let here = length-map list (edge_to at) in
    let rest = length-listed (suc at) readers in
    let both = sum_by-cons (λ (xs : List ℕ). length xs) list readers in
    omega arith

pub as_many_as_edges : (procs : List Touched) (readers : List (List ℕ)) → HasNoted procs procs readers → sum_by (λ (list : List ℕ). length list) readers ≡ length (edges_of procs)
as_many_as_edges procs readers noted = sym (length-listed 0 readers) ∙ ap length (listed_is procs readers noted)

-- where more are noted than an edge each may stand for, there are too many edges
pub too_many_edges : (procs : List Touched) (j count : ℕ) (readers : List (List ℕ)) → HasNoted procs (take j procs) readers → Counted count readers → EDGES < count → EDGES < length (edges_of procs)
too_many_edges procs j count readers noted counted past = let most = no_more_than_edges procs j readers noted in omega arith

-- ---- the ends are processes

out_within : (nodes i : ℕ) (writes : List WordRange) (at : ℕ) (procs : List Touched) → i < nodes → at + length procs ≤ nodes → list_all (ends_within nodes) (edges_out_of i writes at procs) ≡ true
out_within nodes i writes at [] low high = refl
out_within nodes i writes at (p ∷ procs) low high = by_test (not (at == i) && meet_somewhere writes p.reads) (out_within nodes i writes (suc at) procs low (omega arith))
  where
    by_test : (b : Bool) → list_all (ends_within nodes) (edges_out_of i writes (suc at) procs) ≡ true
        → list_all (ends_within nodes) (cond b (edge_to i at ∷ edges_out_of i writes (suc at) procs) (edges_out_of i writes (suc at) procs)) ≡ true
    by_test true others =
        and_from (nat_lt i nodes && nat_lt at nodes) (list_all (ends_within nodes) (edges_out_of i writes (suc at) procs))
        (and_from (nat_lt i nodes) (nat_lt at nodes) (lt-ltb i nodes low) (lt-ltb at nodes (omega arith))) others
    by_test false others = others

from_within : (nodes at : ℕ) (more procs : List Touched) → at + length more ≤ nodes → length procs ≤ nodes → list_all (ends_within nodes) (edges_from at more procs) ≡ true
from_within nodes at [] procs low high = refl
from_within nodes at (p ∷ more) procs low high =
    list_all-append (ends_within nodes) (edges_out_of at p.writes 0 procs) (edges_from (suc at) more procs)
    ∙ and_from (list_all (ends_within nodes) (edges_out_of at p.writes 0 procs)) (list_all (ends_within nodes) (edges_from (suc at) more procs))
    (out_within nodes at p.writes 0 procs (omega arith) (omega arith)) (from_within nodes (suc at) more procs (omega arith) high)

pub edges_within : (procs : List Touched) → list_all (ends_within (length procs)) (edges_of procs) ≡ true
edges_within procs = from_within (length procs) 0 procs procs (omega arith) (omega arith)

-- Which process feeds which, by the ranges of words that they write and read.
use Rattle.std.specs.Prelude.{◌≡◌, ℕ, suc, ◌==◌, nat_lt, nat_le, max, min, Bool, false, not, ◌&&◌, List, [], ◌∷◌, ◌++◌, if◌then◌else◌}
use Rattle.std.specs.List.{list_any, AllPairs}
use Rattle.plan_graph.specs.declared.node.Edge.{Edge}
use Rattle.logic_graph.specs.declared.ranges.WordRange.{WordRange}
use Rattle.logic_graph.specs.declared.ranges.Touched.{Touched}

abbrev pub has_word : ℕ → WordRange → Bool
has_word w r = nat_le r.first w && nat_lt w r.end

-- two ranges meet: some word stands in both
abbrev pub meets : WordRange → WordRange → Bool
meets r s = nat_lt (max r.first s.first) (min r.end s.end)

abbrev pub meet_somewhere : List WordRange → List WordRange → Bool
meet_somewhere some others = list_any (λ r. list_any (meets r) others) some

-- each word has at most one writer
abbrev pub OneWriter : List Touched → Type 0
OneWriter procs = AllPairs (λ p q. meet_somewhere p.writes q.writes ≡ false) procs

abbrev pub edge_to : ℕ → ℕ → Edge
edge_to i j = record { from = i; to = j }

-- the edges from a process, which writes these ranges, to each other one that reads a word of them
abbrev pub edges_out_of : ℕ → List WordRange → ℕ → List Touched → List Edge
edges_out_of i writes at [] = []
edges_out_of i writes at (p ∷ more) = if not (at == i) && meet_somewhere writes p.reads then edge_to i at ∷ edges_out_of i writes (suc at) more else edges_out_of i writes (suc at) more

abbrev pub edges_from : ℕ → List Touched → List Touched → List Edge
edges_from at [] procs = []
edges_from at (p ∷ more) procs = edges_out_of at p.writes 0 procs ++ edges_from (suc at) more procs

abbrev pub edges_of : List Touched → List Edge
edges_of procs = edges_from 0 procs procs

-- Nodes in groups: which group waits for which, when each node is in one, and places in an order.
use Rattle.std.specs.Prelude.{◌≡◌, ◌==◌, ◌+◌, ℕ, suc, Bool, true, false, ◌&&◌, not, if◌then◌else◌, nat_lt, nat_le, List, [], ◌∷◌, map}
use Rattle.std.specs.List.{filter, concat}
use Rattle.plan_graph.specs.declared.node.Edge.{Edge}
use Rattle.plan_graph.specs.Graphs.{is_among}

abbrev pub is_across : Edge → Bool
is_across e = not (e.from == e.to)

abbrev pub through : (ℕ → ℕ) → Edge → Edge
through f e = record { from = f e.from; to = f e.to }

-- the edges, each end under another name; those within one name are left out
abbrev pub image : (ℕ → ℕ) → List Edge → List Edge
image f edges = filter is_across (map (through f) edges)

-- how often a number stands in a list
abbrev pub times : ℕ → List ℕ → ℕ
times n [] = 0
times n (m ∷ more) = (if m == n then 1 else 0) + times n more

-- each number below a bound stands once in these lists, and no other number does
abbrev pub ExactlyOnce : ℕ → List (List ℕ) → Type 0
ExactlyOnce bound lists = (n : ℕ) → times n (concat lists) ≡ (if nat_lt n bound then 1 else 0)

-- each number is above the one before it, and the first is at least this one
abbrev pub ascends_from : ℕ → List ℕ → Bool
ascends_from least [] = true
ascends_from least (n ∷ more) = nat_le least n && ascends_from (suc n) more

abbrev pub ascends : List ℕ → Bool
ascends list = ascends_from 0 list

-- the number of the first group that holds a node, where the first of these has a number; where none does, that past the last
abbrev pub group_from : ℕ → List (List ℕ) → ℕ → ℕ
group_from k [] n = k
group_from k (group ∷ more) n = if is_among n group then k else group_from (suc k) more n

-- which group waits for which
abbrev pub group_edges : List (List ℕ) → List Edge → List Edge
group_edges groups edges = image (group_from 0 groups) edges

-- how many numbers stand before the first of this value
abbrev pub place_in : List ℕ → ℕ → ℕ
place_in [] n = 0
place_in (m ∷ more) n = if m == n then 0 else suc (place_in more n)

-- of the ends of an edge the first stands first
abbrev pub keeps : List ℕ → Edge → Bool
keeps order e = nat_lt (place_in order e.from) (place_in order e.to)

-- What the lists, the counts and the set of the turns hold.
use Rattle.std.specs.Prelude.{◌≡◌, ◌<◌, ◌≤◌, ℕ, ◌*◌, ◌==◌, nat_lt, true, ◌&&◌, List, [], length, slice_index, slice_index_or, count_by}
use Rattle.std.specs.List.{list_all}
use Rattle.plan_graph.specs.declared.node.Edge.{Edge}
use Rattle.plan_graph.specs.Graphs.{ends_within, is_among}
use Rattle.order_levels.specs.Settling.{is_ready}
use Rattle.node_sets.specs.Sets.{is_member}
use Rattle.order_levels.specs.Sets.{targets_of, waits_left, all_below}

-- after these nodes have run
pub record Running (nodes : ℕ) (edges : List Edge) (ran : List ℕ) (targets : List (List ℕ)) (waits words : List ℕ) : Type 0 where
  pub lists_len : length targets ≡ nodes
  pub waits_len : length waits ≡ nodes
  pub room : nodes ≤ 64 * length words
  -- where the edges from each node lead
  pub lists : (n : ℕ) → n < nodes → slice_index_or targets n [] ≡ targets_of n edges
  -- how many nodes each waits for
  pub counts : (n : ℕ) → n < nodes → slice_index waits n ≡ waits_left edges ran n
  -- which nodes are ready
  pub members : (n : ℕ) → is_member words n ≡ (nat_lt n nodes && is_ready edges ran n)
  -- those that have run wait for none
  pub closed : (n : ℕ) → is_among n ran ≡ true → waits_left edges ran n ≡ 0

-- what can be let go of a node: its targets are nodes, and each still waits for as many
pub record CanRun (targets : List (List ℕ)) (waits words : List ℕ) (n : ℕ) : Type 0 where
  pub node : n < length waits
  pub lists_len : length targets ≡ length waits
  pub room : length waits ≤ 64 * length words
  pub within : all_below (length waits) (slice_index_or targets n []) ≡ true
  pub counted : (m : ℕ) → count_by (λ t. t == m) (slice_index_or targets n []) ≤ slice_index waits m

-- a node is ready in the turns of some graph, after some nodes have run
pub record IsReadyNow (targets : List (List ℕ)) (waits words : List ℕ) (n : ℕ) : Type 0 where
  pub nodes : ℕ
  pub edges : List Edge
  pub ran : List ℕ
  pub ends : list_all (ends_within nodes) edges ≡ true
  pub running : Running nodes edges ran targets waits words
  pub ready : is_member words n ≡ true

-- When a plan is valid: its nodes in groups, each of which runs as one task, and its tasks on threads.
use Rattle.std.specs.Prelude.{◌≡◌, ◌==◌, ℕ, Bool, true, false, List, [], ◌∷◌, length, slice_get, slice_index_or, Option, Some, None}
use Rattle.std.specs.List.{list_all, filter}
use Rattle.plan_graph.specs.declared.node.Edge.{Edge}
use Rattle.plan_graph.specs.declared.task.Task.{Task}
use Rattle.plan_graph.specs.Graphs.{HasNoCycle}
use Rattle.plan_graph.specs.GraphLaws.{rises}
use Rattle.plan_graph.specs.Groupings.{ExactlyOnce, ascends, group_edges, keeps}

abbrev pub is_of : ℕ → Option Task → Bool
is_of thread (Some task) = task.thread == thread
is_of thread None = false

-- a task is one of a thread
abbrev pub is_on : List Task → ℕ → ℕ → Bool
is_on tasks thread n = is_of thread (slice_get tasks n)

pub record IsValid (nodes : ℕ) (edges : List Edge) (groups : List (List ℕ)) (tasks : List Task) (threads : List (List ℕ)) (order : List ℕ) : Type 0 where
  -- each edge leads from a lower node to a higher one
  pub rising : list_all rises edges ≡ true
  -- each node is in exactly one group
  pub grouped : ExactlyOnce nodes groups
  -- the members of a group run in serial order
  pub serial : list_all ascends groups ≡ true
  -- the groups have no cycle
  pub acyclic : HasNoCycle (group_edges groups edges)
  -- each group is a task
  pub tasked : length tasks ≡ length groups
  -- each task is placed once
  pub placed : ExactlyOnce (length tasks) (order ∷ [])
  -- and after those that it waits for
  pub upstream : list_all (keeps order) (group_edges groups edges) ≡ true
  -- each task is in exactly one thread's list
  pub threaded : ExactlyOnce (length tasks) threads
  -- a thread's list has its tasks in the order of their placement
  pub follows : (k : ℕ) → slice_index_or threads k [] ≡ filter (is_on tasks k) order

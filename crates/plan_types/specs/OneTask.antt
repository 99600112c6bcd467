-- The plan of one group, on thread 0.
use Rattle.std.specs.Prelude.{ℕ, zero, suc, List, [], ◌∷◌}
use Rattle.std.specs.List.{range_with_len}
use Rattle.plan_graph.specs.declared.task.Task.{Task}

-- all nodes are the group, and it is no group where there is none
abbrev pub groups_of : ℕ → List (List ℕ)
groups_of zero = []
groups_of (suc n) = range_with_len 0 (suc n) ∷ []

-- the group's task, which starts at 0
abbrev pub first_tasks : ℕ → List Task
first_tasks zero = []
first_tasks (suc n) = record { thread = 0; start = 0 } ∷ []

-- the task, as the list of a thread
abbrev pub numbers_of : ℕ → List ℕ
numbers_of zero = []
numbers_of (suc n) = 0 ∷ []

abbrev pub lists_of : ℕ → List (List ℕ)
lists_of n = numbers_of n ∷ []

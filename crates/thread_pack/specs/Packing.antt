-- How tasks are packed on threads: at every turn all ready tasks and all threads are looked at.
use Rattle.std.specs.Prelude.{◌≡◌, ◌<◌, ◌==◌, ◌+◌, ◌/◌, ℕ, zero, suc, Bool, true, false, ◌&&◌, ◌||◌, not, if◌then◌else◌, nat_lt, List, [], ◌∷◌, ◌++◌, map, length, max, slice_index, slice_index_or, Option, Some, None}
use Rattle.std.specs.List.{list_all, filter, range_with_len, fold}
use Rattle.plan_graph.specs.declared.node.Edge.{Edge}
use Rattle.plan_graph.specs.declared.task.Task.{Task}
use Rattle.plan_graph.specs.Graphs.{has_edge, is_among, cost_of_all, IsCostliest, turned}
use Rattle.plan_graph.specs.Groupings.{group_edges}
use Rattle.thread_pack.specs.declared.put.Put.{Put}

abbrev pub order_of : List Put → List ℕ
order_of puts = map (λ (p : Put). p.task) puts

-- a task is ready when it is not placed and those that it waits for are
abbrev pub is_ready : List Edge → List ℕ → ℕ → Bool
is_ready edges order t = not (is_among t order) && list_all (λ (e : Edge). not (e.to == t) || is_among e.from order) edges

-- the end of the last task on a thread
abbrev pub free_at : (ℕ → ℕ) → ℕ → List Put → ℕ
free_at cost thread puts = fold (λ (so_far : ℕ) (p : Put). if p.thread == thread then p.start + cost p.task else so_far) 0 puts

-- When a thread has what a task gives: at its end, and on another thread a quarter of its cost later, rounded up.
abbrev pub given_at : (ℕ → ℕ) → ℕ → Put → ℕ
given_at cost thread p = p.start + cost p.task + (if p.thread == thread then 0 else (cost p.task + 3) / 4)

abbrev pub start_at : List Edge → (ℕ → ℕ) → List Put → ℕ → ℕ → ℕ
start_at edges cost puts t thread = fold (λ (most : ℕ) (p : Put). if has_edge edges p.task t then max most (given_at cost thread p) else most) (free_at cost thread puts) puts

-- the ready tasks in ascending order, each on each thread in ascending order
abbrev pub on_each : List Edge → (ℕ → ℕ) → List Put → ℕ → ℕ → List Put
on_each edges cost puts threads t = map (λ (thread : ℕ). record { task = t; thread = thread; start = start_at edges cost puts t thread }) (range_with_len 0 threads)

abbrev pub choices_of : List Edge → (ℕ → ℕ) → List Put → ℕ → List ℕ → List Put
choices_of edges cost puts threads [] = []
choices_of edges cost puts threads (t ∷ more) = on_each edges cost puts threads t ++ choices_of edges cost puts threads more

abbrev pub choices : ℕ → ℕ → List Edge → (ℕ → ℕ) → List Put → List Put
choices tasks threads edges cost puts = choices_of edges cost puts threads (filter (is_ready edges (order_of puts)) (range_with_len 0 tasks))

-- the earlier start goes first, then the longer tail; of equals the one that was looked at first
abbrev pub goes_first : (ℕ → ℕ) → Put → Put → Bool
goes_first tail p q = nat_lt p.start q.start || ((p.start == q.start) && nat_lt (tail q.task) (tail p.task))

abbrev pub pick : (ℕ → ℕ) → Option Put → Put → Put
pick tail None p = p
pick tail (Some q) p = if goes_first tail p q then p else q

abbrev pub first_of : (ℕ → ℕ) → Option Put → List Put → Option Put
first_of tail best [] = best
first_of tail best (p ∷ more) = first_of tail (Some (pick tail best p)) more

abbrev pub put_next : List Put → Option Put → (List Put → List Put) → List Put
put_next puts None more = puts
put_next puts (Some p) more = more (puts ++ p ∷ [])

abbrev pub pack_turns : ℕ → ℕ → ℕ → List Edge → (ℕ → ℕ) → (ℕ → ℕ) → List Put → List Put
pack_turns zero tasks threads edges cost tail puts = puts
pack_turns (suc turns) tasks threads edges cost tail puts = put_next puts (first_of tail None (choices tasks threads edges cost puts)) (pack_turns turns tasks threads edges cost tail)

-- all tasks in the order of their placement
abbrev pub packed : ℕ → ℕ → List Edge → (ℕ → ℕ) → (ℕ → ℕ) → List Put
packed tasks threads edges cost tail = pack_turns tasks tasks threads edges cost tail []

-- the tasks of each thread, in the order of their placement
abbrev pub on_thread : List Put → ℕ → List ℕ
on_thread puts thread = order_of (filter (λ (p : Put). p.thread == thread) puts)

abbrev pub lists_of : ℕ → List Put → List (List ℕ)
lists_of threads puts = map (on_thread puts) (range_with_len 0 threads)

-- where and when a task is put
abbrev pub task_in : List Put → ℕ → Task
task_in [] t = record { thread = 0; start = 0 }
task_in (p ∷ puts) t = if p.task == t then record { thread = p.thread; start = p.start } else task_in puts t

-- ---- the tasks of a partition

-- what the nodes of a group cost together
abbrev pub cost_of : List ℕ → List (List ℕ) → ℕ → ℕ
cost_of costs groups k = cost_of_all (slice_index costs) (slice_index_or groups k [])

-- The groups of a graph as tasks on so many threads.
pub record IsPacked (costs : List ℕ) (edges : List Edge) (groups : List (List ℕ)) (threads : ℕ) (tasks : List Task) (lists : List (List ℕ)) (order : List ℕ) : Type 0 where
  -- the cost of the costliest path that begins with each task
  pub tail : ℕ → ℕ
  pub begins_with : (k : ℕ) → k < length groups → IsCostliest (cost_of costs groups) (map turned (group_edges groups edges)) k (tail k)
  pub puts : List Put
  pub packed_so : puts ≡ packed (length groups) threads (group_edges groups edges) (cost_of costs groups) tail
  -- where and when each task is put, the tasks of each thread, and all tasks, both in the order of their placement
  pub tasks_are : tasks ≡ map (task_in puts) (range_with_len 0 (length groups))
  pub lists_are : lists ≡ lists_of threads puts
  pub order_is : order ≡ order_of puts

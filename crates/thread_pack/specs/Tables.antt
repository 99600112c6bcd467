-- What the tables of packing hold: since when each thread is free, and when it has what each task waits for.
use Rattle.std.specs.Prelude.{◌≡◌, ◌<◌, ◌≤◌, ◌==◌, ◌+◌, ℕ, Bool, if◌then◌else◌, List, [], ◌∷◌, ◌++◌, map, length, max, slice_index, slice_index_or}
use Rattle.std.specs.List.{filter, range_with_len, fold}
use Rattle.plan_graph.specs.declared.node.Edge.{Edge}
use Rattle.plan_graph.specs.Graphs.{has_edge}
use Rattle.node_sets.specs.Sets.{is_member}
use Rattle.thread_pack.specs.declared.put.Put.{Put}
use Rattle.thread_pack.specs.Packing.{free_at, given_at}

-- when a thread has all that a task waits for, of what is placed
abbrev pub arrives_at : List Edge → (ℕ → ℕ) → List Put → ℕ → ℕ → ℕ
arrives_at edges cost puts t thread = fold (λ (most : ℕ) (p : Put). if has_edge edges p.task t then max most (given_at cost thread p) else most) 0 puts

-- a task on a thread, by its row of the table
abbrev pub put_on : ℕ → List ℕ → List ℕ → ℕ → Put
put_on t free row thread = record { task = t; thread = thread; start = max (slice_index free thread) (slice_index row thread) }

abbrev pub row_choices : ℕ → List ℕ → List ℕ → ℕ → List Put
row_choices t free row threads = map (put_on t free row) (range_with_len 0 threads)

abbrev pub choices_by : List ℕ → List (List ℕ) → ℕ → List ℕ → List Put
choices_by free arrive threads [] = []
choices_by free arrive threads (t ∷ more) = row_choices t free (slice_index_or arrive t []) threads ++ choices_by free arrive threads more

-- the tasks below a number that a set has
abbrev pub members_below : List ℕ → ℕ → List ℕ
members_below words n = filter (is_member words) (range_with_len 0 n)

-- after these tasks are placed
pub record Holds (tasks threads : ℕ) (edges : List Edge) (cost : ℕ → ℕ) (puts : List Put) (free : List ℕ) (arrive : List (List ℕ)) : Type 0 where
  pub threads_len : length free ≡ threads
  pub tasks_len : length arrive ≡ tasks
  pub rows_len : (t : ℕ) → t < tasks → length (slice_index_or arrive t []) ≡ threads
  pub frees : (k : ℕ) → k < threads → slice_index free k ≡ free_at cost k puts
  pub arrives : (t k : ℕ) → t < tasks → k < threads → slice_index (slice_index_or arrive t []) k ≡ arrives_at edges cost puts t k

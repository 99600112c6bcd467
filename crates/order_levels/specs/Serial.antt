-- The nodes of a part in serial order. Of each process it is told whether it is clocked.
use Rattle.std.specs.Prelude.{ℕ, zero, suc, ◌+◌, Bool, not, List, [], ◌∷◌, ◌++◌, map, slice_index, if◌then◌else◌}
use Rattle.plan_graph.specs.declared.node.Node.{Node}
use Rattle.plan_graph.specs.declared.node.Node.TheVariants.{Comb, Body, Commit}
use Rattle.plan_graph.specs.declared.node.Part.{Part}
use Rattle.plan_graph.specs.declared.node.Part.TheVariants.{Settle, Clocked}

-- the numbers, from `at` on, of the processes that pass a test
abbrev pub numbers_from : ℕ → (Bool → Bool) → List Bool → List ℕ
numbers_from at passes [] = []
numbers_from at passes (c ∷ more) = if passes c then at ∷ numbers_from (suc at) passes more else numbers_from (suc at) passes more

abbrev pub comb_procs : List Bool → List ℕ
comb_procs clocked = numbers_from 0 not clocked

abbrev pub clocked_procs : List Bool → List ℕ
clocked_procs clocked = numbers_from 0 (λ c. c) clocked

-- the combinational processes, in an order that numbers them among themselves
abbrev pub settle_nodes : List ℕ → List ℕ → List Node
settle_nodes combs order = map (λ k. Comb (slice_index combs k)) order

-- the bodies, the commits, and what settle has; nothing where no process is clocked
abbrev pub clocked_nodes : List ℕ → List Node → List Node
clocked_nodes [] settle = []
clocked_nodes (p ∷ procs) settle = map Body (p ∷ procs) ++ map Commit (p ∷ procs) ++ settle

abbrev pub serial_nodes : List Bool → List ℕ → Part → List Node
serial_nodes clocked order Settle = settle_nodes (comb_procs clocked) order
serial_nodes clocked order Clocked = clocked_nodes (clocked_procs clocked) (settle_nodes (comb_procs clocked) order)

-- how many nodes a part has, with so many processes that are clocked and so many that settle
abbrev pub clocked_count : ℕ → ℕ → ℕ
clocked_count zero settle = 0
clocked_count (suc procs) settle = suc procs + suc procs + settle

abbrev pub node_count : ℕ → ℕ → Part → ℕ
node_count procs settle Settle = settle
node_count procs settle Clocked = clocked_count procs settle

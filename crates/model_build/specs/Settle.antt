-- The order in which the combinational processes of a design settle, and why there is none.
use Rattle.std.specs.Prelude.{◌≡◌, ◌<◌, ◌≤◌, nat_lt, ℕ, ◌-◌, ◌^◌, min, max, true, List, map, length, slice_get, Option, Some, None, ⊤, ◌⊎◌}
use Rattle.std.specs.List.{list_all}
use Rattle.vs_base.specs.declared.limits.TheConstants.{NODES, EDGES}
use Rattle.vs_base.specs.declared.limits.Kind.{Kind}
use Rattle.vs_base.specs.declared.limits.Kind.TheVariants as kind
use Rattle.vs_base.specs.declared.origin.Origin.{Origin}
use Rattle.rtl_ir.specs.declared.design.Proc.{Proc}
use Rattle.rtl_ir.specs.declared.whole.Design.{Design}
use Rattle.plan_graph.specs.declared.node.Edge.{Edge}
use Rattle.plan_graph.specs.declared.node.Part.{Part}
use Rattle.plan_graph.specs.declared.node.Part.TheVariants as part
use Rattle.order_levels.specs.Serial.{clocked_procs, node_count}
use Rattle.order_levels.specs.Settling.{Settling, InOrder, Stalls}
use Rattle.proc_cost.specs.Costs.{proc_cost}
use Rattle.plan_types.specs.Settle.{clocked_of, combs_of, read_edges, settling_of}
use Rattle.model_build.specs.Drivers.{origin_of}
use Rattle.model_build.specs.declared.fault.BuildFault.{BuildFault}
use Rattle.model_build.specs.declared.fault.BuildFault.TheVariants as fault

-- the place of a combinational process by its number among them
abbrev pub number_or_first : Option ℕ → ℕ
number_or_first (Some p) = p
number_or_first None = 0

abbrev pub origin_among : List Proc → List ℕ → ℕ → Origin
origin_among procs combs k = origin_of procs (number_or_first (slice_get combs k))

-- ---- costs

abbrev pub cost_or_one : Option Proc → ℕ
cost_or_one (Some process) = max (min (proc_cost process) (2 ^ 32 - 1)) 1
cost_or_one None = 1

abbrev pub cost_of : List Proc → ℕ → ℕ
cost_of procs p = cost_or_one (slice_get procs p)

-- ---- refusals

-- how many nodes a part has
abbrev pub nodes_of : Design → Part → ℕ
nodes_of design p = node_count (length (clocked_procs (clocked_of design.procs))) (length (combs_of design.procs)) p

-- each part has few enough nodes, or one of them too many
pub record FewNodes (design : Design) : Type 0 where
  pub settle : nodes_of design part.Settle ≤ NODES
  pub clocked : nodes_of design part.Clocked ≤ NODES

abbrev pub ManyNodes : Design → Type 0
ManyNodes design = (NODES < nodes_of design part.Settle) ⊎ (NODES < nodes_of design part.Clocked)

-- the processes of a stall hold each other up
pub record IsLoop (design : Design) (places : List Origin) : Type 0 where
  pub loop : List ℕ
  pub stalls : settling_of design ≡ Stalls loop
  pub told : places ≡ map (origin_among design.procs (combs_of design.procs)) loop

-- an order in which all combinational processes settle
pub record Settles (design : Design) (order : List ℕ) : Type 0 where
  pub nodes : FewNodes design
  pub edges : length (read_edges design) ≤ EDGES
  pub in_order : settling_of design ≡ InOrder order
  pub within : list_all (λ (k : ℕ). nat_lt k (length (combs_of design.procs))) order ≡ true

abbrev pub ManyIn : Design → Kind → Type 0
ManyIn design kind.Nodes = ManyNodes design
ManyIn design kind.Edges = FewNodes design × (EDGES < length (read_edges design))
ManyIn design _ = ⊥

-- why there is no order
abbrev pub OrderFault : Design → BuildFault → Type 0
OrderFault design (fault.NoMemory error) = ⊤
OrderFault design (fault.TooMany kind) = ManyIn design kind
OrderFault design (fault.Loop places) = FewNodes design × (length (read_edges design) ≤ EDGES) × IsLoop design places
OrderFault design _ = ⊥

-- why there is no order of a graph, of which these are the edges
abbrev pub GraphRefusal : List Edge → BuildFault → Type 0
GraphRefusal edges (fault.NoMemory error) = ⊤
GraphRefusal edges (fault.TooMany kind.Edges) = EDGES < length edges
GraphRefusal edges _ = ⊥

abbrev pub LoopRefusal : List Proc → List ℕ → Settling → BuildFault → Type 0
LoopRefusal procs combs found (fault.NoMemory error) = ⊤
LoopRefusal procs combs found (fault.Loop places) = (loop : List ℕ) × (found ≡ Stalls loop) × (places ≡ map (origin_among procs combs) loop)
LoopRefusal procs combs found _ = ⊥

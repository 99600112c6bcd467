-- The plan of a part: its nodes in serial order as one task on thread 0.
use Rattle.std.specs.Prelude.{◌≡◌, ℕ, List, [], map, length}
use Rattle.rtl_ir.specs.declared.design.Proc.{Proc}
use Rattle.plan_graph.specs.declared.node.Part.{Part}
use Rattle.order_levels.specs.Serial.{serial_nodes}
use Rattle.task_eval.specs.Codes.{Ops}
use Rattle.plan_types.specs.declared.plan.ValidPlan.{ValidPlan}
use Rattle.plan_types.specs.OneTask.{groups_of, first_tasks, numbers_of, lists_of}
use Rattle.plan_types.specs.Settle.{clocked_of}
use Rattle.model_build.specs.Costs.{node_cost}

-- The combinational processes run in the order of settling, which numbers them among themselves. No node has to wait for another, so the graph has no edge.
pub record IsPlan (procs : List Proc) (codes : List Ops) (order : List ℕ) (part : Part) (plan : ValidPlan) : Type 0 where
  pub nodes : plan.nodes ≡ serial_nodes (clocked_of procs) order part
  pub costs : plan.graph.costs ≡ map (node_cost procs codes) plan.nodes
  pub edges : plan.graph.edges ≡ []
  pub groups : plan.groups ≡ groups_of (length plan.nodes)
  pub tasks : plan.tasks ≡ first_tasks (length plan.nodes)
  pub placement : plan.order ≡ numbers_of (length plan.nodes)
  pub threads : plan.threads ≡ lists_of (length plan.nodes)

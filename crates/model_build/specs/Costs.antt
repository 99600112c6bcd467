-- What the nodes of a plan cost.
use Rattle.std.specs.Prelude.{ℕ, ◌-◌, ◌/◌, ◌^◌, min, max, List, length, Option, Some, None, slice_get}
use Rattle.rtl_ir.specs.declared.design.Proc.{Proc}
use Rattle.plan_graph.specs.declared.node.Node.{Node}
use Rattle.plan_graph.specs.declared.node.Node.TheVariants as node
use Rattle.task_eval.specs.Codes.{Ops}
use Rattle.plan_types.specs.Coded.{code_number}
use Rattle.model_build.specs.Settle.{cost_of}

-- the code of a commit has a load and a store for each shadow that it copies
abbrev pub commit_cost : Option Ops → ℕ
commit_cost (Some code) = max (min (length code.ops / 2) (2 ^ 32 - 1)) 1
commit_cost None = 1

-- a combinational process and a body cost what the process does, and a commit 1 for each shadow, and each at least 1
abbrev pub node_cost : List Proc → List Ops → Node → ℕ
node_cost procs codes (node.Comb p) = cost_of procs p
node_cost procs codes (node.Body p) = cost_of procs p
node_cost procs codes (node.Commit p) = commit_cost (slice_get codes (code_number procs (node.Commit p)))

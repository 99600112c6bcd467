-- How many calls an eval can keep.
use Rattle.std.specs.Prelude.{ℕ, ◌+◌, ◌*◌, Bool, false, not, List, slice_get, slice_index_or, Option, Some, None}
use Rattle.std.specs.List.{count_by, sum_by}
use Rattle.plan_graph.specs.declared.node.Node.{Node}
use Rattle.task_eval.specs.Codes.{Ops}
use Rattle.task_eval.specs.declared.op.Op.{Op}
use Rattle.task_eval.specs.declared.op.Op.TheVariants as op
use Rattle.plan_types.specs.Coded.{code_number}
use Rattle.plan_types.specs.Machine.{most_runs}
use Rattle.plan_types.specs.declared.built.Built.{Built}

-- an op calls an import that is not deemed safe
abbrev pub is_kept : List Bool → Op → Bool
is_kept deemed (op.Call import count width) = not (slice_index_or deemed import false)
is_kept deemed _ = false

-- how many such calls stand in a code
abbrev pub calls_if : List Bool → Option Ops → ℕ
calls_if deemed (Some code) = count_by (is_kept deemed) code.ops
calls_if deemed None = 0

-- in a code, by its number, and in that of a node
abbrev pub code_calls : Built → ℕ → ℕ
code_calls b n = calls_if b.deemed (slice_get b.codes n)

abbrev pub node_calls : Built → Node → ℕ
node_calls b n = code_calls b (code_number b.design.procs n)

-- the greatest number of calls that an eval can keep: those of the settle nodes once, and those of the clocked nodes in each of their runs
abbrev pub call_room : Built → ℕ
call_room b = sum_by (node_calls b) b.settle.nodes + most_runs * sum_by (node_calls b) b.clocked.nodes

-- Which code a node runs, and when a model has one for each.
use Rattle.std.specs.Prelude.{◌+◌, ℕ, Bool, nat_lt, List, [], ◌∷◌, take, length}
use Rattle.std.specs.List.{count_by}
use Rattle.std.proofs.Props.{props}
use Rattle.rtl_ir.specs.declared.design.Proc.{Proc}
use Rattle.rtl_pieces.specs.Words.{is_clocked_kind}
use Rattle.plan_graph.specs.declared.node.Node.{Node}
use Rattle.plan_graph.specs.declared.node.Node.TheVariants as node
use Rattle.task_eval.specs.Codes.{Ops}
use Rattle.task_eval.specs.declared.op.Op.{Op}
use Rattle.task_eval.specs.declared.op.Op.TheVariants as op
use Rattle.task_eval.specs.Soundness.{OpWithin, IsWithin}

abbrev pub is_clocked : Proc → Bool
is_clocked p = is_clocked_kind p.kind

-- The codes are one for each process, then a commit for each clocked one, in order. A commit stands behind those of the clocked
-- processes before its own.
abbrev pub code_number : List Proc → Node → ℕ
code_number procs (node.Comb p) = p
code_number procs (node.Body p) = p
code_number procs (node.Commit p) = length procs + count_by is_clocked (take p procs)

-- how many codes a design has
abbrev pub code_count : List Proc → ℕ
code_count procs = length procs + count_by is_clocked procs

-- the code of a node is one of so many
abbrev pub has_code : List Proc → ℕ → Node → Bool
has_code procs codes n = nat_lt (code_number procs n) codes

-- each code names only words and imports that are there
abbrev pub AllWithin : ℕ → ℕ → List Ops → Type 0
AllWithin words imports [] = Unit {0}
AllWithin words imports (code ∷ more) = IsWithin words imports code.ops × AllWithin words imports more

-- ---- what stands in the type of a model is a fact

op_is_fact : (words imports : ℕ) (o : Op) → IsProp (OpWithin words imports o)
op_is_fact words imports (op.Push n) = hlevel props
op_is_fact words imports (op.Load word width) = hlevel props
op_is_fact words imports (op.LoadAt e width) = hlevel props
op_is_fact words imports (op.Store word width) = hlevel props
op_is_fact words imports (op.StoreAt e width) = hlevel props
op_is_fact words imports (op.Slice at width) = hlevel props
op_is_fact words imports (op.SliceAt i width) = hlevel props
op_is_fact words imports (op.Place at) = hlevel props
op_is_fact words imports (op.PlaceAt i) = hlevel props
op_is_fact words imports (op.Extend width signed) = hlevel props
op_is_fact words imports (op.One o) = hlevel props
op_is_fact words imports (op.Two o width signed) = hlevel props
op_is_fact words imports (op.Join high low) = hlevel props
op_is_fact words imports (op.Repeat times width) = hlevel props
op_is_fact words imports (op.Pick below) = hlevel props
op_is_fact words imports op.Drop = hlevel props
op_is_fact words imports (op.Skip n) = hlevel props
op_is_fact words imports (op.SkipIfZero n) = hlevel props
op_is_fact words imports (op.SkipIfTrue n) = hlevel props
op_is_fact words imports (op.Call import count width) = hlevel props

within_is_fact : (words imports : ℕ) (ops : List Op) → IsProp (IsWithin words imports ops)
within_is_fact words imports [] = hlevel props
within_is_fact words imports (o ∷ more) = hlevel (props, op_is_fact words imports o, within_is_fact words imports more)

pub all_within_is_fact : (words imports : ℕ) (codes : List Ops) → IsProp (AllWithin words imports codes)
all_within_is_fact words imports [] = hlevel props
all_within_is_fact words imports (code ∷ more) = hlevel (props, within_is_fact words imports code.ops, all_within_is_fact words imports more)

-- What holds of the plan of a part.
use Rattle.std.proofs.Common.{◌≡◌, ℕ, true, List, length, ap, ◌∙◌, subst}
use Rattle.std.specs.Prelude.{nat_lt}
use Rattle.std.specs.List.{list_all}
use Rattle.rtl_ir.specs.declared.design.Proc.{Proc}
use Rattle.plan_graph.specs.declared.node.Node.{Node}
use Rattle.plan_graph.specs.declared.node.Part.{Part}
use Rattle.order_levels.specs.Serial.{serial_nodes}
use Rattle.task_eval.specs.Codes.{Ops}
use Rattle.plan_types.specs.declared.plan.ValidPlan.{ValidPlan}
use Rattle.plan_types.specs.Coded.{code_count, has_code}
use Rattle.plan_types.specs.Settle.{clocked_of, combs_of}
use Rattle.model_build.specs.Plans.{IsPlan}
use Rattle.model_build.proofs.Coding.{nodes_have}

-- each of its nodes has a code
pub plan_has_codes : (procs : List Proc) (codes : List Ops) (order : List ℕ) (part : Part) (plan : ValidPlan) → length codes ≡ code_count procs
    → list_all (λ (k : ℕ). nat_lt k (length (combs_of procs))) order ≡ true → IsPlan procs codes order part plan → list_all (has_code procs (length codes)) plan.nodes ≡ true
plan_has_codes procs codes order part plan count within is =
    ap (λ (nodes : List Node). list_all (has_code procs (length codes)) nodes) is.nodes
    ∙ ap (λ (many : ℕ). list_all (has_code procs many) (serial_nodes (clocked_of procs) order part)) count
    ∙ nodes_have procs order part within

-- it is the plan of equal lists
pub plan_same : (procs others : List Proc) (codes ops : List Ops) (order list : List ℕ) (part : Part) (plan : ValidPlan) → procs ≡ others → codes ≡ ops → order ≡ list
    → IsPlan procs codes order part plan → IsPlan others ops list part plan
plan_same procs others codes ops order list part plan one two three is =
    subst (λ (x : List Proc). IsPlan x ops list part plan) one
    (subst (λ (x : List Ops). IsPlan procs x list part plan) two
    (subst (λ (x : List ℕ). IsPlan procs codes x part plan) three is))

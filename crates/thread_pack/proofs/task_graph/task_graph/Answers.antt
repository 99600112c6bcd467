use Rattle.std.proofs.Common.{◌≡◌, ◌∙◌, ◌<◌, ℕ, List, length, map, get_or, ap, sym, subst, arith}
use Rattle.plan_graph.specs.declared.node.Edge.{Edge}
use Rattle.plan_graph.specs.Graphs.{IsCostliest, turned}
use Rattle.plan_graph.specs.Groupings.{group_edges}
use Rattle.thread_pack.specs.Packing.{cost_of}
use Rattle.thread_pack.proofs.task_graph.task_graph.Goals as goal

pub returns-clause-tails : goal.returns-clause-tails
returns-clause-tails c = λ k less.
    let g = c.args.graph.now in
    let groups = c.args.groups.now in
    let tails = c.in_ok-tails.tails.items in
    let edges : c.as_slice-2.result.now ≡ group_edges groups g.edges = c.as_slice-2.ensures.value ∙ c.in_ok-edges.ensures in
    let costs : ((n : ℕ) → get_or c.as_slice-3.result.now n 0 ≡ cost_of g.costs groups n) = λ n. ap (λ (cs : List ℕ). get_or cs n 0) c.as_slice-3.ensures.value ∙ c.in_ok-costs.ensures.costs n ∙ ap (λ (cs : List ℕ). cost_of cs groups n) c.as_slice.ensures in
    subst (λ (es : List Edge). IsCostliest (cost_of g.costs groups) (map turned es) k (get_or tails k 0)) edges
    (subst (λ (f : ℕ → ℕ). IsCostliest f (map turned c.as_slice-2.result.now) k (get_or tails k 0)) (λ i n. costs n i) (c.in_ok-tails.ensures.tails k (omega arith)))

use Rattle.std.proofs.Common.{◌≡◌, ◌∙◌, ◌<◌, ◌^◌, ◌++◌, ℕ, List, [], ◌∷◌, cond, nat_lt, length, ap, sym, subst, arith}
use Rattle.std.specs.List.{sum}
use Rattle.plan_graph.specs.declared.node.Edge.{Edge}
use Rattle.plan_graph.specs.Graphs.{HasNoCycle}
use Rattle.plan_graph.specs.Groupings.{times, group_edges}
use Rattle.thread_pack.proofs.Examples.{groups, edges, each_once, acyclic}
use Rattle.thread_pack.proofs.tests.packed.Goals as goal

pub pack-requires-clause-grouped : goal.pack-requires-clause-grouped
pack-requires-clause-grouped c = λ n.
    let costs : c.in-Some.graph.costs ≡ 8 ∷ 1 ∷ 1 ∷ 1 ∷ [] = c.in-Some.ensures.costs ∙ c.in_ok-costs.ensures in
    (λ i. times n (c.in_ok-first.ensures i ++ (c.in_ok-second.ensures i ++ (c.in_ok-last.ensures i ++ [])))) ∙ each_once n ∙ sym (λ i. cond (nat_lt n (length (costs i))) 1 0)

pub pack-requires-clause-no_cycle : goal.pack-requires-clause-no_cycle
pack-requires-clause-no_cycle c =
    let groups_are : c.in_ok-first.first ∷ c.in_ok-second.second ∷ c.in_ok-last.last ∷ [] ≡ groups = (λ i. c.in_ok-first.ensures i ∷ c.in_ok-second.ensures i ∷ c.in_ok-last.ensures i ∷ []) in
    let edges_are : c.in-Some.graph.edges ≡ edges = c.in-Some.ensures.edges ∙ c.in_ok-edges.ensures in
    subst (λ (es : List Edge). HasNoCycle es) (sym (λ i. group_edges (groups_are i) (edges_are i))) acyclic

pub pack-requires-clause-costs : goal.pack-requires-clause-costs
pack-requires-clause-costs c =
    let costs : c.in-Some.graph.costs ≡ 8 ∷ 1 ∷ 1 ∷ 1 ∷ [] = c.in-Some.ensures.costs ∙ c.in_ok-costs.ensures in
    let total : sum c.in-Some.graph.costs ≡ 11 = ap sum costs in
    omega arith

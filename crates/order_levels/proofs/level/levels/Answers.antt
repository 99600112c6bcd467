use Rattle.std.proofs.Common.{◌≡◌, ◌∙◌, ◌<◌, ℕ, true, List, [], sym, ap, subst, refl, length, get_or, replicate, arith}
use Rattle.std.specs.List.{list_all}
use Rattle.std.proofs.lemmas.Result.{IfOk-weaker}
use Rattle.plan_graph.specs.declared.node.Edge.{Edge}
use Rattle.plan_graph.specs.Graphs.{ends_within, HasNoCycle, IsLevel}
use Rattle.order_levels.specs.Settling.{all_run}
use Rattle.order_levels.specs.Sets.{sources_of, all_below, each_below, levels_along}
use Rattle.order_levels.proofs.EdgeLemmas.{sources_each_below}
use Rattle.order_levels.proofs.StallLemmas.{all_run_below, run_length}
use Rattle.order_levels.proofs.OrderLaws.{each_runs, run_keeps_edges}
use Rattle.order_levels.proofs.LevelLemmas.{levels_are}
use Rattle.order_levels.proofs.level.levels.Goals as goal

pub levels_along-requires-clause-within : goal.levels_along-requires-clause-within
levels_along-requires-clause-within c =
    let nodes = c.nodes-nodes.result in
    let edges = c.as_slice-edges.result.now in
    let ends : list_all (ends_within nodes) edges ≡ true = (λ i. list_all (ends_within (c.nodes-nodes.ensures i)) (c.as_slice-edges.ensures i)) ∙ c.args.graph.now.ends in
    subst (λ (xs : List (List ℕ)). each_below (length xs) xs ≡ true) (sym c.as_slice.ensures.value)
    (sources_each_below nodes edges c.in_ok-sources.sources.items ends c.in_ok-sources.ensures.len c.in_ok-sources.ensures.lists)

pub levels_along-requires-clause-order : goal.levels_along-requires-clause-order
levels_along-requires-clause-order c =
    let nodes = c.nodes-nodes.result in
    let edges = c.as_slice-edges.result.now in
    let len : length c.as_slice.result.now ≡ nodes = ap length c.as_slice.ensures.value ∙ c.in_ok-sources.ensures.len in
    let order : c.as_slice-2.result.now ≡ all_run nodes edges = c.as_slice-2.ensures.value ∙ c.in_ok-order.ensures in
    (λ i. all_below (len i) (order i)) ∙ all_run_below nodes edges

pub levels_along-requires-clause-few : goal.levels_along-requires-clause-few
levels_along-requires-clause-few c =
    let nodes = c.nodes-nodes.result in
    let edges = c.as_slice-edges.result.now in
    let order : length c.as_slice-2.result.now ≡ length (all_run nodes edges) = ap length (c.as_slice-2.ensures.value ∙ c.in_ok-order.ensures) in
    let most = run_length nodes nodes edges [] in
    let few = c.args.graph.now.few in
    let is = c.nodes-nodes.ensures in
    omega arith

pub returns-clause-levels : goal.returns-clause-levels
returns-clause-levels c =
    let nodes = c.nodes-nodes.result in
    let edges = c.as_slice-edges.result.now in
    let sources = c.as_slice.result.now in
    let is = c.nodes-nodes.ensures in
    let ends : list_all (ends_within nodes) edges ≡ true = (λ i. list_all (ends_within (c.nodes-nodes.ensures i)) (c.as_slice-edges.ensures i)) ∙ c.args.graph.now.ends in
    let no_cycle : HasNoCycle edges = subst (λ (es : List Edge). HasNoCycle es) (sym c.as_slice-edges.ensures) c.requires.no_cycle in
    let len : length sources ≡ nodes = ap length c.as_slice.ensures.value ∙ c.in_ok-sources.ensures.len in
    let lists : ((n : ℕ) → get_or sources n [] ≡ sources_of n edges) = λ n. ap (λ (xs : List (List ℕ)). get_or xs n []) c.as_slice.ensures.value ∙ c.in_ok-sources.ensures.lists n in
    let order : c.as_slice-2.result.now ≡ all_run nodes edges = c.as_slice-2.ensures.value ∙ c.in_ok-order.ensures in
    let same : levels_along sources (replicate (length sources) 0) c.as_slice-2.result.now ≡ levels_along sources (replicate nodes 0) (all_run nodes edges) = λ i. levels_along sources (replicate (len i) 0) (order i) in
    IfOk-weaker c.levels_along.result (λ v. v.items ≡ levels_along sources (replicate (length sources) 0) c.as_slice-2.result.now)
    (λ v. (n : ℕ) → n < length c.args.graph.now.costs → IsLevel c.args.graph.now.edges n (get_or v.items n 0))
    (λ v e n less.
    subst (λ (es : List Edge). IsLevel es n (get_or v.items n 0)) c.as_slice-edges.ensures
    (subst (λ (ls : List ℕ). IsLevel edges n (get_or ls n 0)) (sym (e ∙ same))
    (levels_are nodes edges sources (all_run nodes edges) lists (all_run_below nodes edges) (run_keeps_edges nodes nodes edges [] refl) n (each_runs nodes edges ends no_cycle n (omega arith)))))
    c.levels_along.ensures.levels

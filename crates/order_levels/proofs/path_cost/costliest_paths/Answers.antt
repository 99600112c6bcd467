use Rattle.std.proofs.Common.{◌≡◌, ◌∙◌, ◌<◌, ℕ, true, List, [], sym, ap, subst, refl, length, get_or, replicate, arith}
use Rattle.std.proofs.lemmas.Result.{IfOk-weaker}
use Rattle.plan_graph.specs.Graphs.{IsCostliest}
use Rattle.order_levels.specs.Settling.{all_run}
use Rattle.order_levels.specs.Sets.{sources_of, all_below, each_below, costs_along}
use Rattle.order_levels.proofs.EdgeLemmas.{sources_each_below}
use Rattle.order_levels.proofs.StallLemmas.{all_run_below, run_length}
use Rattle.order_levels.proofs.OrderLaws.{each_runs, run_keeps_edges}
use Rattle.order_levels.proofs.PathCostLemmas.{paths_are}
use Rattle.order_levels.proofs.path_cost.costliest_paths.Goals as goal

pub costs_along-requires-clause-within : goal.costs_along-requires-clause-within
costs_along-requires-clause-within c =
    subst (λ (xs : List (List ℕ)). each_below (length xs) xs ≡ true) (sym c.as_slice.ensures.value)
    (sources_each_below c.args.nodes c.args.edges.now c.in_ok-sources.sources.items c.requires.ends c.in_ok-sources.ensures.len c.in_ok-sources.ensures.lists)

pub costs_along-requires-clause-order : goal.costs_along-requires-clause-order
costs_along-requires-clause-order c =
    let nodes = c.args.nodes in
    let edges = c.args.edges.now in
    let len : length c.as_slice.result.now ≡ nodes = ap length c.as_slice.ensures.value ∙ c.in_ok-sources.ensures.len in
    let order : c.as_slice-2.result.now ≡ all_run nodes edges = c.as_slice-2.ensures.value ∙ c.in_ok-order.ensures in
    (λ i. all_below (len i) (order i)) ∙ all_run_below nodes edges

pub costs_along-requires-clause-few : goal.costs_along-requires-clause-few
costs_along-requires-clause-few c =
    let nodes = c.args.nodes in
    let edges = c.args.edges.now in
    let order : length c.as_slice-2.result.now ≡ length (all_run nodes edges) = ap length (c.as_slice-2.ensures.value ∙ c.in_ok-order.ensures) in
    let most = run_length nodes nodes edges [] in
    omega arith

pub returns-clause-costs : goal.returns-clause-costs
returns-clause-costs c =
    let nodes = c.args.nodes in
    let edges = c.args.edges.now in
    let costs = c.args.costs.now in
    let sources = c.as_slice.result.now in
    let len : length sources ≡ nodes = ap length c.as_slice.ensures.value ∙ c.in_ok-sources.ensures.len in
    let lists : ((n : ℕ) → get_or sources n [] ≡ sources_of n edges) = λ n. ap (λ (xs : List (List ℕ)). get_or xs n []) c.as_slice.ensures.value ∙ c.in_ok-sources.ensures.lists n in
    let order : c.as_slice-2.result.now ≡ all_run nodes edges = c.as_slice-2.ensures.value ∙ c.in_ok-order.ensures in
    let same : costs_along costs sources (replicate (length sources) 0) c.as_slice-2.result.now ≡ costs_along costs sources (replicate nodes 0) (all_run nodes edges) = λ i. costs_along costs sources (replicate (len i) 0) (order i) in
    IfOk-weaker c.costs_along.result (λ v. v.items ≡ costs_along costs sources (replicate (length sources) 0) c.as_slice-2.result.now)
    (λ v. (n : ℕ) → n < nodes → IsCostliest (λ k. get_or costs k 0) edges n (get_or v.items n 0))
    (λ v e n less.
    subst (λ (ls : List ℕ). IsCostliest (λ k. get_or costs k 0) edges n (get_or ls n 0)) (sym (e ∙ same))
    (paths_are costs nodes edges sources (all_run nodes edges) lists (all_run_below nodes edges) (run_keeps_edges nodes nodes edges [] refl) n (each_runs nodes edges c.requires.ends c.requires.no_cycle n less)))
    c.costs_along.ensures.paths

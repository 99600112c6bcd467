use Rattle.std.proofs.Common.{◌≡◌, ◌∙◌, ◌<◌, ◌≤◌, ◌^◌, ◌∷◌, [], ℕ, true, List, length, map, get_or, ap, sym, subst, arith}
use Rattle.std.specs.List.{list_all, range_with_len, sum}
use Rattle.std.proofs.lemmas.Result.{IfOk-weaker}
use Rattle.plan_graph.specs.declared.node.Edge.{Edge}
use Rattle.plan_graph.specs.Graphs.{ends_within, has_edge, cost_of_all}
use Rattle.plan_graph.specs.GraphLaws.{edge_ends}
use Rattle.plan_graph.specs.Groupings.{ExactlyOnce, group_edges, keeps, place_in}
use Rattle.thread_pack.specs.declared.put.Put.{Put}
use Rattle.thread_pack.specs.Packing.{IsPacked, cost_of, order_of, lists_of, task_in, packed}
use Rattle.thread_pack.proofs.GroupLemmas.{total_is, each_fits, each_within, ends_are}
use Rattle.thread_pack.proofs.PackLaws.{placed_once, placed_after, threaded_once}
use Rattle.thread_pack.proofs.WholeLemmas.{ok_all, keeps_all}
use Rattle.thread_pack.proofs.tasks.pack.Goals as goal

pub task_graph-requires-clause-within : goal.task_graph-requires-clause-within
task_graph-requires-clause-within c = each_within c.args.graph.now.costs c.args.groups.now c.requires.grouped

pub task_graph-requires-clause-fits : goal.task_graph-requires-clause-fits
task_graph-requires-clause-fits c = λ k.
    let most = each_fits c.args.graph.now.costs c.args.groups.now c.requires.grouped k in
    let few = c.requires.costs in
    omega arith

pub task_graph-requires-clause-ends : goal.task_graph-requires-clause-ends
task_graph-requires-clause-ends c = ends_are c.args.graph.now.costs c.args.groups.now c.requires.grouped c.args.graph.now.edges c.args.graph.now.ends

pub place_all-requires-clause-ends : goal.place_all-requires-clause-ends
place_all-requires-clause-ends c =
    (λ i. list_all (ends_within (c.in_ok-tasks.ensures.costs_len i)) (c.in_ok-tasks.ensures.edges i))
    ∙ ends_are c.args.graph.now.costs c.args.groups.now c.requires.grouped c.args.graph.now.edges c.args.graph.now.ends

pub place_all-requires-clause-fits : goal.place_all-requires-clause-fits
place_all-requires-clause-fits c =
    let g = c.args.graph.now in
    let groups = c.args.groups.now in
    let same : cost_of_all (λ k. get_or c.in_ok-tasks.tasks.costs.items k 0) (range_with_len 0 (length c.in_ok-tasks.tasks.costs.items)) ≡ cost_of_all (cost_of g.costs groups) (range_with_len 0 (length groups)) =
    λ i. cost_of_all (λ k. c.in_ok-tasks.ensures.costs k i) (range_with_len 0 (c.in_ok-tasks.ensures.costs_len i)) in
    let most = total_is g.costs groups c.requires.grouped in
    let few = c.requires.costs in
    omega arith

pub returns-clause-packed : goal.returns-clause-packed
returns-clause-packed c =
    let g = c.args.graph.now in
    let groups = c.args.groups.now in
    let edges = group_edges groups g.edges in
    let cost : ℕ → ℕ = cost_of g.costs groups in
    let tails = c.in_ok-tasks.tasks.tails.items in
    let tail : ℕ → ℕ = λ k. get_or tails k 0 in
    let puts_are : c.as_slice.result.now ≡ packed (length groups) c.args.threads edges cost tail =
    c.as_slice.ensures.value ∙ c.in_ok-puts.ensures ∙ (λ i. packed (c.in_ok-tasks.ensures.costs_len i) c.args.threads (c.in_ok-tasks.ensures.edges i) (λ k. c.in_ok-tasks.ensures.costs k i) tail) in
    let puts = c.as_slice.result.now in
    ok_all c.told.result (λ p. p.tasks ≡ map (task_in puts) (range_with_len 0 (length groups))) (λ p. p.threads ≡ lists_of c.args.threads puts) (λ p. p.order ≡ order_of puts)
    (λ p. IsPacked g.costs g.edges groups c.args.threads p.tasks p.threads p.order)
    (λ p tasks lists order. record {
      tail = tail;
      begins_with = c.in_ok-tasks.ensures.tails;
      puts = puts;
      packed_so = puts_are;
      tasks_are = tasks;
      lists_are = lists;
      order_is = order;
    })
    c.told.ensures.tasks c.told.ensures.threads c.told.ensures.order

pub returns-clause-placed : goal.returns-clause-placed
returns-clause-placed c =
    let g = c.args.graph.now in
    let groups = c.args.groups.now in
    let edges = group_edges groups g.edges in
    let cost : ℕ → ℕ = cost_of g.costs groups in
    let tails = c.in_ok-tasks.tasks.tails.items in
    let tail : ℕ → ℕ = λ k. get_or tails k 0 in
    let puts_are : c.as_slice.result.now ≡ packed (length groups) c.args.threads edges cost tail =
    c.as_slice.ensures.value ∙ c.in_ok-puts.ensures ∙ (λ i. packed (c.in_ok-tasks.ensures.costs_len i) c.args.threads (c.in_ok-tasks.ensures.edges i) (λ k. c.in_ok-tasks.ensures.costs k i) tail) in
    let ends : ((i j : ℕ) → has_edge edges i j ≡ true → i < length groups) = λ i j edge. (edge_ends (length groups) edges i j (ends_are g.costs groups c.requires.grouped g.edges g.ends) edge).0 in
    let some : 0 < c.args.threads = let least = c.requires.threads in omega arith in
    IfOk-weaker c.told.result (λ p. p.order ≡ order_of c.as_slice.result.now) (λ p. ExactlyOnce (length groups) (p.order ∷ []))
    (λ p order. subst (λ (xs : List ℕ). ExactlyOnce (length groups) (xs ∷ [])) (sym (order ∙ ap order_of puts_are))
    (placed_once (length groups) c.args.threads edges cost tail c.requires.no_cycle ends some))
    c.told.ensures.order

pub returns-clause-upstream : goal.returns-clause-upstream
returns-clause-upstream c =
    let g = c.args.graph.now in
    let groups = c.args.groups.now in
    let edges = group_edges groups g.edges in
    let cost : ℕ → ℕ = cost_of g.costs groups in
    let tails = c.in_ok-tasks.tasks.tails.items in
    let tail : ℕ → ℕ = λ k. get_or tails k 0 in
    let puts_are : c.as_slice.result.now ≡ packed (length groups) c.args.threads edges cost tail =
    c.as_slice.ensures.value ∙ c.in_ok-puts.ensures ∙ (λ i. packed (c.in_ok-tasks.ensures.costs_len i) c.args.threads (c.in_ok-tasks.ensures.edges i) (λ k. c.in_ok-tasks.ensures.costs k i) tail) in
    let ends : ((i j : ℕ) → has_edge edges i j ≡ true → i < length groups) = λ i j edge. (edge_ends (length groups) edges i j (ends_are g.costs groups c.requires.grouped g.edges g.ends) edge).0 in
    let some : 0 < c.args.threads = let least = c.requires.threads in omega arith in
    let into : ((i j : ℕ) → has_edge edges i j ≡ true → j < length groups) = λ i j edge. (edge_ends (length groups) edges i j (ends_are g.costs groups c.requires.grouped g.edges g.ends) edge).1 in
    IfOk-weaker c.told.result (λ p. p.order ≡ order_of c.as_slice.result.now) (λ p. list_all (keeps p.order) edges ≡ true)
    (λ p order. subst (λ (xs : List ℕ). list_all (keeps xs) edges ≡ true) (sym (order ∙ ap order_of puts_are))
    (keeps_all (order_of (packed (length groups) c.args.threads edges cost tail)) edges
    (λ i j edge. placed_after (length groups) c.args.threads edges cost tail c.requires.no_cycle ends some i j edge (into i j edge))))
    c.told.ensures.order

pub returns-clause-threaded : goal.returns-clause-threaded
returns-clause-threaded c =
    let g = c.args.graph.now in
    let groups = c.args.groups.now in
    let edges = group_edges groups g.edges in
    let cost : ℕ → ℕ = cost_of g.costs groups in
    let tails = c.in_ok-tasks.tasks.tails.items in
    let tail : ℕ → ℕ = λ k. get_or tails k 0 in
    let puts_are : c.as_slice.result.now ≡ packed (length groups) c.args.threads edges cost tail =
    c.as_slice.ensures.value ∙ c.in_ok-puts.ensures ∙ (λ i. packed (c.in_ok-tasks.ensures.costs_len i) c.args.threads (c.in_ok-tasks.ensures.edges i) (λ k. c.in_ok-tasks.ensures.costs k i) tail) in
    let ends : ((i j : ℕ) → has_edge edges i j ≡ true → i < length groups) = λ i j edge. (edge_ends (length groups) edges i j (ends_are g.costs groups c.requires.grouped g.edges g.ends) edge).0 in
    let some : 0 < c.args.threads = let least = c.requires.threads in omega arith in
    IfOk-weaker c.told.result (λ p. p.threads ≡ lists_of c.args.threads c.as_slice.result.now) (λ p. ExactlyOnce (length groups) p.threads)
    (λ p lists. subst (λ (xs : List (List ℕ)). ExactlyOnce (length groups) xs) (sym (lists ∙ ap (lists_of c.args.threads) puts_are))
    (threaded_once (length groups) c.args.threads edges cost tail c.requires.no_cycle ends some))
    c.told.ensures.threads

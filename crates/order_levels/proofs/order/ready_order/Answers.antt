use Rattle.std.proofs.Common.{◌≡◌, true, length}
use Rattle.std.proofs.lemmas.Result.{IfOk-weaker, IfErr-weaker}
use Rattle.plan_graph.specs.Graphs.{HasNoCycle}
use Rattle.order_levels.specs.Answers.{TellsStall, TellsLoop}
use Rattle.order_levels.specs.Sets.{all_below}
use Rattle.order_levels.specs.Settling.{settling, InOrder}
use Rattle.order_levels.specs.SettlingLaws.{HasEachNode, HasNoneTwice, KeepsEdges}
use Rattle.order_levels.proofs.SettlingLemmas.{order_is_below, order_has_each, order_has_none_twice, order_keeps_edges, order_has_no_cycle, stall_goes_round}
use Rattle.order_levels.proofs.order.ready_order.Goals as goal

pub returns-clause-nodes : goal.returns-clause-nodes
returns-clause-nodes c =
    let g = c.args.graph.now in
    let nodes = length g.costs in
    IfOk-weaker c.settle.result (λ v. settling nodes g.edges ≡ InOrder v.items) (λ v. all_below nodes v.items ≡ true) (λ v e. order_is_below nodes g.edges v.items e) c.settle.ensures.order

pub returns-clause-each : goal.returns-clause-each
returns-clause-each c =
    let g = c.args.graph.now in
    let nodes = length g.costs in
    IfOk-weaker c.settle.result (λ v. settling nodes g.edges ≡ InOrder v.items) (λ v. HasEachNode nodes v.items) (λ v e. order_has_each nodes g.edges v.items e) c.settle.ensures.order

pub returns-clause-none_twice : goal.returns-clause-none_twice
returns-clause-none_twice c =
    let g = c.args.graph.now in
    let nodes = length g.costs in
    IfOk-weaker c.settle.result (λ v. settling nodes g.edges ≡ InOrder v.items) (λ v. HasNoneTwice v.items) (λ v e. order_has_none_twice nodes g.edges v.items e) c.settle.ensures.order

pub returns-clause-keeps_edges : goal.returns-clause-keeps_edges
returns-clause-keeps_edges c =
    let g = c.args.graph.now in
    let nodes = length g.costs in
    IfOk-weaker c.settle.result (λ v. settling nodes g.edges ≡ InOrder v.items) (λ v. KeepsEdges g.edges v.items) (λ v e. order_keeps_edges nodes g.edges v.items e) c.settle.ensures.order

pub returns-clause-no_cycle : goal.returns-clause-no_cycle
returns-clause-no_cycle c =
    let g = c.args.graph.now in
    let nodes = length g.costs in
    IfOk-weaker c.settle.result (λ v. settling nodes g.edges ≡ InOrder v.items) (λ v. HasNoCycle g.edges) (λ v e. order_has_no_cycle nodes g.edges v.items g.ends e) c.settle.ensures.order

pub returns-clause-goes_round : goal.returns-clause-goes_round
returns-clause-goes_round c =
    let g = c.args.graph.now in
    let nodes = length g.costs in
    IfErr-weaker c.settle.result (λ f. TellsStall f (settling nodes g.edges)) (λ f. TellsLoop f g.edges) (λ f e. stall_goes_round nodes g.edges f g.ends e) c.settle.ensures.stalls

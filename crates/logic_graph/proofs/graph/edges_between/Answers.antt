use Rattle.std.proofs.Common.{◌∙◌, ◌<◌, ap, length}
use Rattle.std.specs.List.{list_all}
use Rattle.std.proofs.lemmas.Option.{MatchOption-at_some}
use Rattle.vs_base.specs.declared.limits.TheConstants.{EDGES}
use Rattle.plan_graph.specs.Graphs.{ends_within}
use Rattle.logic_graph.specs.Reading.{edges_of}
use Rattle.logic_graph.specs.Noting.{HasNoted, listed}
use Rattle.logic_graph.proofs.EdgeLemmas.{listed_is, edges_within}
use Rattle.logic_graph.proofs.graph.edges_between.Goals as goal

pub returns-clause-edges : goal.returns-clause-edges
returns-clause-edges c =
    let procs = c.args.procs.now in
    let noted = MatchOption-at_some (EDGES < length (edges_of procs)) (λ v. HasNoted procs procs v.items) c.in-Some.readers c.in-Some.is c.in_ok-noted.ensures.readers in
    c.in_ok-edges.ensures ∙ ap (listed 0) c.as_slice.ensures.value ∙ listed_is procs c.in-Some.readers.items noted

pub returns-clause-ends : goal.returns-clause-ends
returns-clause-ends c =
    let procs = c.args.procs.now in
    let noted = MatchOption-at_some (EDGES < length (edges_of procs)) (λ v. HasNoted procs procs v.items) c.in-Some.readers c.in-Some.is c.in_ok-noted.ensures.readers in
    ap (list_all (ends_within (length procs))) (c.in_ok-edges.ensures ∙ ap (listed 0) c.as_slice.ensures.value ∙ listed_is procs c.in-Some.readers.items noted) ∙ edges_within procs

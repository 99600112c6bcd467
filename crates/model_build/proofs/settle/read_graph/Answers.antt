use Rattle.std.proofs.Common.{◌≡◌, ◌≤◌, ℕ, List, length, sym, ap, ◌∙◌, subst}
use Rattle.std.specs.Prelude.{IfOk, IfErr, OnOk}
use Rattle.std.proofs.lemmas.List.{length-map}
use Rattle.plan_graph.specs.declared.node.Edge.{Edge}
use Rattle.vs_base.specs.declared.limits.TheConstants.{EDGES}
use Rattle.rtl_pieces.specs.Bits.{line_in}
use Rattle.rtl_pieces.specs.Cover.{places_of}
use Rattle.logic_graph.specs.declared.ranges.Touched.{Touched}
use Rattle.logic_graph.specs.Reading.{edges_of, OneWriter}
use Rattle.plan_types.specs.Settle.{read_edges}
use Rattle.model_build.specs.Settle.{cost_of, GraphRefusal}
use Rattle.model_build.specs.Touching.{IsTouched}
use Rattle.model_build.proofs.Feeding.{edges_same, one_writer, each_length}
use Rattle.model_build.proofs.settle.read_graph.Goals as goal

pub graph-requires-clause-costs : goal.graph-requires-clause-costs
graph-requires-clause-costs c =
    ap (λ (costs : List ℕ). length costs) c.in_ok-costs.ensures
    ∙ length-map c.args.combs.now (cost_of c.as_slice.result.now)
    ∙ sym (each_length (IsTouched (line_in c.args.design.now) c.args.design.now.procs (places_of 0 c.args.layout.now.words.items)) c.args.combs.now c.in_ok-touched.touched.items c.in_ok-touched.ensures)
    ∙ sym (ap (λ (ts : List Touched). length ts) c.as_slice-2.ensures.value)

pub graph-requires-clause-one_writer : goal.graph-requires-clause-one_writer
graph-requires-clause-one_writer c =
    subst (λ (ts : List Touched). OneWriter ts) (sym c.as_slice-2.ensures.value)
    (one_writer c.args.design.now c.args.layout.now.words.items c.args.combs.now c.in_ok-touched.touched.items c.requires.layout c.requires.one_driver c.requires.combs c.in_ok-touched.ensures)

pub returns-clause-edges : goal.returns-clause-edges
returns-clause-edges c =
    let same : edges_of c.as_slice-2.result.now ≡ read_edges c.args.design.now =
    ap (λ (ts : List Touched). edges_of ts) c.as_slice-2.ensures.value
    ∙ edges_same c.args.design.now c.args.layout.now.words.items c.args.combs.now c.in_ok-touched.touched.items c.requires.layout c.requires.one_driver c.requires.combs c.in_ok-touched.ensures in
    subst (λ (edges : List Edge). IfOk c.graph.result (λ g. g.edges ≡ edges)) same c.graph.ensures.edges

pub returns-clause-few : goal.returns-clause-few
returns-clause-few c =
    let same : edges_of c.as_slice-2.result.now ≡ read_edges c.args.design.now =
    ap (λ (ts : List Touched). edges_of ts) c.as_slice-2.ensures.value
    ∙ edges_same c.args.design.now c.args.layout.now.words.items c.args.combs.now c.in_ok-touched.touched.items c.requires.layout c.requires.one_driver c.requires.combs c.in_ok-touched.ensures in
    subst (λ (edges : List Edge). OnOk c.graph.result (length edges ≤ EDGES)) same c.graph.ensures.few

pub returns-clause-refused : goal.returns-clause-refused
returns-clause-refused c =
    let same : edges_of c.as_slice-2.result.now ≡ read_edges c.args.design.now =
    ap (λ (ts : List Touched). edges_of ts) c.as_slice-2.ensures.value
    ∙ edges_same c.args.design.now c.args.layout.now.words.items c.args.combs.now c.in_ok-touched.touched.items c.requires.layout c.requires.one_driver c.requires.combs c.in_ok-touched.ensures in
    subst (λ (edges : List Edge). IfErr c.graph.result (GraphRefusal edges)) same c.graph.ensures.refused

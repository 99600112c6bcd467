use Rattle.std.proofs.Common.{ap}
use Rattle.std.proofs.lemmas.Result.{IfOk-weaker}
use Rattle.sv_tree.specs.TreeItem.{item_read}
use Rattle.parse_stmt.specs.BodyLaws.{body_by}
use Rattle.parse_item.proofs.Rules.{variables_item}
use Rattle.parse_item.proofs.declarations.variables.Goals as goal

pub returns-clause-reads : goal.returns-clause-reads
returns-clause-reads c =
    IfOk-weaker c.declared_item.result _ _
    (λ i h. body_by (ap item_read h.is) (variables_item c.in_ok-kind.kind h.list c.requires.deep c.in_ok-kind.ensures.reads h.parts h.closes)) c.declared_item.ensures.made

use Rattle.std.proofs.Common.{refl}
use Rattle.std.proofs.lemmas.Result.{IfOk-weaker}
use Rattle.sv_tree.specs.declared.symbol.Symbol.TheVariants as symbol
use Rattle.parse_stmt.specs.BodyLaws.{takes_not}
use Rattle.parse_stmt.proofs.Rules.{name_target}
use Rattle.parse_stmt.proofs.simple.named.Goals as goal

pub returns-then-sees-clause-reads : goal.returns-then-sees-clause-reads
returns-then-sees-clause-reads c = IfOk-weaker c.call.result _ _ (λ s h. h _ c.in_ok-name.ensures.token) c.call.ensures.reads

pub returns-clause-reads : goal.returns-clause-reads
returns-clause-reads c =
    IfOk-weaker c.assignment.result _ _ (λ s h. h _ (takes_not c.in_ok-name.ensures.token symbol.If refl)
    (name_target c.in_ok-selects.selects c.requires.deep c.in_ok-name.ensures.token c.in_ok-selects.ensures.reads)) c.assignment.ensures.reads

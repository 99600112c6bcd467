use Rattle.std.proofs.Common.{refl}
use Rattle.std.proofs.lemmas.Result.{IfOk-weaker}
use Rattle.sv_tree.specs.Symbol.{is_always}
use Rattle.sv_tree.specs.declared.symbol.Symbol.TheVariants as symbol
use Rattle.parse_expr.specs.ParsedLaws.{token_at, ◌and◌}
use Rattle.parse_stmt.specs.BodyLaws.{class_at, takes_not}
use Rattle.parse_item.proofs.processes.always_head.Goals as goal

pub returns-then-sees-clause-first : goal.returns-then-sees-clause-first
returns-then-sees-clause-first c = takes_not c.in_ok-word.ensures.token symbol.If refl

pub returns-then-sees-2-clause-first : goal.returns-then-sees-2-clause-first
returns-then-sees-2-clause-first c = takes_not c.in_ok-word.ensures.token symbol.If refl

pub returns-clause-reads : goal.returns-clause-reads
returns-clause-reads c =
    IfOk-weaker c.clocked.result _ _ (λ x h. h _ (class_at is_always refl c.requires.deep c.in_ok-word.ensures.token
    and token_at c.requires.deep c.in_ok-mark.ensures.token and token_at c.requires.deep c.in_ok-open.ensures.token)) c.clocked.ensures.reads

pub returns-clause-first : goal.returns-clause-first
returns-clause-first c = IfOk-weaker c.clocked.result _ _ (λ x h. takes_not c.in_ok-word.ensures.token symbol.If refl) c.clocked.ensures.reads

use Rattle.std.proofs.Common.{◌∙◌, sym}
use Rattle.task_code.proofs.Bodies.{body_kept, body_direct}
use Rattle.task_code.proofs.body.body_code.Goals as goal

pub returns-then-is_clocked-clause-body : goal.returns-then-is_clocked-clause-body
returns-then-is_clocked-clause-body c =
    body_kept c.args.base.now.words.now c.args.base.now.sizes.first c.args.base.now.sizes.words c.args.process.now c.kept.result c.code_of.result c.requires.words c.requires.shadows
    (sym c.is_clocked.ensures ∙ c.if-is_clocked.true) c.kept.ensures c.code_of.ensures.stores

pub returns-clause-body : goal.returns-clause-body
returns-clause-body c =
    body_direct c.args.base.now.words.now c.args.base.now.sizes.first c.args.base.now.sizes.words c.args.process.now c.direct.result c.code_of-2.result c.requires.words c.requires.most c.requires.shadows
    (sym c.is_clocked.ensures ∙ c.if-is_clocked.false) c.direct.ensures c.code_of-2.ensures.stores

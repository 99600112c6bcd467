use Rattle.std.proofs.lemmas.Result.{IfOk-weaker, IfErr-weaker}
use Rattle.sv_parse.proofs.Whole.{whole_reads, whole_shallow, whole_fault}
use Rattle.sv_parse.proofs.sources.parse.Goals as goal

pub returns-clause-reads : goal.returns-clause-reads
returns-clause-reads c =
    IfOk-weaker c.source_tree.result _ _ (λ t h. whole_reads _ c.args.names.now c.args.tokens.now t c.in_ok-source.ensures.value h) c.source_tree.ensures.reads

pub returns-clause-shallow : goal.returns-clause-shallow
returns-clause-shallow c =
    IfOk-weaker c.source_tree.result _ _ (λ t h. whole_shallow _ c.args.names.now c.args.tokens.now t c.in_ok-source.ensures.value h) c.source_tree.ensures.reads

pub returns-clause-inside : goal.returns-clause-inside
returns-clause-inside c = IfOk-weaker c.source_tree.result _ _ (λ t h. c.in_default.ensures.first) c.source_tree.ensures.reads

pub returns-clause-fault : goal.returns-clause-fault
returns-clause-fault c =
    IfErr-weaker c.source_tree.result _ _ (λ f h. whole_fault _ c.args.names.now c.args.tokens.now f c.in_ok-source.ensures.value c.in_default.ensures.first h) c.source_tree.ensures.fault

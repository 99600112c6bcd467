use Rattle.std.proofs.lemmas.Result.{MatchResult-weaker}
use Rattle.sv_tree.specs.Tree.{tokens, source_read}
use Rattle.sv_tree.proofs.Printed.{printed_whole}
use Rattle.sv_tree.proofs.print.source.tokens_of.Goals as goal

pub returns : goal.returns
unfolding tokens source_read
returns c =
    MatchResult-weaker c.into_tokens.result c.into_tokens.ensures
    (λ list is. printed_whole list.items c.new-out.ensures is (rw c.as_slice.ensures at c.print_descriptions.ensures))
    (λ fault is. tt)

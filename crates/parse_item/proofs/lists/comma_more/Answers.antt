use Rattle.sv_tree.specs.declared.symbol.Symbol.TheVariants as symbol
use Rattle.sv_tree.specs.Symbol.{same}
use Rattle.sv_tree.specs.TreeRead.{joined}
use Rattle.parse_expr.specs.ParsedLaws.{token_at, ◌and◌, each_more}
use Rattle.parse_item.proofs.lists.comma_more.Goals as goal

pub commas-preserved : goal.commas-preserved
commas-preserved g c =
    rw c.in_ok-push.ensures.more (record {
      reads = each_more (joined (same symbol.Comma) g.T.Part.reads) c.commas.more _ c.commas.invariant.reads
          (token_at c.requires.deep c.in_ok-mark.ensures.token and c.in_ok-item.ensures.reads);
    })

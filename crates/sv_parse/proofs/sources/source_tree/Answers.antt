use Rattle.std.proofs.Common.{◌≡◌, length, subst, arith}
use Rattle.sv_tree.specs.Tree.{read_description}
use Rattle.sv_tree.specs.TreeRead.{each}
use Rattle.parse_expr.specs.Parsed.{Parsed}
use Rattle.parse_expr.specs.ParsedLaws.{each_more}
use Rattle.sv_parse.proofs.sources.source_tree.Goals as goal

pub descriptions-preserved : goal.descriptions-preserved
descriptions-preserved c =
    rw c.in_ok-push.ensures.more (record {
      reads = each_more read_description c.descriptions.descriptions c.in_ok-next.next c.descriptions.invariant.reads c.in_ok-next.ensures.reads;
    })

pub returns-clause-reads : goal.returns-clause-reads
returns-clause-reads c =
    let x = c.args.source.now in
    let ended : c.descriptions.at ≡ length x.tokens = omega (arith, c.descriptions.invariant.reads.within, c.len.ensures, c.descriptions-test.false) in
    subst (λ n. Parsed x 0 0 n (each read_description c.descriptions.descriptions)) ended c.descriptions.invariant.reads

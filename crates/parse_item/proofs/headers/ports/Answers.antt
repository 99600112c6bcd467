use Rattle.std.proofs.Common.{◌∙◌, sym, ap}
use Rattle.std.specs.Option.{is_some}
use Rattle.sv_tree.specs.Symbol.{is_direction}
use Rattle.sv_tree.specs.Tree as tree
use Rattle.sv_tree.specs.TreeRead.{one_of}
use Rattle.parse_expr.specs.ParsedLaws.{one_at, ◌and◌, asking, present}
use Rattle.parse_item.proofs.headers.ports.Goals as goal

pub returns-clause-reads : goal.returns-clause-reads
returns-clause-reads c =
    let is = ap is_direction (sym c.peek.ensures) ∙ sym c.if-not-is_direction.ensures in
    present tree.ports (record { first = c.in_ok-first.first; more = c.in_ok-more.more })
    (asking (λ s. is_some c.in_ok-first.first.direction) c.requires.within (ap is_some c.in_ok-first.ensures.direction)
    and c.in_ok-first.ensures.reads _ (present (one_of is_direction) c.in_ok-direction.direction (one_at is_direction c.requires.deep is c.in_ok-direction.ensures.token))
    and c.in_ok-more.ensures.reads)

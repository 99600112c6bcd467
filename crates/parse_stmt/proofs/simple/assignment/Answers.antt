use Rattle.std.proofs.Common.{◌∙◌, sym, ap}
use Rattle.sv_tree.specs.Symbol.{is_assign}
use Rattle.parse_stmt.proofs.Rules.{assign_stmt}
use Rattle.parse_stmt.proofs.simple.assignment.Goals as goal

pub returns-clause-reads : goal.returns-clause-reads
returns-clause-reads c = λ start first target.
    assign_stmt c.args.target c.in_ok-value.value c.requires.deep first target (ap is_assign (sym c.peek.ensures) ∙ sym c.if-not-is_assign.ensures)
    c.in_ok-mark.ensures.token c.in_ok-value.ensures.reads c.in_ok-semicolon.ensures.token

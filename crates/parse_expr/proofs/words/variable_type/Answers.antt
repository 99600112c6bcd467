use Rattle.std.proofs.Common.{sym, ap, ◌∙◌, refl, true}
use Rattle.sv_tree.specs.Symbol.{is_vector}
use Rattle.parse_expr.specs.ParsedLaws.{one_at, ◌and◌, asking}
use Rattle.parse_expr.proofs.words.variable_type.Goals as goal

pub returns-then-not-is_vector-clause-reads : goal.returns-then-not-is_vector-clause-reads
returns-then-not-is_vector-clause-reads c = asking (λ s. true) c.requires.within refl and c.in_ok-fixed.ensures.reads

pub returns-clause-reads : goal.returns-clause-reads
returns-clause-reads c =
    let next = ap is_vector (sym c.peek.ensures) ∙ sym c.if-not-is_vector.ensures in
    asking (λ s. true) c.requires.within refl
    and one_at is_vector c.requires.deep next c.in_ok-word.ensures.token and c.in_ok-sign.ensures.reads and c.in_ok-range.ensures.reads

use Rattle.std.proofs.Common.{◌+◌, ◌-◌, ◌*◌, length, map}
use Rattle.sv_tree.specs.TreeExpr.{expr, expr_read, steps, selects, step_read}
use Rattle.parse_expr.specs.Parsed.{Parsed, ParsedExpr, ParsedSteps}
use Rattle.parse_expr.proofs.Rules.{Tested}
use Rattle.parse_expr.proofs.expression.+grammar.Given as goal

-- ---- measures: what is left of the depth, and then which function of the cycle it is

abbrev pub decreases-expr : goal.decreases-expr
decreases-expr l = (200 - l.depth) * 32 + 28

abbrev pub decreases-binary : goal.decreases-binary
decreases-binary l = (200 - l.depth) * 32 + (2 * l.loosest + 5)

abbrev pub decreases-steps : goal.decreases-steps
decreases-steps l = (200 - l.depth) * 32 + (2 * l.level + 4)

abbrev pub decreases-primary : goal.decreases-primary
decreases-primary l = (200 - l.depth) * 32 + 4

abbrev pub decreases-named : goal.decreases-named
decreases-named l = (200 - l.depth) * 32 + 3

abbrev pub decreases-braced : goal.decreases-braced
decreases-braced l = (200 - l.depth) * 32 + 3

abbrev pub decreases-selects : goal.decreases-selects
decreases-selects l = (200 - l.depth) * 32 + 2

abbrev pub decreases-select : goal.decreases-select
decreases-select l = (200 - l.depth) * 32 + 1

abbrev pub decreases-list : goal.decreases-list
decreases-list l = (200 - l.depth) * 32 + 29

-- ---- loops

abbrev pub invariant-expr-choices : goal.invariant-expr-choices
invariant-expr-choices l = Tested l.source l.depth l.fn.at l.at l.choices l.last

abbrev pub decreases-expr-choices : goal.decreases-expr-choices
decreases-expr-choices l = length l.source.tokens - l.at

abbrev pub invariant-binary-loop-level : goal.invariant-binary-loop-level
invariant-binary-loop-level l = ParsedExpr l.source l.depth l.fn.at l.at l.level (expr_read l.tree)

abbrev pub invariant-steps-operators : goal.invariant-steps-operators
invariant-steps-operators l = ParsedSteps l.source l.depth l.initial.at l.at l.level (map step_read l.more)

abbrev pub decreases-steps-operators : goal.decreases-steps-operators
decreases-steps-operators l = length l.source.tokens - l.at

abbrev pub invariant-list-commas : goal.invariant-list-commas
invariant-list-commas l = record {
  first : Parsed l.source l.depth l.fn.at l.initial.at (expr l.first);
  more : Parsed l.source l.depth l.initial.at l.at (steps l.more);
}

abbrev pub decreases-list-commas : goal.decreases-list-commas
decreases-list-commas l = length l.source.tokens - l.at

abbrev pub invariant-selects-selects : goal.invariant-selects-selects
invariant-selects-selects l = Parsed l.source l.depth l.initial.at l.at (selects l.selects)

abbrev pub decreases-selects-selects : goal.decreases-selects-selects
decreases-selects-selects l = length l.source.tokens - l.at

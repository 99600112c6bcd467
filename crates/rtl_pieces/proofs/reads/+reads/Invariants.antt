use Rattle.std.proofs.Common.{◌≡◌, drop, map}
use Rattle.rtl_pieces.specs.Line.{items_in}
use Rattle.rtl_pieces.specs.Reads.{in_order, expr_reads, choice_reads}
use Rattle.rtl_pieces.proofs.reads.+reads.Given as goal

abbrev pub invariant-add_exprs-loop-expr : goal.invariant-add_exprs-loop-expr
invariant-add_exprs-loop-expr l = in_order (map (expr_reads (items_in l.line)) (drop l.expr-index l.exprs)) l.found.items ≡ in_order (map (expr_reads (items_in l.line)) l.exprs) l.initial.found.items

abbrev pub invariant-add_choices-loop-choice : goal.invariant-add_choices-loop-choice
invariant-add_choices-loop-choice l = in_order (map (choice_reads (items_in l.line)) (drop l.choice-index l.choices)) l.found.items ≡ in_order (map (choice_reads (items_in l.line)) l.choices) l.initial.found.items

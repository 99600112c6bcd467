use Rattle.std.proofs.Common.{◌≡◌, ◌∙◌, sym, ap}
use Rattle.rtl_pieces.specs.Line.{items_in}
use Rattle.rtl_pieces.specs.Reads.{choice_reads, expr_reads}
use Rattle.rtl_pieces.specs.ReadsLaws.{choice_is}
use Rattle.rtl_pieces.proofs.Noting.{noted_next}
use Rattle.rtl_pieces.proofs.reads.+reads.Goals as goal

pub add_choices-loop-choice-preserved : goal.add_choices-loop-choice-preserved
add_choices-loop-choice-preserved t c =
    let item = items_in c.args.line.now in
    let x = c.choice-item.result in
    let old = c.loop-choice.found.items in
    let part : c.add_expr-in-loop-choice.new.found.items ≡ choice_reads item x old = c.in_ok-add_expr-2.ensures ∙ ap (expr_reads item x.value) c.in_ok-add_expr.ensures ∙ sym (choice_is item x old) in
    noted_next (choice_reads item) x c.args.choices.now c.loop-choice.choice-index c.args.found.now.items old c.add_expr-in-loop-choice.new.found.items c.loop-choice-test.true c.choice-item.is part c.loop-choice.invariant

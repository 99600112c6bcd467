use Rattle.std.proofs.Common.{ℕ, ◌&&◌, ◌||◌, ap, ◌∙◌}
use Rattle.std.specs.Prelude.{nat_lt}
use Rattle.rtl_pieces.specs.Words.{noted, marked, begins, is_cut}
use Rattle.rtl_pieces.proofs.Cutting.{element_more}
use Rattle.rtl_pieces.proofs.pieces.mark_elements.Goals as goal

pub loop-element-preserved : goal.loop-element-preserved
loop-element-preserved c = λ b.
    let writer = noted c.args.writers.now in
    let item = c.args.item in
    element_more writer item b c.loop-element.element item.elements (nat_lt b item.width) (marked c.loop-element.marks b) (marked c.mark_element.new.marks b) (marked c.args.marks.now b || (nat_lt b item.width && is_cut writer item b 0 item.elements))
    c.loop-element-test.true (c.mark_element.ensures b ∙ ap (λ (place : ℕ). marked c.loop-element.marks b || (nat_lt b item.width && begins writer place b)) c.place_in.ensures) (c.loop-element.invariant b)

use Rattle.std.proofs.Common.{◌≡◌, ◌∙◌, ◌&&◌, ap}
use Rattle.std.specs.Prelude.{nat_lt}
use Rattle.std.proofs.lemmas.Bool.{lt-ltb}
use Rattle.rtl_pieces.specs.Words.{is_cut, noted, marked, pieces_of}
use Rattle.rtl_pieces.proofs.Cutting.{piece_more}
use Rattle.rtl_pieces.proofs.pieces.pieces.Goals as goal

pub loop-bit-preserved : goal.loop-bit-preserved
loop-bit-preserved c =
    let writer = noted c.args.writers.now in
    let item = c.args.item in
    let bit = c.loop-bit.bit in
    let cut = is_cut writer item bit 0 item.elements in
    let is : c.is_marked-cut.result ≡ cut = c.is_marked-cut.ensures ∙ ap (λ ms. marked ms bit) c.as_slice.ensures.value ∙ c.in_ok-cuts.ensures bit ∙ ap (λ t. t && cut) (lt-ltb bit item.width c.loop-bit-test.true) in
    piece_more (λ bit. is_cut writer item bit 0 item.elements) c.loop-bit.from bit item.width c.in_ok-from.from c.is_marked-cut.result c.loop-bit.pieces.items c.add_piece.new.pieces.items (pieces_of writer item)
    c.loop-bit.invariant.1 c.loop-bit-test.true is c.in_ok-from.ensures.from c.in_ok-from.ensures.pieces c.loop-bit.invariant.0

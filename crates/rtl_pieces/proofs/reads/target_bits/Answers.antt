use Rattle.std.proofs.Common.{◌≡◌, ℤ, ap, ◌∙◌, sym, arith}
use mir.Syntax.{w128}
use mir.Val.{to_z, of_z}
use Rattle.std.proofs.lemmas.Int.{ints}
use Rattle.rtl_pieces.specs.Line.{items_in}
use Rattle.rtl_pieces.proofs.Naming.{target_at, target_anywhere}
use Rattle.rtl_pieces.proofs.reads.target_bits.Goals as goal

pub returns-in-Some : goal.returns-in-Some
returns-in-Some c =
    let item = items_in c.args.line.now in
    let z : to_z w128 (of_z w128 c.in-Some.address) ≡ c.in-Some.address = omega (arith, ints, c.in-Some.ensures.high, c.in-Some.ensures.low) in
    target_at item c.args.target.now c.item-item.result c.in-Some.address c.bits_at.result c.item-item.ensures.value c.if-target.false c.in-Some.ensures.value
    (λ at e. c.bits_at.ensures at (z ∙ e))

pub returns-in-None : goal.returns-in-None
returns-in-None c =
    let item = items_in c.args.line.now in
    c.whole_item-in-None.ensures ∙ target_anywhere item c.args.target.now c.item-item.result c.item-item.ensures.value c.if-target.false c.in-None.ensures.value

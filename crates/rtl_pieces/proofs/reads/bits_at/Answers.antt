use Rattle.std.proofs.Common.{◌≡◌, ◌∙◌, ℤ, Option, sym, ap, arith}
use Rattle.std.specs.Option.{option_map}
use mir.Syntax.{w128}
use mir.Val.{to_z, of_z}
use Rattle.std.proofs.lemmas.Int.{ints}
use Rattle.rtl_ir.specs.declared.expr.Select.{Select}
use Rattle.rtl_pieces.specs.Line.{items_in}
use Rattle.rtl_pieces.specs.Reads.{by_select, select_part}
use Rattle.rtl_pieces.proofs.Naming.{Fits, far_element, far_select, no_select}
use Rattle.rtl_pieces.proofs.reads.bits_at.Goals as goal

pub returns-in-None : goal.returns-in-None
returns-in-None c =
    let items = items_in c.args.line.now in
    λ at e. c.whole_item.ensures ∙ no_select c.args.item at (select_part items c.in-Some.select) (sym c.in-None.is ∙ c.part_taken.ensures.value)
    ∙ sym (ap (λ (s : Option Select). by_select c.args.item at (option_map (select_part items) s)) c.in-Some.is)

pub returns-in-Some-part_taken : goal.returns-in-Some-part_taken
returns-in-Some-part_taken c =
    let items = items_in c.args.line.now in
    let b = c.bounded.ensures in
    let fits : Fits c.args.item = record { elements = b.elements; width = b.width; lsb = b.lsb; least = b.least; most = b.most } in
    let z : to_z w128 (of_z w128 c.args.address) ≡ c.args.address = omega (arith, ints, c.requires.high, c.requires.low) in
    λ at e. c.named_bits-in-Some-part_taken.ensures
    ∙ far_select c.args.item (to_z w128 (of_z w128 c.args.address)) at c.in-Some-part_taken.part (select_part items c.in-Some.select) (z ∙ e)
    (sym c.in-Some-part_taken.is ∙ c.part_taken.ensures.value) c.short.ensures fits
    ∙ sym (ap (λ (s : Option Select). by_select c.args.item at (option_map (select_part items) s)) c.in-Some.is)

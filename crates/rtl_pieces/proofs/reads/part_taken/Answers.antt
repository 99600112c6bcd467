use Rattle.std.proofs.Common.{◌≡◌, ◌∙◌, Some, ℤ, ap, arith}
use mir.Syntax.{w128}
use mir.Val.{to_z, of_z}
use Rattle.std.proofs.lemmas.Int.{ints}
use Rattle.rtl_ir.specs.declared.expr.Select.{out-Select}
use Rattle.rtl_ir.specs.declared.expr.Expr.{Expr}
use Rattle.rtl_pieces.specs.declared.item.Part.{Part}
use Rattle.std.specs.Option.{option_map}
use Rattle.rtl_pieces.specs.Named.{capped}
use Rattle.rtl_pieces.specs.Line.{items_in}
use Rattle.rtl_pieces.specs.Reads.{expr_constant, part}
use Rattle.rtl_pieces.proofs.Naming.{part_at_constant, part_of_none}
use Rattle.rtl_pieces.proofs.reads.part_taken.Goals as goal

pub returns-in-Some-clause-value : goal.returns-in-Some-clause-value
returns-in-Some-clause-value c =
    let item = items_in c.args.line.now in
    let s = c.args.select.now in
    let z : to_z w128 (of_z w128 c.in-Some.at) ≡ c.in-Some.at = omega (arith, ints, c.in-Some.ensures.most, c.in-Some.ensures.least) in
    ap (λ (p : Part). Some p) c.part.ensures ∙ ap (λ (at : ℤ). Some (part at c.bits.result (out-Select s).down)) z ∙ part_at_constant item s c.in-Some.at c.bits.result (c.in-Some.ensures.value ∙ ap (λ (e : Expr). option_map capped (expr_constant item e)) c.get.ensures) c.bits.ensures.bits

pub returns-in-None-clause-value : goal.returns-in-None-clause-value
returns-in-None-clause-value c =
    let item = items_in c.args.line.now in
    part_of_none item c.args.select.now (c.in-None.ensures.value ∙ ap (λ (e : Expr). option_map capped (expr_constant item e)) c.get.ensures)

use Rattle.std.proofs.Common.{◌≡◌, ◌<◌, ◌∙◌, ◌++◌, ◌∷◌, [], length, get_or, ap, arith}
use Rattle.rtl_pieces.specs.declared.range.BitRange.{BitRange}
use Rattle.rtl_pieces.specs.Line.{items_in}
use Rattle.rtl_pieces.specs.Writes.{target_writes}
use Rattle.rtl_pieces.proofs.Noting.{noted_next}
use Rattle.rtl_pieces.proofs.writes.add_place.Goals as goal

pub loop-target-preserved : goal.loop-target-preserved
loop-target-preserved c =
    let item = items_in c.args.line.now in
    let x = c.target-item.result in
    let parts = c.args.place.now.parts in
    let i = c.loop-target.target-index in
    let e : c.as_slice-target-items.result.now ≡ parts = cc in
    let within : i < length parts = omega (arith, ap length e) in
    let is : x ≡ get_or parts i x = cc in
    let part : c.push.new.self.items ≡ target_writes item x c.loop-target.found.items = c.in_ok-push.ensures.items ∙ ap (λ (r : BitRange). c.loop-target.found.items ++ r ∷ []) c.target_bits.ensures in
    noted_next (target_writes item) x parts i c.args.found.now.items c.loop-target.found.items c.push.new.self.items within is part c.loop-target.invariant

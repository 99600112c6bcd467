use Rattle.std.proofs.Common.{◌≡◌, ◌<◌, ◌-◌, ◌∙◌, get_or, length, Some, None, arith}
use Rattle.std.proofs.lemmas.List.{get_or_default, length-set}
use Rattle.vcd_out.proofs.Places.{link_step}
use Rattle.vcd_out.proofs.links.Links.new.Goals as goal

pub link-preserved : goal.link-preserved
link-preserved c =
    let near = c.link.invariant.0.near in
    let within : c.link.at - 1 < length c.args.keys.items = omega arith in
    let is_key : c.index-key.result.now ≡ get_or c.args.keys.items (c.link.at - 1) 0 = c.index-key.ensures ∙ get_or_default c.args.keys.items (c.link.at - 1) c.index-key.result.now 0 within in
    let bound : get_or c.args.keys.items (c.link.at - 1) 0 < c.args.bound = c.requires (c.link.at - 1) 0 within in
    let groups : length c.link.first.items ≡ c.args.bound = c.link.invariant.1 in
    let known : c.index-key.result.now < length c.link.first.items = omega arith in (
      link_step c.link.at (c.link.at - 1) c.args.keys.items c.link.first.items c.link.next.items c.index-key.result.now c.index-was.result.now c.link.invariant.0 (omega arith) is_key known
          (c.index-was.ensures ∙ get_or_default c.link.first.items c.index-key.result.now c.index-was.result.now None known),
      length-set c.link.first.items c.index-key.result.now (Some (c.link.at - 1)) ∙ groups,
    )

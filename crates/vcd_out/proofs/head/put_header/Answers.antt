use Rattle.std.specs.Prelude.{codes}
use Rattle.vcd_out.specs.Header.{declarations, values_text}
use Rattle.vcd_out.proofs.Added.{third_added}
use Rattle.vcd_out.proofs.head.put_header.Goals as goal

pub returns : goal.returns
returns c =
    third_added c.put_values.result c.args.text.now.items c.extend_from_slice.new.self.items c.declare.new.text.items c.put_values.new.text.items
    (codes "$timescale 1ns $end\n") (declarations c.args.design.now.vars c.args.design.now.scopes 0 c.args.lines.now) (values_text c.args.design.now.vars c.args.order.now)
    c.in_ok-extend_from_slice.ensures.items c.in_ok-declare.ensures c.put_values.ensures

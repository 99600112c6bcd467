use Rattle.std.proofs.Common.{◌++◌, ◌∙◌, ap}
use Rattle.std.specs.Prelude.{codes}
use Rattle.vcd_out.specs.Header.{initial_values}
use Rattle.vcd_out.proofs.Added.{third_added, where_ok}
use Rattle.vcd_out.proofs.head.put_values.Goals as goal

pub returns : goal.returns
returns c =
    third_added c.extend_from_slice-2.result c.args.text.now.items c.extend_from_slice.new.self.items c.put_initial.new.text.items c.extend_from_slice-2.new.self.items
    (codes "$enddefinitions $end\n#0\n$dumpvars\n") (initial_values c.args.design.now.vars 0 c.args.order.now) (codes "$end\n")
    c.in_ok-extend_from_slice.ensures.items (c.in_ok-put_initial.ensures ∙ ap (λ vs. c.extend_from_slice.new.self.items ++ initial_values vs 0 c.args.order.now) c.as_slice.ensures)
    (where_ok c.extend_from_slice-2.result c.put_initial.new.text.items c.extend_from_slice-2.new.self.items (codes "$end\n") c.extend_from_slice-2.ensures.items)

-- When a buffer is one for the changes of a design.
use Rattle.std.specs.Prelude.{◌≡◌, ◌≤◌, ◌+◌, vec_capacity}
use Rattle.rtl_ir.specs.declared.whole.Design.{Design}
use Rattle.vcd_out.specs.declared.change.VcdBuf.{VcdBuf}
use Rattle.vcd_out.specs.Changes.{order_of, rooms, widths_of_vars}

-- it has the order of the variables, and room for the longest text
pub record Serves (b : VcdBuf) (d : Design) : Type 0 where
  pub order : b.order.items ≡ order_of d.vars d.scopes
  pub room : 22 + rooms (widths_of_vars d.vars) b.order.items ≤ vec_capacity b.text

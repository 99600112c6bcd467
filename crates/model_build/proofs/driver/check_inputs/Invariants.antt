use Rattle.std.proofs.Common.{◌≡◌, ◌<◌, ℕ, true, false}
use Rattle.std.specs.List.{list_any}
use Rattle.rtl_ir.specs.declared.design.Port.{Port}
use Rattle.rtl_pieces.specs.Bits.{line_in, writes}
use Rattle.plan_types.specs.Drivers.{is_input}
use Rattle.model_build.proofs.driver.check_inputs.Given as goal

abbrev pub invariant-loop-number : goal.invariant-loop-number
invariant-loop-number l =
    (p b : ℕ) → p < l.number → writes (line_in l.design) l.design.procs p b ≡ true → list_any (λ (port : Port). is_input (line_in l.design) port b) l.design.ports ≡ false

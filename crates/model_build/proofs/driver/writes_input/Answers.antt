use Rattle.std.proofs.Common.{◌≡◌, List, false, sym, ap, ◌∙◌, subst}
use Rattle.std.specs.List.{list_any}
use Rattle.rtl_ir.specs.declared.design.Port.{Port}
use Rattle.rtl_pieces.specs.declared.range.BitRange.{BitRange}
use Rattle.rtl_pieces.specs.Line.{has}
use Rattle.plan_types.specs.Drivers.{is_input}
use Rattle.model_build.proofs.Reaching.{unreached}
use Rattle.model_build.proofs.driver.writes_input.Goals as goal

pub returns : goal.returns
returns c =
    λ none b written.
    subst (λ (ports : List Port). list_any (λ (port : Port). is_input c.args.line.now port b) ports ≡ false) c.as_slice.ensures
    (unreached c.args.line.now c.as_slice-2.result.now c.as_slice.result.now (sym c.has_input.ensures ∙ none) b
    (ap (λ (ranges : List BitRange). has b ranges) c.as_slice-2.ensures.value ∙ c.in_ok-ranges.ensures.same b ∙ written))

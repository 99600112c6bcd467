use Rattle.std.proofs.Common.{◌≡◌, take}
use Rattle.plan_types.specs.Machine.{result_widths}
use Rattle.run_tables.proofs.widths.result_widths.Given as goal

abbrev pub invariant-loop-import : goal.invariant-loop-import
invariant-loop-import l = l.out.items ≡ result_widths (take l.import-index l.design.imports)

use Rattle.dpi_lib.proofs.Table.{is_alone-low, is_alone-from_seven}
use Rattle.dpi_lib.proofs.host.LibHostHost.by_args.Goals as goal

pub returns-then-id-lt-NEXT : goal.returns-then-id-lt-NEXT
returns-then-id-lt-NEXT c = is_alone-low c.args.id c.if-id-lt-NEXT.true

pub returns-else-id-lt-NEXT : goal.returns-else-id-lt-NEXT
returns-else-id-lt-NEXT c = is_alone-from_seven c.args.id c.if-id-lt-NEXT.false

use Rattle.std.proofs.Common.{ap, map}
use Rattle.sv_names.specs.Noted.{description_notes}
use Rattle.sv_names.proofs.Causes.{noted_whole, only, walked_allowed}
use Rattle.sv_names.proofs.check.check_names.Goals as goal

pub returns-in-Some-clause-fault : goal.returns-in-Some-clause-fault
returns-in-Some-clause-fault c =
    let used = ap (λ n. n.used) (noted_whole (map (description_notes c.args.names.now) c.args.tree.now.descriptions) _ c.survey_source.ensures c.in-Ok.ensures) in
    walked_allowed _ c.in-Ok-One.at c.in-Some.fault (only c.args.tree.now.descriptions c.args.top used c.in-Ok-One.field-0-is (rw c.as_slice.ensures.value at c.in-Ok-One.ensures)) c.in-Some.ensures

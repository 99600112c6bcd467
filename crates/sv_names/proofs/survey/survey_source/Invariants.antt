use Rattle.std.proofs.Common.{Some}
use Rattle.sv_names.specs.Noted.{description_notes, nothing_noted}
use Rattle.sv_names.proofs.Noting.{Added}
use Rattle.sv_names.proofs.survey.survey_source.Given as goal

abbrev pub invariant-loop-at : goal.invariant-loop-at
invariant-loop-at l = Added (description_notes l.names) (Some nothing_noted) l.tree.descriptions l.at l.met

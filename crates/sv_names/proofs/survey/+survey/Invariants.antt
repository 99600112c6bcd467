use Rattle.sv_names.specs.Noted.{item_notes, branch_notes}
use Rattle.sv_names.proofs.Noting.{Added}
use Rattle.sv_names.proofs.survey.+survey.Given as goal

abbrev pub invariant-survey_items-loop-item : goal.invariant-survey_items-loop-item
invariant-survey_items-loop-item l = Added (item_notes l.names) l.initial.met l.items l.item-index l.met

abbrev pub invariant-survey_branches-loop-branch : goal.invariant-survey_branches-loop-branch
invariant-survey_branches-loop-branch l = Added (branch_notes l.names) l.initial.met l.branches l.branch-index l.met

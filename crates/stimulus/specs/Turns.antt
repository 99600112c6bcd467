-- What the act of a line makes of the acts before it.
use Rattle.std.specs.Prelude.{◌≡◌, ℕ, List, Option, Result, Ok, Err}
use Rattle.vs_base.specs.declared.act.Act.{Act}
use Rattle.stimulus.specs.declared.fault.StimFault.{StimFault}
use Rattle.stimulus.specs.Stimulus.{followed_by, after_line}

-- whatever the lines after it say, the act of line n makes these acts from those before it
abbrev pub Adds : List Act → List Act → ℕ → ℕ → ℕ → Option Act → Type 0
Adds old new n evals sum act = (more : ℕ → Result (List Act) StimFault) → followed_by old (after_line n evals (Ok act) more) ≡ followed_by new (more sum)

-- whatever the lines after it say, the act of line n has the fault
abbrev pub Refuses : ℕ → ℕ → Option Act → StimFault → Type 0
Refuses n evals act fault = (more : ℕ → Result (List Act) StimFault) → after_line n evals (Ok act) more ≡ Err fault

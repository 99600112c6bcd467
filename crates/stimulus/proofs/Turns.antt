-- The loop over the lines.
use Rattle.std.proofs.Common.{◌≡◌, ℕ, List, [], refl}
use Rattle.std.specs.Prelude.{Result, Ok, Err}
use Rattle.vs_base.specs.declared.act.Act.{Act}
use Rattle.stimulus.specs.declared.fault.StimFault.{StimFault}
use Rattle.stimulus.specs.StimulusText.{Text, lines_of, without_returns}
use Rattle.stimulus.specs.Stimulus.{StimPort, followed_by, lines_acts, stim_acts}

-- what the rest of a text says, of which the first line has this number
abbrev pub rest_acts : List StimPort → ℕ → ℕ → Text → Result (List Act) StimFault
rest_acts ports n evals rest = lines_acts ports n evals (lines_of (without_returns rest))

followed_none : (said : Result (List Act) StimFault) → followed_by [] said ≡ said
followed_none (Ok acts) = refl
followed_none (Err fault) = refl

pub starts : (ports : List StimPort) (bytes : Text) → followed_by [] (rest_acts ports 1 0 bytes) ≡ stim_acts ports bytes
unfolding stim_acts
starts ports bytes = followed_none (rest_acts ports 1 0 bytes)

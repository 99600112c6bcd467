-- What the laws of a stimulus say of an answer.
use Rattle.std.proofs.Common.{◌≡◌, ◌≤◌, List, true}
use Rattle.std.specs.Prelude.{Result, Ok, Err, IfOk}
use Rattle.std.specs.List.{list_all}
use Rattle.vs_base.specs.declared.act.Act.{Act}
use Rattle.vs_base.specs.declared.limits.TheConstants.{EVALS}
use Rattle.stimulus.specs.StimulusText.{Text}
use Rattle.stimulus.specs.Stimulus.{StimPort, stim_acts, act_fits, evals_in}
use Rattle.stimulus.specs.StimulusLaws.{acts_fit, evals_few}

module _ {V F : Type 0} (items : V → List Act) (ports : List StimPort) (bytes : Text) where
  pub answers_fit : (r : Result V F) → IfOk r (λ v. stim_acts ports bytes ≡ Ok (items v)) → IfOk r (λ v. list_all (act_fits ports) (items v) ≡ true)
  answers_fit (Ok v) h = acts_fit ports bytes (items v) h
  answers_fit (Err f) h = tt

  pub answers_few : (r : Result V F) → IfOk r (λ v. stim_acts ports bytes ≡ Ok (items v)) → IfOk r (λ v. evals_in (items v) ≤ EVALS)
  answers_few (Ok v) h = evals_few ports bytes (items v) h
  answers_few (Err f) h = tt

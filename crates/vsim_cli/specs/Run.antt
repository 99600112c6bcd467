-- What the run of a model is answered: its entries, all or up to an eval that does not converge.
use Rattle.std.specs.Prelude.{ℕ, List, [], Option, Some, None, Result, Ok, Err}
use Rattle.vs_base.specs.declared.act.Act.{Act}
use Rattle.vs_world.specs.Entries.{Entry}
use Rattle.plan_types.specs.declared.built.Built.{Built}
use Rattle.plan_types.specs.Machine.{opening}
use Rattle.stimulus.specs.declared.fault.StimFault.{StimFault}
use Rattle.stimulus.specs.Stimulus.{stim_acts, design_ports}
use Rattle.sim_session.specs.Inputs.{inputs_of}
use Rattle.sim_session.specs.Runs.{Setting, setting, session_entries, stops_at}
use Rattle.run_status.specs.Answer.{Answer, Refused, Texts, Stopped}
use Rattle.run_input.specs.Input.{Bytes}
use Rattle.fault_text.specs.FaultText.{stimulus_text, not_converged}
use Rattle.vsim_cli.specs.Case.{Command, HostView}

abbrev pub setting_of : Command → HostView → Built → Setting
setting_of c h b = setting h.answer h.after b c.texts

-- what a run does, entry by entry
abbrev pub run_entries : Command → HostView → Built → List Act → List Entry
run_entries c h b acts = session_entries (setting_of c h b) (opening b h.fixed h.state) (inputs_of b.design acts)

-- the first eval that does not converge
abbrev pub run_stop : Command → HostView → Built → List Act → Option ℕ
run_stop c h b acts = stops_at (setting_of c h b) (opening b h.fixed h.state) (inputs_of b.design acts)

abbrev pub whole_or_stopped : List Entry → Option ℕ → Answer
whole_or_stopped entries None = Texts entries
whole_or_stopped entries (Some eval) = Stopped entries (not_converged eval)

abbrev pub run_answer : Command → HostView → Built → List Act → Answer
run_answer c h b acts = whole_or_stopped (run_entries c h b acts) (run_stop c h b acts)

-- the acts of the stimulus are run, or it is refused
abbrev pub acts_answer : Command → HostView → Built → Result (List Act) StimFault → Answer
acts_answer c h b (Ok acts) = run_answer c h b acts
acts_answer c h b (Err f) = Refused (stimulus_text f)

abbrev pub bytes_answer : Command → HostView → Built → Bytes → Answer
bytes_answer c h b bytes = acts_answer c h b (stim_acts (design_ports b.design) bytes)

-- a check ends where the model stands; otherwise the stimulus is read and run
abbrev pub built_answer : Command → HostView → Built → Option Bytes → Answer
built_answer c h b None = Texts []
built_answer c h b (Some bytes) = bytes_answer c h b bytes

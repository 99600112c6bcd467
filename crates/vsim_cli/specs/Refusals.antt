-- How a command ends by each refusal: by the line of a fault, by that of a world fault, or by want of memory.
use Rattle.std.specs.Prelude.{ℕ, List, [], length, if◌then◌else◌, nat_lt}
use Rattle.vs_world.specs.declared.world.Stream.{Stream}
use Rattle.vs_world.specs.declared.world.Stream.TheVariants.{Out, Errors, Calls, Vcd}
use Rattle.model_build.specs.declared.fault.BuildFault.{BuildFault}
use Rattle.model_build.specs.declared.fault.BuildFault.TheVariants as build
use Rattle.sim_session.specs.declared.texts.Texts.{Texts}
use Rattle.sim_session.specs.declared.fault.SessionFault.{SessionFault}
use Rattle.sim_session.specs.declared.fault.SessionFault.TheVariants as session
use Rattle.sim_session.specs.Runs.{creations}
use Rattle.run_status.specs.Lines.{Text, not_created, not_written}
use Rattle.run_status.specs.Answer.{Ending, Refusing, Failing, Wanting}
use Rattle.fault_text.specs.FaultText.{bad_number, not_converged}
use Rattle.fault_text.specs.Endings.{reading_end, lexing_end, preprocessing_end, parsing_end, design_end, stimulus_end}
use Rattle.vsim_cli.specs.Case.{Command, name_or_none, source_name}
use Rattle.vsim_cli.specs.Model.{model_text}
use Rattle.vsim_cli.specs.declared.refusal.Refusal.{Refusal}
use Rattle.vsim_cli.specs.declared.refusal.Refusal.TheVariants as refusal

abbrev pub model_end : List Text → BuildFault → Ending
model_end files (build.NoMemory e) = Wanting
model_end files f = Refusing (model_text files f)

-- the name of a stream's file
abbrev pub file_of : Texts → Stream → Text
file_of texts Out = []
file_of texts Errors = []
file_of texts Calls = name_or_none texts.calls
file_of texts Vcd = name_or_none texts.vcd

-- the world failed at the entry after so many, which is on this stream; the creations come first
abbrev pub stop_text : Texts → Stream → ℕ → Text
stop_text texts stream pieces = if nat_lt pieces (length (creations texts)) then not_created (file_of texts stream) else not_written stream

abbrev pub run_end : Texts → SessionFault → Ending
run_end texts session.NoMemory = Wanting
run_end texts (session.World stream pieces bytes) = Failing (stop_text texts stream pieces)
run_end texts (session.NotConverged eval) = Refusing (not_converged eval)

abbrev pub ending_of : Command → List Text → Refusal → Ending
ending_of c table refusal.NoMemory = Wanting
ending_of c table (refusal.Reading source f) = reading_end (source_name c source) f
ending_of c table (refusal.Lexing f) = lexing_end c.files f
ending_of c table (refusal.Preprocessing f) = preprocessing_end c.files table f
ending_of c table (refusal.Number at) = Refusing (bad_number c.files at)
ending_of c table (refusal.Parsing f token) = parsing_end c.files table token f
ending_of c table (refusal.Design f) = design_end c.files table f
ending_of c table (refusal.Model f) = model_end c.files f
ending_of c table (refusal.Stimulus f) = stimulus_end f
ending_of c table (refusal.Run f) = run_end c.texts f

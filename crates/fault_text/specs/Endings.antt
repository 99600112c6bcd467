-- How a command ends by each fault: it is refused by the fault's text, or memory ran out, or a file was not read.
use Rattle.std.specs.Prelude.{List, Option}
use Rattle.vs_world.specs.declared.whole.ReadFault.{ReadFault}
use Rattle.vs_world.specs.declared.whole.ReadFault.TheVariants as reading
use Rattle.sv_tree.specs.declared.token.Token.{Token}
use Rattle.sv_lex.specs.declared.file.LexFault.{LexFault}
use Rattle.sv_lex.specs.declared.file.LexFault.TheVariants as lexing
use Rattle.sv_pp.specs.declared.fault.PpFault.{PpFault}
use Rattle.sv_pp.specs.declared.fault.PpFault.TheVariants as preprocessing
use Rattle.parse_expr.specs.declared.fault.ParseFault.{ParseFault}
use Rattle.parse_expr.specs.declared.fault.ParseFault.TheVariants as parsing
use Rattle.sv_names.specs.declared.fault.DesignFault.{DesignFault}
use Rattle.sv_names.specs.declared.fault.DesignFault.TheVariants as design
use Rattle.stimulus.specs.declared.fault.StimFault.{StimFault}
use Rattle.stimulus.specs.declared.fault.StimFault.TheVariants as stim
use Rattle.run_status.specs.Lines.{Text, not_read}
use Rattle.run_status.specs.Answer.{Ending, Refusing, Failing, Wanting}
use Rattle.fault_text.specs.FaultText.{too_long, lexing_text, preprocessing_text, parsing_text, design_text, stimulus_text}

abbrev pub reading_end : Text → ReadFault → Ending
reading_end name reading.World = Failing (not_read name)
reading_end name reading.TooLong = Refusing (too_long name)
reading_end name reading.NoMemory = Wanting

abbrev pub lexing_end : List Text → LexFault → Ending
lexing_end files lexing.NoMemory = Wanting
lexing_end files f = Refusing (lexing_text files f)

abbrev pub preprocessing_end : List Text → List Text → PpFault → Ending
preprocessing_end files table preprocessing.NoMemory = Wanting
preprocessing_end files table f = Refusing (preprocessing_text files table f)

abbrev pub parsing_end : List Text → List Text → Option Token → ParseFault → Ending
parsing_end files table token parsing.NoMemory = Wanting
parsing_end files table token f = Refusing (parsing_text files table token f)

abbrev pub design_end : List Text → List Text → DesignFault → Ending
design_end files table design.NoMemory = Wanting
design_end files table f = Refusing (design_text files table f)

abbrev pub stimulus_end : StimFault → Ending
stimulus_end stim.NoMemory = Wanting
stimulus_end f = Refusing (stimulus_text f)

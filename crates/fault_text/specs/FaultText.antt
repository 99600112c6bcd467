-- The text of every fault, in the order of docs/FORMATS.md.
use Rattle.std.specs.Prelude.{ℕ, List, [], ◌∷◌, ◌++◌, length, drop, get_or, Option, Some, None, codes, decimal}
use Rattle.vs_base.specs.declared.origin.Origin.{Origin}
use Rattle.sv_tree.specs.declared.token.Token.{Token}
use Rattle.sv_lex.specs.declared.file.LexFault.{LexFault}
use Rattle.sv_lex.specs.declared.file.LexFault.TheVariants as lexing
use Rattle.sv_pp.specs.declared.fault.PpFault.{PpFault}
use Rattle.sv_pp.specs.declared.fault.PpFault.TheVariants as preprocessing
use Rattle.parse_expr.specs.declared.fault.ParseFault.{ParseFault}
use Rattle.parse_expr.specs.declared.fault.ParseFault.TheVariants as parsing
use Rattle.sv_names.specs.declared.fault.DesignFault.{DesignFault}
use Rattle.sv_names.specs.declared.fault.DesignFault.TheVariants as design
use Rattle.vs_base.specs.declared.limits.Kind.{Kind}
use Rattle.vs_base.specs.declared.limits.Kind.TheVariants as kind
use Rattle.stimulus.specs.declared.fault.StimFault.{StimFault}
use Rattle.stimulus.specs.declared.fault.StimFault.TheVariants as stim
use Rattle.run_status.specs.Lines.{Text, placed_text, listed_text, out_of_memory}

-- a text about a place: the file's name, the line and the column stand before it
abbrev pub at_place : List Text → Origin → Text → Text
at_place files at text = placed_text (get_or files at.file []) (decimal at.line) (decimal at.col) text

abbrev pub usage : Text
usage = codes "usage"

abbrev pub too_long : Text → Text
too_long file = file ++ codes ": longer than 4194304 bytes"

-- ---- tokens

abbrev pub lexing_text : List Text → LexFault → Text
lexing_text files (lexing.BadChar at) = at_place files at (codes "bad character")
lexing_text files (lexing.OpenComment at) = at_place files at (codes "open comment")
lexing_text files (lexing.OpenString at) = at_place files at (codes "open string")
lexing_text files lexing.TooMany = codes "too many tokens"
lexing_text files lexing.NoMemory = out_of_memory

-- ---- directives

-- a name's spelling
abbrev pub text_of : List Text → ℕ → Text
text_of table name = get_or table name []

-- a name's spelling without the backquote
abbrev pub unquoted : List Text → ℕ → Text
unquoted table name = drop 1 (text_of table name)

abbrev pub preprocessing_text : List Text → List Text → PpFault → Text
preprocessing_text files table (preprocessing.UnknownMacro at name) = at_place files at (codes "unknown macro " ++ unquoted table name.0)
preprocessing_text files table (preprocessing.MacroDepth at) = at_place files at (codes "macros too deep")
preprocessing_text files table (preprocessing.OpenIf at) = at_place files at (codes "open ifdef")
preprocessing_text files table (preprocessing.StrayElse at) = at_place files at (codes "stray else")
preprocessing_text files table (preprocessing.Directive at name) = at_place files at (codes "directive " ++ unquoted table name.0)
preprocessing_text files table preprocessing.TooMany = codes "too many tokens"
preprocessing_text files table preprocessing.NoMemory = out_of_memory

-- ---- the active tokens

abbrev pub spelled : List Text → Option Token → Text
spelled table None = []
spelled table (Some t) = text_of table t.name.0

-- a text about a token, or about the end where there is no such token
abbrev pub of_token : List Text → Option Token → Text → Text → Text
of_token files None text end = end
of_token files (Some t) text end = at_place files t.at text

abbrev pub bad_number : List Text → Origin → Text
bad_number files at = at_place files at (codes "bad number")

-- a fault and the token that has its number, where there is one
abbrev pub parsing_text : List Text → List Text → Option Token → ParseFault → Text
parsing_text files table token (parsing.Construct k) = of_token files token (codes "not in this subset: " ++ spelled table token) []
parsing_text files table token (parsing.Syntax k) = of_token files token (codes "syntax error") (codes "syntax error at end of input")
parsing_text files table token (parsing.TooDeep k) = of_token files token (codes "nested too deep") (codes "nested too deep")
parsing_text files table token parsing.NoMemory = out_of_memory

-- ---- the design

abbrev pub kind_text : Kind → Text
kind_text kind.Tokens = codes "tokens"
kind_text kind.Instances = codes "instances"
kind_text kind.Processes = codes "processes"
kind_text kind.Terms = codes "terms"
kind_text kind.Calls = codes "calls"
kind_text kind.Words = codes "words"
kind_text kind.Nodes = codes "nodes"
kind_text kind.Edges = codes "edges"

-- past its limit
abbrev pub too_many : Kind → Text
too_many k = codes "too many " ++ kind_text k

abbrev pub design_text : List Text → List Text → DesignFault → Text
design_text files table design.NoTop = codes "no top module"
design_text files table design.ManyTops = codes "many top modules"
design_text files table (design.Duplicate at name) = at_place files at (codes "duplicate " ++ text_of table name.0)
design_text files table (design.UnknownModule at name) = at_place files at (codes "unknown module " ++ text_of table name.0)
design_text files table (design.SelfInstance at) = at_place files at (codes "instance of itself")
design_text files table (design.UnknownPort at) = at_place files at (codes "unknown port")
design_text files table (design.UnknownParam at) = at_place files at (codes "unknown parameter")
design_text files table (design.UnknownName at name) = at_place files at (codes "unknown name " ++ text_of table name.0)
design_text files table (design.WrongUse at name) = at_place files at (codes "wrong use of " ++ text_of table name.0)
design_text files table (design.WrongAssign at) = at_place files at (codes "wrong assignment")
design_text files table (design.NotConstant at) = at_place files at (codes "not constant")
design_text files table (design.BadImport at) = at_place files at (codes "bad import")
design_text files table (design.TooWide at) = at_place files at (codes "too wide")
design_text files table (design.BadRange at) = at_place files at (codes "bad range")
design_text files table (design.BadEvent at name) = at_place files at (codes "bad event " ++ text_of table name.0)
design_text files table (design.LoopTurns at) = at_place files at (codes "too many loop turns")
design_text files table (design.TooMany k) = too_many k
design_text files table design.NoMemory = out_of_memory

-- ---- the model

-- a bit that two processes write, with the places of the first two
abbrev pub two_drivers : List Text → Text → Origin → Origin → Text
two_drivers files bit one two = listed_text files (codes "two drivers of " ++ bit) (one ∷ two ∷ [])

abbrev pub unknown_import : Text → Text
unknown_import name = codes "import " ++ name ++ codes " is unknown"

abbrev pub not_by_arguments : Text → Text
not_by_arguments name = codes "import " ++ name ++ codes " does not answer by arguments alone"

-- processes that wait for each other
abbrev pub loop_text : List Text → List Origin → Text
loop_text files places = listed_text files (codes "loop of " ++ decimal (length places)) places

-- ---- the stimulus

abbrev pub of_line : ℕ → Text → Text
of_line line text = codes "stimulus line " ++ decimal line ++ text

abbrev pub stimulus_text : StimFault → Text
stimulus_text (stim.BadLine line) = of_line line (codes ": bad line")
stimulus_text (stim.UnknownInput line) = of_line line (codes ": unknown input")
stimulus_text (stim.ValueTooWide line) = of_line line (codes ": value too wide")
stimulus_text (stim.TooManyEvals line) = of_line line (codes ": too many evals")
stimulus_text stim.NoMemory = out_of_memory

-- ---- the run

-- the eval of this number, from 0, goes on in rounds without end
abbrev pub not_converged : ℕ → Text
not_converged eval = codes "eval " ++ decimal eval ++ codes ": not converged"

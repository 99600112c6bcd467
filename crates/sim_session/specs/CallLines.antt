-- The lines of an eval's calls in the call log.
use Rattle.std.specs.Prelude.{ℕ, List, [], ◌∷◌, ◌++◌, codes, decimal, Option, Some, None, slice_get}
use Rattle.vs_base.specs.Number.{kept}
use Rattle.vs_base.specs.declared.types.ValueType.{ValueType}
use Rattle.rtl_ir.specs.declared.design.Import.{Import}
use Rattle.dpi_host.specs.Calls.{Call}
use Rattle.sim_session.specs.Lines.{hex_text}

-- arguments at the widths of their types, with what separates them; this stands before the first
abbrev pub args_text : List ℕ → List ValueType → List ℕ → List ℕ
args_text before [] args = []
args_text before (t ∷ types) [] = []
args_text before (t ∷ types) (a ∷ args) = before ++ (hex_text (kept t.width a) ++ args_text (codes ",") types args)

-- the reply, where the result is not void
abbrev pub reply_text : Option ValueType → ℕ → List ℕ
reply_text (Some t) reply = codes " = " ++ hex_text (kept t.width reply)
reply_text None reply = []

-- a call: the name of its import, and in parentheses the arguments, and the reply
abbrev pub rest_text : Import → Call → List ℕ
rest_text i c = args_text [] i.args c.args ++ (codes ")" ++ reply_text i.result c.reply)

abbrev pub import_text : Import → Call → List ℕ
import_text i c = i.name ++ (codes "(" ++ rest_text i c)

-- its line, in eval k
abbrev pub call_of : ℕ → Option Import → Call → List ℕ
call_of k (Some i) c = (decimal k ++ codes " ") ++ (import_text i c ++ codes "\n")
call_of k None c = []

abbrev pub call_line : List Import → ℕ → Call → List ℕ
call_line imports k c = call_of k (slice_get imports c.import) c

-- the calls of eval k, in order
abbrev pub call_lines : List Import → ℕ → List Call → List ℕ
call_lines imports k [] = []
call_lines imports k (c ∷ more) = call_line imports k c ++ call_lines imports k more

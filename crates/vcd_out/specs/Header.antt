-- The header of a waveform (IEEE 1800-2017 21.7.2).
use Rattle.std.specs.Prelude.{ℕ, suc, ◌==◌, ◌+◌, ◌-◌, Bool, List, [], ◌∷◌, ◌++◌, codes, decimal, Option, Some, None, slice_get, if◌then◌else◌}
use Rattle.std.specs.List.{flat_map, list_any}
use Rattle.std.specs.Borrow.{Bor}
use Rattle.rtl_ir.specs.declared.design.Var.{Var}
use Rattle.rtl_ir.specs.declared.design.FlatScope.{FlatScope}
use Rattle.vcd_out.specs.declared.layout.Line.{Line}
use Rattle.vcd_out.specs.declared.layout.Line.TheVariants.{Opens, Declares, Closes}
use Rattle.vcd_out.specs.Layout.{lines_of, order_in}
use Rattle.vcd_out.specs.Code.{code_of}
use Rattle.vcd_out.specs.Values.{value_line}

-- the bytes of pieces, one after another
abbrev pub joined : List (Bor (List ℕ)) → List ℕ
joined pieces = flat_map (λ p. p.now) pieces

abbrev pub is_dot : ℕ → Bool
is_dot b = b == 46

-- what stands after the last dot of a path
abbrev pub segment : List ℕ → List ℕ
segment [] = []
segment (b ∷ more) = if list_any is_dot (b ∷ more) then segment more else b ∷ more

-- the word for a generate block or an instance
abbrev pub kind_text : Bool → List ℕ
kind_text block = if block then codes "begin " else codes "module "

-- the line at which a scope begins
abbrev pub scope_text : FlatScope → List ℕ
scope_text s = codes "$scope " ++ (kind_text s.block ++ (segment s.path ++ codes " $end\n"))

-- the range of more than one bit
abbrev pub range_text : Var → List ℕ
range_text v = if v.width == 1 then [] else codes " [" ++ (decimal (v.lsb + (v.width - 1)) ++ (codes ":" ++ (decimal v.lsb ++ codes "]")))

-- the line of the variable that stands after so many others
abbrev pub var_text : ℕ → Var → List ℕ
var_text k v = codes "$var wire " ++ (decimal v.width ++ (codes " " ++ (code_of k ++ (codes " " ++ (v.name ++ (range_text v ++ codes " $end\n"))))))

abbrev pub text_of_scope : Option FlatScope → List ℕ
text_of_scope None = []
text_of_scope (Some s) = scope_text s

abbrev pub text_of_var : ℕ → Option Var → List ℕ
text_of_var k None = []
text_of_var k (Some v) = var_text k v

-- a line, where so many variables stand before it
abbrev pub line_text : List Var → List FlatScope → ℕ → Line → List ℕ
line_text vars scopes k (Opens s) = text_of_scope (slice_get scopes s)
line_text vars scopes k (Declares v) = text_of_var k (slice_get vars v)
line_text vars scopes k Closes = codes "$upscope $end\n"

-- how many variables stand before the next line
abbrev pub counted : ℕ → Line → ℕ
counted k (Opens s) = k
counted k (Declares v) = suc k
counted k Closes = k

-- lines, where so many variables stand before them
abbrev pub declarations : List Var → List FlatScope → ℕ → List Line → List ℕ
declarations vars scopes k [] = []
declarations vars scopes k (line ∷ more) = line_text vars scopes k line ++ declarations vars scopes (counted k line) more

abbrev pub initial_line : ℕ → Option Var → List ℕ
initial_line k None = []
initial_line k (Some v) = value_line k v.init

-- the initial values of variables, where so many stand before them
abbrev pub initial_values : List Var → ℕ → List ℕ → List ℕ
initial_values vars k [] = []
initial_values vars k (v ∷ more) = initial_line k (slice_get vars v) ++ initial_values vars (suc k) more

-- what stands after the scopes and variables
abbrev pub values_text : List Var → List ℕ → List ℕ
values_text vars order = codes "$enddefinitions $end\n#0\n$dumpvars\n" ++ (initial_values vars 0 order ++ codes "$end\n")

-- the header of these lines, and of variables in this order
abbrev pub header_of : List Var → List FlatScope → List Line → List ℕ → List ℕ
header_of vars scopes lines order = codes "$timescale 1ns $end\n" ++ (declarations vars scopes 0 lines ++ values_text vars order)

-- the header of a design's variables and scopes
abbrev pub header_text : List Var → List FlatScope → List ℕ
header_text vars scopes = header_of vars scopes (lines_of vars scopes) (order_in (lines_of vars scopes))

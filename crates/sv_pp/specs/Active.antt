-- The active tokens of a list of files: what preprocessing leaves of them (IEEE 1800-2017 22.5, 22.6).
use Rattle.std.specs.Prelude.{ℕ, zero, suc, ◌+◌, Bool, true, false, not, ◌&&◌, ◌||◌, if◌then◌else◌, ◌==◌, List, [], ◌∷◌, take, length, Option, Some, None, codes}
use Rattle.std.specs.Option.{is_some}
use Rattle.std.specs.List.{list_all, prefix_len}
use Rattle.std.specs.Str.{bytes_eq}
use Rattle.sv_tree.specs.declared.token.Token.{Token}
use Rattle.vs_base.specs.declared.origin.Origin.{Origin}
use Rattle.sv_pp.specs.declared.fault.PpFault.{PpFault}
use Rattle.sv_pp.specs.declared.fault.PpFault.TheVariants as fault
use Rattle.sv_pp.specs.declared.directive.Role.{Role}
use Rattle.sv_pp.specs.declared.directive.Role.TheVariants.{Define, Undef, Ifdef, Ifndef, Else, Endif, Ignored, Refused, Use}
use Rattle.sv_pp.specs.Directive.{Text, role_of, is_use}
use Rattle.sv_pp.specs.Reading.{Reading, silent, active, stopped, joined, text_of, named_by, is_directive, is_name, Macros, no_macros, with_macro, use_reading}

-- ---- where a file has been read to

-- an open `ifdef` or `ifndef`: its place, whether the branch that is read is the one taken, and whether that is the one after `else`
pub record Branch : Type 0 where
  pub at : Origin
  pub taken : Bool
  pub is_else : Bool

-- the macros that are defined, and the open branches, the innermost first
pub record State : Type 0 where
  pub macros : Macros
  pub branches : List Branch

abbrev pub is_taken : Branch → Bool
is_taken b = b.taken

-- tokens are active where each open branch is the one taken
abbrev pub is_active : State → Bool
is_active s = list_all is_taken s.branches

-- what a token does with those after it: what is read, how many of those after it belong to it, and the state after them
pub record Step : Type 0 where
  pub reading : Reading
  pub more : ℕ
  pub after : State

-- a step that takes so many further tokens, all of them silent
abbrev pub quiet : ℕ → State → Step
quiet more after = record { reading = silent (suc more); more = more; after = after }

-- a fault after the token and so many further ones
abbrev pub faulty : ℕ → PpFault → State → Step
faulty more f s = record { reading = stopped (suc more) f; more = more; after = s }

-- ---- definitions (22.5.1, 22.5.2)

abbrev pub is_on : ℕ → Token → Bool
is_on line t = t.at.line == line

-- how many of the tokens begin on the line that goes on
abbrev pub line_length : ℕ → List Token → ℕ
line_length line ts = prefix_len (is_on line) ts

-- `(` in the column right after the name
abbrev pub opens_arguments : List Text → Token → List Token → Bool
opens_arguments names name [] = false
opens_arguments names name (t ∷ ts) = t.at.line == name.at.line && t.at.col == name.at.col + length (text_of names name) && bytes_eq (text_of names t) (codes "(")

-- names that may not be defined: those of directives, and those with arguments
abbrev pub is_undefinable : List Text → Token → List Token → Bool
is_undefinable names name rest = not (is_use (role_of (text_of names name))) || opens_arguments names name rest

abbrev pub with_body : List Text → State → Token → Option (List Token) → State
with_body names s name body = record { macros = with_macro s.macros (text_of names name) body; branches = s.branches }

-- after the name: the tokens that begin on its line
abbrev pub define_as : List Text → State → Token → List Token → ℕ → Step
define_as names s name rest more = quiet (suc more) (with_body names s name (Some (take more rest)))

abbrev pub define_step : List Text → State → Token → List Token → Step
define_step names s t [] = faulty 0 (fault.Directive t.at t.name) s
define_step names s t (name ∷ rest) =
    if is_name name.kind && is_on t.at.line name
    then (if is_undefinable names name rest then faulty 1 (fault.Directive t.at t.name) s else define_as names s name rest (line_length t.at.line rest))
    else faulty 0 (fault.Directive t.at t.name) s

-- a directive that wants a name, which may stand on a later line
abbrev pub named_step : State → Token → (Token → Step) → List Token → Step
named_step s t with_name [] = faulty 0 (fault.Directive t.at t.name) s
named_step s t with_name (name ∷ rest) = if is_name name.kind then with_name name else faulty 0 (fault.Directive t.at t.name) s

abbrev pub undef_as : List Text → State → Token → Step
undef_as names s name = quiet 1 (with_body names s name None)

abbrev pub undef_step : List Text → State → Token → List Token → Step
undef_step names s t rest = named_step s t (undef_as names s) rest

-- ---- branches (22.6)

abbrev pub opened : State → Branch → State
opened s b = record { macros = s.macros; branches = b ∷ s.branches }

abbrev pub is_defined : List Text → State → Token → Bool
is_defined names s name = is_some (s.macros (text_of names name))

-- `ifdef` takes its first branch where the name is defined, `ifndef` where it is not
abbrev pub open_as : List Text → (Bool → Bool) → State → Token → Token → Step
open_as names test s t name = quiet 1 (opened s (record { at = t.at; taken = test (is_defined names s name); is_else = false }))

abbrev pub if_step : List Text → (Bool → Bool) → State → Token → List Token → Step
if_step names test s t rest = named_step s t (open_as names test s t) rest

abbrev pub same : Bool → Bool
same b = b

abbrev pub else_by : List Branch → State → Token → Step
else_by [] s t = faulty 0 (fault.StrayElse t.at) s
else_by (b ∷ bs) s t =
    if b.is_else then faulty 0 (fault.StrayElse t.at) s else quiet 0 (record { macros = s.macros; branches = record { at = b.at; taken = not b.taken; is_else = true } ∷ bs })

abbrev pub endif_by : List Branch → State → Token → Step
endif_by [] s t = faulty 0 (fault.StrayElse t.at) s
endif_by (b ∷ bs) s t = quiet 0 (record { macros = s.macros; branches = bs })

-- ---- tokens of a file

-- how deep macros may nest
abbrev pub most_levels : ℕ
most_levels = 64

-- where tokens are not active, only the four of branches are looked at
abbrev pub skipped_step : List Text → State → Role → Token → List Token → Step
skipped_step names s Ifdef t rest = if_step names same s t rest
skipped_step names s Ifndef t rest = if_step names not s t rest
skipped_step names s Else t rest = else_by s.branches s t
skipped_step names s Endif t rest = endif_by s.branches s t
skipped_step names s _ t rest = quiet 0 s

-- the use of a macro
abbrev pub use_step : List Text → State → Token → Step
use_step names s t = record { reading = use_reading names s.macros t.at most_levels t; more = 0; after = s }

abbrev pub directive_step : List Text → State → Role → Token → List Token → Step
directive_step names s Define t rest = define_step names s t rest
directive_step names s Undef t rest = undef_step names s t rest
directive_step names s Ifdef t rest = if_step names same s t rest
directive_step names s Ifndef t rest = if_step names not s t rest
directive_step names s Else t rest = else_by s.branches s t
directive_step names s Endif t rest = endif_by s.branches s t
directive_step names s Ignored t rest = quiet (line_length t.at.line rest) s
directive_step names s Refused t rest = faulty 0 (fault.Directive t.at t.name) s
directive_step names s Use t rest = use_step names s t

abbrev pub plain_step : State → Token → Step
plain_step s t = record { reading = if is_active s then active t else silent 1; more = 0; after = s }

-- a token and those after it
abbrev pub step : List Text → State → Token → List Token → Step
step names s t rest =
    if is_directive t.kind
    then (if is_active s then directive_step names s (role_of (named_by names t)) t rest else skipped_step names s (role_of (named_by names t)) t rest)
    else plain_step s t

-- ---- files

abbrev pub outermost : Branch → List Branch → Origin
outermost b [] = b.at
outermost b (c ∷ bs) = outermost c bs

-- at a file's end no branch may be open
abbrev pub end_reading : List Branch → Reading → Reading
end_reading [] next = next
end_reading (b ∷ bs) next = stopped 0 (fault.OpenIf (outermost b bs))

abbrev pub after_step : Step → (ℕ → State → Reading) → Reading
after_step st rest = joined st.reading (rest st.more st.after)

-- the tokens of a file, after so many that belong to the last step, and then what follows the file
abbrev pub file_reading : List Text → (Macros → Reading) → ℕ → State → List Token → Reading
file_reading names next left s [] = end_reading s.branches (next s.macros)
file_reading names next (suc left) s (t ∷ ts) = file_reading names next left s ts
file_reading names next zero s (t ∷ ts) = after_step (step names s t ts) (λ left after. file_reading names next left after ts)

abbrev pub at_start : Macros → State
at_start macros = record { macros = macros; branches = [] }

-- the files in order, with one set of macros
abbrev pub files_reading : List Text → Macros → List (List Token) → Reading
files_reading names macros [] = silent 0
files_reading names macros (ts ∷ files) = file_reading names (λ after. files_reading names after files) 0 (at_start macros) ts

-- the reading of a list of files
unfoldable pub reading : List Text → List (List Token) → Reading
reading names files = files_reading names no_macros files

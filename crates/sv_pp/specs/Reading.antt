-- What reading some tokens gives, and the reading of a macro's use (IEEE 1800-2017 22.5.1).
use Rattle.std.specs.Prelude.{ℕ, zero, suc, ◌+◌, Bool, true, false, if◌then◌else◌, List, [], ◌∷◌, ◌++◌, drop, get_or, Option, Some, None}
use Rattle.std.specs.Str.{bytes_eq}
use Rattle.sv_tree.specs.declared.token.TokenKind.{TokenKind}
use Rattle.sv_tree.specs.declared.token.TokenKind.TheVariants as kind
use Rattle.sv_tree.specs.declared.token.Token.{Token}
use Rattle.vs_base.specs.declared.origin.Origin.{Origin}
use Rattle.sv_pp.specs.declared.fault.PpFault.{PpFault}
use Rattle.sv_pp.specs.declared.fault.PpFault.TheVariants.{UnknownMacro, MacroDepth, Directive}
use Rattle.sv_pp.specs.declared.directive.Role.{Role}
use Rattle.sv_pp.specs.declared.directive.Role.TheVariants.{Use}
use Rattle.sv_pp.specs.Directive.{Text, role_of}

-- ---- readings

-- the active tokens in order, how many tokens are read for them, and the first fault, if there is one
pub record Reading : Type 0 where
  pub tokens : List Token
  pub count : ℕ
  pub fault : Option PpFault

-- so many tokens read, none of them active
abbrev pub silent : ℕ → Reading
silent count = record { tokens = []; count = count; fault = None }

-- one token read, and active
abbrev pub active : Token → Reading
active t = record { tokens = t ∷ []; count = 1; fault = None }

-- a fault after so many tokens
abbrev pub stopped : ℕ → PpFault → Reading
stopped count fault = record { tokens = []; count = count; fault = Some fault }

abbrev pub joined_by : Option PpFault → Reading → Reading → Reading
joined_by None first second = record { tokens = first.tokens ++ second.tokens; count = first.count + second.count; fault = second.fault }
joined_by (Some fault) first second = first

-- one reading after the other: after a fault nothing is read
abbrev pub joined : Reading → Reading → Reading
joined first second = joined_by first.fault first second

-- ---- spellings

abbrev pub text_of : List Text → Token → Text
text_of names t = get_or names t.name.0 []

-- the name after the backquote
abbrev pub named_by : List Text → Token → Text
named_by names t = drop 1 (text_of names t)

abbrev pub is_directive : TokenKind → Bool
is_directive kind.Directive = true
is_directive _ = false

abbrev pub is_name : TokenKind → Bool
is_name kind.Name = true
is_name _ = false

-- ---- macros

-- the text of each macro that is defined, by its name
abbrev pub Macros : Type 0
Macros = Text → Option (List Token)

abbrev pub no_macros : Macros
no_macros name = None

-- a macro is defined, or forgotten
abbrev pub with_macro : Macros → Text → Option (List Token) → Macros
with_macro macros name body other = if bytes_eq other name then body else macros other

-- ---- uses of macros

-- the token at the place of the use in whose stead it is read
abbrev pub placed : Origin → Token → Token
placed at t = record { kind = t.kind; name = t.name; at = at }

-- tokens read one by one
abbrev pub each_reading : (Token → Reading) → List Token → Reading
each_reading reading [] = silent 0
each_reading reading (t ∷ ts) = joined (reading t) (each_reading reading ts)

-- a directive in a macro's text: only a use may stand there
abbrev pub inner_use : Origin → (Token → Reading) → Role → Token → Reading
inner_use at inner Use t = inner t
inner_use at inner _ t = stopped 1 (Directive at t.name)

-- a token of a macro's text
abbrev pub inner_reading : List Text → Origin → (Token → Reading) → Token → Reading
inner_reading names at inner t = if is_directive t.kind then inner_use at inner (role_of (named_by names t)) t else active (placed at t)

-- a use by what its macro stands for
abbrev pub use_by : Origin → Token → (List Token → Reading) → Option (List Token) → Reading
use_by at t reading None = stopped 1 (UnknownMacro at t.name)
use_by at t reading (Some body) = joined (silent 1) (reading body)

-- a use where macros may still nest so deep: its text is read in its stead, at its place
unfoldable pub use_reading : List Text → Macros → Origin → ℕ → Token → Reading
use_reading names macros at zero t = stopped 1 (MacroDepth at)
use_reading names macros at (suc levels) t = use_by at t (each_reading (inner_reading names at (use_reading names macros at levels))) (macros (named_by names t))

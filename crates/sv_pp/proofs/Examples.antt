-- Small examples of the definitions, worked by hand from the standard.
use Rattle.std.specs.Prelude.{◌≡◌, ℕ, List, [], ◌∷◌, Some, None, codes}
use Rattle.std.proofs.Common.{refl}
use Rattle.sv_tree.specs.declared.token.TokenKind.{TokenKind}
use Rattle.sv_tree.specs.declared.token.TokenKind.TheVariants as kind
use Rattle.sv_tree.specs.declared.token.Token.{Token}
use Rattle.vs_base.specs.declared.origin.Origin.{Origin}
use Rattle.sv_pp.specs.declared.fault.PpFault.TheVariants as fault
use Rattle.sv_pp.specs.declared.directive.Role.TheVariants.{Define, Else, Ignored, Refused, Use}
use Rattle.sv_pp.specs.Directive.{Text, role_of, other_role, is_ignored, is_refused}
use Rattle.sv_pp.specs.Reading.{use_reading}
use Rattle.sv_pp.specs.Active.{reading}

-- the spellings of the examples, each at its place
names : List Text
names =
    codes "`define" ∷ codes "`undef" ∷ codes "`ifdef" ∷ codes "`ifndef" ∷ codes "`else" ∷ codes "`endif" ∷ codes "`A" ∷ codes "`B" ∷ codes "A" ∷ codes "B" ∷ codes ";" ∷ codes "(" ∷ codes "`line" ∷ codes "`timescale" ∷ codes "line" ∷ []

at : ℕ → ℕ → Origin
at line col = record { file = 0; line = line; col = col }

spelled : TokenKind → ℕ → ℕ → ℕ → Token
spelled k name line col = record { kind = k; name = record { 0 = name }; at = at line col }

-- a macro's text is read in the stead of its use, at the place of the use, and is counted at the definition and at the use
text_in_its_stead : reading names ((spelled kind.Directive 0 1 1 ∷ spelled kind.Name 8 1 9 ∷ spelled kind.Mark 10 1 11 ∷ spelled kind.Name 9 1 13 ∷ spelled kind.Directive 6 2 1 ∷ []) ∷ []) ≡ record { tokens = spelled kind.Mark 10 2 1 ∷ spelled kind.Name 9 2 1 ∷ []; count = 7; fault = None }
unfolding reading use_reading names spelled at role_of other_role is_ignored is_refused
text_in_its_stead = refl

-- a second definition replaces the first
latest_definition : reading names ((spelled kind.Directive 0 1 1 ∷ spelled kind.Name 8 1 9 ∷ spelled kind.Mark 10 1 11 ∷ spelled kind.Directive 0 2 1 ∷ spelled kind.Name 8 2 9 ∷ spelled kind.Mark 11 2 11 ∷ spelled kind.Directive 6 3 1 ∷ []) ∷ []) ≡ record { tokens = spelled kind.Mark 11 3 1 ∷ []; count = 8; fault = None }
unfolding reading use_reading names spelled at role_of other_role is_ignored is_refused
latest_definition = refl

-- a macro in a macro's text is looked up where it is used
as_it_stands_at_the_use : reading names ((spelled kind.Directive 0 1 1 ∷ spelled kind.Name 8 1 9 ∷ spelled kind.Directive 7 1 11 ∷ spelled kind.Directive 0 2 1 ∷ spelled kind.Name 9 2 9 ∷ spelled kind.Mark 10 2 11 ∷ spelled kind.Directive 6 3 1 ∷ spelled kind.Directive 0 4 1 ∷ spelled kind.Name 9 4 9 ∷ spelled kind.Mark 11 4 11 ∷ spelled kind.Directive 6 5 1 ∷ []) ∷ []) ≡ record { tokens = spelled kind.Mark 10 3 1 ∷ spelled kind.Mark 11 5 1 ∷ []; count = 15; fault = None }
unfolding reading use_reading names spelled at role_of other_role is_ignored is_refused
as_it_stands_at_the_use = refl

-- the branch after `else` where the name is not defined; what is skipped is counted too
else_branch : reading names ((spelled kind.Directive 2 1 1 ∷ spelled kind.Name 8 1 8 ∷ spelled kind.Mark 10 2 1 ∷ spelled kind.Directive 4 3 1 ∷ spelled kind.Mark 11 4 1 ∷ spelled kind.Directive 5 5 1 ∷ []) ∷ []) ≡ record { tokens = spelled kind.Mark 11 4 1 ∷ []; count = 6; fault = None }
unfolding reading use_reading names spelled at role_of other_role is_ignored is_refused
else_branch = refl

-- definitions and uses are not looked at in a branch that is not taken
not_looked_at : reading names ((spelled kind.Directive 2 1 1 ∷ spelled kind.Name 8 1 8 ∷ spelled kind.Directive 0 2 1 ∷ spelled kind.Directive 1 3 1 ∷ spelled kind.Mark 10 3 8 ∷ spelled kind.Directive 7 4 1 ∷ spelled kind.Directive 5 5 1 ∷ []) ∷ []) ≡ record { tokens = []; count = 7; fault = None }
unfolding reading use_reading names spelled at role_of other_role is_ignored is_refused
not_looked_at = refl

-- `undef` forgets, and `ifndef` takes its first branch then
forgotten : reading names ((spelled kind.Directive 0 1 1 ∷ spelled kind.Name 8 1 9 ∷ spelled kind.Directive 1 2 1 ∷ spelled kind.Name 8 2 8 ∷ spelled kind.Directive 3 3 1 ∷ spelled kind.Name 8 3 9 ∷ spelled kind.Mark 10 4 1 ∷ spelled kind.Directive 5 5 1 ∷ []) ∷ []) ≡ record { tokens = spelled kind.Mark 10 4 1 ∷ []; count = 8; fault = None }
unfolding reading use_reading names spelled at role_of other_role is_ignored is_refused
forgotten = refl

-- the name after `ifdef` may stand on the next line
name_on_the_next_line : reading names ((spelled kind.Directive 2 1 1 ∷ spelled kind.Name 8 2 1 ∷ spelled kind.Directive 5 3 1 ∷ []) ∷ []) ≡ record { tokens = []; count = 3; fault = None }
unfolding reading use_reading names spelled at role_of other_role is_ignored is_refused
name_on_the_next_line = refl

-- the rest of the line is skipped after `timescale`
rest_of_the_line : reading names ((spelled kind.Directive 13 1 1 ∷ spelled kind.Name 8 1 12 ∷ spelled kind.Mark 10 1 14 ∷ spelled kind.Directive 7 1 16 ∷ spelled kind.Mark 10 2 1 ∷ []) ∷ []) ≡ record { tokens = spelled kind.Mark 10 2 1 ∷ []; count = 5; fault = None }
unfolding reading use_reading names spelled at role_of other_role is_ignored is_refused
rest_of_the_line = refl

-- macros go on from file to file
from_file_to_file : reading names ((spelled kind.Directive 0 1 1 ∷ spelled kind.Name 8 1 9 ∷ spelled kind.Mark 10 1 11 ∷ []) ∷ (spelled kind.Directive 6 1 1 ∷ []) ∷ []) ≡ record { tokens = spelled kind.Mark 10 1 1 ∷ []; count = 5; fault = None }
unfolding reading use_reading names spelled at role_of other_role is_ignored is_refused
from_file_to_file = refl

-- a `(` that does not follow directly begins the macro's text
space_before_parenthesis : reading names ((spelled kind.Directive 0 1 1 ∷ spelled kind.Name 8 1 9 ∷ spelled kind.Mark 11 1 11 ∷ spelled kind.Directive 6 2 1 ∷ []) ∷ []) ≡ record { tokens = spelled kind.Mark 11 2 1 ∷ []; count = 5; fault = None }
unfolding reading use_reading names spelled at role_of other_role is_ignored is_refused
space_before_parenthesis = refl

-- a use of a name that is not defined, in a macro's text, is told at the use in the file
unknown_macro : reading names ((spelled kind.Directive 0 1 1 ∷ spelled kind.Name 8 1 9 ∷ spelled kind.Directive 7 1 11 ∷ spelled kind.Mark 10 2 1 ∷ spelled kind.Directive 6 3 1 ∷ []) ∷ []) ≡ record { tokens = spelled kind.Mark 10 2 1 ∷ []; count = 6; fault = Some (fault.UnknownMacro (at 3 1) (record { 0 = 7 })) }
unfolding reading use_reading names spelled at role_of other_role is_ignored is_refused
unknown_macro = refl

-- a directive in a macro's text is a fault at the use
directive_in_a_macro : reading names ((spelled kind.Directive 0 1 1 ∷ spelled kind.Name 8 1 9 ∷ spelled kind.Directive 5 1 11 ∷ spelled kind.Directive 6 2 1 ∷ []) ∷ []) ≡ record { tokens = []; count = 5; fault = Some (fault.Directive (at 2 1) (record { 0 = 5 })) }
unfolding reading use_reading names spelled at role_of other_role is_ignored is_refused
directive_in_a_macro = refl

-- `define` wants its name on its line
no_name_on_the_line : reading names ((spelled kind.Directive 0 1 1 ∷ spelled kind.Name 8 2 1 ∷ spelled kind.Mark 10 2 3 ∷ []) ∷ []) ≡ record { tokens = []; count = 1; fault = Some (fault.Directive (at 1 1) (record { 0 = 0 })) }
unfolding reading use_reading names spelled at role_of other_role is_ignored is_refused
no_name_on_the_line = refl

-- a `(` directly after the name is a fault
arguments : reading names ((spelled kind.Directive 0 1 1 ∷ spelled kind.Name 8 1 9 ∷ spelled kind.Mark 11 1 10 ∷ spelled kind.Name 9 1 12 ∷ []) ∷ []) ≡ record { tokens = []; count = 2; fault = Some (fault.Directive (at 1 1) (record { 0 = 0 })) }
unfolding reading use_reading names spelled at role_of other_role is_ignored is_refused
arguments = refl

-- the name of a directive may not be defined
directive_name : reading names ((spelled kind.Mark 10 1 1 ∷ spelled kind.Directive 0 1 3 ∷ spelled kind.Name 14 1 11 ∷ spelled kind.Name 9 1 16 ∷ []) ∷ []) ≡ record { tokens = spelled kind.Mark 10 1 1 ∷ []; count = 3; fault = Some (fault.Directive (at 1 3) (record { 0 = 0 })) }
unfolding reading use_reading names spelled at role_of other_role is_ignored is_refused
directive_name = refl

-- a branch open at its file's end is told at the outermost, though a further file follows
outermost_open : reading names ((spelled kind.Directive 2 1 1 ∷ spelled kind.Name 8 1 8 ∷ spelled kind.Directive 3 2 1 ∷ spelled kind.Name 9 2 9 ∷ []) ∷ (spelled kind.Mark 10 1 1 ∷ []) ∷ []) ≡ record { tokens = []; count = 4; fault = Some (fault.OpenIf (at 1 1)) }
unfolding reading use_reading names spelled at role_of other_role is_ignored is_refused
outermost_open = refl

-- a second `else`
second_else : reading names ((spelled kind.Directive 2 1 1 ∷ spelled kind.Name 8 1 8 ∷ spelled kind.Directive 4 2 1 ∷ spelled kind.Directive 4 3 1 ∷ spelled kind.Directive 5 4 1 ∷ []) ∷ []) ≡ record { tokens = []; count = 4; fault = Some (fault.StrayElse (at 3 1)) }
unfolding reading use_reading names spelled at role_of other_role is_ignored is_refused
second_else = refl

-- a macro within itself is too deep at the 65th use
within_itself : reading names ((spelled kind.Directive 0 1 1 ∷ spelled kind.Name 8 1 9 ∷ spelled kind.Directive 6 1 11 ∷ spelled kind.Directive 6 2 1 ∷ []) ∷ []) ≡ record { tokens = []; count = 68; fault = Some (fault.MacroDepth (at 2 1)) }
unfolding reading use_reading names spelled at role_of other_role is_ignored is_refused
within_itself = refl

-- `ifdef` without a name is a fault where tokens are skipped too
missing_where_skipped : reading names ((spelled kind.Directive 2 1 1 ∷ spelled kind.Name 8 1 8 ∷ spelled kind.Directive 2 2 1 ∷ spelled kind.Directive 5 2 8 ∷ []) ∷ []) ≡ record { tokens = []; count = 3; fault = Some (fault.Directive (at 2 1) (record { 0 = 2 })) }
unfolding reading use_reading names spelled at role_of other_role is_ignored is_refused
missing_where_skipped = refl

-- only whole names are a directive's
roles : (role_of (codes "define") ≡ Define) × (role_of (codes "Define") ≡ Use) × (role_of (codes "else") ≡ Else) × (role_of (codes "line") ≡ Refused) × (role_of (codes "celldefine") ≡ Ignored)
unfolding role_of other_role is_ignored is_refused
roles = (refl, refl, refl, refl, refl)

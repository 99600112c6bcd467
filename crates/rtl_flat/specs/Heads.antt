-- What names denote in the head of a module: the constants of its parameter list (IEEE 1800-2017 6.20.1, 23.9).
use Rattle.std.specs.Prelude.{◌≡◌, ℕ, suc, List, [], ◌∷◌, take, length, Option, None, Some}
use Rattle.scope_table.specs.Scopes.{Scopes, module_entered, declared}
use Rattle.sv_tree.specs.declared.tree.source.Module.{Module}
use Rattle.sv_tree.specs.declared.tree.source.ParameterList.{ParameterList}
use Rattle.sv_expr.specs.declared.scope.Constant.{Constant}
use Rattle.sv_expr.specs.declared.scope.Denoted.{Denoted}
use Rattle.sv_expr.specs.declared.scope.Denoted.TheVariants as denoted
use Rattle.sv_elab.specs.declared.scope.Scope.{Scope}

abbrev pub parameter_count : Option ParameterList → ℕ
parameter_count None = 0
parameter_count (Some p) = suc (length p.list.more)

-- the constants of a module's parameter list, which are the first of its scope
abbrev pub listed_constants : Module → Scope → List Constant
listed_constants m s = take (parameter_count m.parameters) s.values.items

abbrev pub with_constant : Constant → Scopes Denoted → Scopes Denoted
with_constant c s = declared c.name.0 (denoted.Constant (record { kind = c.kind; value = c.value; some = c.some; most = c.most; same_width = c.same_width })) s

-- constants are declared one after another
abbrev pub with_constants : List Constant → Scopes Denoted → Scopes Denoted
with_constants [] s = s
with_constants (c ∷ more) s = with_constants more (with_constant c s)

-- a module's scope, which sees the file level alone, with the constants of its parameter list
abbrev pub in_head : Module → Scope → Scopes Denoted → Scopes Denoted
in_head m s outer = with_constants (listed_constants m s) (module_entered outer)

-- the first of these scopes was entered, whose module this is
abbrev pub IsTopHead : List Scope → Module → Scopes Denoted → Scopes Denoted → Type 0
IsTopHead [] m before_it table = ⊥
IsTopHead (top ∷ more) m before_it table = table ≡ in_head m top before_it

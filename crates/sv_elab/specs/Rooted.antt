-- The tree of scopes (IEEE 1800-2017 3.10, 23.6, 27.6).
use Rattle.std.specs.Prelude.{ℕ, suc, Bool, true, false, not, ◌&&◌, nat_lt, List, [], ◌∷◌, Option, Some, None}
use Rattle.sv_elab.specs.declared.scope.Scope.{Scope}

-- a scope stands in one before it
abbrev pub is_in_earlier : ℕ → Option ℕ → Bool
is_in_earlier number None = false
is_in_earlier number (Some outer) = nat_lt outer number

-- each of these scopes, whose numbers go on from here, stands in one before it
abbrev pub stand_in_earlier : ℕ → List Scope → Bool
stand_in_earlier number [] = true
stand_in_earlier number (s ∷ more) = is_in_earlier number s.parent && stand_in_earlier (suc number) more

abbrev pub is_none : Option ℕ → Bool
is_none None = true
is_none (Some n) = false

-- the first is an instance that stands in no other scope, and each other one stands in a scope before it
abbrev pub is_rooted : List Scope → Bool
is_rooted [] = false
is_rooted (top ∷ more) = is_none top.parent && not top.block && stand_in_earlier 1 more

-- the module whose items stand in the first
abbrev pub top_module : List Scope → Option ℕ
top_module [] = None
top_module (top ∷ more) = Some top.module.0

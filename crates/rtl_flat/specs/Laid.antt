-- What of a flat design is as elaboration laid it down (IEEE 1800-2017 23.6, 27.6).
use Rattle.std.specs.Prelude.{◌≡◌, ℕ, ◌≤◌, List, ◌∷◌, ◌++◌, Option, Some, slice_get}
use Rattle.std.specs.List.{All, AllPairs}
use Rattle.std.specs.Option.{option_map}
use Rattle.vs_base.specs.Number.{Number}
use Rattle.elab_types.specs.Packed.{Shape, shape}
use Rattle.sv_elab.specs.declared.scope.Scope.{Scope}
use Rattle.rtl_ir.specs.declared.design.FlatScope.{FlatScope}
use Rattle.rtl_ir.specs.declared.design.Mem.{Mem}
use Rattle.rtl_ir.specs.declared.design.Var.{Var}
use Rattle.rtl_flat.specs.declared.held.HeldVar.{HeldVar}

-- a scope with its path, the scope round it, and whether it is a block
abbrev pub flat_scope_of : Scope → FlatScope
flat_scope_of s = record { path = s.path; parent = s.parent; block = s.block }

-- the path of the scope of a number
abbrev pub path_at : List Scope → ℕ → Option (List ℕ)
path_at scopes number = option_map (λ s. s.path) (slice_get scopes number)

-- a variable has the path of its scope
pub record VarStands (scopes : List Scope) (v : Var) : Type 0 where
  pub path : path_at scopes v.scope ≡ Some v.path

-- a memory has the path of its scope, a dot and a name
pub record MemStands (scopes : List Scope) (m : Mem) : Type 0 where
  pub outer : List ℕ
  pub name : List ℕ
  pub path : path_at scopes m.scope ≡ Some outer
  pub is_below : m.path ≡ outer ++ 46 ∷ name

-- a variable by its name, its type with the index of its lowest bit, its value before the first eval, and the number of its scope
pub record Typed : Type 0 where
  pub name : List ℕ
  pub packed : Shape
  pub init : Number
  pub scope : ℕ

abbrev pub typed : Var → Typed
typed v = record { name = v.name; packed = record { kind = record { width = v.width; signed = v.signed }; lsb = v.lsb }; init = v.init; scope = v.scope }

-- one of the scope of this number, before it is laid down
abbrev pub held_typed : ℕ → HeldVar → Typed
held_typed scope v = record { name = v.name; packed = shape v.packed; init = v.init; scope = scope }

-- a list that begins with another
pub record Begins {X : Type 0} (front : List X) (whole : List X) : Type 0 where
  pub rest : List X
  pub is : whole ≡ front ++ rest

-- the number of the scope in which each stands
abbrev pub var_scope : Var → ℕ
var_scope v = v.scope

abbrev pub mem_scope : Mem → ℕ
mem_scope m = m.scope

-- they stand scope by scope: none before one of an earlier scope
abbrev pub ScopeByScope : {X : Type 0} → (X → ℕ) → List X → Type 0
ScopeByScope scope_of xs = AllPairs (λ a b. scope_of a ≤ scope_of b) xs

-- those of the scopes up to one, laid down scope by scope
pub record UpTo {X : Type 0} (scope_of : X → ℕ) (Stands : X → Type 0) (scope : ℕ) (xs : List X) : Type 0 where
  pub stand : All Stands xs
  pub order : ScopeByScope scope_of xs
  pub most : All (λ x. scope_of x ≤ scope) xs

abbrev pub VarsUpTo : List Scope → ℕ → List Var → Type 0
VarsUpTo scopes scope vars = UpTo var_scope (VarStands scopes) scope vars

abbrev pub MemsUpTo : List Scope → ℕ → List Mem → Type 0
MemsUpTo scopes scope mems = UpTo mem_scope (MemStands scopes) scope mems

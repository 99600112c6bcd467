-- When each fault of elaboration comes, as far as the top module, the imports and its kind tell it.
use Rattle.std.specs.Prelude.{◌≡◌, ◌⊎◌, ℕ, Bool, true, false, List, [], ◌∷◌, Option, None}
use Rattle.vs_base.specs.declared.limits.Kind.{Kind}
use Rattle.vs_base.specs.declared.limits.Kind.TheVariants as kind
use Rattle.vs_base.specs.declared.origin.Origin.{Origin}
use Rattle.sv_names.specs.Cause.{TopAllows, ImportAllows}
use Rattle.sv_names.specs.declared.fault.DesignFault.{DesignFault}
use Rattle.sv_names.specs.declared.fault.DesignFault.TheVariants as fault

-- what the walk counts against a limit
abbrev pub is_counted : Kind → Bool
is_counted kind.Instances = true
is_counted kind.Processes = true
is_counted kind.Terms = true
is_counted kind.Calls = true
is_counted _ = false

-- the faults that the walk tells
abbrev pub is_of_walk : DesignFault → Bool
is_of_walk (fault.TooWide at) = true
is_of_walk (fault.BadRange at) = true
is_of_walk (fault.BadEvent at name) = true
is_of_walk (fault.LoopTurns at) = true
is_of_walk (fault.TooMany k) = is_counted k
is_of_walk fault.NoMemory = true
is_of_walk _ = false

-- of a tree with these candidates for the top and this first bad import: a fault of the names, or one of the walk, which begins only
-- where there is one candidate and no bad import
pub record OfWalk (tops : List ℕ) (bad : Option Origin) (f : DesignFault) : Type 0 where
  pub kind : is_of_walk f ≡ true
  pub top : (at : ℕ) × (tops ≡ at ∷ [])
  pub imports : bad ≡ None

abbrev pub Allows : List ℕ → Option Origin → DesignFault → Type 0
Allows tops bad f = (TopAllows tops f × ImportAllows bad f) ⊎ OfWalk tops bad f

-- When each fault comes, as far as the top module and the imports tell it.
use Rattle.std.specs.Prelude.{◌≡◌, ◌≤◌, ℕ, Bool, true, false, List, [], length, Option, None, Some}
use Rattle.vs_base.specs.declared.origin.Origin.{Origin}
use Rattle.sv_names.specs.declared.fault.DesignFault.{DesignFault}
use Rattle.sv_names.specs.declared.fault.DesignFault.TheVariants as fault

-- with these candidates for the top: no top where there is none, many where there are several, and all other faults of
-- names only where there is one; those of the layout of a design never come
abbrev pub TopAllows : List ℕ → DesignFault → Type 0
TopAllows tops fault.NoTop = tops ≡ []
TopAllows tops fault.ManyTops = 2 ≤ length tops
TopAllows tops (fault.Duplicate at name) = length tops ≡ 1
TopAllows tops (fault.UnknownModule at name) = length tops ≡ 1
TopAllows tops (fault.SelfInstance at) = length tops ≡ 1
TopAllows tops (fault.UnknownPort at) = length tops ≡ 1
TopAllows tops (fault.UnknownParam at) = length tops ≡ 1
TopAllows tops (fault.UnknownName at name) = length tops ≡ 1
TopAllows tops (fault.WrongUse at name) = length tops ≡ 1
TopAllows tops (fault.WrongAssign at) = length tops ≡ 1
TopAllows tops (fault.NotConstant at) = length tops ≡ 1
TopAllows tops (fault.BadImport at) = length tops ≡ 1
TopAllows tops fault.NoMemory = Unit {0}
TopAllows tops (fault.TooWide at) = ⊥
TopAllows tops (fault.BadRange at) = ⊥
TopAllows tops (fault.BadEvent at name) = ⊥
TopAllows tops (fault.LoopTurns at) = ⊥
TopAllows tops (fault.TooMany kind) = ⊥

-- with this first bad import: that fault comes at its place alone
abbrev pub ImportAllows : Option Origin → DesignFault → Type 0
ImportAllows bad (fault.BadImport at) = bad ≡ Some at
ImportAllows bad other = Unit {0}

-- the kinds that the walk over all modules tells, each of which may come of a tree with one candidate for the top
abbrev pub is_walked : DesignFault → Bool
is_walked (fault.Duplicate at name) = true
is_walked (fault.UnknownModule at name) = true
is_walked (fault.SelfInstance at) = true
is_walked (fault.UnknownPort at) = true
is_walked (fault.UnknownParam at) = true
is_walked (fault.UnknownName at name) = true
is_walked (fault.WrongUse at name) = true
is_walked (fault.WrongAssign at) = true
is_walked (fault.NotConstant at) = true
is_walked fault.NoMemory = true
is_walked fault.NoTop = false
is_walked fault.ManyTops = false
is_walked (fault.BadImport at) = false
is_walked (fault.TooWide at) = false
is_walked (fault.BadRange at) = false
is_walked (fault.BadEvent at name) = false
is_walked (fault.LoopTurns at) = false
is_walked (fault.TooMany kind) = false

abbrev pub is_none_or_walked : Option DesignFault → Bool
is_none_or_walked None = true
is_none_or_walked (Some f) = is_walked f

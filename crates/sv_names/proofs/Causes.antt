-- Why the fault of the walk over names may come.
use Rattle.std.proofs.Common.{◌≡◌, ℕ, Bool, true, false, List, [], ◌∷◌, length, Option, Some, refl, sym, ap, ◌∙◌, subst}
use Rattle.sv_tree.specs.declared.names.NameId.{NameId}
use Rattle.sv_tree.specs.declared.tree.source.Description.{Description}
use Rattle.sv_names.specs.declared.fault.DesignFault.{DesignFault}
use Rattle.sv_names.specs.declared.fault.DesignFault.TheVariants as fault
use Rattle.sv_names.specs.declared.top.Tops.{Tops}
use Rattle.sv_names.specs.declared.top.Tops.TheVariants as tops
use Rattle.sv_names.specs.Candidates.{candidates}
use Rattle.sv_names.specs.Cause.{TopAllows, is_walked}
use Rattle.sv_names.specs.Noted.{Noted, Notes, Adds, in_order, nothing_noted}
use Rattle.sv_names.specs.Tops.{summary}

-- what is noted from nothing on
pub noted_whole : (parts : List Notes) {s : Option Noted} (now : Noted) → Adds (Some nothing_noted) (in_order parts) s → s ≡ Some now → now ≡ in_order parts nothing_noted
noted_whole parts now h is =
    let w = h.whole now is in
    w.2 ∙ ap (λ n. in_order parts n) (sym (same w.1))
  where
    same : {a b : Noted} → Some a ≡ Some b → a ≡ b
    same e = cc

pub one_top : (list : List ℕ) (at : ℕ) → tops.One at ≡ summary list → list ≡ at ∷ []
one_top [] at e = cc
one_top (one ∷ []) at e = cc
one_top (one ∷ other ∷ more) at e = cc

-- the only candidate among equal ones
pub only : (source : List Description) (top : Option NameId) {used other : List ℕ} {at : ℕ} {t : Tops} → used ≡ other → t ≡ tops.One at → t ≡ summary (candidates used source top) → candidates other source top ≡ at ∷ []
only source top {at = at} same is e = subst (λ u. candidates u source top ≡ at ∷ []) same (one_top _ at (sym is ∙ e))

-- a fault of the walk may come where there is one candidate
pub walked_allowed : (list : List ℕ) (at : ℕ) (f : DesignFault) → list ≡ at ∷ [] → is_walked f ≡ true → TopAllows list f
walked_allowed list at (fault.Duplicate place name) one w = ap length one
walked_allowed list at (fault.UnknownModule place name) one w = ap length one
walked_allowed list at (fault.SelfInstance place) one w = ap length one
walked_allowed list at (fault.UnknownPort place) one w = ap length one
walked_allowed list at (fault.UnknownParam place) one w = ap length one
walked_allowed list at (fault.UnknownName place name) one w = ap length one
walked_allowed list at (fault.WrongUse place name) one w = ap length one
walked_allowed list at (fault.WrongAssign place) one w = ap length one
walked_allowed list at (fault.NotConstant place) one w = ap length one
walked_allowed list at fault.NoMemory one w = tt
walked_allowed list at fault.NoTop one w = cc
walked_allowed list at fault.ManyTops one w = cc
walked_allowed list at (fault.BadImport place) one w = cc
walked_allowed list at (fault.TooWide place) one w = cc
walked_allowed list at (fault.BadRange place) one w = cc
walked_allowed list at (fault.BadEvent place name) one w = cc
walked_allowed list at (fault.LoopTurns place) one w = cc
walked_allowed list at (fault.TooMany kind) one w = cc

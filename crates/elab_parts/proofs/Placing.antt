-- The connection of a place after the first one.
use Rattle.std.proofs.Common.{◌≡◌, ◌-◌, ℕ, zero, suc, slice_get, map, refl, sym, ap, ◌∙◌, arith}
use Rattle.std.specs.Option.{option_map}
use Rattle.std.proofs.lemmas.Option.{slice_get-map}
use Rattle.sv_tree.specs.declared.tree.item.Connection.{Connection}
use Rattle.sv_tree.specs.declared.tree.list.CommaList.{CommaList}
use Rattle.elab_parts.specs.Actuals.{at_place, connections_in}

pub at_later : (list : CommaList Connection) (place : ℕ) → (place ≡ 0 → ⊥) → (place ≡ 1 → ⊥) → option_map (λ j. j.item) (slice_get list.more (place - 2)) ≡ at_place (connections_in list) place
at_later list zero some more = absurd (some refl)
at_later list (suc zero) some more = absurd (more refl)
at_later list (suc (suc n)) some more = sym (slice_get-map (λ j. j.item) list.more (suc (suc n) - 2)) ∙ ap (slice_get (map (λ j. j.item) list.more)) (omega arith)

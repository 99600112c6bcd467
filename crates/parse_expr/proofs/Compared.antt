-- How the code compares symbols, and how the grammar does.
use Rattle.std.proofs.Common.{◌≡◌, Bool, true, false, refl, sym, ap, ◌∙◌}
use denote.Enum.Bare.{sameb, same_true, same_false}
use Rattle.sv_tree.specs.contracts.symbol.Symbol.{the_type}
use Rattle.sv_tree.specs.declared.symbol.Symbol.{Symbol}
use Rattle.sv_tree.specs.Symbol.{same}
use Rattle.sv_tree.specs.SymbolLaws.{same_is, same-itself}

by_code : (a b : Symbol) (t : Bool) → sameb the_type a b ≡ t → t ≡ same b a
by_code a b true e = sym (ap (λ x. same b x) (same_true the_type tt a b e) ∙ same-itself b)
by_code a b false e = by_number (same b a) refl
  where
    by_number : (u : Bool) → same b a ≡ u → false ≡ u
    by_number true h = absurd (same_false the_type a b e (same_is b a h))
    by_number false h = refl

pub compared : (a b : Symbol) → sameb the_type a b ≡ same b a
compared a b = by_code a b (sameb the_type a b) refl

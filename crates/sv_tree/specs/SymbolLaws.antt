-- Laws of the tests of symbols, for the crates above.
use Rattle.std.proofs.Common.{◌≡◌, true, Some, slice_get, refl, sym, ap, ◌∙◌, eq-eqb}
use Rattle.std.proofs.lemmas.Bool.{eqb-true}
use Rattle.sv_tree.specs.declared.symbol.Symbol.{Symbol}
use Rattle.sv_tree.specs.declared.symbol.Symbol.TheVariants as symbol
use Rattle.sv_tree.specs.Symbol.{number_of, all_symbols, same}

pub slice_get-all_symbols : (s : Symbol) → slice_get all_symbols (number_of s) ≡ Some s
slice_get-all_symbols symbol.Name = refl
slice_get-all_symbols _ = refl

-- a test that holds tells the symbol
pub same_is : (a b : Symbol) → same a b ≡ true → b ≡ a
same_is a b h = some_same (sym (slice_get-all_symbols b) ∙ sym (ap (slice_get all_symbols) (eqb-true (number_of a) (number_of b) h)) ∙ slice_get-all_symbols a)
  where
    some_same : Some b ≡ Some a → b ≡ a
    some_same e = cc

pub same-itself : (a : Symbol) → same a a ≡ true
same-itself a = eq-eqb (number_of a) (number_of a) refl

-- The lines of a scope's variables, by their links.
use Rattle.std.proofs.Common.{◌≡◌, ℕ, ◌<◌, List, [], ◌∷◌, ◌++◌, length, map, get_or, Option, Some, None, sym, ◌∙◌, ap, subst, arith, append_assoc}
use Rattle.vcd_out.specs.declared.layout.Line.{Line}
use Rattle.vcd_out.specs.declared.layout.Line.TheVariants.{Opens, Declares}
use Rattle.vcd_out.specs.Places.{IsLinked, places_from}
use Rattle.vcd_out.specs.Layout.{declared_line}
use Rattle.vcd_out.proofs.Places.{IsBelow, chain, chain-first, chain-next, linked_first, linked_next}

module _ (keys : List ℕ) (first next : List (Option ℕ)) (l : IsLinked keys first next) where
  module _ (scope : ℕ) (at : Option ℕ) (is_at : at ≡ get_or first scope None) where
    pub first_known : IsBelow (length keys) at
    first_known = subst (IsBelow (length keys)) (sym is_at) (linked_first l scope)

    pub first_declared : (lines new : List Line) → scope < length first → new ≡ lines ++ Opens scope ∷ []
        → new ++ map declared_line (chain keys at) ≡ lines ++ Opens scope ∷ map declared_line (places_from 0 keys scope)
    first_declared lines new known is_new =
        (λ i. is_new i ++ map declared_line (chain keys (is_at i)))
        ∙ ap (λ (places : List ℕ). (lines ++ Opens scope ∷ []) ++ map declared_line places) (chain-first l scope known)
        ∙ append_assoc lines (Opens scope ∷ []) (map declared_line (places_from 0 keys scope))

  module _ (var : ℕ) (at after : Option ℕ) (is_var : at ≡ Some var) (is_after : after ≡ get_or next var None) where
    pub next_known : IsBelow (length keys) after
    next_known = subst (IsBelow (length keys)) (sym is_after) (linked_next l var)

    chained : IsBelow (length keys) at → chain keys at ≡ var ∷ chain keys after
    chained known = ap (chain keys) is_var ∙ chain-next l var (subst (IsBelow (length keys)) is_var known) ∙ ap (λ (a : Option ℕ). var ∷ chain keys a) (sym is_after)

    pub next_less : IsBelow (length keys) at → length (chain keys after) < length (chain keys at)
    next_less known = let e = ap length (chained known) in omega arith

    pub next_declared : (lines new whole : List Line) → IsBelow (length keys) at → new ≡ lines ++ Declares var ∷ []
        → lines ++ map declared_line (chain keys at) ≡ whole → new ++ map declared_line (chain keys after) ≡ whole
    next_declared lines new whole known is_new e =
        ap (λ (ls : List Line). ls ++ map declared_line (chain keys after)) is_new
        ∙ append_assoc lines (Declares var ∷ []) (map declared_line (chain keys after))
        ∙ ap (λ (places : List ℕ). lines ++ map declared_line places) (sym (chained known))
        ∙ e

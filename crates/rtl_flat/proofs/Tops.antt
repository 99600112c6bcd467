-- What the first scope's head is, once the walk has entered it.
use Rattle.std.proofs.Common.{◌≡◌, ℕ, List, [], ◌∷◌, map, length, Some, None, sym, ap, ◌∙◌, subst}
use Rattle.scope_table.specs.Scopes.{Scopes, at_file_level}
use Rattle.sv_tree.specs.declared.tree.source.Description.{Description}
use Rattle.sv_tree.specs.declared.tree.source.Module.{Module}
use Rattle.sv_expr.specs.declared.scope.Denoted.{Denoted}
use Rattle.sv_expr.specs.declared.scope.Denoted.TheVariants as denoted
use Rattle.sv_elab.specs.declared.scope.Scope.{Scope}
use Rattle.rtl_ir.specs.declared.design.Var.{Var}
use Rattle.rtl_lower.specs.Kinds.{environment_of}
use Rattle.rtl_flat.specs.Heads.{in_head, IsTopHead}
use Rattle.rtl_flat.specs.Laid.{Begins, typed}
use Rattle.rtl_flat.specs.Ports.{list_of, top_module}
use Rattle.rtl_flat.specs.PortVars.{ports_in, AreOfModule, ArePortVars}

at_top : (texts : List (List ℕ)) (source : List Description) (scopes : List Scope) (m : Module) (before_it table : Scopes Denoted) (vars : List Var)
    → top_module source scopes ≡ Some m → before_it ≡ at_file_level (length texts) denoted.Nothing → IsTopHead scopes m before_it table
    → Begins (ports_in (environment_of texts table) (list_of m.ports)) (map typed vars) → ArePortVars texts source scopes vars
at_top texts source [] m before_it table vars is file head h = absurd (let none : None ≡ Some m = is in cc)
at_top texts source (top ∷ more) m before_it table vars is file head h =
    subst (λ o. AreOfModule texts o (top ∷ more) vars) (sym is)
    (subst (λ t. Begins (ports_in (environment_of texts t) (list_of m.ports)) (map typed vars)) (head ∙ ap (in_head m top) file) h)

-- the walk's tree and scopes are these
pub of_top : (texts : List (List ℕ)) (source source' : List Description) (scopes scopes' : List Scope) (m : Module) (before_it table : Scopes Denoted) (vars : List Var)
    → source' ≡ source → scopes' ≡ scopes → top_module source' scopes' ≡ Some m → before_it ≡ at_file_level (length texts) denoted.Nothing
    → IsTopHead scopes' m before_it table → Begins (ports_in (environment_of texts table) (list_of m.ports)) (map typed vars) → ArePortVars texts source scopes vars
of_top texts source source' scopes scopes' m before_it table vars sources same is file head h =
    at_top texts source scopes m before_it table vars (subst (λ l. top_module l scopes ≡ Some m) sources (subst (λ l. top_module source' l ≡ Some m) same is)) file
    (subst (λ l. IsTopHead l m before_it table) same head) h

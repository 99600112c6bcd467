-- The words that one more process touches.
use Rattle.std.proofs.Common.{ℕ, ◌+◌, ◌<◌, List, [], ◌∷◌, ◌++◌, length, take, get_or, sym, subst}
use Rattle.std.proofs.lemmas.List.{take_more}
use Rattle.task_code.specs.Compiled.{Each}
use Rattle.logic_graph.specs.declared.ranges.Touched.{Touched}
use Rattle.model_build.proofs.Feeding.{each_push}

pub each_more : (R : ℕ → Touched → Type 0) (ps : List ℕ) (ts : List Touched) (i : ℕ) (t : Touched) → i < length ps → Each R (take i ps) ts → R (get_or ps i 0) t → Each R (take (i + 1) ps) (ts ++ t ∷ [])
each_more R ps ts i t less each is =
    subst (λ (qs : List ℕ). Each R qs (ts ++ t ∷ [])) (sym (take_more ps i 0 less)) (each_push R (take i ps) ts (get_or ps i 0) t each is)

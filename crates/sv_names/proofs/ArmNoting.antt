-- Of a list so many parts are noted: with the others the list is whole.
use Rattle.std.proofs.Common.{◌≡◌, ◌<◌, ℕ, suc, Bool, false, List, ◌∷◌, length, drop, get_or, map, Option, sym, ap, ◌∙◌}
use Rattle.std.specs.Prelude.{◌||◌}
use Rattle.std.specs.Option.{is_some}
use Rattle.std.proofs.Math.Seq.{drop-cons}
use Rattle.sv_tree.specs.declared.token.Token.{Token}
use Rattle.sv_names.specs.Defaults.{Notes, ArmNotes, in_order, arms_in_order, arm_in_order}

front : {A : Type 0} (x : A) (xs : List A) (i : ℕ) → i < length xs → x ≡ get_or xs i x → drop i xs ≡ x ∷ drop (suc i) xs
front x xs i within is = drop-cons xs i x within ∙ ap (λ y. y ∷ drop (suc i) xs) (sym is)

pub noted_next : {A : Type 0} (notes : A → Notes) (x : A) (xs : List A) (i : ℕ) (old mid new : Option Token)
    → i < length xs → x ≡ get_or xs i x → new ≡ notes x mid
    → in_order (map notes (drop i xs)) mid ≡ in_order (map notes xs) old
    → in_order (map notes (drop (suc i) xs)) new ≡ in_order (map notes xs) old
noted_next notes x xs i old mid new within is part sofar =
    ap (in_order (map notes (drop (suc i) xs))) part ∙ sym (ap (λ l. in_order (map notes l) mid) (front x xs i within is)) ∙ sofar

pub arms_next : {A : Type 0} (notes : A → ArmNotes) (x : A) (xs : List A) (i : ℕ) (before later : Bool) (old mid new : Option Token)
    → i < length xs → x ≡ get_or xs i x → new ≡ arm_in_order before (notes x) mid → later ≡ (before || is_some (notes x).word)
    → arms_in_order before (map notes (drop i xs)) mid ≡ arms_in_order false (map notes xs) old
    → arms_in_order later (map notes (drop (suc i) xs)) new ≡ arms_in_order false (map notes xs) old
arms_next notes x xs i before later old mid new within is part word sofar =
    ap (λ f. arms_in_order later (map notes (drop (suc i) xs)) f) part
    ∙ ap (λ b. arms_in_order b (map notes (drop (suc i) xs)) (arm_in_order before (notes x) mid)) word
    ∙ sym (ap (λ l. arms_in_order before (map notes l) mid) (front x xs i within is)) ∙ sofar

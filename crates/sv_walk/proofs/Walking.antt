-- How what is told of the parts makes what is told of the whole.
use Rattle.std.proofs.Common.{◌≡◌, ◌<◌, ◌≤◌, ℕ, zero, suc, Bool, List, [], ◌∷◌, ◌++◌, length, drop, get_or, refl, sym, ap, ◌∙◌, subst, arith}
use Rattle.std.proofs.Math.Seq.{drop-cons}
use Rattle.std.proofs.lemmas.List.{drop_all}
use Rattle.sv_tree.specs.declared.tree.expr.Args.{Args}
use Rattle.sv_tree.specs.declared.tree.expr.Expr.{Expr}
use Rattle.sv_tree.specs.declared.tree.expr.Select.{Select}
use Rattle.sv_walk.specs.Events.{Event, Part, args_part, expr_part, select_part, events, written_events}
use Rattle.sv_walk.specs.Tells.{Tells, tells_nothing, ◌and◌}

-- ---- a part of this form, by its equation

module _ {A : Type 0} {told : Event → A → A → Type 0} {old new : A} where
  by_list : {xs ys : List Event} → xs ≡ ys → Tells told ys old new → Tells told xs old new
  by_list is h = subst (λ es. Tells told es old new) (sym is) h

  pub by_args : (names : List (List ℕ)) (constant : Bool) {e f : Args} {p : Part Args} → e ≡ f → args_part names f ≡ p → Tells told (p.events constant) old new → Tells told ((args_part names e).events constant) old new
  by_args names constant is reads = by_list (ap (λ p. p.events constant) (ap (args_part names) is ∙ reads))

  pub by_expr : (names : List (List ℕ)) (constant : Bool) {e f : Expr} {p : Part Expr} → e ≡ f → expr_part names f ≡ p → Tells told (p.events constant) old new → Tells told ((expr_part names e).events constant) old new
  by_expr names constant is reads = by_list (ap (λ p. p.events constant) (ap (expr_part names) is ∙ reads))

  pub by_select : (names : List (List ℕ)) (constant : Bool) {e f : Select} {p : Part Select} → e ≡ f → select_part names f ≡ p → Tells told (p.events constant) old new → Tells told ((select_part names e).events constant) old new
  by_select names constant is reads = by_list (ap (λ p. p.events constant) (ap (select_part names) is ∙ reads))

  pub by_events : (names : List (List ℕ)) (constant : Bool) {e f : Expr} {es : List Event} → e ≡ f → events names f constant ≡ es → Tells told es old new → Tells told (events names e constant) old new
  by_events names constant is reads = by_list (ap (λ x. events names x constant) is ∙ reads)

  pub by_written : (names : List (List ℕ)) {e f : Expr} {es : List Event} → e ≡ f → written_events names f ≡ es → Tells told es old new → Tells told (written_events names e) old new
  by_written names is reads = by_list (ap (λ x. written_events names x) is ∙ reads)

  pub by_form : {X : Type 0} (met : X → List Event) {e f : X} {es : List Event} → e ≡ f → met f ≡ es → Tells told es old new → Tells told (met e) old new
  by_form met is reads = by_list (ap met is ∙ reads)

-- ---- of a list so many parts were told: with the others the list is whole

pub record TellsFirst {A X : Type 0} (told : Event → A → A → Type 0) (met : List X → List Event) (old : A) (xs : List X) (i : ℕ) (now : A) : Type 0 where
  pub whole : (new : A) → Tells told (met (drop i xs)) now new → Tells told (met xs) old new

pub tells_none : {A X : Type 0} (told : Event → A → A → Type 0) (met : List X → List Event) (old : A) (xs : List X) → TellsFirst told met old xs 0 old
tells_none told met old xs = record { whole = λ new h. h }

tells_front : {A X : Type 0} {told : Event → A → A → Type 0} {met : List X → List Event} {old mid new : A} {xs : List X} {i : ℕ} {part : List Event} (x : X)
    → drop i xs ≡ x ∷ drop (suc i) xs → ((rest : List X) → met (x ∷ rest) ≡ part ++ met rest) → Tells told part mid new → TellsFirst told met old xs i mid → TellsFirst told met old xs (suc i) new
tells_front {told = told} {met = met} {mid = mid} {xs = xs} {i = i} {part = part} x front cons here sofar = record {
  whole = λ last h. sofar.whole last (subst (λ es. Tells told es mid last) (sym (ap met front ∙ cons (drop (suc i) xs))) (here and h));
}

pub tells_next : {A X : Type 0} {told : Event → A → A → Type 0} {met : List X → List Event} {old mid new : A} {xs : List X} {i : ℕ} {part : List Event} (x : X)
    → i < length xs → x ≡ get_or xs i x → ((rest : List X) → met (x ∷ rest) ≡ part ++ met rest) → Tells told part mid new → TellsFirst told met old xs i mid → TellsFirst told met old xs (suc i) new
tells_next {xs = xs} {i = i} x within is = tells_front x (drop-cons xs i x within ∙ ap (λ y. y ∷ drop (suc i) xs) (sym is))

-- whatever the next one is
a_next : {X : Type 0} (xs : List X) (i : ℕ) → i < length xs → (x : X) × (drop i xs ≡ x ∷ drop (suc i) xs)
a_next [] i within = absurd (omega (arith, within))
a_next (x ∷ xs) zero within = (x, refl)
a_next (x ∷ xs) (suc i) within = let rest = a_next xs i (omega (arith, within)) in (rest.0, rest.1)

pub tells_any : {A X : Type 0} {told : Event → A → A → Type 0} {met : List X → List Event} {old mid new : A} {xs : List X} {i : ℕ} {part : List Event}
    → i < length xs → ((x : X) (rest : List X) → met (x ∷ rest) ≡ part ++ met rest) → Tells told part mid new → TellsFirst told met old xs i mid → TellsFirst told met old xs (suc i) new
tells_any {xs = xs} {i = i} within cons = let next = a_next xs i within in tells_front next.0 next.1 (cons next.0)

pub tells_all : {A X : Type 0} {told : Event → A → A → Type 0} {met : List X → List Event} {old new : A} {xs : List X} {i : ℕ} → met [] ≡ [] → length xs ≤ i → TellsFirst told met old xs i new → Tells told (met xs) old new
tells_all {told = told} {met = met} {new = new} {xs = xs} {i = i} nil done sofar =
    sofar.whole new (subst (λ es. Tells told es new new) (sym (ap met (drop_all i xs done) ∙ nil)) (tells_nothing told new))

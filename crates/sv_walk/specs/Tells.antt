-- A visitor is told events one after another.
use Rattle.std.proofs.Common.{◌≡◌, List, [], ◌∷◌, ◌++◌, refl, subst}
use Rattle.sv_walk.specs.Events.{Event}

-- by what one event does to it
abbrev pub InOrder : {A : Type 0} → (Event → A → A → Type 0) → List Event → A → A → Type 0
InOrder told [] old new = new ≡ old
InOrder {A = A} told (event ∷ more) old new = (mid : A) × told event old mid × InOrder told more mid new

-- it is told exactly these events, in this order
pub record Tells {A : Type 0} (told : Event → A → A → Type 0) (events : List Event) (old new : A) : Type 0 where
  pub in_order : InOrder told events old new

pub tells_nothing : {A : Type 0} (told : Event → A → A → Type 0) (old : A) → Tells told [] old old
tells_nothing told old = record { in_order = refl }

pub tells_one : {A : Type 0} (told : Event → A → A → Type 0) {event : Event} {old new : A} → told event old new → Tells told (event ∷ []) old new
tells_one told {new = new} h = record { in_order = (new, h, refl) }

-- one list after another
both_in_order : {A : Type 0} (told : Event → A → A → Type 0) (xs ys : List Event) (old mid new : A) → InOrder told xs old mid → InOrder told ys mid new → InOrder told (xs ++ ys) old new
both_in_order told [] ys old mid new is h = subst (λ a. InOrder told ys a new) is h
both_in_order told (event ∷ xs) ys old mid new h more = (h.0, h.1, both_in_order told xs ys h.0 mid new h.2 more)

infixr 20 ◌and◌
pub ◌and◌ : {A : Type 0} {told : Event → A → A → Type 0} {xs ys : List Event} {old mid new : A} → Tells told xs old mid → Tells told ys mid new → Tells told (xs ++ ys) old new
◌and◌ {told = told} {xs = xs} {ys = ys} {old = old} {mid = mid} {new = new} first more =
    record { in_order = both_in_order told xs ys old mid new first.in_order more.in_order }

-- What names mean after each step, name by name.
use Rattle.std.specs.Prelude.{◌≡◌, ◌<◌, ℕ, zero, suc, false, List, [], ◌∷◌, Some, length, slice_get, slice_set, refl}
use Rattle.std.proofs.Common.{arith, ap}
use Rattle.scope_table.specs.Scopes.{Meaning, Scopes, declared, declares, entered, inside, meaning_here, module_entered, what_of, within}

module _ {T : Type 0} where
  what_of-within : (nothing : T) (table : List (Meaning T)) (name : ℕ)
      → what_of nothing (slice_get (within table) name) ≡ what_of nothing (slice_get table name)
  what_of-within nothing [] name = refl
  what_of-within nothing (m ∷ table) zero = refl
  what_of-within nothing (m ∷ table) (suc name) = what_of-within nothing table name

  declares-within : (table : List (Meaning T)) (name : ℕ) → declares (within table) name ≡ false
  declares-within [] name = refl
  declares-within (m ∷ table) zero = refl
  declares-within (m ∷ table) (suc name) = declares-within table name

  get-set_same : (table : List (Meaning T)) (name : ℕ) (m : Meaning T) → name < length table → slice_get (slice_set table name m) name ≡ Some m
  get-set_same [] name m h = absurd (omega arith)
  get-set_same (n ∷ table) zero m h = refl
  get-set_same (n ∷ table) (suc name) m h = get-set_same table name m (omega arith)

  get-set_other : (table : List (Meaning T)) (name other : ℕ) (m : Meaning T) → (other ≡ name → ⊥) → slice_get (slice_set table name m) other ≡ slice_get table other
  get-set_other [] name other m h = refl
  get-set_other (n ∷ table) zero zero m h = absurd (h refl)
  get-set_other (n ∷ table) zero (suc other) m h = refl
  get-set_other (n ∷ table) (suc name) zero m h = refl
  get-set_other (n ∷ table) (suc name) (suc other) m h = get-set_other table name other m (λ e. h (ap suc e))

  -- an entered scope sees what is seen round it, and declares nothing itself
  pub meaning-entered : (s : Scopes T) (name : ℕ) → meaning_here (entered s) name ≡ meaning_here s name
  meaning-entered s name = what_of-within s.nothing s.present name

  pub declares-entered : (s : Scopes T) (name : ℕ) → declares (entered s).present name ≡ false
  declares-entered s name = declares-within s.present name

  -- a module sees what the file level declares
  pub meaning-module_entered : (s : Scopes T) (name : ℕ) → meaning_here (module_entered s) name ≡ what_of s.nothing (slice_get s.file name)
  meaning-module_entered s name = what_of-within s.nothing s.file name

  on-declared : (nothing : T) (file present : List (Meaning T)) (outer : List (List (Meaning T))) (name : ℕ) (what : T)
      → (declared name what (record { nothing = nothing; file = file; present = present; outer = outer })).present ≡ slice_set present name (inside what)
  on-declared nothing file present [] name what = refl
  on-declared nothing file present (_ ∷ _) name what = refl

  kept-nothing : (nothing : T) (file present : List (Meaning T)) (outer : List (List (Meaning T))) (name : ℕ) (what : T)
      → (declared name what (record { nothing = nothing; file = file; present = present; outer = outer })).nothing ≡ nothing
  kept-nothing nothing file present [] name what = refl
  kept-nothing nothing file present (_ ∷ _) name what = refl

  -- a declared name means what it was declared as, and every other name what it meant
  pub meaning-declared : (s : Scopes T) (name : ℕ) (what : T) → name < length s.present → meaning_here (declared name what s) name ≡ what
  meaning-declared s name what h =
      let present = on-declared s.nothing s.file s.present s.outer name what
      in
      let got = get-set_same s.present name (inside what) h
      in
      rw (present, got)

  pub meaning-declared_other : (s : Scopes T) (name other : ℕ) (what : T) → (other ≡ name → ⊥) → meaning_here (declared name what s) other ≡ meaning_here s other
  meaning-declared_other s name other what h =
      let nothing = kept-nothing s.nothing s.file s.present s.outer name what
      in
      let present = on-declared s.nothing s.file s.present s.outer name what
      in
      let got = get-set_other s.present name other (inside what) h
      in
      rw (nothing, present, got)

-- Scopes that are entered and left in pairs: names mean again what they meant before, whatever was
-- declared in between.
use Rattle.std.specs.Prelude.{◌≡◌, ℕ, List, [], ◌∷◌, slice_set, refl}
use Rattle.scope_table.specs.Scopes.{Meaning, Scopes, entered, inside, module_entered, left, declared, within}

module _ {T : Type 0} where
  -- these names are declared here, one after the other
  abbrev pub all_declared : List (ℕ × T) → Scopes T → Scopes T
  all_declared [] s = s
  all_declared (d ∷ ds) s = all_declared ds (declared d.0 d.1 s)

  left-all_declared : (ds : List (ℕ × T)) (nothing : T) (file present table : List (Meaning T)) (rest : List (List (Meaning T)))
      → left (all_declared ds (record { nothing = nothing; file = file; present = present; outer = table ∷ rest }))
      ≡ record { nothing = nothing; file = file; present = table; outer = rest }
  left-all_declared [] nothing file present table rest = refl
  left-all_declared (d ∷ ds) nothing file present table rest =
      left-all_declared ds nothing file (slice_set present d.0 (inside d.1)) table rest

  pub left-entered : (ds : List (ℕ × T)) (s : Scopes T) → left (all_declared ds (entered s)) ≡ s
  left-entered ds s = left-all_declared ds s.nothing s.file (within s.present) s.present s.outer

  pub left-module_entered : (ds : List (ℕ × T)) (s : Scopes T) → left (all_declared ds (module_entered s)) ≡ s
  left-module_entered ds s = left-all_declared ds s.nothing s.file (within s.file) s.present s.outer

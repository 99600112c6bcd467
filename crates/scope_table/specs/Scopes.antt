-- What names mean in scopes that stand in one another (IEEE 1800-2017 23.9). A table has one entry
-- for each name, by its number.
use Rattle.std.specs.Prelude.{ℕ, Bool, false, true, List, [], ◌∷◌, Option, Some, None, map, replicate, slice_get, slice_set, refl}
use Rattle.std.specs.Coded.{Coded, code_by, coded×, coded_bool, coded_list}

-- what a name means in a scope, and whether that scope itself declares it
pub record Meaning (T : Type 0) : Type 0 where
  pub what : T
  pub here : Bool

-- what a name means that is not declared; then the tables of the file level, of the present scope,
-- and of the scopes that this one stands in, the innermost first
pub record Scopes (T : Type 0) : Type 0 where
  pub nothing : T
  pub file : List (Meaning T)
  pub present : List (Meaning T)
  pub outer : List (List (Meaning T))

-- a meaning is stored as the pair of its fields
abbrev pub meaning_code : {T : Type 0} → Coded T → Coded (Meaning T)
meaning_code {T} code =
    code_by (T × Bool) (coded× code coded_bool) (λ m. (m.what, m.here)) (λ p. record { what = p.0; here = p.1 }) (λ _. refl)

-- scopes are stored as the tuple of their fields
abbrev pub scopes_code : {T : Type 0} → Coded T → Coded (Scopes T)
scopes_code {T} code =
    let table = coded_list (meaning_code code)
    in
    code_by
    (T × (List (Meaning T) × (List (Meaning T) × List (List (Meaning T)))))
    (coded× code (coded× table (coded× table (coded_list table))))
    (λ s. (s.nothing, (s.file, (s.present, s.outer))))
    (λ p. record { nothing = p.0; file = p.1.0; present = p.1.1.0; outer = p.1.1.1 })
    (λ _. refl)

module _ {T : Type 0} where
  -- the meaning of a name that the scope does not declare
  abbrev pub outside : T → Meaning T
  outside what = record { what = what; here = false }

  -- the meaning of a name that the scope declares
  abbrev pub inside : T → Meaning T
  inside what = record { what = what; here = true }

  -- the table of a scope that has declared nothing yet, where this is seen round it
  abbrev pub within : List (Meaning T) → List (Meaning T)
  within table = map (λ m. outside m.what) table

  -- the file level, where no name is declared yet
  abbrev pub at_file_level : ℕ → T → Scopes T
  at_file_level count nothing =
      let table = replicate count (outside nothing)
      in
      record { nothing = nothing; file = table; present = table; outer = [] }

  -- a scope is entered that stands in the present one
  abbrev pub entered : Scopes T → Scopes T
  entered s = record s { present = within s.present; outer = s.present ∷ s.outer }

  -- a module's scope is entered, which sees the file level alone
  abbrev pub module_entered : Scopes T → Scopes T
  module_entered s = record s { present = within s.file; outer = s.present ∷ s.outer }

  -- the present scope is left for the one that it stands in; the file level is not left
  abbrev pub left_for : List (List (Meaning T)) → Scopes T → Scopes T
  left_for [] s = s
  left_for (table ∷ rest) s = record s { present = table; outer = rest }

  abbrev pub left : Scopes T → Scopes T
  left s = left_for s.outer s

  -- the file level declares a name; nothing changes in a scope that was entered
  abbrev pub declared_at : List (List (Meaning T)) → ℕ → T → Scopes T → Scopes T
  declared_at [] name what s =
      record s { file = slice_set s.file name (inside what); present = slice_set s.present name (inside what) }
  declared_at (_ ∷ _) name what s = s

  abbrev pub globally_declared : ℕ → T → Scopes T → Scopes T
  globally_declared name what s = declared_at s.outer name what s

  -- the present scope declares a name, be it the file level or one that was entered
  abbrev pub declared_in : List (List (Meaning T)) → ℕ → T → Scopes T → Scopes T
  declared_in [] name what s = globally_declared name what s
  declared_in (_ ∷ _) name what s = record s { present = slice_set s.present name (inside what) }

  abbrev pub declared : ℕ → T → Scopes T → Scopes T
  declared name what s = declared_in s.outer name what s

  -- what a name means here
  abbrev pub what_of : T → Option (Meaning T) → T
  what_of nothing None = nothing
  what_of nothing (Some m) = m.what

  abbrev pub meaning_here : Scopes T → ℕ → T
  meaning_here s name = what_of s.nothing (slice_get s.present name)

  -- whether the scope of this table declares a name
  abbrev pub is_here : Option (Meaning T) → Bool
  is_here None = false
  is_here (Some m) = m.here

  abbrev pub declares : List (Meaning T) → ℕ → Bool
  declares table name = is_here (slice_get table name)

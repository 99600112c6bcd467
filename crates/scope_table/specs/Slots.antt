-- How slots, replaced slots and frames are read as scopes. Frames stand with the innermost first,
-- and replaced slots in the order in which they were replaced.
use Rattle.std.specs.Prelude.{◌≡◌, ℕ, suc, ◌≤◌, List, [], ◌∷◌, length, take, drop, slice_set, All, cond, nat_lt, nat_eq}
use Rattle.scope_table.specs.Scopes.{Meaning, Scopes}
use Rattle.scope_table.specs.declared.table.Slot.{Slot}
use Rattle.scope_table.specs.declared.table.Replaced.{Replaced}
use Rattle.scope_table.specs.declared.table.Frame.{Frame}

-- the level of the innermost scope
abbrev pub level_of : List Frame → ℕ
level_of frames = suc (length frames)

module _ {T : Type 0} where
  -- what a name means at a level from which no level below `base` is seen but the file's
  abbrev pub meaning : ℕ → ℕ → Slot T → Slot T → Meaning T
  meaning level base file slot =
      record { what = cond (nat_lt slot.level base) file.what slot.what; here = nat_eq slot.level level }

  abbrev pub table : ℕ → ℕ → List (Slot T) → List (Slot T) → List (Meaning T)
  table level base [] slots = []
  table level base (f ∷ fs) [] = []
  table level base (f ∷ fs) (s ∷ ss) = meaning level base f s ∷ table level base fs ss

  -- the slots before these replacements, of which the last is undone first
  abbrev pub rewound : List (Replaced T) → List (Slot T) → List (Slot T)
  rewound [] slots = slots
  rewound (r ∷ rs) slots = slice_set (rewound rs slots) r.place r.slot

  -- the slots as the scope round the innermost one had them
  abbrev pub slots_before : Frame → List (Replaced T) → List (Slot T) → List (Slot T)
  slots_before f replaced slots = rewound (drop f.replaced replaced) slots

  -- the tables of the scopes that the innermost one stands in
  abbrev pub outer_tables : List Frame → List (Replaced T) → List (Slot T) → List (Slot T) → List (List (Meaning T))
  outer_tables [] replaced file slots = []
  outer_tables (f ∷ fs) replaced file slots =
      table (level_of fs) f.base file (slots_before f replaced slots)
      ∷ outer_tables fs (take f.replaced replaced) file (slots_before f replaced slots)

  abbrev pub scopes_of : T → List (Slot T) → List (Slot T) → List (Replaced T) → List Frame → ℕ → Scopes T
  scopes_of nothing file slots replaced frames base =
      record {
        nothing = nothing;
        file = table 1 0 file file;
        present = table (level_of frames) base file slots;
        outer = outer_tables frames replaced file slots;
      }

  -- no slot is of a level above this one, and what is seen begins at or below it
  pub record AtLevel (level base : ℕ) (slots : List (Slot T)) : Type 0 where
    pub below : All (λ s. s.level ≤ level) slots
    pub seen : base ≤ level

  -- so it is in the innermost scope, and was in each round it
  abbrev pub AtEachLevel : List Frame → List (Replaced T) → List (Slot T) → ℕ → Type 0
  AtEachLevel [] replaced slots base = AtLevel 1 base slots
  AtEachLevel (f ∷ fs) replaced slots base =
      AtLevel (level_of (f ∷ fs)) base slots
      × (f.replaced ≤ length replaced)
      × AtEachLevel fs (take f.replaced replaced) (slots_before f replaced slots) f.base

  -- the invariant of a table of scopes
  pub record IsSound (file slots : List (Slot T)) (replaced : List (Replaced T)) (frames : List Frame) (base : ℕ) : Type 0 where
    pub lengths : length file ≡ length slots
    pub levels : AtEachLevel frames replaced slots base

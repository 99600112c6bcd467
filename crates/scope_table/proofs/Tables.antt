-- How a table of scopes changes where its slots do.
use Rattle.std.proofs.Common.{◌≡◌, ℕ, zero, suc, ◌<◌, ◌≤◌, List, [], ◌∷◌, ◌++◌, length, set, get_or, slice_get, Some, None, ltb, eqb, true, false, All, refl, ◌∙◌, ap, arith}
use Rattle.std.proofs.lemmas.List.{length-set}
use Rattle.std.proofs.lemmas.List.Elements.{All-head, All-tail}
use Rattle.std.proofs.lemmas.Bool.Decides.{nat_tests}
use Rattle.scope_table.specs.Scopes.{inside, within}
use Rattle.scope_table.specs.Slots.{meaning, table, rewound, level_of, AtLevel, AtEachLevel}
use Rattle.scope_table.specs.declared.table.Slot.{Slot}
use Rattle.scope_table.specs.declared.table.Replaced.{Replaced}
use Rattle.scope_table.specs.declared.table.Frame.{Frame}

module _ {T : Type 0} where
  abbrev pub Below : ℕ → Slot T → Type 0
  Below level s = s.level ≤ level

  -- a slot is written
  pub table-set : (level base : ℕ) (file slots : List (Slot T)) (i : ℕ) (s d : Slot T)
      → table level base file (set slots i s) ≡ set (table level base file slots) i (meaning level base (get_or file i d) s)
  table-set level base [] slots i s d = refl
  table-set level base (f ∷ fs) [] i s d = refl
  table-set level base (f ∷ fs) (t ∷ ss) zero s d = refl
  table-set level base (f ∷ fs) (t ∷ ss) (suc i) s d = ap (λ r. meaning level base f t ∷ r) (table-set level base fs ss i s d)

  -- a name's slot is written at the file level too
  pub table-set_both : (level base : ℕ) (file slots : List (Slot T)) (i : ℕ) (f s : Slot T)
      → table level base (set file i f) (set slots i s) ≡ set (table level base file slots) i (meaning level base f s)
  table-set_both level base [] slots i f s = refl
  table-set_both level base (g ∷ fs) [] zero f s = refl
  table-set_both level base (g ∷ fs) [] (suc i) f s = refl
  table-set_both level base (g ∷ fs) (t ∷ ss) zero f s = refl
  table-set_both level base (g ∷ fs) (t ∷ ss) (suc i) f s = ap (λ r. meaning level base g t ∷ r) (table-set_both level base fs ss i f s)

  -- a declaration is seen in the scope that makes it
  pub meaning-declared : (level base : ℕ) (f : Slot T) (what : T) → base ≤ level
      → meaning level base f (record { what = what; level = level }) ≡ inside what
  meaning-declared level base f what h =
      let seen : ltb level base ≡ false = grind (arith, nat_tests)
      in
      let here : eqb level level ≡ true = grind (arith, nat_tests)
      in
      rw (seen, here)

  -- a scope is entered
  pub table-entered : (level base : ℕ) (file slots : List (Slot T)) → All (Below level) slots
      → table (suc level) base file slots ≡ within (table level base file slots)
  table-entered level base [] slots h = refl
  table-entered level base (f ∷ fs) [] h = refl
  table-entered level base (f ∷ fs) (s ∷ ss) h =
      let low : s.level ≤ level = All-head (Below level) s ss h
      in
      let fresh : eqb s.level (suc level) ≡ false = grind (arith, nat_tests)
      in
      let rest : table (suc level) base fs ss ≡ within (table level base fs ss) =
      table-entered level base fs ss (All-tail (Below level) s ss h)
      in
      rw (fresh, rest)

  -- a module's scope is entered
  pub table-module_entered : (level : ℕ) (file slots : List (Slot T)) → length file ≡ length slots → All (Below level) slots
      → table (suc level) (suc level) file slots ≡ within (table 1 0 file file)
  table-module_entered level [] slots e h = refl
  table-module_entered level (f ∷ fs) [] e h = absurd (omega arith)
  table-module_entered level (f ∷ fs) (s ∷ ss) e h =
      let low : s.level ≤ level = All-head (Below level) s ss h
      in
      let fresh : eqb s.level (suc level) ≡ false = grind (arith, nat_tests)
      in
      let hidden : ltb s.level (suc level) ≡ true = grind (arith, nat_tests)
      in
      let seen : ltb f.level 0 ≡ false = grind (arith, nat_tests)
      in
      let rest : table (suc level) (suc level) fs ss ≡ within (table 1 0 fs fs) =
      table-module_entered level fs ss (omega arith) (All-tail (Below level) s ss h)
      in
      rw (fresh, hidden, seen, rest)

  pub rewound-append : (rs later : List (Replaced T)) (slots : List (Slot T))
      → rewound (rs ++ later) slots ≡ rewound rs (rewound later slots)
  rewound-append [] later slots = refl
  rewound-append (r ∷ rs) later slots = ap (λ s. set s r.place r.slot) (rewound-append rs later slots)

  pub length-rewound : (rs : List (Replaced T)) (slots : List (Slot T)) → length (rewound rs slots) ≡ length slots
  length-rewound [] slots = refl
  length-rewound (r ∷ rs) slots = length-set (rewound rs slots) r.place r.slot ∙ length-rewound rs slots

  -- what is put back is what stood there
  pub set-back : (slots : List (Slot T)) (i : ℕ) (s d : Slot T) → set (set slots i s) i (get_or slots i d) ≡ slots
  set-back [] i s d = refl
  set-back (t ∷ ss) zero s d = refl
  set-back (t ∷ ss) (suc i) s d = ap (λ r. t ∷ r) (set-back ss i s d)

  -- a name in the table and one past it
  pub table-get : (level base : ℕ) (file slots : List (Slot T)) (i : ℕ) (d e : Slot T) → i < length file → i < length slots
      → slice_get (table level base file slots) i ≡ Some (meaning level base (get_or file i d) (get_or slots i e))
  table-get level base [] slots i d e h k = absurd (omega arith)
  table-get level base (f ∷ fs) [] i d e h k = absurd (omega arith)
  table-get level base (f ∷ fs) (s ∷ ss) zero d e h k = refl
  table-get level base (f ∷ fs) (s ∷ ss) (suc i) d e h k = table-get level base fs ss i d e (omega arith) (omega arith)

  pub table-past : (level base : ℕ) (file slots : List (Slot T)) (i : ℕ) → length file ≡ length slots → length slots ≤ i
      → slice_get (table level base file slots) i ≡ None
  table-past level base [] slots i e h = refl
  table-past level base (f ∷ fs) [] i e h = refl
  table-past level base (f ∷ fs) (s ∷ ss) zero e h = absurd (omega arith)
  table-past level base (f ∷ fs) (s ∷ ss) (suc i) e h = table-past level base fs ss i (omega arith) (omega arith)

  pub at_level : (frames : List Frame) (rs : List (Replaced T)) (slots : List (Slot T)) (base : ℕ)
      → AtEachLevel frames rs slots base → AtLevel (level_of frames) base slots
  at_level [] rs slots base h = h
  at_level (f ∷ fs) rs slots base h = h.0

  pub length-table : (level base : ℕ) (file slots : List (Slot T)) → length file ≡ length slots → length (table level base file slots) ≡ length slots
  length-table level base [] slots e = e
  length-table level base (f ∷ fs) [] e = absurd (omega arith)
  length-table level base (f ∷ fs) (s ∷ ss) e = omega (arith, length-table level base fs ss (omega arith))

-- What each call does to the scopes that the slots are read as.
use Rattle.std.proofs.Common.{◌≡◌, ℕ, zero, suc, ◌<◌, ◌≤◌, List, [], ◌∷◌, ◌++◌, length, take, drop, replicate, set, get_or, ltb, eqb, true, false, refl, sym, ◌∙◌, ap, arith}
use Rattle.std.proofs.lemmas.List.{length-set, set_past, take-append-le, drop-append-le, take_all, drop_all, length-append}
use Rattle.std.proofs.lemmas.List.Elements.{All-set, All-replicate, All-weaker}
use Rattle.std.proofs.lemmas.Bool.Decides.{nat_tests}
use Rattle.scope_table.specs.Scopes.{Meaning, inside, outside, entered, module_entered, declared, globally_declared, at_file_level, meaning_here, declares}
use Rattle.scope_table.specs.Slots.{table, rewound, level_of, slots_before, outer_tables, scopes_of, IsSound}
use Rattle.scope_table.specs.declared.table.Slot.{Slot}
use Rattle.scope_table.specs.declared.table.Replaced.{Replaced}
use Rattle.scope_table.specs.declared.table.Frame.{Frame}
use Rattle.scope_table.proofs.Tables.{Below, table-set, table-set_both, meaning-declared, table-entered, table-module_entered, rewound-append, length-rewound, set-back, table-get, table-past, at_level, length-table}

-- the frame of a scope that was entered when so much was replaced and this was seen
abbrev pub frame_of : {T : Type 0} → List (Replaced T) → ℕ → Frame
frame_of rs base = record { replaced = length rs; base = base }

module _ {T : Type 0} where
  -- nothing was replaced in a scope that was just entered
  before-entered : (rs : List (Replaced T)) (slots : List (Slot T)) (base : ℕ) → slots_before (frame_of rs base) rs slots ≡ slots
  before-entered rs slots base = rw (drop_all (length rs) rs (omega arith))

  taken-entered : (rs : List (Replaced T)) → take (length rs) rs ≡ rs
  taken-entered rs = take_all (length rs) rs (omega arith)

  outer-entered : (rs : List (Replaced T)) (file slots : List (Slot T)) (fs : List Frame) (base : ℕ)
      → outer_tables (frame_of rs base ∷ fs) rs file slots ≡ table (level_of fs) base file slots ∷ outer_tables fs rs file slots
  outer-entered rs file slots fs base = rw (before-entered rs slots base, taken-entered rs)

  pub scopes-entered : (nothing : T) (file slots : List (Slot T)) (rs : List (Replaced T)) (fs : List Frame) (base : ℕ)
      → IsSound file slots rs fs base
      → scopes_of nothing file slots rs (frame_of rs base ∷ fs) base ≡ entered (scopes_of nothing file slots rs fs base)
  scopes-entered nothing file slots rs fs base h =
      let within_this = table-entered (level_of fs) base file slots (at_level fs rs slots base h.levels).below
      in
      rw (outer-entered rs file slots fs base, within_this)

  pub scopes-module_entered : (nothing : T) (file slots : List (Slot T)) (rs : List (Replaced T)) (fs : List Frame) (base : ℕ)
      → IsSound file slots rs fs base
      → scopes_of nothing file slots rs (frame_of rs base ∷ fs) (suc (level_of fs)) ≡ module_entered (scopes_of nothing file slots rs fs base)
  scopes-module_entered nothing file slots rs fs base h =
      let within_file = table-module_entered (level_of fs) file slots h.lengths (at_level fs rs slots base h.levels).below
      in
      rw (outer-entered rs file slots fs base, within_file)

  pub sound-entered : (file slots : List (Slot T)) (rs : List (Replaced T)) (fs : List Frame) (base seen : ℕ)
      → seen ≤ suc (level_of fs) → IsSound file slots rs fs base → IsSound file slots rs (frame_of rs base ∷ fs) seen
  sound-entered file slots rs fs base seen le h =
      let here = at_level fs rs slots base h.levels
      in
      record {
        lengths = h.lengths;
        levels = (
          record {
            below = All-weaker (Below (level_of fs)) (Below (suc (level_of fs))) (λ s k. omega (arith, k)) slots here.below;
            seen = le;
          },
          omega arith,
          rw (before-entered rs slots base, taken-entered rs) h.levels,
        );
      }

  pub sound-left : (file slots : List (Slot T)) (rs : List (Replaced T)) (f : Frame) (fs : List Frame) (base : ℕ)
      → IsSound file slots rs (f ∷ fs) base → IsSound file (slots_before f rs slots) (take f.replaced rs) fs f.base
  sound-left file slots rs f fs base h =
      record { lengths = h.lengths ∙ sym (length-rewound (drop f.replaced rs) slots); levels = h.levels.2 }

  -- a declaration in a scope that was entered
  abbrev pub slot_kept : List (Slot T) → ℕ → Slot T → Replaced T
  slot_kept slots i d = record { place = i; slot = get_or slots i d }

  before-declared : (rs : List (Replaced T)) (slots : List (Slot T)) (f : Frame) (i : ℕ) (s d : Slot T) → f.replaced ≤ length rs
      → slots_before f (rs ++ slot_kept slots i d ∷ []) (set slots i s) ≡ slots_before f rs slots
  before-declared rs slots f i s d h =
      let e = drop-append-le f.replaced rs (slot_kept slots i d ∷ []) h
      in
      rw (e, rewound-append (drop f.replaced rs) (slot_kept slots i d ∷ []) (set slots i s), set-back slots i s d)

  pub scopes-declared : (nothing : T) (file slots : List (Slot T)) (rs : List (Replaced T)) (f : Frame) (fs : List Frame) (base i : ℕ) (what : T) (d : Slot T)
      → IsSound file slots rs (f ∷ fs) base
      → scopes_of nothing file (set slots i (record { what = what; level = level_of (f ∷ fs) })) (rs ++ slot_kept slots i d ∷ []) (f ∷ fs) base
      ≡ declared i what (scopes_of nothing file slots rs (f ∷ fs) base)
  scopes-declared nothing file slots rs f fs base i what d h =
      let s : Slot T = record { what = what; level = level_of (f ∷ fs) }
      in
      let le : f.replaced ≤ length rs = h.levels.1
      in
      let before = before-declared rs slots f i s d le
      in
      let taken = take-append-le f.replaced rs (slot_kept slots i d ∷ []) le
      in
      let here = table-set (level_of (f ∷ fs)) base file slots i s d ∙ ap (λ m. set (table (level_of (f ∷ fs)) base file slots) i m) (meaning-declared (level_of (f ∷ fs)) base (get_or file i d) what h.levels.0.seen)
      in
      rw (before, taken, here)

  pub sound-declared : (file slots : List (Slot T)) (rs : List (Replaced T)) (f : Frame) (fs : List Frame) (base i : ℕ) (what : T) (d : Slot T)
      → IsSound file slots rs (f ∷ fs) base
      → IsSound file (set slots i (record { what = what; level = level_of (f ∷ fs) })) (rs ++ slot_kept slots i d ∷ []) (f ∷ fs) base
  sound-declared file slots rs f fs base i what d h =
      let s : Slot T = record { what = what; level = level_of (f ∷ fs) }
      in
      let le : f.replaced ≤ length rs = h.levels.1
      in
      record {
        lengths = h.lengths ∙ sym (length-set slots i s);
        levels = (
          record {
            below = All-set (Below (level_of (f ∷ fs))) slots i s (omega arith) h.levels.0.below;
            seen = h.levels.0.seen;
          },
          omega (arith, length-append rs (slot_kept slots i d ∷ [])),
          rw (before-declared rs slots f i s d le, take-append-le f.replaced rs (slot_kept slots i d ∷ []) le) h.levels.2,
        );
      }

  -- a declaration at the file level
  pub scopes-globally_declared : (nothing : T) (file slots : List (Slot T)) (rs : List (Replaced T)) (base i : ℕ) (what : T)
      → IsSound file slots rs [] base
      → scopes_of nothing (set file i (record { what = what; level = 1 })) (set slots i (record { what = what; level = 1 })) rs [] base
      ≡ globally_declared i what (scopes_of nothing file slots rs [] base)
  scopes-globally_declared nothing file slots rs base i what h =
      let s : Slot T = record { what = what; level = 1 }
      in
      let seen : ltb 1 base ≡ false = let low : base ≤ 1 = h.levels.seen in grind (arith, nat_tests)
      in
      rw (table-set_both 1 base file slots i s s, table-set_both 1 0 file file i s s, seen)

  pub sound-globally_declared : (file slots : List (Slot T)) (rs : List (Replaced T)) (base i : ℕ) (what : T)
      → IsSound file slots rs [] base
      → IsSound (set file i (record { what = what; level = 1 })) (set slots i (record { what = what; level = 1 })) rs [] base
  sound-globally_declared file slots rs base i what h =
      let s : Slot T = record { what = what; level = 1 }
      in
      record {
        lengths = length-set file i s ∙ h.lengths ∙ sym (length-set slots i s);
        levels = record { below = All-set (Below 1) slots i s (omega arith) h.levels.below; seen = h.levels.seen };
      }

  -- no name is declared
  abbrev pub no_slot : T → Slot T
  no_slot nothing = record { what = nothing; level = 0 }

  table-at_file_level : (count : ℕ) (nothing : T)
      → table 1 0 (replicate count (no_slot nothing)) (replicate count (no_slot nothing)) ≡ replicate count (outside nothing)
  table-at_file_level zero nothing = refl
  table-at_file_level (suc count) nothing = ap (λ r. outside nothing ∷ r) (table-at_file_level count nothing)

  pub scopes-at_file_level : (count : ℕ) (nothing : T)
      → scopes_of nothing (replicate count (no_slot nothing)) (replicate count (no_slot nothing)) [] [] 0 ≡ at_file_level count nothing
  scopes-at_file_level count nothing = rw (table-at_file_level count nothing)

  pub sound-at_file_level : (count : ℕ) (nothing : T)
      → IsSound (replicate count (no_slot nothing)) (replicate count (no_slot nothing)) [] [] 0
  sound-at_file_level count nothing =
      record {
        lengths = refl;
        levels = record { below = All-replicate (Below 1) count (no_slot nothing) (omega arith); seen = omega arith };
      }

  -- what changes nothing
  pub scopes-not_global : (nothing : T) (file slots : List (Slot T)) (rs : List (Replaced T)) (fs : List Frame) (base i : ℕ) (what : T)
      → 0 < length fs
      → scopes_of nothing file slots rs fs base ≡ globally_declared i what (scopes_of nothing file slots rs fs base)
  scopes-not_global nothing file slots rs [] base i what h = absurd (omega arith)
  scopes-not_global nothing file slots rs (f ∷ fs) base i what h = refl

  table-past_set : (level base : ℕ) (file slots : List (Slot T)) (i : ℕ) (m : Meaning T) → length file ≡ length slots → length slots ≤ i
      → set (table level base file slots) i m ≡ table level base file slots
  table-past_set level base file slots i m e h =
      set_past (table level base file slots) i m (omega (arith, length-table level base file slots e))

  pub scopes-global_past : (nothing : T) (file slots : List (Slot T)) (rs : List (Replaced T)) (fs : List Frame) (base i : ℕ) (what : T)
      → IsSound file slots rs fs base → length slots ≤ i
      → scopes_of nothing file slots rs fs base ≡ globally_declared i what (scopes_of nothing file slots rs fs base)
  scopes-global_past nothing file slots rs [] base i what h past =
      rw (table-past_set 1 base file slots i (inside what) h.lengths past, table-past_set 1 0 file file i (inside what) refl (omega (arith, h.lengths)))
  scopes-global_past nothing file slots rs (f ∷ fs) base i what h past = refl

  pub scopes-past : (nothing : T) (file slots : List (Slot T)) (rs : List (Replaced T)) (fs : List Frame) (base i : ℕ) (what : T)
      → IsSound file slots rs fs base → length slots ≤ i
      → scopes_of nothing file slots rs fs base ≡ declared i what (scopes_of nothing file slots rs fs base)
  scopes-past nothing file slots rs [] base i what h past = scopes-global_past nothing file slots rs [] base i what h past
  scopes-past nothing file slots rs (f ∷ fs) base i what h past =
      rw (table-past_set (level_of (f ∷ fs)) base file slots i (inside what) h.lengths past)

  -- at the file level a declaration is a global one
  pub scopes-declared_global : (nothing : T) (file slots : List (Slot T)) (rs : List (Replaced T)) (fs : List Frame) (base i : ℕ) (what : T)
      → length fs ≡ 0
      → globally_declared i what (scopes_of nothing file slots rs fs base) ≡ declared i what (scopes_of nothing file slots rs fs base)
  scopes-declared_global nothing file slots rs [] base i what h = refl
  scopes-declared_global nothing file slots rs (f ∷ fs) base i what h = absurd (omega arith)

  -- what is asked of a name
  pub here-declares : (level base : ℕ) (file slots : List (Slot T)) (i : ℕ) (d : Slot T) → length file ≡ length slots → i < length slots
      → eqb (get_or slots i d).level level ≡ declares (table level base file slots) i
  here-declares level base file slots i d e h =
      let got = table-get level base file slots i d d (omega (arith, e)) h
      in
      rw got

  pub past-declares : (level base : ℕ) (file slots : List (Slot T)) (i : ℕ) → length file ≡ length slots → length slots ≤ i
      → false ≡ declares (table level base file slots) i
  past-declares level base file slots i e h =
      let got = table-past level base file slots i e h
      in
      rw got

  pub meaning-past : (nothing : T) (file slots : List (Slot T)) (rs : List (Replaced T)) (fs : List Frame) (base i : ℕ)
      → IsSound file slots rs fs base → length slots ≤ i
      → nothing ≡ meaning_here (scopes_of nothing file slots rs fs base) i
  meaning-past nothing file slots rs fs base i h past =
      let got = table-past (level_of fs) base file slots i h.lengths past
      in
      rw got

  pub meaning-of_file : (nothing : T) (file slots : List (Slot T)) (rs : List (Replaced T)) (fs : List Frame) (base i : ℕ) (d e : Slot T)
      → IsSound file slots rs fs base → i < length slots → (get_or slots i e).level < base
      → (get_or file i d).what ≡ meaning_here (scopes_of nothing file slots rs fs base) i
  meaning-of_file nothing file slots rs fs base i d e h k low =
      let got = table-get (level_of fs) base file slots i d e (omega (arith, h.lengths)) k
      in
      let hidden : ltb (get_or slots i e).level base ≡ true = grind (arith, nat_tests)
      in
      rw (got, hidden)

  pub meaning-of_slot : (nothing : T) (file slots : List (Slot T)) (rs : List (Replaced T)) (fs : List Frame) (base i : ℕ) (d : Slot T)
      → IsSound file slots rs fs base → i < length slots → base ≤ (get_or slots i d).level
      → (get_or slots i d).what ≡ meaning_here (scopes_of nothing file slots rs fs base) i
  meaning-of_slot nothing file slots rs fs base i d h k high =
      let got = table-get (level_of fs) base file slots i d d (omega (arith, h.lengths)) k
      in
      let seen : ltb (get_or slots i d).level base ≡ false = grind (arith, nat_tests)
      in
      rw (got, seen)

  -- one replacement is put back, the last one
  pub rewound-last : (kept : ℕ) (rs : List (Replaced T)) (r : Replaced T) (slots : List (Slot T)) → kept ≤ length rs
      → rewound (drop kept (rs ++ r ∷ [])) slots ≡ rewound (drop kept rs) (set slots r.place r.slot)
  rewound-last kept rs r slots h =
      let e = drop-append-le kept rs (r ∷ []) h
      in
      rw (e, rewound-append (drop kept rs) (r ∷ []) slots)

  pub sound-base : {file slots : List (Slot T)} {rs : List (Replaced T)} {fs : List Frame} {base : ℕ}
      → IsSound file slots rs fs base → base ≤ level_of fs
  sound-base {file} {slots} {rs} {fs} {base} h = (at_level fs rs slots base h.levels).seen

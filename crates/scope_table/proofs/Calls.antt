-- The steps at the values that the code has at the end of each call: frames stand there with the
-- innermost last.
use Rattle.std.proofs.Common.{◌≡◌, ℕ, suc, ◌+◌, ◌<◌, ◌≤◌, List, [], ◌∷◌, ◌++◌, length, take, drop, reverse, set, get_or, refl, sym, ◌∙◌, ap, subst, arith, length-append}
use Rattle.std.proofs.lemmas.List.{reverse-append, length-reverse, set_past, take-append-le}
use Rattle.scope_table.specs.Scopes.{entered, module_entered, left, declared, globally_declared}
use Rattle.scope_table.specs.Slots.{rewound, level_of, slots_before, scopes_of, IsSound}
use Rattle.scope_table.specs.declared.table.Slot.{Slot}
use Rattle.scope_table.specs.declared.table.Replaced.{Replaced}
use Rattle.scope_table.specs.declared.table.Frame.{Frame}
use Rattle.scope_table.proofs.Steps.{frame_of, slot_kept, scopes-entered, scopes-module_entered, sound-entered, scopes-declared, sound-declared, scopes-globally_declared, sound-globally_declared, scopes-not_global, scopes-declared_global, rewound-last}

reverse-pushed : {X : Type 0} (xs ys : List X) (x : X) → ys ≡ xs ++ x ∷ [] → reverse ys ≡ x ∷ reverse xs
reverse-pushed xs ys x e = ap reverse e ∙ reverse-append xs (x ∷ [])

level-entered : (frames after : List Frame) (f : Frame) → after ≡ frames ++ f ∷ [] → length after + 1 ≡ suc (level_of (reverse frames))
level-entered frames after f e = omega (arith, length-reverse frames, simp length-append at (ap length e))

module _ {T : Type 0} where
  -- one turn of putting back
  less-kept : (kept : ℕ) (rs more : List (Replaced T)) (r : Replaced T) → rs ≡ more ++ r ∷ [] → kept < length rs → kept ≤ length more
  less-kept kept rs more r e h = omega (arith, simp length-append at (ap length e))

  pub turn-slots : (kept : ℕ) (rs more : List (Replaced T)) (r : Replaced T) (slots w : List (Slot T))
      → rs ≡ more ++ r ∷ [] → kept < length rs → rewound (drop kept rs) slots ≡ w
      → rewound (drop kept more) (set slots r.place r.slot) ≡ w
  turn-slots kept rs more r slots w e h k =
      sym (rewound-last kept more r slots (less-kept kept rs more r e h)) ∙ ap (λ t. rewound (drop kept t) slots) (sym e) ∙ k

  pub turn-slots_past : (kept : ℕ) (rs more : List (Replaced T)) (r : Replaced T) (slots w : List (Slot T))
      → rs ≡ more ++ r ∷ [] → kept < length rs → length slots ≤ r.place → rewound (drop kept rs) slots ≡ w
      → rewound (drop kept more) slots ≡ w
  turn-slots_past kept rs more r slots w e h past k =
      ap (λ s. rewound (drop kept more) s) (sym (set_past slots r.place r.slot past)) ∙ turn-slots kept rs more r slots w e h k

  pub turn-kept : (kept : ℕ) (rs more w : List (Replaced T)) (r : Replaced T)
      → rs ≡ more ++ r ∷ [] → kept < length rs → take kept rs ≡ w → take kept more ≡ w
  turn-kept kept rs more w r e h k =
      sym (take-append-le kept more (r ∷ []) (less-kept kept rs more r e h)) ∙ ap (λ t. take kept t) (sym e) ∙ k

  pub turn-more : (kept : ℕ) (rs more : List (Replaced T)) (r : Replaced T) → rs ≡ more ++ r ∷ [] → kept < length rs → kept ≤ length more
  turn-more kept rs more r e h = less-kept kept rs more r e h

  -- a scope is entered
  frames-entered : (rs : List (Replaced T)) (frames after : List Frame) (base n : ℕ)
      → after ≡ frames ++ record { replaced = n; base = base } ∷ [] → n ≡ length rs
      → reverse after ≡ frame_of rs base ∷ reverse frames
  frames-entered rs frames after base n e len =
      reverse-pushed frames after (record { replaced = n; base = base }) e
      ∙ ap (λ k. record { replaced = k; base = base } ∷ reverse frames) len

  pub call-entered : (nothing : T) (file slots : List (Slot T)) (rs : List (Replaced T)) (frames after : List Frame) (base n : ℕ)
      → after ≡ frames ++ record { replaced = n; base = base } ∷ [] → n ≡ length rs
      → IsSound file slots rs (reverse frames) base
      → scopes_of nothing file slots rs (reverse after) base ≡ entered (scopes_of nothing file slots rs (reverse frames) base)
  call-entered nothing file slots rs frames after base n e len h =
      ap (λ fs. scopes_of nothing file slots rs fs base) (frames-entered rs frames after base n e len)
      ∙ scopes-entered nothing file slots rs (reverse frames) base h

  pub call-entered_sound : (file slots : List (Slot T)) (rs : List (Replaced T)) (frames after : List Frame) (base n : ℕ)
      → after ≡ frames ++ record { replaced = n; base = base } ∷ [] → n ≡ length rs → base ≤ level_of (reverse frames)
      → IsSound file slots rs (reverse frames) base → IsSound file slots rs (reverse after) base
  call-entered_sound file slots rs frames after base n e len low h =
      subst (λ fs. IsSound file slots rs fs base) (sym (frames-entered rs frames after base n e len))
      (sound-entered file slots rs (reverse frames) base base (omega arith) h)

  -- a module's scope is entered
  pub call-module_entered : (nothing : T) (file slots : List (Slot T)) (rs : List (Replaced T)) (frames after : List Frame) (base n seen : ℕ)
      → after ≡ frames ++ record { replaced = n; base = base } ∷ [] → n ≡ length rs → seen ≡ length after + 1
      → IsSound file slots rs (reverse frames) base
      → scopes_of nothing file slots rs (reverse after) seen ≡ module_entered (scopes_of nothing file slots rs (reverse frames) base)
  call-module_entered nothing file slots rs frames after base n seen e len at h =
      ap (λ k. scopes_of nothing file slots rs (reverse after) k) (at ∙ level-entered frames after (record { replaced = n; base = base }) e)
      ∙ ap (λ fs. scopes_of nothing file slots rs fs (suc (level_of (reverse frames)))) (frames-entered rs frames after base n e len)
      ∙ scopes-module_entered nothing file slots rs (reverse frames) base h

  pub call-module_entered_sound : (file slots : List (Slot T)) (rs : List (Replaced T)) (frames after : List Frame) (base n seen : ℕ)
      → after ≡ frames ++ record { replaced = n; base = base } ∷ [] → n ≡ length rs → seen ≡ length after + 1
      → IsSound file slots rs (reverse frames) base → IsSound file slots rs (reverse after) seen
  call-module_entered_sound file slots rs frames after base n seen e len at h =
      subst (λ fs. IsSound file slots rs fs seen) (sym (frames-entered rs frames after base n e len))
      (sound-entered file slots rs (reverse frames) base seen (omega (arith, level-entered frames after (record { replaced = n; base = base }) e)) h)

  -- a name is declared in a scope that was entered
  kept-declared : (rs after : List (Replaced T)) (slots : List (Slot T)) (i : ℕ) (kept : Slot T)
      → after ≡ rs ++ record { place = i; slot = kept } ∷ [] → kept ≡ get_or slots i kept → after ≡ rs ++ slot_kept slots i kept ∷ []
  kept-declared rs after slots i kept e k = e ∙ ap (λ s. rs ++ record { place = i; slot = s } ∷ []) k

  on-declared : (nothing : T) (file slots : List (Slot T)) (rs after : List (Replaced T)) (fs : List Frame) (base i level : ℕ) (what : T) (kept : Slot T)
      → after ≡ rs ++ slot_kept slots i kept ∷ [] → level ≡ level_of fs → 0 < length fs
      → IsSound file slots rs fs base
      → scopes_of nothing file (set slots i (record { what = what; level = level })) after fs base ≡ declared i what (scopes_of nothing file slots rs fs base)
  on-declared nothing file slots rs after [] base i level what kept e l some h = absurd (omega arith)
  on-declared nothing file slots rs after (f ∷ fs) base i level what kept e l some h =
      ap (λ k. scopes_of nothing file (set slots i (record { what = what; level = k })) after (f ∷ fs) base) l
      ∙ ap (λ r. scopes_of nothing file (set slots i (record { what = what; level = level_of (f ∷ fs) })) r (f ∷ fs) base) e
      ∙ scopes-declared nothing file slots rs f fs base i what kept h

  on-declared_sound : (file slots : List (Slot T)) (rs after : List (Replaced T)) (fs : List Frame) (base i level : ℕ) (what : T) (kept : Slot T)
      → after ≡ rs ++ slot_kept slots i kept ∷ [] → level ≡ level_of fs → 0 < length fs
      → IsSound file slots rs fs base → IsSound file (set slots i (record { what = what; level = level })) after fs base
  on-declared_sound file slots rs after [] base i level what kept e l some h = absurd (omega arith)
  on-declared_sound file slots rs after (f ∷ fs) base i level what kept e l some h =
      subst (λ k. IsSound file (set slots i (record { what = what; level = k })) after (f ∷ fs) base) (sym l)
      (subst (λ r. IsSound file (set slots i (record { what = what; level = level_of (f ∷ fs) })) r (f ∷ fs) base) (sym e)
      (sound-declared file slots rs f fs base i what kept h))

  pub call-declared : (nothing : T) (file slots : List (Slot T)) (rs after : List (Replaced T)) (frames : List Frame) (base i level : ℕ) (what : T) (kept : Slot T)
      → after ≡ rs ++ record { place = i; slot = kept } ∷ [] → kept ≡ get_or slots i kept → level ≡ length frames + 1 → 0 < length frames
      → IsSound file slots rs (reverse frames) base
      → scopes_of nothing file (set slots i (record { what = what; level = level })) after (reverse frames) base ≡ declared i what (scopes_of nothing file slots rs (reverse frames) base)
  call-declared nothing file slots rs after frames base i level what kept e k l some h =
      on-declared nothing file slots rs after (reverse frames) base i level what kept (kept-declared rs after slots i kept e k) (omega (arith, length-reverse frames)) (omega (arith, length-reverse frames)) h

  pub call-declared_sound : (file slots : List (Slot T)) (rs after : List (Replaced T)) (frames : List Frame) (base i level : ℕ) (what : T) (kept : Slot T)
      → after ≡ rs ++ record { place = i; slot = kept } ∷ [] → kept ≡ get_or slots i kept → level ≡ length frames + 1 → 0 < length frames
      → IsSound file slots rs (reverse frames) base
      → IsSound file (set slots i (record { what = what; level = level })) after (reverse frames) base
  call-declared_sound file slots rs after frames base i level what kept e k l some h =
      on-declared_sound file slots rs after (reverse frames) base i level what kept (kept-declared rs after slots i kept e k) (omega (arith, length-reverse frames)) (omega (arith, length-reverse frames)) h

  -- a name is declared at the file level
  on-global : (nothing : T) (file slots : List (Slot T)) (rs : List (Replaced T)) (fs : List Frame) (base i : ℕ) (what : T)
      → length fs ≡ 0 → IsSound file slots rs fs base
      → scopes_of nothing (set file i (record { what = what; level = 1 })) (set slots i (record { what = what; level = 1 })) rs fs base
      ≡ globally_declared i what (scopes_of nothing file slots rs fs base)
  on-global nothing file slots rs [] base i what e h = scopes-globally_declared nothing file slots rs base i what h
  on-global nothing file slots rs (f ∷ fs) base i what e h = absurd (omega arith)

  on-global_sound : (file slots : List (Slot T)) (rs : List (Replaced T)) (fs : List Frame) (base i : ℕ) (what : T)
      → length fs ≡ 0 → IsSound file slots rs fs base
      → IsSound (set file i (record { what = what; level = 1 })) (set slots i (record { what = what; level = 1 })) rs fs base
  on-global_sound file slots rs [] base i what e h = sound-globally_declared file slots rs base i what h
  on-global_sound file slots rs (f ∷ fs) base i what e h = absurd (omega arith)

  pub call-global : (nothing : T) (file slots : List (Slot T)) (rs : List (Replaced T)) (frames : List Frame) (base i : ℕ) (what : T)
      → length frames ≡ 0 → IsSound file slots rs (reverse frames) base
      → scopes_of nothing (set file i (record { what = what; level = 1 })) (set slots i (record { what = what; level = 1 })) rs (reverse frames) base
      ≡ globally_declared i what (scopes_of nothing file slots rs (reverse frames) base)
  call-global nothing file slots rs frames base i what e h =
      on-global nothing file slots rs (reverse frames) base i what (length-reverse frames ∙ e) h

  pub call-global_sound : (file slots : List (Slot T)) (rs : List (Replaced T)) (frames : List Frame) (base i : ℕ) (what : T)
      → length frames ≡ 0 → IsSound file slots rs (reverse frames) base
      → IsSound (set file i (record { what = what; level = 1 })) (set slots i (record { what = what; level = 1 })) rs (reverse frames) base
  call-global_sound file slots rs frames base i what e h =
      on-global_sound file slots rs (reverse frames) base i what (length-reverse frames ∙ e) h

  pub call-not_global : (nothing : T) (file slots : List (Slot T)) (rs : List (Replaced T)) (frames : List Frame) (base i : ℕ) (what : T)
      → 0 < length frames
      → scopes_of nothing file slots rs (reverse frames) base ≡ globally_declared i what (scopes_of nothing file slots rs (reverse frames) base)
  call-not_global nothing file slots rs frames base i what some =
      scopes-not_global nothing file slots rs (reverse frames) base i what (omega (arith, length-reverse frames))

  pub call-declared_global : (nothing : T) (file slots : List (Slot T)) (rs : List (Replaced T)) (frames : List Frame) (base i : ℕ) (what : T)
      → length frames ≡ 0
      → globally_declared i what (scopes_of nothing file slots rs (reverse frames) base) ≡ declared i what (scopes_of nothing file slots rs (reverse frames) base)
  call-declared_global nothing file slots rs frames base i what e =
      scopes-declared_global nothing file slots rs (reverse frames) base i what (length-reverse frames ∙ e)

  -- a scope is left
  on-left : (nothing : T) (file slots : List (Slot T)) (rs : List (Replaced T)) (f : Frame) (fs : List Frame) (base : ℕ)
      → scopes_of nothing file (slots_before f rs slots) (take f.replaced rs) fs f.base ≡ left (scopes_of nothing file slots rs (f ∷ fs) base)
  on-left nothing file slots rs f fs base = refl

  pub call-left : (nothing : T) (file slots : List (Slot T)) (rs : List (Replaced T)) (frames after : List Frame) (f : Frame) (base : ℕ)
      → frames ≡ after ++ f ∷ []
      → scopes_of nothing file (slots_before f rs slots) (take f.replaced rs) (reverse after) f.base ≡ left (scopes_of nothing file slots rs (reverse frames) base)
  call-left nothing file slots rs frames after f base e =
      on-left nothing file slots rs f (reverse after) base
      ∙ ap (λ fs. left (scopes_of nothing file slots rs fs base)) (sym (reverse-pushed after frames f e))

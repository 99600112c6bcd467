-- The files of a run, one after another.
use Rattle.std.proofs.Common.{◌≡◌, ℕ, ◌+◌, true, List, [], ◌∷◌, ◌++◌, refl, sym, subst, arith, inl, inr}
use Rattle.std.specs.Prelude.{Option, Some, None, is_some, Result, Ok, Err, OnOk}
use Rattle.std.specs.Option.{option_map}
use Rattle.vs_world.specs.declared.world.Stream.{Stream}
use Rattle.vs_world.specs.declared.world.Stream.TheVariants.{Calls, Vcd}
use Rattle.vs_world.specs.Outside.{Made, Told, IsMade, IsOpen, IsCreatable, OnlyCreates, Rose}
use Rattle.vs_world.specs.Entries.{Entry, Did, made_by}
use Rattle.vs_world.specs.EntryLaws.{did_create, broke_create}
use Rattle.sim_session.specs.declared.fault.SessionFault.{SessionFault}
use Rattle.sim_session.specs.declared.fault.SessionFault.TheVariants.{World}
use Rattle.sim_session.specs.declared.texts.Texts.{Texts}
use Rattle.sim_session.specs.Runs.{creation, creations}
use Rattle.sim_session.specs.Ends.{Mark, Done, Stopped, DoneOrStopped}
use Rattle.sim_session.specs.Ready.{IsOpened}
use Rattle.sim_session.proofs.EndLaws.{done_none, then_or_stopped, stopped_before}

-- ---- one file, with its name by other terms

module _ (stream : Stream) (o : Option (List ℕ)) where
  pub none_wanted : (a : Mark) → o ≡ None → DoneOrStopped (creation stream o) None (Ok tt) a a
  none_wanted a e = subst (λ (x : Option (List ℕ)). DoneOrStopped (creation stream x) None (Ok tt) a a) (sym e) (refl, done_none a)

  pub created : (name : List ℕ) (a b : Mark) → o ≡ Some name → b.done ≡ a.done + 1 → b.told.made ≡ option_map (λ made. made ++ (stream, name) ∷ []) a.told.made → OnlyCreates a.told b.told
      → DoneOrStopped (creation stream o) None (Ok tt) a b
  created name a b e count made only =
      subst (λ (x : Option (List ℕ)). DoneOrStopped (creation stream x) None (Ok tt) a b) (sym e)
      (refl, record { did = did_create stream name a.told b.told made only; count = count })

  pub not_created : (name : List ℕ) (a : Mark) (now : Told) → o ≡ Some name → now.made ≡ a.told.made → OnlyCreates a.told now → Rose a.told.faults now.faults
      → Stopped (creation stream o) None (World stream a.done 0) a now
  not_created name a now e made only rose =
      subst (λ (x : Option (List ℕ)). Stopped (creation stream x) None (World stream a.done 0) a now) (sym e)
      (0, omega arith, broke_create stream name a.told now made only rose)

-- ---- the two files

pub second_or_stopped : (o calls p vcd : Option (List ℕ)) (r : Result (Unit {0}) SessionFault) (a b c : Mark) → o ≡ calls → p ≡ vcd → Done (creation Calls o) a b → DoneOrStopped (creation Vcd p) None r b c
    → DoneOrStopped (creation Calls calls ++ creation Vcd vcd) None r a c
second_or_stopped o calls p vcd r a b c first second u e =
    subst (λ (l : List Entry). DoneOrStopped l None r a c) (λ i. creation Calls (first i) ++ creation Vcd (second i))
    (then_or_stopped (creation Calls o) (creation Vcd p) None r a b c u e)

pub first_stopped : (o calls vcd : Option (List ℕ)) (fault : SessionFault) (a : Mark) (now : Told) → o ≡ calls → Stopped (creation Calls o) None fault a now
    → Stopped (creation Calls calls ++ creation Vcd vcd) None fault a now
first_stopped o calls vcd fault a now first e =
    subst (λ (l : List Entry). Stopped l None fault a now) (λ i. creation Calls (first i) ++ creation Vcd vcd)
    (stopped_before (creation Calls o) (creation Vcd vcd) None fault a now e)

-- ---- what may be created, and what is open

differ : Calls ≡ Vcd → ⊥
differ e = cc

more : (stream : Stream) (name : List ℕ) (made : Made) → IsMade stream (made ++ (stream, name) ∷ [])
more stream name [] = inl refl
more stream name (m ∷ made) = inr (more stream name made)

kept : (stream : Stream) (made others : Made) → IsMade stream made → IsMade stream (made ++ others)
kept stream [] others h = absurd h
kept stream (m ∷ made) others (inl e) = inl e
kept stream (m ∷ made) others (inr h) = inr (kept stream made others h)

still : (name : List ℕ) (made : Made) → IsMade Vcd (made ++ (Calls, name) ∷ []) → IsMade Vcd made
still name [] (inl e) = absurd (differ e)
still name [] (inr h) = h
still name (m ∷ made) (inl e) = inl e
still name (m ∷ made) (inr h) = inr (still name made h)

told_still : (o : Option (List ℕ)) (told : Option Made) → IsCreatable told Vcd → IsCreatable (option_map (made_by (creation Calls o)) told) Vcd
told_still o None h = tt
told_still None (Some made) h = h
told_still (Some name) (Some made) h = λ is. h (still name made is)

pub creatable_still : (o : Option (List ℕ)) (a b : Told) → Did (creation Calls o) a b → IsCreatable a.made Vcd → IsCreatable b.made Vcd
creatable_still o a b d h = subst (λ (told : Option Made). IsCreatable told Vcd) (sym d.made) (told_still o a.made h)

calls_made : (name : List ℕ) (vcd : Option (List ℕ)) (made : Made) → IsMade Calls (made_by (creation Vcd vcd) (made ++ (Calls, name) ∷ []))
calls_made name None made = more Calls name made
calls_made name (Some other) made = kept Calls (made ++ (Calls, name) ∷ []) ((Vcd, other) ∷ []) (more Calls name made)

calls_open : (calls vcd : Option (List ℕ)) (told : Option Made) → is_some calls ≡ true → IsOpen (option_map (made_by (creation Calls calls ++ creation Vcd vcd)) told) Calls
calls_open calls vcd None h = tt
calls_open None vcd (Some made) h = cc
calls_open (Some name) vcd (Some made) h = calls_made name vcd made

vcd_open : (calls vcd : Option (List ℕ)) (told : Option Made) → is_some vcd ≡ true → IsOpen (option_map (made_by (creation Calls calls ++ creation Vcd vcd)) told) Vcd
vcd_open calls vcd None h = tt
vcd_open calls None (Some made) h = cc
vcd_open None (Some name) (Some made) h = more Vcd name made
vcd_open (Some other) (Some name) (Some made) h = more Vcd name (made ++ (Calls, other) ∷ [])

pub all_open : (texts : Texts) (r : Result (Unit {0}) SessionFault) (a b : Mark) → DoneOrStopped (creations texts) None r a b → OnOk r (IsOpened texts b.told.made)
all_open texts (Ok v) a b e = record {
  calls = λ h. subst (λ (told : Option Made). IsOpen told Calls) (sym e.1.did.made) (calls_open texts.calls texts.vcd a.told.made h);
  vcd = λ h. subst (λ (told : Option Made). IsOpen told Vcd) (sym e.1.did.made) (vcd_open texts.calls texts.vcd a.told.made h);
}
all_open texts (Err fault) a b e = tt

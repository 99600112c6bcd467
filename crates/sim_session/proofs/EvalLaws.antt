-- Evals one after another, and where a run stops among them.
use Rattle.std.proofs.Common.{◌≡◌, ℕ, ◌+◌, List, [], ◌∷◌, ◌++◌, length, length-append, Bool, true, false, cond, Option, Some, None, refl, sym, ap, ◌∙◌, subst, append_assoc, arith}
use Rattle.std.specs.Prelude.{Result, Ok, Err, OnOk, is_some}
use Rattle.std.proofs.lemmas.List.{append-nil}
use Rattle.std.proofs.lemmas.List.Sums.{fold-append}
use Rattle.vs_base.specs.Number.{Number}
use Rattle.vs_world.specs.Outside.{Told}
use Rattle.vs_world.specs.Entries.{Entry, Did, Broke}
use Rattle.vs_world.specs.EntryLaws.{did_none, broke_more}
use Rattle.dpi_host.specs.Calls.{Call}
use Rattle.plan_types.specs.Machine.{Machine, kept_of, values_of}
use Rattle.sim_session.specs.declared.fault.SessionFault.{SessionFault}
use Rattle.sim_session.specs.declared.fault.SessionFault.TheVariants.{NoMemory, World, NotConverged}
use Rattle.sim_session.specs.Runs.{Setting, after_eval, after_evals, eval_converges, all_texts, eval_entries, run_entries, stops_from, creations, header_entries, session_writes, session_entries, stops_at}
use Rattle.sim_session.specs.Ends.{Mark, Done, Stopped, DoneOrStopped, Stand, Ran, StoppedIn, RanOrStopped}
use Rattle.sim_session.proofs.EndLaws.{done_none, done_then, stopped_then, stopped_of, stopped_before, then_or_stopped}

-- entries, unless a run stopped before them
abbrev unless : Option ℕ → List Entry → List Entry
unless None entries = entries
unless (Some k) entries = []

abbrev first_of : Option ℕ → Option ℕ → Option ℕ
first_of None o = o
first_of (Some k) o = Some k

entries_if : (b : Bool) (k : ℕ) (here all some later : List Entry) (stop : Option ℕ) → all ≡ some ++ unless stop later → cond b (here ++ all) [] ≡ cond b (here ++ some) [] ++ unless (cond b stop (Some k)) later
entries_if true k here all some later stop same = ap (λ (l : List Entry). here ++ l) same ∙ sym (append_assoc here some (unless stop later))
entries_if false k here all some later stop same = refl

stops_if : (b : Bool) (k : ℕ) (all some later : Option ℕ) → all ≡ first_of some later → cond b all (Some k) ≡ first_of (cond b some (Some k)) later
stops_if true k all some later same = same
stops_if false k all some later same = refl

module _ (s : Setting) where
  entries_none : (k : ℕ) (m : Machine) → run_entries s k m [] ≡ []
  unfolding run_entries
  entries_none k m = refl

  stops_none : (k : ℕ) (m : Machine) → stops_from s k m [] ≡ None
  unfolding stops_from
  stops_none k m = refl

  entries_step : (k : ℕ) (m : Machine) (x : List Number) (more : List (List Number))
      → run_entries s k m (x ∷ more) ≡ cond (eval_converges s m x) (eval_entries s k m (after_eval s m x) ++ run_entries s (k + 1) (after_eval s m x) more) []
  unfolding run_entries
  entries_step k m x more = refl

  stops_step : (k : ℕ) (m : Machine) (x : List Number) (more : List (List Number)) → stops_from s k m (x ∷ more) ≡ cond (eval_converges s m x) (stops_from s (k + 1) (after_eval s m x) more) (Some k)
  unfolding stops_from
  stops_step k m x more = refl

  -- ---- some evals, and then more

  entries_append : (k : ℕ) (m : Machine) (xs ys : List (List Number))
      → run_entries s k m (xs ++ ys) ≡ run_entries s k m xs ++ unless (stops_from s k m xs) (run_entries s (k + length xs) (after_evals s xs m) ys)
  entries_append k m [] ys =
      let here : k ≡ k + 0 = omega arith in
      ap (λ (j : ℕ). run_entries s j m ys) here
      ∙ (λ i. sym (entries_none k m) i ++ unless (sym (stops_none k m) i) (run_entries s (k + 0) m ys))
  entries_append k m (x ∷ xs) ys =
      let next = after_eval s m x in
      let here = eval_entries s k m next in
      let later = run_entries s (k + length (x ∷ xs)) (after_evals s xs next) ys in
      let same : k + 1 + length xs ≡ k + length (x ∷ xs) = omega arith in
      let rest = entries_append (k + 1) next xs ys ∙ ap (λ (j : ℕ). run_entries s (k + 1) next xs ++ unless (stops_from s (k + 1) next xs) (run_entries s j (after_evals s xs next) ys)) same in
      entries_step k m x (xs ++ ys)
      ∙ entries_if (eval_converges s m x) k here (run_entries s (k + 1) next (xs ++ ys)) (run_entries s (k + 1) next xs) later (stops_from s (k + 1) next xs) rest
      ∙ (λ i. sym (entries_step k m x xs) i ++ unless (sym (stops_step k m x xs) i) later)

  stops_append : (k : ℕ) (m : Machine) (xs ys : List (List Number)) → stops_from s k m (xs ++ ys) ≡ first_of (stops_from s k m xs) (stops_from s (k + length xs) (after_evals s xs m) ys)
  stops_append k m [] ys =
      let here : k ≡ k + 0 = omega arith in
      ap (λ (j : ℕ). stops_from s j m ys) here ∙ ap (λ (o : Option ℕ). first_of o (stops_from s (k + 0) m ys)) (sym (stops_none k m))
  stops_append k m (x ∷ xs) ys =
      let next = after_eval s m x in
      let later = stops_from s (k + length (x ∷ xs)) (after_evals s xs next) ys in
      let same : k + 1 + length xs ≡ k + length (x ∷ xs) = omega arith in
      let rest = stops_append (k + 1) next xs ys ∙ ap (λ (j : ℕ). first_of (stops_from s (k + 1) next xs) (stops_from s j (after_evals s xs next) ys)) same in
      stops_step k m x (xs ++ ys)
      ∙ stops_if (eval_converges s m x) k (stops_from s (k + 1) next (xs ++ ys)) (stops_from s (k + 1) next xs) later rest
      ∙ ap (λ (o : Option ℕ). first_of o later) (sym (stops_step k m x xs))

  -- ---- after evals that were made

  entries_after : (xs ys : List (List Number)) (a b : Stand) → Ran s xs a b
      → run_entries s a.number a.machine xs ++ run_entries s b.number b.machine ys ≡ run_entries s a.number a.machine (xs ++ ys)
  entries_after xs ys a b u =
      (λ i. run_entries s a.number a.machine xs ++ unless (sym u.converged i) (run_entries s (u.number i) (u.machine i) ys)) ∙ sym (entries_append a.number a.machine xs ys)

  stops_after : (xs ys : List (List Number)) (a b : Stand) → Ran s xs a b → stops_from s b.number b.machine ys ≡ stops_from s a.number a.machine (xs ++ ys)
  stops_after xs ys a b u = (λ i. first_of (sym u.converged i) (stops_from s (u.number i) (u.machine i) ys)) ∙ sym (stops_append a.number a.machine xs ys)

  pub ran_none : (a : Stand) → Ran s [] a a
  ran_none a = record {
    machine = refl;
    number = omega arith;
    converged = stops_none a.number a.machine;
    done = subst (λ (l : List Entry). Done l a.mark a.mark) (sym (entries_none a.number a.machine)) (done_none a.mark);
    made = refl;
  }

  pub ran_then : (xs ys : List (List Number)) (a b c : Stand) → Ran s xs a b → Ran s ys b c → Ran s (xs ++ ys) a c
  ran_then xs ys a b c u v = record {
    machine = v.machine ∙ ap (after_evals s ys) u.machine ∙ sym (fold-append (after_eval s) a.machine xs ys);
    number = let all : length (xs ++ ys) ≡ length xs + length ys = length-append xs ys in let x = u.number in let y = v.number in omega (arith, all, x, y);
    converged = sym (stops_after xs ys a b u) ∙ v.converged;
    done = subst (λ (l : List Entry). Done l a.mark c.mark) (entries_after xs ys a b u)
        (done_then (run_entries s a.number a.machine xs) (run_entries s b.number b.machine ys) a.mark b.mark c.mark u.done v.done);
    made = v.made ∙ u.made;
  }

  -- some were made, and then it stopped
  pub ran_stopped : (xs ys : List (List Number)) (fault : SessionFault) (a b : Stand) (now : Told) → Ran s xs a b → StoppedIn s ys fault b now → StoppedIn s (xs ++ ys) fault a now
  ran_stopped xs ys fault a b now u e =
      stopped_of _ _ _ _ fault a.mark now (entries_after xs ys a b u) (stops_after xs ys a b u)
      (stopped_then (run_entries s a.number a.machine xs) (run_entries s b.number b.machine ys) (stops_from s b.number b.machine ys) fault a.mark b.mark now u.done e)

  pub ran_more : (xs ys : List (List Number)) (r : Result (Unit {0}) SessionFault) (a b c : Stand) → Ran s xs a b → RanOrStopped s ys r b c → RanOrStopped s (xs ++ ys) r a c
  ran_more xs ys (Ok v) a b c u e = ran_then xs ys a b c u e
  ran_more xs ys (Err fault) a b c u e = ran_stopped xs ys fault a b c.mark.told u e

  -- it stopped at these, before others
  pub stopped_early : (xs ys : List (List Number)) (fault : SessionFault) (a : Stand) (now : Told) → StoppedIn s xs fault a now → StoppedIn s (xs ++ ys) fault a now
  stopped_early xs ys NoMemory a now e = e
  stopped_early xs ys (World stream pieces bytes) a now e =
      let some = run_entries s a.number a.machine xs in
      let more = unless (stops_from s a.number a.machine xs) (run_entries s (a.number + length xs) (after_evals s xs a.machine) ys) in (
        e.0,
        e.1,
        subst (λ (l : List Entry). Broke l stream e.0 bytes a.mark.told now) (sym (entries_append a.number a.machine xs ys)) (broke_more some more stream e.0 bytes a.mark.told now e.2),
      )
  stopped_early xs ys (NotConverged eval) a now e =
      let rest = run_entries s (a.number + length xs) (after_evals s xs a.machine) ys in
      let same : run_entries s a.number a.machine xs ≡ run_entries s a.number a.machine (xs ++ ys) =
      sym (append-nil (run_entries s a.number a.machine xs))
      ∙ ap (λ (o : Option ℕ). run_entries s a.number a.machine xs ++ unless o rest) (sym e.0)
      ∙ sym (entries_append a.number a.machine xs ys) in (
        stops_append a.number a.machine xs ys ∙ ap (λ (o : Option ℕ). first_of o (stops_from s (a.number + length xs) (after_evals s xs a.machine) ys)) e.0,
        subst (λ (l : List Entry). Did l a.mark.told now) same e.1,
      )

  -- ---- one eval

  module _ (k : ℕ) (m : Machine) (x : List Number) where
    one_entries : eval_converges s m x ≡ true → run_entries s k m (x ∷ []) ≡ eval_entries s k m (after_eval s m x)
    one_entries yes_it_does =
        entries_step k m x [] ∙ ap (λ (b : Bool). cond b (eval_entries s k m (after_eval s m x) ++ run_entries s (k + 1) (after_eval s m x) []) []) yes_it_does
        ∙ ap (λ (l : List Entry). eval_entries s k m (after_eval s m x) ++ l) (entries_none (k + 1) (after_eval s m x))
        ∙ append-nil (eval_entries s k m (after_eval s m x))

    one_stop : eval_converges s m x ≡ true → stops_from s k m (x ∷ []) ≡ None
    one_stop yes_it_does = stops_step k m x [] ∙ ap (λ (b : Bool). cond b (stops_from s (k + 1) (after_eval s m x) []) (Some k)) yes_it_does ∙ stops_none (k + 1) (after_eval s m x)

    no_entries : eval_converges s m x ≡ false → run_entries s k m (x ∷ []) ≡ []
    no_entries it_does_not = entries_step k m x [] ∙ ap (λ (b : Bool). cond b (eval_entries s k m (after_eval s m x) ++ run_entries s (k + 1) (after_eval s m x) []) []) it_does_not

    here_stop : eval_converges s m x ≡ false → stops_from s k m (x ∷ []) ≡ Some k
    here_stop it_does_not = stops_step k m x [] ∙ ap (λ (b : Bool). cond b (stops_from s (k + 1) (after_eval s m x) []) (Some k)) it_does_not

  texts_are : (k : ℕ) (was now : Machine) → eval_entries s k was now ≡ all_texts s.texts s.built.design k (kept_of now) (values_of s.built was) (values_of s.built now)
  unfolding eval_entries
  texts_are k was now = refl

  -- its texts, by the terms of the code
  module _ (x : List Number) (calls : List Call) (old new : List Number) (a : Stand) (m : Machine) (converged : eval_converges s a.machine x ≡ true) (is : m ≡ after_eval s a.machine x)
      (told : calls ≡ kept_of m) (was : old ≡ values_of s.built a.machine) (now : new ≡ values_of s.built m) where
    eval_texts : all_texts s.texts s.built.design a.number calls old new ≡ run_entries s a.number a.machine (x ∷ [])
    eval_texts =
        (λ i. all_texts s.texts s.built.design a.number (told i) (was i) (now i)) ∙ sym (texts_are a.number a.machine m) ∙ ap (eval_entries s a.number a.machine) is
        ∙ sym (one_entries a.number a.machine x converged)

    pub ran_one : (b : Stand) → b.machine ≡ m → b.number ≡ a.number + 1 → b.mark.told.made ≡ a.mark.told.made → Done (all_texts s.texts s.built.design a.number calls old new) a.mark b.mark
        → Ran s (x ∷ []) a b
    ran_one b machine number made e = record {
      machine = machine ∙ is;
      number = number;
      converged = one_stop a.number a.machine x converged;
      done = subst (λ (l : List Entry). Done l a.mark b.mark) eval_texts e;
      made = made;
    }

    pub stopped_one : (fault : SessionFault) (end : Told) → Stopped (all_texts s.texts s.built.design a.number calls old new) None fault a.mark end → StoppedIn s (x ∷ []) fault a end
    stopped_one fault end e = stopped_of _ _ _ _ fault a.mark end eval_texts (sym (one_stop a.number a.machine x converged)) e

  -- an eval that does not converge
  pub not_converged : (x : List Number) (a : Stand) → eval_converges s a.machine x ≡ false → StoppedIn s (x ∷ []) (NotConverged a.number) a a.mark.told
  not_converged x a it_does_not = (
    here_stop a.number a.machine x it_does_not,
    subst (λ (l : List Entry). Did l a.mark.told a.mark.told) (sym (no_entries a.number a.machine x it_does_not)) (did_none a.mark.told),
  )

  -- ---- the same by other terms

  pub ran_from : (xs ys : List (List Number)) (r : Result (Unit {0}) SessionFault) (a b c : Stand) → xs ≡ ys → a ≡ b → RanOrStopped s xs r a c → RanOrStopped s ys r b c
  ran_from xs ys r a b c same here e = subst (λ (l : List (List Number)). RanOrStopped s l r b c) same (subst (λ (z : Stand). RanOrStopped s xs r z c) here e)

  -- evals as entries
  pub as_entries : (xs : List (List Number)) (r : Result (Unit {0}) SessionFault) (a b : Stand) → RanOrStopped s xs r a b
      → DoneOrStopped (run_entries s a.number a.machine xs) (stops_from s a.number a.machine xs) r a.mark b.mark
  as_entries xs (Ok v) a b e = (e.converged, e.done)
  as_entries xs (Err fault) a b e = e

  -- ---- the whole

  module _ (xs ys : List (List Number)) (same : xs ≡ ys) (r : Result (Unit {0}) SessionFault) (a b : Stand) (first : a.number ≡ 0) (ran : RanOrStopped s xs r a b) where
    -- the header was written, and then come the evals from the first one on
    pub texts_written : (before : Mark) → Done (header_entries (is_some s.texts.vcd) s.built.design) before a.mark → DoneOrStopped (session_writes s a.machine ys) (stops_at s a.machine ys) r before b.mark
    texts_written before head =
        let start : Stand = record { number = 0; machine = a.machine; mark = a.mark } in
        then_or_stopped (header_entries (is_some s.texts.vcd) s.built.design) (run_entries s 0 a.machine ys) (stops_from s 0 a.machine ys) r before a.mark b.mark head
        (as_entries ys r start b (ran_from xs ys r a start b same (λ i. record { number = first i; machine = a.machine; mark = a.mark }) ran))

    pub ran_machine : OnOk r (b.machine ≡ after_evals s ys a.machine)
    ran_machine = by r ran
      where
        by : (r : Result (Unit {0}) SessionFault) → RanOrStopped s xs r a b → OnOk r (b.machine ≡ after_evals s ys a.machine)
        by (Ok v) e = e.machine ∙ ap (λ (l : List (List Number)). after_evals s l a.machine) same
        by (Err fault) e = tt

    pub ran_number : OnOk r (b.number ≡ length ys)
    ran_number = by r ran
      where
        by : (r : Result (Unit {0}) SessionFault) → RanOrStopped s xs r a b → OnOk r (b.number ≡ length ys)
        by (Ok v) e = let number = e.number in let all = ap length same in omega (arith, number, all, first)
        by (Err fault) e = tt

  -- it stopped at the header
  pub head_stopped : (m : Machine) (ys : List (List Number)) (fault : SessionFault) (before : Mark) (now : Told) → Stopped (header_entries (is_some s.texts.vcd) s.built.design) None fault before now
      → Stopped (session_writes s m ys) (stops_at s m ys) fault before now
  head_stopped m ys fault before now e = stopped_before (header_entries (is_some s.texts.vcd) s.built.design) (run_entries s 0 m ys) (stops_from s 0 m ys) fault before now e

  -- ---- the files, and then the texts

  pub all_done : (m : Machine) (ys : List (List Number)) (r : Result (Unit {0}) SessionFault) (a b c : Mark) → Done (creations s.texts) a b
      → DoneOrStopped (session_writes s m ys) (stops_at s m ys) r b c → DoneOrStopped (session_entries s m ys) (stops_at s m ys) r a c
  all_done m ys r a b c u e = then_or_stopped (creations s.texts) (session_writes s m ys) (stops_at s m ys) r a b c u e

  pub files_stopped : (m : Machine) (ys : List (List Number)) (fault : SessionFault) (before : Mark) (now : Told) → Stopped (creations s.texts) None fault before now
      → Stopped (session_entries s m ys) (stops_at s m ys) fault before now
  files_stopped m ys fault before now e = stopped_before (creations s.texts) (session_writes s m ys) (stops_at s m ys) fault before now e

-- Evals under way: some are made, and these are left of all.
use Rattle.std.proofs.Common.{◌≡◌, List, [], ◌++◌, refl, sym, ◌∙◌, append_assoc, subst}
use Rattle.std.proofs.lemmas.List.{append-nil}
use Rattle.vs_base.specs.Number.{Number}
use Rattle.vs_world.specs.Outside.{Told}
use Rattle.sim_session.specs.declared.fault.SessionFault.{SessionFault}
use Rattle.sim_session.specs.Runs.{Setting}
use Rattle.sim_session.specs.Ends.{Stand, Ran, StoppedIn}
use Rattle.sim_session.proofs.EvalLaws.{ran_none, ran_then, ran_stopped, stopped_early}

pub record Going (s : Setting) (rest all : List (List Number)) (a b : Stand) : Type 0 where
  pub done : List (List Number)
  pub whole : done ++ rest ≡ all
  pub ran : Ran s done a b

module _ (s : Setting) where
  pub going_start : (all : List (List Number)) (a : Stand) → Going s all all a a
  going_start all a = record { done = []; whole = refl; ran = ran_none s a }

  pub going_more : (xs rest all : List (List Number)) (a b c : Stand) → Going s (xs ++ rest) all a b → Ran s xs b c → Going s rest all a c
  going_more xs rest all a b c g r = record {
    done = g.done ++ xs;
    whole = append_assoc g.done xs rest ∙ g.whole;
    ran = ran_then s g.done xs a b c g.ran r;
  }

  pub going_cut : (xs rest all : List (List Number)) (fault : SessionFault) (a b : Stand) (now : Told) → Going s (xs ++ rest) all a b → StoppedIn s xs fault b now → StoppedIn s all fault a now
  going_cut xs rest all fault a b now g e =
      subst (λ (l : List (List Number)). StoppedIn s l fault a now) g.whole
      (ran_stopped s g.done (xs ++ rest) fault a b now g.ran (stopped_early s xs rest fault b now e))

  pub going_end : (all : List (List Number)) (a b : Stand) → Going s [] all a b → Ran s all a b
  going_end all a b g = subst (λ (l : List (List Number)). Ran s l a b) (sym (append-nil g.done) ∙ g.whole) g.ran

  pub going_same : (rest rest' all : List (List Number)) (a b : Stand) → rest ≡ rest' → Going s rest all a b → Going s rest' all a b
  going_same rest rest' all a b e g = subst (λ (l : List (List Number)). Going s l all a b) e g

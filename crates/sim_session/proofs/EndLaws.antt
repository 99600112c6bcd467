-- Entries done one after another, and where a run stops among them.
use Rattle.std.proofs.Common.{◌≡◌, ℕ, ◌+◌, List, [], ◌++◌, length, length-append, Option, Some, None, refl, sym, subst, arith}
use Rattle.std.specs.Prelude.{Result, Ok, Err}
use Rattle.vs_world.specs.Outside.{Told}
use Rattle.vs_world.specs.Entries.{Entry, Broke}
use Rattle.vs_world.specs.EntryLaws.{did_none, did_then, broke_more, broke_then}
use Rattle.sim_session.specs.declared.fault.SessionFault.{SessionFault}
use Rattle.sim_session.specs.declared.fault.SessionFault.TheVariants.{NoMemory, World, NotConverged}
use Rattle.sim_session.specs.Ends.{Mark, Done, Stopped, DoneOrStopped, RunStopped}

-- nothing was done
pub done_none : (a : Mark) → Done [] a a
done_none a = record { did = did_none a.told; count = omega arith }

-- some, and then more
pub done_then : (xs ys : List Entry) (a b c : Mark) → Done xs a b → Done ys b c → Done (xs ++ ys) a c
done_then xs ys a b c u v = record {
  did = did_then xs ys a.told b.told c.told u.did v.did;
  count = let all = length-append xs ys in let x = u.count in let y = v.count in omega (arith, all, x, y);
}

-- some were done, and then it stopped
pub stopped_then : (xs ys : List Entry) (stop : Option ℕ) (fault : SessionFault) (a b : Mark) (now : Told) → Done xs a b → Stopped ys stop fault b now → Stopped (xs ++ ys) stop fault a now
stopped_then xs ys stop NoMemory a b now u e = e
stopped_then xs ys stop (World stream pieces bytes) a b now u e =
    let count = u.count in let place = e.1 in (
      length xs + e.0,
      omega (arith, count, place),
      broke_then xs ys stream e.0 bytes a.told b.told now u.did e.2,
    )
stopped_then xs ys stop (NotConverged eval) a b now u e = (e.0, did_then xs ys a.told b.told now u.did e.1)

-- it stopped at these, before others
pub stopped_before : (xs ys : List Entry) (stop : Option ℕ) (fault : SessionFault) (a : Mark) (now : Told) → Stopped xs None fault a now → Stopped (xs ++ ys) stop fault a now
stopped_before xs ys stop NoMemory a now e = e
stopped_before xs ys stop (World stream pieces bytes) a now e = (e.0, e.1, broke_more xs ys stream e.0 bytes a.told now e.2)
stopped_before xs ys stop (NotConverged eval) a now e = absurd (differ e.0)
  where
    differ : None ≡ Some eval → ⊥
    differ is = cc

-- some were done, and then more, or it stopped
pub then_or_stopped : (xs ys : List Entry) (stop : Option ℕ) (r : Result (Unit {0}) SessionFault) (a b c : Mark) → Done xs a b → DoneOrStopped ys stop r b c → DoneOrStopped (xs ++ ys) stop r a c
then_or_stopped xs ys stop (Ok v) a b c u e = (e.0, done_then xs ys a b c u e.1)
then_or_stopped xs ys stop (Err fault) a b c u e = stopped_then xs ys stop fault a b c.told u e

-- the same of another list
pub stopped_of : (xs ys : List Entry) (o p : Option ℕ) (fault : SessionFault) (a : Mark) (now : Told) → xs ≡ ys → o ≡ p → Stopped xs o fault a now → Stopped ys p fault a now
stopped_of xs ys o p fault a now same stop e = subst (λ (x : Option ℕ). Stopped ys x fault a now) stop (subst (λ (l : List Entry). Stopped l o fault a now) same e)

-- the whole run, of which nothing was done before
pub run_stopped : (xs : List Entry) (stop : Option ℕ) (fault : SessionFault) (a : Mark) (now : Told) → a.done ≡ 0 → Stopped xs stop fault a now → RunStopped xs stop fault a.told now
run_stopped xs stop NoMemory a now first e = absurd e
run_stopped xs stop (World stream pieces bytes) a now first e =
    let place = e.1 in let is : e.0 ≡ pieces = omega (arith, first, place) in
    subst (λ (k : ℕ). Broke xs stream k bytes a.told now) is e.2
run_stopped xs stop (NotConverged eval) a now first e = e

-- the same of another list
pub all_of : (xs ys : List Entry) (stop : Option ℕ) (r : Result (Unit {0}) SessionFault) (a b : Mark) → xs ≡ ys → DoneOrStopped xs stop r a b → DoneOrStopped ys stop r a b
all_of xs ys stop r a b same e = subst (λ (l : List Entry). DoneOrStopped l stop r a b) same e

-- nothing was to be done
pub none_of : (ys : List Entry) (a : Mark) → ys ≡ [] → DoneOrStopped ys None (Ok tt) a a
none_of ys a same = all_of [] ys None (Ok tt) a a (sym same) (refl, done_none a)

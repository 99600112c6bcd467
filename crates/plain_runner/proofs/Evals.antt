-- What a run on one thread does is what a run of the model means.
use Rattle.std.proofs.Common.{◌≡◌, ℕ, zero, suc, ◌≤◌, Bool, true, false, not, cond, List, [], ◌∷◌, ◌++◌, length, slice_index, Some, refl, sym, ap, subst, ◌∙◌, le_trans}
use Rattle.vs_base.specs.Number.{Number}
use Rattle.rtl_ir.specs.declared.design.Proc.{Proc}
use Rattle.plan_graph.specs.declared.node.Node.{Node}
use Rattle.dpi_host.specs.Calls.{Call}
use Rattle.dpi_host.specs.HostMachine.{Answer, After}
use Rattle.task_eval.specs.Codes.{Ops}
use Rattle.task_eval.specs.Course.{Course, finished, loading, storing, calling}
use Rattle.task_eval.specs.Buses.{Outside, Deed, stored, called, run}
use Rattle.plan_types.specs.Coded.{code_number}
use Rattle.plan_types.specs.Machine.{Machine, is_run, course_at, kept_deed, kept_deeds, put_inputs, input_words, fired_of, some_fired, run_node, run_nodes, settled, Ended, ended, rounds, ends, closed, most_runs, evaluated, converges}
use Rattle.plan_types.specs.declared.run.TheConstants.{MOST_RUNS}
use Rattle.plan_types.specs.Room.{call_room}
use Rattle.plan_types.specs.RoomLaws.{kept_few}
use Rattle.plan_types.specs.RoundLaws.{most}
use Rattle.plan_types.specs.declared.built.Built.{Built}
use Rattle.plain_runner.proofs.Grows.{rounds_grow}
use Rattle.plain_runner.specs.Seen.{Seen, seen_of, Env, env_of, machine_of, reply_in, call_in, store_in, go, go_node, go_nodes, settled_in, SeenEnd, seen_end, rounds_in}

append_none : (calls : List Call) → calls ++ [] ≡ calls
append_none [] = refl
append_none (x ∷ more) = ap (λ rest. x ∷ rest) (append_none more)

append_assoc : (xs ys zs : List Call) → xs ++ (ys ++ zs) ≡ (xs ++ ys) ++ zs
append_assoc [] ys zs = refl
append_assoc (x ∷ xs) ys zs = ap (λ rest. x ∷ rest) (append_assoc xs ys zs)

-- one more store or call
kept_more : (deemed : List Bool) (made : List Deed) (deed : Deed) → kept_deeds deemed (made ++ deed ∷ []) ≡ kept_deeds deemed made ++ kept_deed deemed deed
kept_more deemed [] deed = append_none (kept_deed deemed deed)
kept_more deemed (x ∷ made) deed = ap (λ rest. kept_deed deemed x ++ rest) (kept_more deemed made deed) ∙ append_assoc (kept_deed deemed x) (kept_deeds deemed made) (kept_deed deemed deed)

module _ (answer : Answer) (after : After) (env : Env) where
  abbrev outside_of : Seen → List Deed → Outside
  outside_of s made = record { words = s.words; fixed = env.fixed; state = s.state; ids = env.ids; widths = env.widths; made = Some made }

  -- what a run shows, where the calls that it made and that are kept are those seen
  record Shows (o : Outside) (s : Seen) : Type 0 where
    made : List Deed
    same : o ≡ outside_of s made
    calls : kept_deeds env.deemed made ≡ s.calls

  shows_run : (c : Course) (s : Seen) (made : List Deed) → kept_deeds env.deemed made ≡ s.calls → Shows (run answer after c (outside_of s made)) (go answer after env c s)
  shows_run finished s made k = record { made = made; same = refl; calls = k }
  shows_run (loading word on) s made k = shows_run (on (slice_index s.words word)) s made k
  shows_run (storing word value on) s made k =
      shows_run on (store_in answer after env word value s) (made ++ stored word value ∷ []) (kept_more env.deemed made (stored word value) ∙ append_none (kept_deeds env.deemed made) ∙ k)
  shows_run (calling import args on) s made k =
      let reply : ℕ = reply_in answer after env import args s.state in
      let call : Call = record { import = import; args = args; reply = reply } in
      shows_run (on reply) (call_in answer after env import args s) (made ++ called call ∷ []) (kept_more env.deemed made (called call) ∙ ap (λ calls. calls ++ kept_deed env.deemed (called call)) k)

  runs_on : (c : Course) (o : Outside) (s : Seen) → Shows o s → Shows (run answer after c o) (go answer after env c s)
  runs_on c o s h = subst (λ x. Shows (run answer after c x) (go answer after env c s)) (sym h.same) (shows_run c s h.made h.calls)

  shows_if : (b : Bool) (c : Course) (o : Outside) (s : Seen) → Shows o s → Shows (cond b (run answer after c o) o) (cond b (go answer after env c s) s)
  shows_if true c o s h = runs_on c o s h
  shows_if false c o s h = h

  shows_nodes : (procs : List Proc) (codes : List Ops) (fired : List Bool) (nodes : List Node) (o : Outside) (s : Seen) → Shows o s
      → Shows (run_nodes answer after procs codes fired nodes o) (go_nodes answer after env procs codes fired nodes s)
  shows_nodes procs codes fired [] o s h = h
  shows_nodes procs codes fired (n ∷ more) o s h =
      shows_nodes procs codes fired more (run_node answer after procs codes fired o n) (go_node answer after env procs codes fired s n)
      (shows_if (is_run fired n) (course_at codes (code_number procs n)) o s h)

  shows_settled : (b : Built) (inputs : List Number) (last : List ℕ) (s : Seen) → Shows (settled answer after b inputs (machine_of env last s).outside) (settled_in answer after env b inputs s)
  shows_settled b inputs last s =
      let words : List ℕ = put_inputs inputs (input_words b.design.ports b.layout.words.items) s.words in
      shows_nodes b.design.procs b.codes [] b.settle.nodes (outside_of (seen_of words s.state []) []) (seen_of words s.state []) (record { made = []; same = refl; calls = refl })

  -- where rounds end, as far as both tell
  record ShowsEnd (e : Ended) (f : SeenEnd) : Type 0 where
    converged : e.converged ≡ f.converged
    outside : Shows e.outside f.seen

  shows_turn : (any : Bool) (e : Ended) (f : SeenEnd) (o : Outside) (s : Seen) → ShowsEnd e f → Shows o s → ShowsEnd (cond any e (ended true o)) (cond any f (seen_end true s))
  shows_turn true e f o s on here = on
  shows_turn false e f o s on here = record { converged = refl; outside = here }

  shows_rounds : (b : Built) (n : ℕ) (last : List ℕ) (o : Outside) (s : Seen) → Shows o s
      → ShowsEnd (rounds answer after b.design.procs b.codes b.layout.words.items b.clocked.nodes n last o) (rounds_in answer after env b n last s)
  unfolding rounds_in
  shows_rounds b zero last o s h =
      let words : o.words ≡ s.words = ap (λ (x : Outside). x.words) h.same in
      record { converged = ap (λ ws. not (some_fired (fired_of b.design.procs b.layout.words.items last ws))) words; outside = h }
  shows_rounds b (suc n) last o s h =
      let words : o.words ≡ s.words = ap (λ (x : Outside). x.words) h.same in
      let fired : List ℕ → List Bool = fired_of b.design.procs b.layout.words.items last in
      let next : List ℕ → Outside = λ ws. run_nodes answer after b.design.procs b.codes (fired ws) b.clocked.nodes o in
      let next_in : Seen = go_nodes answer after env b.design.procs b.codes (fired s.words) b.clocked.nodes s in
      subst (λ ws. ShowsEnd (cond (some_fired (fired ws)) (rounds answer after b.design.procs b.codes b.layout.words.items b.clocked.nodes n ws (next ws)) (ended true o)) (cond (some_fired (fired s.words)) (rounds_in answer after env b n s.words next_in) (seen_end true s))) (sym words)
      (shows_turn (some_fired (fired s.words)) (rounds answer after b.design.procs b.codes b.layout.words.items b.clocked.nodes n s.words (next s.words)) (rounds_in answer after env b n s.words next_in) o s
      (shows_rounds b n s.words (next s.words) next_in (shows_nodes b.design.procs b.codes (fired s.words) b.clocked.nodes o s h)) h)

  shows_closed : (b : Built) (o : Outside) (s : Seen) → b.deemed ≡ env.deemed → Shows o s → closed answer after b o ≡ machine_of env s.words s
  shows_closed b o s deemed h =
      ap (closed answer after b) h.same
      ∙ ap (λ calls. let m : Machine = record (machine_of env s.words s) { calls = calls } in m) (ap (λ d. kept_deeds d h.made) deemed ∙ h.calls)

  -- where an eval ends
  abbrev ends_in : Built → List Number → List ℕ → Seen → SeenEnd
  ends_in b inputs last s = rounds_in answer after env b most_runs last (settled_in answer after env b inputs s)

  shows_ends : (b : Built) (inputs : List Number) (last : List ℕ) (s : Seen) → ShowsEnd (ends answer after b inputs (machine_of env last s)) (ends_in b inputs last s)
  shows_ends b inputs last s =
      shows_rounds b most_runs last (settled answer after b inputs (machine_of env last s).outside) (settled_in answer after env b inputs s) (shows_settled b inputs last s)

  -- an eval
  eval_is : (b : Built) (inputs : List Number) (last : List ℕ) (s : Seen) → b.deemed ≡ env.deemed
      → evaluated answer after b inputs (machine_of env last s) ≡ (let e = (ends_in b inputs last s).seen in machine_of env e.words e)
  eval_is b inputs last s deemed =
      shows_closed b (ends answer after b inputs (machine_of env last s)).outside (ends_in b inputs last s).seen deemed (shows_ends b inputs last s).outside

  converges_is : (b : Built) (inputs : List Number) (last : List ℕ) (s : Seen) → converges answer after b inputs (machine_of env last s) ≡ (ends_in b inputs last s).converged
  converges_is b inputs last s = (shows_ends b inputs last s).converged

  -- it keeps no more calls than it has room for
  eval_few : (b : Built) (inputs : List Number) (last : List ℕ) (s : Seen) → b.deemed ≡ env.deemed → length (ends_in b inputs last s).seen.calls ≤ call_room b
  eval_few b inputs last s deemed =
      subst (λ (m : Machine). length m.calls ≤ call_room b) (eval_is b inputs last s deemed) (kept_few answer after b inputs (machine_of env last s))

-- an eval in its two parts, which leave what the host fixes
module _ (answer : Answer) (after : After) (ids widths : List ℕ) (deemed : List Bool) where
  abbrev with_fixed : List (List ℕ) → Env
  with_fixed fixed = env_of fixed ids widths deemed

  -- the rounds fit where the eval begins
  pub settle_fits : (b : Built) (inputs : List Number) (last : List ℕ) (f : List (List ℕ)) (s : Seen) (room : ℕ) → b.deemed ≡ deemed → room ≡ call_room b
      → length (settled_in answer after (with_fixed f) b inputs s).calls ≤ room
  settle_fits b inputs last f s room is place =
      subst (λ (n : ℕ). length (settled_in answer after (with_fixed f) b inputs s).calls ≤ n) (sym place)
      (le_trans (rounds_grow answer after (with_fixed f) b most_runs last (settled_in answer after (with_fixed f) b inputs s)) (eval_few answer after (with_fixed f) b inputs last s is))

  pub rounds_fit : (b : Built) (inputs : List Number) (last : List ℕ) (f f' : List (List ℕ)) (s s' : Seen) (room room' : ℕ) → b.deemed ≡ deemed → f' ≡ f
      → s' ≡ settled_in answer after (with_fixed f) b inputs s → room' ≡ room → room ≡ call_room b
      → length (rounds_in answer after (with_fixed f') b MOST_RUNS last s').seen.calls ≤ room'
  rounds_fit b inputs last f f' s s' room room' is same half kept place =
      subst (λ (n : ℕ). length (rounds_in answer after (with_fixed f') b MOST_RUNS last s').seen.calls ≤ n) (sym (kept ∙ place))
      (subst (λ (n : ℕ). length (rounds_in answer after (with_fixed f') b n last s').seen.calls ≤ call_room b) most
      (subst (λ x. length (rounds_in answer after (with_fixed x) b most_runs last s').seen.calls ≤ call_room b) (sym same)
      (subst (λ x. length (rounds_in answer after (with_fixed f) b most_runs last x).seen.calls ≤ call_room b) (sym half) (eval_few answer after (with_fixed f) b inputs last s is))))

  -- what the two parts leave is where the eval ends
  both_parts : (b : Built) (inputs : List Number) (last : List ℕ) (f f' : List (List ℕ)) (s s' : Seen) (e : SeenEnd) → f' ≡ f
      → s' ≡ settled_in answer after (with_fixed f) b inputs s → e ≡ rounds_in answer after (with_fixed f') b MOST_RUNS last s'
      → e ≡ ends_in answer after (with_fixed f) b inputs last s
  both_parts b inputs last f f' s s' e same half whole =
      whole ∙ ap (λ x. rounds_in answer after (with_fixed x) b MOST_RUNS last s') same ∙ ap (rounds_in answer after (with_fixed f) b MOST_RUNS last) half
      ∙ ap (λ n. rounds_in answer after (with_fixed f) b n last (settled_in answer after (with_fixed f) b inputs s)) (sym most)

  pub eval_from : (b : Built) (inputs : List Number) (last last' : List ℕ) (f f' f'' : List (List ℕ)) (s s' s'' : Seen) (converged : Bool) → b.deemed ≡ deemed → f' ≡ f → f'' ≡ f'
      → s' ≡ settled_in answer after (with_fixed f) b inputs s → seen_end converged s'' ≡ rounds_in answer after (with_fixed f') b MOST_RUNS last s' → last' ≡ s''.words
      → machine_of (with_fixed f'') last' s'' ≡ evaluated answer after b inputs (machine_of (with_fixed f) last s)
  eval_from b inputs last last' f f' f'' s s' s'' converged is same same' half whole words =
      let end = both_parts b inputs last f f' s s' (seen_end converged s'') same half whole in
      ap (λ x. machine_of (with_fixed x) last' s'') (same' ∙ same) ∙ ap (λ x. machine_of (with_fixed f) x s'') words ∙ ap (λ (x : SeenEnd). machine_of (with_fixed f) x.seen.words x.seen) end
      ∙ sym (eval_is answer after (with_fixed f) b inputs last s is)

  pub converges_from : (b : Built) (inputs : List Number) (last : List ℕ) (f f' : List (List ℕ)) (s s' s'' : Seen) (converged : Bool) → f' ≡ f
      → s' ≡ settled_in answer after (with_fixed f) b inputs s → seen_end converged s'' ≡ rounds_in answer after (with_fixed f') b MOST_RUNS last s'
      → converged ≡ converges answer after b inputs (machine_of (with_fixed f) last s)
  converges_from b inputs last f f' s s' s'' converged same half whole =
      ap (λ (x : SeenEnd). x.converged) (both_parts b inputs last f f' s s' (seen_end converged s'') same half whole) ∙ sym (converges_is answer after (with_fixed f) b inputs last s)

  pub few_from : (b : Built) (inputs : List Number) (last : List ℕ) (f f' : List (List ℕ)) (s s' s'' : Seen) (converged : Bool) → b.deemed ≡ deemed → f' ≡ f
      → s' ≡ settled_in answer after (with_fixed f) b inputs s → seen_end converged s'' ≡ rounds_in answer after (with_fixed f') b MOST_RUNS last s'
      → length s''.calls ≤ call_room b
  few_from b inputs last f f' s s' s'' converged is same half whole =
      subst (λ (x : SeenEnd). length x.seen.calls ≤ call_room b) (sym (both_parts b inputs last f f' s s' (seen_end converged s'') same half whole)) (eval_few answer after (with_fixed f) b inputs last s is)

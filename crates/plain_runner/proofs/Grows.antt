-- No run loses a call, so what fits at its end fits on the way.
use Rattle.std.proofs.Common.{◌≡◌, ℕ, zero, suc, ◌+◌, ◌-◌, ◌<◌, ◌≤◌, Bool, true, false, not, cond, List, [], ◌∷◌, length, map, take, get_or, length-append, slice_index, refl, sym, ap, subst, ◌∙◌, le_trans, le_refl, arith}
use Rattle.std.proofs.lemmas.List.{get_or-map}
use Rattle.std.proofs.lemmas.List.Sums.{fold_more}
use Rattle.rtl_ir.specs.declared.design.Proc.{Proc}
use Rattle.plan_graph.specs.declared.node.Node.{Node}
use Rattle.plan_graph.specs.declared.node.Node.TheVariants as node
use Rattle.dpi_host.specs.HostMachine.{Answer, After}
use Rattle.task_eval.specs.Codes.{Ops}
use Rattle.task_eval.specs.Course.{Course, finished, loading, storing, calling, asks, args_of}
use Rattle.task_eval.specs.Buses.{called}
use Rattle.task_eval.specs.declared.frame.Ask.TheVariants as ask
use Rattle.plan_types.specs.Coded.{code_number}
use Rattle.plan_types.specs.Machine.{is_run, course_at, kept_deed, fired_of, some_fired}
use Rattle.plan_types.specs.declared.built.Built.{Built}
use Rattle.plain_runner.specs.Seen.{Seen, Env, env_of, reply_in, call_in, store_in, go, go_node, go_nodes, SeenEnd, seen_end, rounds_in}

module _ (answer : Answer) (after : After) (env : Env) where
  call_grows : (import : ℕ) (args : List ℕ) (s : Seen) → length s.calls ≤ length (call_in answer after env import args s).calls
  call_grows import args s =
      let whole = length-append s.calls (kept_deed env.deemed (called (record { import = import; args = args; reply = reply_in answer after env import args s.state }))) in
      omega (arith, whole)

  pub grows : (c : Course) (s : Seen) → length s.calls ≤ length (go answer after env c s).calls
  grows finished s = le_refl (length s.calls)
  grows (loading word on) s = grows (on (slice_index s.words word)) s
  grows (storing word value on) s = grows on (store_in answer after env word value s)
  grows (calling import args on) s = le_trans (call_grows import args s) (grows (on (reply_in answer after env import args s.state)) (call_in answer after env import args s))

  -- the call that a run makes next
  pub call_fits : (c : Course) (s : Seen) (import : ℕ) (args : List ℕ) (room : ℕ) → ask.Call import ≡ asks c → args ≡ args_of c → length (go answer after env c s).calls ≤ room
      → length (call_in answer after env import args s).calls ≤ room
  call_fits finished s import args room is these fits = cc
  call_fits (loading word on) s import args room is these fits = cc
  call_fits (storing word value on) s import args room is these fits = cc
  call_fits (calling i a on) s import args room is these fits =
      let same : import ≡ i = cc in
      subst (λ (n : ℕ). length (call_in answer after env n args s).calls ≤ room) (sym same)
      (subst (λ (l : List ℕ). length (call_in answer after env i l s).calls ≤ room) (sym these)
      (le_trans (grows (on (reply_in answer after env i a s.state)) (call_in answer after env i a s)) fits))

  runs_grow : (b : Bool) (c : Course) (s : Seen) → length s.calls ≤ length (cond b (go answer after env c s) s).calls
  runs_grow true c s = grows c s
  runs_grow false c s = le_refl (length s.calls)

  module _ (procs : List Proc) (codes : List Ops) (fired : List Bool) where
    nodes_grow : (nodes : List Node) (s : Seen) → length s.calls ≤ length (go_nodes answer after env procs codes fired nodes s).calls
    nodes_grow [] s = le_refl (length s.calls)
    nodes_grow (n ∷ more) s = le_trans (runs_grow (is_run fired n) (course_at codes (code_number procs n)) s) (nodes_grow more (go_node answer after env procs codes fired s n))

    -- some of the nodes keep no more calls than all of them
    pub front_fits : (k : ℕ) (nodes : List Node) (s : Seen) → length (go_nodes answer after env procs codes fired (take k nodes) s).calls ≤ length (go_nodes answer after env procs codes fired nodes s).calls
    front_fits zero [] s = le_refl (length s.calls)
    front_fits zero (n ∷ more) s = nodes_grow (n ∷ more) s
    front_fits (suc k) [] s = le_refl (length s.calls)
    front_fits (suc k) (n ∷ more) s = front_fits k more (go_node answer after env procs codes fired s n)

  round_grows : (any : Bool) (e : SeenEnd) (s : Seen) → length s.calls ≤ length e.seen.calls → length s.calls ≤ length (cond any e (seen_end true s)).seen.calls
  round_grows true e s on = on
  round_grows false e s on = le_refl (length s.calls)

  pub rounds_grow : (b : Built) (n : ℕ) (last : List ℕ) (s : Seen) → length s.calls ≤ length (rounds_in answer after env b n last s).seen.calls
  unfolding rounds_in
  rounds_grow b zero last s = le_refl (length s.calls)
  rounds_grow b (suc n) last s =
      let fired : List Bool = fired_of b.design.procs b.layout.words.items last s.words in
      let next : Seen = go_nodes answer after env b.design.procs b.codes fired b.clocked.nodes s in
      round_grows (some_fired fired) (rounds_in answer after env b n s.words next) s (le_trans (nodes_grow b.design.procs b.codes fired b.clocked.nodes s) (rounds_grow b n s.words next))

  -- ---- rounds, one after another

  pub ends_here : (b : Built) (n : ℕ) (last : List ℕ) (s : Seen) → some_fired (fired_of b.design.procs b.layout.words.items last s.words) ≡ false → seen_end true s ≡ rounds_in answer after env b n last s
  unfolding rounds_in
  ends_here b zero last s none = sym (ap (λ any. seen_end (not any) s) none)
  ends_here b (suc n) last s none =
      let fired : List Bool = fired_of b.design.procs b.layout.words.items last s.words in
      sym (ap (λ any. cond any (rounds_in answer after env b n s.words (go_nodes answer after env b.design.procs b.codes fired b.clocked.nodes s)) (seen_end true s)) none)

  pub last_test : (b : Built) (last : List ℕ) (s : Seen) → seen_end (not (some_fired (fired_of b.design.procs b.layout.words.items last s.words))) s ≡ rounds_in answer after env b 0 last s
  unfolding rounds_in
  last_test b last s = refl

  pub goes_on : (b : Built) (n : ℕ) (last : List ℕ) (s : Seen) → 0 < n → some_fired (fired_of b.design.procs b.layout.words.items last s.words) ≡ true
      → rounds_in answer after env b (n - 1) s.words (go_nodes answer after env b.design.procs b.codes (fired_of b.design.procs b.layout.words.items last s.words) b.clocked.nodes s) ≡ rounds_in answer after env b n last s
  unfolding rounds_in
  goes_on b zero last s some any = absurd (omega arith)
  goes_on b (suc n) last s some any =
      let fired : List Bool = fired_of b.design.procs b.layout.words.items last s.words in
      let next : Seen = go_nodes answer after env b.design.procs b.codes fired b.clocked.nodes s in
      let one : suc n - 1 ≡ n = omega arith in
      ap (λ m. rounds_in answer after env b m s.words next) one ∙ sym (ap (λ x. cond x (rounds_in answer after env b n s.words next) (seen_end true s)) any)

-- the node that runs next, of those that run one after another; `f` is what the host fixes, told anew
module _ (answer : Answer) (after : After) (ids widths : List ℕ) (deemed : List Bool) where
  pub node_fits : (procs : List Proc) (codes : List Ops) (fired : List Bool) (nodes : List Node) (numbers : List ℕ) (k : ℕ) (f f0 : List (List ℕ)) (s s0 : Seen) (room room0 : ℕ) (runs : Bool)
      → numbers ≡ map (code_number procs) nodes → k < length nodes → runs ≡ is_run fired (get_or nodes k (node.Comb 0)) → runs ≡ true
      → f ≡ f0 → s ≡ go_nodes answer after (env_of f0 ids widths deemed) procs codes fired (take k nodes) s0
      → room ≡ room0 → length (go_nodes answer after (env_of f0 ids widths deemed) procs codes fired nodes s0).calls ≤ room0
      → length (go answer after (env_of f ids widths deemed) (course_at codes (get_or numbers k 0)) s).calls ≤ room
  node_fits procs codes fired nodes numbers k f f0 s s0 room room0 runs are within is_runs does same_fixed so_far same_room fits =
      let n : Node = get_or nodes k (node.Comb 0) in
      let env0 : Env = env_of f0 ids widths deemed in
      let before : Seen = go_nodes answer after env0 procs codes fired (take k nodes) s0 in
      let code : get_or numbers k 0 ≡ code_number procs n = ap (λ (l : List ℕ). get_or l k 0) are ∙ get_or-map (code_number procs) nodes k (node.Comb 0) 0 within in
      let step = fold_more (go_node answer after env0 procs codes fired) s0 nodes k (node.Comb 0) within in
      let front = front_fits answer after env0 procs codes fired (k + 1) nodes s0 in
      let here : length (cond (is_run fired n) (go answer after env0 (course_at codes (code_number procs n)) before) before).calls ≤ room0 = le_trans (subst (λ x. length x.calls ≤ length (go_nodes answer after env0 procs codes fired nodes s0).calls) step front) fits in
      let run : length (go answer after env0 (course_at codes (code_number procs n)) before).calls ≤ room0 = subst (λ b. length (cond b (go answer after env0 (course_at codes (code_number procs n)) before) before).calls ≤ room0) (sym is_runs ∙ does) here in
      let at : length (go answer after env0 (course_at codes (get_or numbers k 0)) before).calls ≤ room0 = subst (λ m. length (go answer after env0 (course_at codes m) before).calls ≤ room0) (sym code) run in
      let seen : length (go answer after env0 (course_at codes (get_or numbers k 0)) s).calls ≤ room0 = subst (λ x. length (go answer after env0 (course_at codes (get_or numbers k 0)) x).calls ≤ room0) (sym so_far) at in
      let fixed : length (go answer after (env_of f ids widths deemed) (course_at codes (get_or numbers k 0)) s).calls ≤ room0 = subst (λ x. length (go answer after (env_of x ids widths deemed) (course_at codes (get_or numbers k 0)) s).calls ≤ room0) (sym same_fixed) seen in
      subst (λ (m : ℕ). length (go answer after (env_of f ids widths deemed) (course_at codes (get_or numbers k 0)) s).calls ≤ m) (sym same_room) fixed

-- One round of a run, from where the rounds stand.
use Rattle.std.proofs.Common.{◌≡◌, ℕ, ◌-◌, ◌<◌, ◌≤◌, Bool, true, false, not, List, length, sym, ap, subst, ◌∙◌, le_trans}
use Rattle.plan_graph.specs.declared.node.Node.{Node}
use Rattle.dpi_host.specs.HostMachine.{Answer, After}
use Rattle.plan_types.specs.Machine.{fired_of, some_fired}
use Rattle.plan_types.specs.declared.built.Built.{Built}
use Rattle.plain_runner.specs.Seen.{Seen, env_of, go_nodes, seen_end, rounds_in}
use Rattle.plain_runner.proofs.Grows.{rounds_grow, ends_here, last_test, goes_on}

module _ (answer : Answer) (after : After) (ids widths : List ℕ) (deemed : List Bool) (b : Built) where
  -- how many runs are left, the words at the test before, and what is seen; that some process fired is told of the words that are seen
  module _ (f : List (List ℕ)) (n : ℕ) (last now : List ℕ) (s : Seen) (some : Bool) (is_some : some ≡ some_fired (fired_of b.design.procs b.layout.words.items last now)) (is_now : now ≡ s.words) where
    told : some ≡ some_fired (fired_of b.design.procs b.layout.words.items last s.words)
    told = is_some ∙ ap (λ ws. some_fired (fired_of b.design.procs b.layout.words.items last ws)) is_now

    pub stops : some ≡ false → seen_end true s ≡ rounds_in answer after (env_of f ids widths deemed) b n last s
    stops none = ends_here answer after (env_of f ids widths deemed) b n last s (sym told ∙ none)

    pub at_last : n ≡ 0 → seen_end (not some) s ≡ rounds_in answer after (env_of f ids widths deemed) b n last s
    at_last none_left =
        ap (λ any. seen_end (not any) s) told ∙ last_test answer after (env_of f ids widths deemed) b last s
        ∙ sym (ap (λ m. rounds_in answer after (env_of f ids widths deemed) b m last s) none_left)

    -- those that fired run
    module _ (fired : List Bool) (nodes : List Node) (are_fired : fired ≡ fired_of b.design.procs b.layout.words.items last now) (are_nodes : nodes ≡ b.clocked.nodes) where
      next : go_nodes answer after (env_of f ids widths deemed) b.design.procs b.codes fired nodes s
          ≡ go_nodes answer after (env_of f ids widths deemed) b.design.procs b.codes (fired_of b.design.procs b.layout.words.items last s.words) b.clocked.nodes s
      next =
          ap (λ x. go_nodes answer after (env_of f ids widths deemed) b.design.procs b.codes x nodes s) (are_fired ∙ ap (fired_of b.design.procs b.layout.words.items last) is_now)
          ∙ ap (λ x. go_nodes answer after (env_of f ids widths deemed) b.design.procs b.codes (fired_of b.design.procs b.layout.words.items last s.words) x s) are_nodes

      goes : 0 < n → some ≡ true
          → rounds_in answer after (env_of f ids widths deemed) b (n - 1) s.words (go_nodes answer after (env_of f ids widths deemed) b.design.procs b.codes fired nodes s)
          ≡ rounds_in answer after (env_of f ids widths deemed) b n last s
      goes more some_do =
          ap (rounds_in answer after (env_of f ids widths deemed) b (n - 1) s.words) next
          ∙ goes_on answer after (env_of f ids widths deemed) b n last s more (sym told ∙ some_do)

      fits : (room : ℕ) → 0 < n → some ≡ true → length (rounds_in answer after (env_of f ids widths deemed) b n last s).seen.calls ≤ room
          → length (go_nodes answer after (env_of f ids widths deemed) b.design.procs b.codes fired nodes s).calls ≤ room
      fits room more some_do all =
          let then_all = subst (λ x. length x.seen.calls ≤ room) (sym (goes more some_do)) all in
          le_trans (rounds_grow answer after (env_of f ids widths deemed) b (n - 1) s.words (go_nodes answer after (env_of f ids widths deemed) b.design.procs b.codes fired nodes s)) then_all

      -- so the rounds go on as they would have from the first, and what they keep fits; `f'` is what the host fixes, told anew
      module _ (f' : List (List ℕ)) (same_fixed : f' ≡ f) (n0 : ℕ) (last0 : List ℕ) (s0 : Seen)
          (so_far : rounds_in answer after (env_of f ids widths deemed) b n last s ≡ rounds_in answer after (env_of f ids widths deemed) b n0 last0 s0) (more : 0 < n) (some_do : some ≡ true) where
        pub goes_from : (n' : ℕ) (last' : List ℕ) (s' : Seen) → n' ≡ n - 1 → last' ≡ now → s' ≡ go_nodes answer after (env_of f' ids widths deemed) b.design.procs b.codes fired nodes s
            → rounds_in answer after (env_of f ids widths deemed) b n' last' s' ≡ rounds_in answer after (env_of f ids widths deemed) b n0 last0 s0
        goes_from n' last' s' is_less is_last is_next =
            ap (λ m. rounds_in answer after (env_of f ids widths deemed) b m last' s') is_less
            ∙ ap (λ l. rounds_in answer after (env_of f ids widths deemed) b (n - 1) l s') (is_last ∙ is_now)
            ∙ ap (rounds_in answer after (env_of f ids widths deemed) b (n - 1) s.words) (is_next ∙ ap (λ x. go_nodes answer after (env_of x ids widths deemed) b.design.procs b.codes fired nodes s) same_fixed)
            ∙ goes more some_do ∙ so_far

        pub fits_from : (room room0 : ℕ) → room ≡ room0 → length (rounds_in answer after (env_of f ids widths deemed) b n0 last0 s0).seen.calls ≤ room0
            → length (go_nodes answer after (env_of f' ids widths deemed) b.design.procs b.codes fired nodes s).calls ≤ room
        fits_from room room0 same_room all =
            subst (λ x. length (go_nodes answer after (env_of x ids widths deemed) b.design.procs b.codes fired nodes s).calls ≤ room) (sym same_fixed)
            (fits room more some_do (subst (λ x. length x.seen.calls ≤ room) (sym so_far) (subst (λ (m : ℕ). length (rounds_in answer after (env_of f ids widths deemed) b n0 last0 s0).seen.calls ≤ m) (sym same_room) all)))

-- A model whose parts are those of another runs as the other does.
use Rattle.std.proofs.Common.{◌≡◌, ℕ, ◌+◌, ◌*◌, Bool, List, [], slice_get, Some, refl, ap, ◌∙◌}
use Rattle.std.specs.List.{sum_by}
use Rattle.vs_base.specs.Number.{Number}
use Rattle.rtl_ir.specs.declared.whole.Design.{Design}
use Rattle.rtl_pieces.specs.declared.layout.Word.{Word}
use Rattle.plan_graph.specs.declared.node.Node.{Node}
use Rattle.dpi_host.specs.HostMachine.{Answer, After}
use Rattle.task_eval.specs.Codes.{Ops}
use Rattle.plan_types.specs.Coded.{code_number}
use Rattle.plan_types.specs.Machine.{Machine, Ended, most_runs, put_inputs, input_words, run_nodes, rounds, ends}
use Rattle.plan_types.specs.Room.{calls_if, call_room}
use Rattle.plan_types.specs.declared.plan.ValidPlan.{ValidPlan}
use Rattle.plan_types.specs.declared.built.Built.{Built}
use Rattle.model_copy.specs.Copies.{RunsAs}

-- where an eval ends, by the parts of a model
ends_by : Answer → After → List Number → Machine → Design → List Word → List Ops → ValidPlan → ValidPlan → Ended
ends_by answer after inputs m design words codes settle clocked =
    let start = record m.outside { words = put_inputs inputs (input_words design.ports words) m.outside.words; made = Some [] } in
    rounds answer after design.procs codes words clocked.nodes most_runs m.last (run_nodes answer after design.procs codes [] settle.nodes start)

-- how many calls it can keep
room_by : Design → List Ops → List Bool → ValidPlan → ValidPlan → ℕ
room_by design codes deemed settle clocked =
    sum_by (λ n. calls_if deemed (slice_get codes (code_number design.procs n))) settle.nodes
    + most_runs * sum_by (λ n. calls_if deemed (slice_get codes (code_number design.procs n))) clocked.nodes

module _ (copy model : Built) where
  same_end : (answer : Answer) (after : After) (inputs : List Number) (m : Machine)
      → copy.design ≡ model.design → copy.layout.words.items ≡ model.layout.words.items → copy.codes ≡ model.codes → copy.settle ≡ model.settle → copy.clocked ≡ model.clocked
      → ends answer after copy inputs m ≡ ends answer after model inputs m
  unfolding ends_by
  same_end answer after inputs m design words codes settle clocked =
      ap (λ d. ends_by answer after inputs m d copy.layout.words.items copy.codes copy.settle copy.clocked) design
      ∙ ap (λ w. ends_by answer after inputs m model.design w copy.codes copy.settle copy.clocked) words
      ∙ ap (λ c. ends_by answer after inputs m model.design model.layout.words.items c copy.settle copy.clocked) codes
      ∙ ap (λ p. ends_by answer after inputs m model.design model.layout.words.items model.codes p copy.clocked) settle
      ∙ ap (ends_by answer after inputs m model.design model.layout.words.items model.codes model.settle) clocked

  same_room : copy.design ≡ model.design → copy.codes ≡ model.codes → copy.settle ≡ model.settle → copy.clocked ≡ model.clocked → copy.deemed ≡ model.deemed
      → call_room copy ≡ call_room model
  unfolding room_by
  same_room design codes settle clocked deemed =
      ap (λ d. room_by d copy.codes copy.deemed copy.settle copy.clocked) design
      ∙ ap (λ c. room_by model.design c copy.deemed copy.settle copy.clocked) codes
      ∙ ap (λ d. room_by model.design model.codes d copy.settle copy.clocked) deemed
      ∙ ap (λ p. room_by model.design model.codes model.deemed p copy.clocked) settle
      ∙ ap (room_by model.design model.codes model.deemed model.settle) clocked

pub runs_as : (copy model : Built)
    → copy.design ≡ model.design → copy.layout.words.items ≡ model.layout.words.items → copy.codes ≡ model.codes
    → copy.settle ≡ model.settle → copy.clocked ≡ model.clocked → copy.deemed ≡ model.deemed → copy.ids ≡ model.ids
    → RunsAs copy model
runs_as copy model design words codes settle clocked deemed ids = record {
  opens = λ fixed state. rw (design, words, ids) refl;
  evals = λ answer after inputs m. rw (design, words, codes, settle, clocked, deemed) refl;
  converges = λ answer after inputs m. ap (λ (e : Ended). e.converged) (same_end copy model answer after inputs m design words codes settle clocked);
  room = same_room copy model design codes settle clocked deemed;
  shows = λ m. rw (design, words) refl;
}

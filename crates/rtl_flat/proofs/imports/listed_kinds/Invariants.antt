use Rattle.std.proofs.Common.{◌≡◌, ◌∷◌, true, map, take}
use Rattle.std.specs.List.{list_all}
use Rattle.elab_types.specs.Word.{word_kind}
use Rattle.rtl_ir.specs.Types.{is_type}
use Rattle.rtl_flat.proofs.imports.listed_kinds.Given as goal

abbrev pub invariant-loop-joined : goal.invariant-loop-joined
invariant-loop-joined l = record {
  kinds : l.kinds ≡ word_kind l.names l.args.first.kind ∷ map (λ j. word_kind l.names j.item.kind) (take l.joined-index l.args.more);
  types : list_all is_type l.kinds ≡ true;
}

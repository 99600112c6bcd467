-- What a read of an element gives that is not there: 0 (IEEE 1800-2017 7.4.6, at two states).
use Rattle.std.specs.Prelude.{◌≡◌, ℕ, List, ◌∷◌}
use Rattle.vs_base.specs.Number.{Number, kept}
use Rattle.task_eval.specs.declared.op.Op.{Op}
use Rattle.task_eval.specs.declared.op.Op.TheVariants as op
use Rattle.task_code.specs.declared.here.Own.{Own}
use Rattle.task_code.specs.declared.stand.Part.{Part}
use Rattle.task_code.specs.declared.stand.Part.TheVariants as part
use Rattle.task_code.specs.declared.stand.Stand.{Stand}
use Rattle.task_code.specs.declared.stand.Stand.TheVariants as stand

-- A select by a constant has as many bits as it names, wherever they are. Where an index cuts them out when the code runs, the
-- whole element is read before, as it is where there is no select.
abbrev pub width_read : Own → Part → ℕ
width_read own part.All = own.width
width_read own (part.At at width) = width
width_read own (part.Index index width) = own.width

abbrev pub zero_read : Own → Part → Number
zero_read own p = kept (width_read own p) 0

-- what is put in front of the ops that follow, where the element is not there
abbrev pub IsRead : Stand → Own → Part → List Op → List Op → Type 0
IsRead stand.Nowhere own p after ops = ops ≡ op.Push (zero_read own p) ∷ after
IsRead _ own p after ops = Unit {0}

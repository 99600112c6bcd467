use Rattle.std.proofs.Common.{◌≡◌, ◌<◌, ◌^◌, ◌++◌, ◌∷◌, [], length, map, sym, ap, ◌∙◌, subst, arith, inr}
use Rattle.sv_tree.specs.Names.{IsTable}
use Rattle.sv_tree.proofs.Keys.{pushed_keys, table_pushed}
use Rattle.sv_tree.proofs.names.Names.intern.Goals.{In-Ok-insert_full}
use Rattle.sv_tree.proofs.names.Names.intern.Goals as goal

after : (c : In-Ok-insert_full) → map (λ t. t.items) c.insert_full.new.self.keys ≡ c.args.self.now ++ c.args.text.now ∷ []
after c =
    let absent = rw (← c.self.view_is) at c.in_default.ensures in
    pushed_keys (λ t. t.items) c.args.text.now c.self.inside.texts.keys c.insert_full.new.self.keys c.in-Ok-from_slice.key c.in-Ok-from_slice.ensures.items absent c.in-Ok-insert_full.ensures.keys
    ∙ ap (λ ns. ns ++ c.args.text.now ∷ []) c.self.view_is

table : (c : In-Ok-insert_full) → IsTable (map (λ t. t.items) c.insert_full.new.self.keys)
table c =
    let few : length c.args.self.now < 2 ^ 32 = omega (arith, c.in-Ok.ensures.0, c.in-Ok.ensures.1, c.len.ensures.value) in
    subst IsTable (sym (after c)) (table_pushed c.args.self.now c.args.text.now (subst IsTable c.self.view_is c.self.invariant) c.in_default.ensures few)

pub invariant_of-self-2 : goal.invariant_of-self-2
invariant_of-self-2 c = table c

pub returns-clause-interns : goal.returns-clause-interns
returns-clause-interns c = inr (after c, c.in-Ok.ensures.1 ∙ c.len.ensures.value, c.in_default.ensures)

pub returns-clause-once : goal.returns-clause-once
returns-clause-once c = (table c).once

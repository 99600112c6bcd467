use Rattle.std.proofs.Common.{◌≡◌, ◌++◌, ◌∷◌, [], Option, map, ap, ◌∙◌, subst, List, ℕ, zero, suc, ◌<◌, length, arith, sym, inr, length-append}
use Rattle.std.specs.Prelude.{Vec, IfSome, get_or, ◌+◌, ◌≤◌, All}
use Rattle.std.proofs.lemmas.List.{map-append}
use Rattle.std.proofs.lemmas.List.Elements.{All-append}
use Rattle.std.specs.declared.alloc.Global.{Global}
use Rattle.vs_world.specs.Outside.{Files, Told, IsWhole, OnlyReads}
use Rattle.run_status.specs.Answer.{Leaves}
use Rattle.run_status.specs.StageLaws.{leaves_read, leaves_then}
use Rattle.run_input.specs.Input.{file_read}
use Rattle.run_input.specs.InputLaws.{ReadsOn, read_whole, read_on}
use Rattle.run_input.proofs.files.read_files.Goals as goal

abbrev items_of : Vec (Vec ℕ Global) Global → List (List ℕ)
items_of v = map (λ (v : Vec ℕ Global). v.items) v.items

one_small : (v : Vec ℕ Global) → length v.items ≤ 4194304 → All (λ (v : Vec ℕ Global). length v.items ≤ 4194304) (v ∷ [])
one_small v small zero d h = small
one_small v small (suc k) d h = absurd (omega arith)

-- from before all files to after one more read
later : (name : List ℕ) (a b c : Told) → Leaves [] a b → OnlyReads name b c → Leaves [] a c
later name a b c left reads = leaves_then [] [] a b c left (leaves_read name b c reads)

-- the files are those of the beginning
same_files : (P : Option Files → Type 0) (a b : Told) → Leaves [] a b → P b.files → P a.files
same_files P a b left is = subst P left.files is

pub loop-at-preserved : goal.loop-at-preserved
loop-at-preserved g c =
    let names = c.args.names.now in
    let within : c.loop-at.at < length names = omega (arith, c.loop-at-test.true) in
    let t0 = g.W.World.told c.args.world.now in
    let t1 = g.W.World.told c.loop-at.world in
    let t2 = g.W.World.told c.read_all.new.world in
    let seen = c.loop-at.invariant in
    let here = c.in-Ok.ensures in
    let bytes = c.in-Ok.bytes in
    let whole = subst (λ (n : List ℕ). IsWhole t1.files n bytes.items) c.file_name.ensures here.ok in
    let read = same_files (λ (f : Option Files). IfSome f (λ files. file_read (get_or names c.loop-at.at []) (files (get_or names c.loop-at.at [])) ≡ inr bytes.items)) t0 t1 seen.rest (read_whole (get_or names c.loop-at.at []) t1.files bytes.items whole here.bound) in
    let grown : items_of c.push.new.self ≡ items_of c.loop-at.files ++ bytes.items ∷ [] = ap (map (λ (v : Vec ℕ Global). v.items)) c.in-Ok-push.ensures.items ∙ map-append (λ (v : Vec ℕ Global). v.items) c.loop-at.files.items (bytes ∷ []) in
    record {
      within = omega arith;
      reads = subst (ReadsOn t0.files names (c.loop-at.at + 1)) (sym grown) (read_on names c.loop-at.at (items_of c.loop-at.files) within t0.files bytes.items seen.reads read);
      count = ap length c.in-Ok-push.ensures.items ∙ length-append c.loop-at.files.items (bytes ∷ []) ∙ ap (λ (n : ℕ). n + 1) seen.count;
      few = subst (All (λ (v : Vec ℕ Global). length v.items ≤ 4194304)) (sym c.in-Ok-push.ensures.items)
          (All-append (λ (v : Vec ℕ Global). length v.items ≤ 4194304) c.loop-at.files.items (bytes ∷ []) seen.few (one_small bytes here.bound));
      rest = later c.file_name.result.now t0 t1 t2 seen.rest here.rest;
    }

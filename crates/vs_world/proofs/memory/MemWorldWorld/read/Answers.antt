use Rattle.std.proofs.Common.{ℕ, ◌≡◌, ◌≤◌, ◌∙◌, refl, sym, ap, subst, List, Option, length, IfSome, option_copied}
use Rattle.std.proofs.lemmas.Bool.{false≢true}
use Rattle.vs_world.specs.declared.memory.MemFile.{MemFile}
use Rattle.vs_world.specs.Memory.{Memory, file_of, missed, read_size}
use Rattle.vs_world.specs.InMemory.{memory_of}
use Rattle.vs_world.proofs.MemoryReads.{found, moves, reads_at, not_found, missed_cause, missed_rest}
use Rattle.vs_world.proofs.memory.MemWorldWorld.read.Goals as goal

pub returns-in-Some-clause-fails : goal.returns-in-Some-clause-fails
returns-in-Some-clause-fails c =
    let there = ap (λ (fs : List MemFile). file_of fs c.args.name.now) (sym c.deref.ensures.value) ∙ sym c.find_file.ensures ∙ ap option_copied c.in-Some.is in
    let f = found (memory_of c.args.self.now) (memory_of c.call.new.self) c.args.name.now c.in-Some.bytes.now (sym c.if-call.ensures.planned) c.call.ensures.after there in
    (λ no. absurd (false≢true no), λ fails. sym f.passes ∙ fails)

pub returns-in-Some-clause-size : goal.returns-in-Some-clause-size
returns-in-Some-clause-size c =
    let there = ap (λ (fs : List MemFile). file_of fs c.args.name.now) (sym c.deref.ensures.value) ∙ sym c.find_file.ensures ∙ ap option_copied c.in-Some.is in
    let f = found (memory_of c.args.self.now) (memory_of c.call.new.self) c.args.name.now c.in-Some.bytes.now (sym c.if-call.ensures.planned) c.call.ensures.after there in
    subst (λ (o : Option (List ℕ)). IfSome o (λ bytes. c.copy.result ≡ read_size bytes c.args.at (length c.args.buf.now) (memory_of c.args.self.now))) (sym f.named) (moves (memory_of c.args.self.now) (memory_of c.call.new.self) c.in-Some.bytes.now c.args.at (length c.args.buf.now) c.copy.result c.call.ensures.after c.copy.ensures.size)

pub returns-in-Some-clause-after : goal.returns-in-Some-clause-after
returns-in-Some-clause-after c =
    let there = ap (λ (fs : List MemFile). file_of fs c.args.name.now) (sym c.deref.ensures.value) ∙ sym c.find_file.ensures ∙ ap option_copied c.in-Some.is in
    let f = found (memory_of c.args.self.now) (memory_of c.call.new.self) c.args.name.now c.in-Some.bytes.now (sym c.if-call.ensures.planned) c.call.ensures.after there in
    f.after

pub returns-in-Some-clause-bytes : goal.returns-in-Some-clause-bytes
returns-in-Some-clause-bytes c =
    let there = ap (λ (fs : List MemFile). file_of fs c.args.name.now) (sym c.deref.ensures.value) ∙ sym c.find_file.ensures ∙ ap option_copied c.in-Some.is in
    let f = found (memory_of c.args.self.now) (memory_of c.call.new.self) c.args.name.now c.in-Some.bytes.now (sym c.if-call.ensures.planned) c.call.ensures.after there in
    reads_at (memory_of c.args.self.now) c.args.name.now c.in-Some.bytes.now c.copy.new.buf c.args.at (length c.args.buf.now) c.copy.result f.named (moves (memory_of c.args.self.now) (memory_of c.call.new.self) c.in-Some.bytes.now c.args.at (length c.args.buf.now) c.copy.result c.call.ensures.after c.copy.ensures.size) c.requires c.args.self.now.moves c.copy.ensures.read

pub returns-in-None-clause-fails : goal.returns-in-None-clause-fails
returns-in-None-clause-fails c =
    let none = ap (λ (fs : List MemFile). file_of fs c.args.name.now) (sym c.deref.ensures.value) ∙ sym c.find_file.ensures ∙ ap option_copied c.in-None.is in
    let f = not_found (memory_of c.args.self.now) (memory_of c.call.new.self) c.args.name.now (sym c.if-call.ensures.planned) c.call.ensures.after none in
    (λ _. f.fails, λ _. refl)

pub returns-in-None-clause-after : goal.returns-in-None-clause-after
returns-in-None-clause-after c =
    let none = ap (λ (fs : List MemFile). file_of fs c.args.name.now) (sym c.deref.ensures.value) ∙ sym c.find_file.ensures ∙ ap option_copied c.in-None.is in
    let f = not_found (memory_of c.args.self.now) (memory_of c.call.new.self) c.args.name.now (sym c.if-call.ensures.planned) c.call.ensures.after none in
    c.missed.ensures.missed ∙ f.after

pub returns-in-None-clause-cause : goal.returns-in-None-clause-cause
returns-in-None-clause-cause c =
    let none = ap (λ (fs : List MemFile). file_of fs c.args.name.now) (sym c.deref.ensures.value) ∙ sym c.find_file.ensures ∙ ap option_copied c.in-None.is in
    let f = not_found (memory_of c.args.self.now) (memory_of c.call.new.self) c.args.name.now (sym c.if-call.ensures.planned) c.call.ensures.after none in
    missed_cause (memory_of c.args.self.now) (memory_of c.missed.new.self) c.args.name.now (c.missed.ensures.missed ∙ ap missed c.call.ensures.after) f.missing

pub returns-in-None-clause-rest : goal.returns-in-None-clause-rest
returns-in-None-clause-rest c =
    let none = ap (λ (fs : List MemFile). file_of fs c.args.name.now) (sym c.deref.ensures.value) ∙ sym c.find_file.ensures ∙ ap option_copied c.in-None.is in
    let f = not_found (memory_of c.args.self.now) (memory_of c.call.new.self) c.args.name.now (sym c.if-call.ensures.planned) c.call.ensures.after none in
    missed_rest (memory_of c.args.self.now) (memory_of c.missed.new.self) c.args.name.now (c.missed.ensures.missed ∙ ap missed c.call.ensures.after) (subst (λ (n : ℕ). n ≤ c.missed.new.self.absent) (ap (λ (x : Memory). x.absent) c.call.ensures.after) c.missed.ensures.later) f.missing

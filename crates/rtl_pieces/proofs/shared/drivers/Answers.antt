use Rattle.std.proofs.Common.{◌≡◌, ◌∙◌, ℕ, List, Some, None, true, ap, sym, subst}
use Rattle.rtl_pieces.specs.declared.owned.OwnedRange.{OwnedRange}
use Rattle.rtl_pieces.specs.Line.{Line}
use Rattle.rtl_pieces.specs.Bits.{writes}
use Rattle.rtl_pieces.specs.Owned.{owned_by, sweep, LeastShared}
use Rattle.rtl_pieces.specs.Drivers.{IsFault}
use Rattle.rtl_pieces.proofs.Finding.{few_items, placed_line}
use Rattle.rtl_pieces.proofs.Driving.{sorted_writes, inside_line, single_writes, least_shared, none_shared}
use Rattle.rtl_pieces.proofs.Least.{fault_same}
use Rattle.rtl_pieces.proofs.shared.drivers.Goals as goal

pub shared_at-requires-clause-within : goal.shared_at-requires-clause-within
shared_at-requires-clause-within c =
    let sorted = c.sort.new.all.items in
    let place = c.in-Some.place in
    let e : sweep 0 0 sorted ≡ Some place = ap (sweep 0 0) (sym c.as_slice.ensures.value) ∙ sym c.first_shared.ensures ∙ c.in-Some.is in
    inside_line c.in_ok-line.line c.args.design.now.procs c.in_ok-all.all.items sorted c.in_ok-all.ensures c.sort.ensures.permutation place (least_shared sorted place c.sort.ensures.sorted e)

pub shared_at-requires-clause-placed : goal.shared_at-requires-clause-placed
shared_at-requires-clause-placed c = placed_line c.in_ok-line.line c.args.design.now.vars c.args.design.now.mems c.in_ok-line.ensures.value

pub shared_at-requires-clause-mems : goal.shared_at-requires-clause-mems
shared_at-requires-clause-mems c = few_items c.in_ok-line.line c.args.design.now.vars c.args.design.now.mems c.in_ok-line.ensures.value c.requires.mems

pub shared_at-requires-clause-shared : goal.shared_at-requires-clause-shared
shared_at-requires-clause-shared c =
    let sorted = c.sort.new.all.items in
    let place = c.in-Some.place in
    let e : sweep 0 0 sorted ≡ Some place = ap (sweep 0 0) (sym c.as_slice.ensures.value) ∙ sym c.first_shared.ensures ∙ c.in-Some.is in
    subst (λ (all : List OwnedRange). LeastShared (λ p b. owned_by p b all) place) (sym c.as_slice-in-Some.ensures.value) (least_shared sorted place c.sort.ensures.sorted e)

pub returns-in-Some-clause-two : goal.returns-in-Some-clause-two
returns-in-Some-clause-two c =
    let line = c.in_ok-line.line in
    let procs = c.args.design.now.procs in
    let all = c.in_ok-all.all.items in
    let sorted = c.sort.new.all.items in
    let slice = c.as_slice-in-Some.result.now in
    subst (λ (l : Line). IsFault l (writes l procs) c.shared_at.result) c.in_ok-line.ensures.value
    (fault_same line (λ p b. owned_by p b slice) (writes line procs)
    (λ p b. ap (owned_by p b) c.as_slice-in-Some.ensures.value ∙ sorted_writes line procs all sorted c.in_ok-all.ensures c.sort.ensures.permutation p b)
    c.shared_at.result c.shared_at.ensures)

pub returns-clause-single : goal.returns-clause-single
returns-clause-single c =
    let line = c.in_ok-line.line in
    let procs = c.args.design.now.procs in
    let all = c.in_ok-all.all.items in
    let sorted = c.sort.new.all.items in
    let e : sweep 0 0 sorted ≡ None = ap (sweep 0 0) (sym c.as_slice.ensures.value) ∙ sym c.first_shared.ensures ∙ c.in-None.is in
    subst (λ (l : Line). (b p q : ℕ) → writes l procs p b ≡ true → writes l procs q b ≡ true → p ≡ q) c.in_ok-line.ensures.value
    (single_writes line procs all sorted c.in_ok-all.ensures c.sort.ensures.permutation (none_shared sorted c.sort.ensures.sorted e))

use Rattle.std.proofs.Common.{false, refl, ap, subst, sym, ◌∙◌}
use mathlib.Core.Bool.{beq}
use Rattle.sv_pp.specs.Shown.{Stacked, test_of}
use Rattle.sv_pp.proofs.Places.{if_opened, defined_as_found, tested}
use Rattle.sv_pp.proofs.file.open_as.Goals as goal

pub returns : goal.returns
returns c s shows =
    let a = c.args in
    let found = defined_as_found (λ body. body.now) a.names.now s a.name.now c.text.result.now c.body.result (c.body.ensures s.macros shows.kept) c.text.ensures in
    let taken = ap (λ defined. beq defined a.wanted) (c.is_some-is_defined.ensures ∙ found) ∙ tested _ a.wanted in
    if_opened a.names.now a.place.now _ a.going.now c.read.new.self (test_of a.wanted) s a.token.now a.name.now _ shows refl c.in-Ok.ensures.items c.in_default.ensures.went
    (c.is_active.ensures s.branches (subst (λ opens. Stacked opens s.branches) (sym c.deref.ensures.value) shows.stacked))
    (ap (λ taken. record { at = a.token.now.at; taken = taken; is_else = false }) taken)

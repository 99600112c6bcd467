use Rattle.std.proofs.Common.{sym, subst, map}
use Rattle.sv_pp.specs.Answer.{AllNamed}
use Rattle.sv_pp.specs.NamedLaws.{named_grown}
use Rattle.front_tests.proofs.macros.both.Goals as goal

pub returns : goal.returns
returns c =
    let names = c.lexed-2.new.names in
    let first = named_grown c.lexed.new.names names c.in-Ok-lexed.ensures.grows c.in-Ok.tokens.items c.in-Ok.ensures.named in
    subst (λ files. AllNamed names (map (λ file. file.items) files)) (sym c.in-Ok-from_array.ensures.items) (first, (c.in-Ok-lexed.ensures.named, tt))

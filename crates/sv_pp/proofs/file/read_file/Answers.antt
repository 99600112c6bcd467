use Rattle.std.proofs.Common.{length, ap, sym, subst, arith}
use Rattle.sv_tree.specs.Tokens.{AreNamed}
use Rattle.sv_pp.proofs.Laws.{rest_named}
use Rattle.sv_pp.proofs.Files.{named_after, within, left_on, left_wrong, left_open, left_end}
use Rattle.sv_pp.proofs.file.read_file.Goals as goal

pub step-requires-clause-shown : goal.step-requires-clause-shown
step-requires-clause-shown c = let left = c.loop-rest.invariant.1 c.requires.shown.0 c.requires.shown.1 in (left.state, left.shows)

pub returns-in-Err : goal.returns-in-Err
returns-in-Err c macros shows next =
    let a = c.args in
    let left = c.loop-rest.invariant.1 macros shows in
    left_wrong a.names.now a.going.now c.loop-rest.going c.loop-rest.place c.loop-rest.rest.now macros a.tokens.now left _ c.in-len1-up.len_at_least c.in-Err.fault (c.in-Err.ensures left.state left.shows) next

pub without_front-rest-requires : goal.without_front-rest-requires
without_front-rest-requires c =
    let a = c.args in
    let macros = c.requires.shown.0 in
    let left = c.loop-rest.invariant.1 macros c.requires.shown.1 in
    within a.names.now a.going.now c.loop-rest.going c.loop-rest.place c.loop-rest.rest.now macros a.tokens.now left _ c.in-len1-up.len_at_least c.step.new.going c.step.new.place c.in-Ok.more (c.in-Ok.ensures left.state left.shows)

pub loop-rest-preserved : goal.loop-rest-preserved
loop-rest-preserved c =
    let a = c.args in (
      subst (AreNamed a.names.now) (sym c.without_front-rest.ensures) (named_after a.names.now c.in-Ok.more _ (rest_named a.names.now c.loop-rest.rest.now c.in-len1-up.len_at_least c.loop-rest.invariant.0)),
      λ macros shows. let left = c.loop-rest.invariant.1 macros shows in
          rw c.without_front-rest.ensures (left_on a.names.now a.going.now c.loop-rest.going c.loop-rest.place c.loop-rest.rest.now macros a.tokens.now left _ c.in-len1-up.len_at_least c.step.new.going c.step.new.place c.in-Ok.more (c.in-Ok.ensures left.state left.shows)),
    )

pub returns-in-len1-up-as_slice : goal.returns-in-len1-up-as_slice
returns-in-len1-up-as_slice c macros shows next =
    let a = c.args in
    let left = c.loop-rest.invariant.1 macros shows in
    left_open a.names.now a.going.now c.loop-rest.going c.loop-rest.place c.loop-rest.rest.now macros a.tokens.now left c.in_default.len_below c.as_slice.result.now _ c.as_slice.ensures.value c.in-len1-up-as_slice.len_at_least next

pub returns : goal.returns
returns c macros shows =
    let a = c.args in
    let left = c.loop-rest.invariant.1 macros shows in
    left_end a.names.now a.going.now c.loop-rest.going c.loop-rest.place c.loop-rest.rest.now macros a.tokens.now left c.in_default.len_below (omega (arith, ap length c.as_slice.ensures.value, c.in_default-as_slice.len_below))

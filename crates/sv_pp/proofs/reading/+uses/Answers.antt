use Rattle.std.proofs.Common.{◌∙◌, ap, sym, arith}
use Rattle.sv_pp.specs.Reading.{inner_reading, use_reading}
use Rattle.sv_pp.proofs.Laws.{rest_named, token_read, token_wrong, all_read, use_count, too_deep, not_defined, text_read}
use Rattle.sv_pp.proofs.reading.+uses.Goals as goal

pub read_body-returns-in-Err : goal.read_body-returns-in-Err
read_body-returns-in-Err t c macros kept =
    let a = c.args in
    token_wrong c.loop-rest.rest.now _ c.in-len1-up.len_at_least (inner_reading a.names.now a.at (use_reading a.names.now macros a.at a.levels)) a.going.now c.loop-rest.going _ (c.loop-rest.invariant.1 macros kept) c.in-Err.fault (c.in-Err.ensures macros kept)

pub read_body-loop-rest-preserved : goal.read_body-loop-rest-preserved
read_body-loop-rest-preserved t c =
    let a = c.args in (
      rest_named a.names.now c.loop-rest.rest.now c.in-len1-up.len_at_least c.loop-rest.invariant.0,
      λ macros kept. token_read c.loop-rest.rest.now _ c.in-len1-up.len_at_least (inner_reading a.names.now a.at (use_reading a.names.now macros a.at a.levels)) a.going.now c.loop-rest.going _ (c.loop-rest.invariant.1 macros kept) c.read_inner.new.going (c.in_default-read_inner.ensures macros kept),
    )

pub read_body-returns : goal.read_body-returns
read_body-returns t c macros kept =
    let a = c.args in
    all_read (inner_reading a.names.now a.at (use_reading a.names.now macros a.at a.levels)) a.going.now c.loop-rest.going c.loop-rest.rest.now _ c.in_default.len_below (c.loop-rest.invariant.1 macros kept)

pub read_use-returns-in_default-body : goal.read_use-returns-in_default-body
read_use-returns-in_default-body t c macros kept =
    let a = c.args in
    not_defined a.names.now macros a.at a.levels a.token.now a.going.now c.read.new.self (omega arith) (c.in_default-body.ensures macros kept ∙ ap macros c.named_by.ensures) c.in_default.ensures.went

pub read_use-read_body-requires : goal.read_use-read_body-requires
read_use-read_body-requires t c =
    let kept = c.requires.kept in
    (omega arith, (c.in_default.ensures.went.few, (kept.1.named _ c.in-Some.body.now (sym (c.in-Some.ensures kept.0 kept.1)), kept)))

pub read_use-returns : goal.read_use-returns
read_use-returns t c macros kept =
    let a = c.args in
    text_read a.names.now macros a.at a.levels a.token.now c.in-Some.body.now a.going.now c.read.new.self c.read_body.new.going c.read_body.result (omega arith) (c.in-Some.ensures macros kept ∙ ap macros c.named_by.ensures) c.in_default.ensures.went
    (c.read_body.ensures macros kept)

pub read_use-returns-in-Err : goal.read_use-returns-in-Err
read_use-returns-in-Err t c macros kept =
    let a = c.args in
    c.in-Err.ensures.stops (use_reading a.names.now macros a.at a.levels a.token.now) (use_count a.names.now macros a.at a.levels a.token.now)

pub read_use-returns-then-levels-eq0 : goal.read_use-returns-then-levels-eq0
read_use-returns-then-levels-eq0 t c macros kept =
    let a = c.args in
    too_deep a.names.now macros a.at a.levels a.token.now a.going.now c.read.new.self c.if-levels-eq0.true c.in_default.ensures.went

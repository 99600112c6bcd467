use Rattle.model_copy.proofs.built.copied.Goals as goal

-- each fact of the model is one of its copy, since the parts are equal
pub invariant_of-result : goal.invariant_of-result
invariant_of-result c =
    let model = c.args.built.now in
    let machinery = c.in_ok-machinery.ensures in
    let plans = c.in_ok-plans.ensures in
    let outside = c.in_ok-outside.ensures in
    record {
      coded = rw (machinery.codes, machinery.design) model.coded;
      within = rw (machinery.words, outside.ids, machinery.codes) model.within;
      deemed_each = rw (outside.deemed, machinery.design) model.deemed_each;
      ids_each = rw (outside.ids, machinery.design) model.ids_each;
      settle_codes = rw (plans.settle, machinery.codes, machinery.design) model.settle_codes;
      clocked_codes = rw (plans.clocked, machinery.codes, machinery.design) model.clocked_codes;
      one_driver = rw machinery.design model.one_driver;
      free_inputs = rw machinery.design model.free_inputs;
      is_cut = rw (machinery.words, machinery.design) model.is_cut;
      settled = rw machinery.design model.settled;
      settle_serial = rw (plans.settle, machinery.design) model.settle_serial;
      clocked_serial = rw (plans.clocked, machinery.design) model.clocked_serial;
      settle_keeps = rw (plans.settle, machinery.words, machinery.codes, machinery.design) model.settle_keeps;
      clocked_keeps = rw (plans.clocked, machinery.words, machinery.codes, machinery.design) model.clocked_keeps;
    }

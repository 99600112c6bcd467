use Rattle.task_eval.proofs.run.turn.Goals as goal

pub load-value-requires : goal.load-value-requires
load-value-requires g c = c.in-Load.ensures.within _ _ c.requires.within

pub store-requires : goal.store-requires
store-requires g c = c.in-Store.ensures.within _ _ c.requires.within

pub call-reply-requires : goal.call-reply-requires
call-reply-requires g c = c.in-Call.ensures.within _ _ c.requires.within

use Rattle.sim_session.proofs.Creating.{creatable_still, second_or_stopped, first_stopped, all_open}
use Rattle.sim_session.proofs.create.create_files.Goals as goal

pub create_file-requires-in-Ok-clause-free : goal.create_file-requires-in-Ok-clause-free
create_file-requires-in-Ok-clause-free g c = creatable_still _ _ _ c.in-Ok.ensures.created.1.did c.requires.vcd

pub returns-in-Ok-clause-created : goal.returns-in-Ok-clause-created
returns-in-Ok-clause-created g c =
    second_or_stopped _ _ _ _ c.create_file-in-Ok.result _ _ _ c.as_ref.ensures.value c.as_ref-in-Ok.ensures.value c.in-Ok.ensures.created.1 c.create_file-in-Ok.ensures.created

pub returns-in-Err-clause-created : goal.returns-in-Err-clause-created
returns-in-Err-clause-created g c = first_stopped _ _ _ c.in-Err.fault _ _ c.as_ref.ensures.value c.in-Err.ensures.created

pub returns-in-Ok-clause-opened : goal.returns-in-Ok-clause-opened
returns-in-Ok-clause-opened g c =
    all_open c.args.texts.now c.create_file-in-Ok.result _ _
    (second_or_stopped _ _ _ _ c.create_file-in-Ok.result _ _ _ c.as_ref.ensures.value c.as_ref-in-Ok.ensures.value c.in-Ok.ensures.created.1 c.create_file-in-Ok.ensures.created)

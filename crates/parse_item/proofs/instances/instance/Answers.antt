use Rattle.parse_item.proofs.Rules.{instance_item}
use Rattle.parse_item.proofs.instances.instance.Goals as goal

pub returns-clause-reads : goal.returns-clause-reads
returns-clause-reads c =
    instance_item c.in_ok-overrides.overrides c.in_ok-ports.ports c.requires.deep c.in_ok-module.ensures.token c.in_ok-overrides.ensures.reads c.in_ok-ports.ensures.reads

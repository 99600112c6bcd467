use Rattle.std.proofs.Common.{map, ap}
use Rattle.std.specs.Prelude.{string_bytes, Err}
use Rattle.vsim_cli.specs.Case.{host_view}
use Rattle.vsim_cli.specs.TopLaws.{usage_ends, words_want}
use Rattle.vsim_cli.proofs.top.vsim.Goals as goal

pub returns-in-Err-Usage : goal.returns-in-Err-Usage
returns-in-Err-Usage g c =
    let h = host_view (g.H.Host.id_of (g.H.Host.fixed c.args.host)) (g.H.Host.by_args (g.H.Host.fixed c.args.host)) g.H.Host.answer g.H.Host.after (g.H.Host.fixed c.args.host) (g.H.Host.state c.args.host) in
    record { table = usage_ends (map string_bytes c.args.words.now) h _ (g.W.World.told c.args.world.now) (g.W.World.told c.refuse_words.new.world) (c.in-Err-Usage.ensures.usage (ap Err c.in-Err-Usage.field-0-is)) c.refuse_words.ensures.told }

pub returns : goal.returns
returns g c =
    let h = host_view (g.H.Host.id_of (g.H.Host.fixed c.args.host)) (g.H.Host.by_args (g.H.Host.fixed c.args.host)) g.H.Host.answer g.H.Host.after (g.H.Host.fixed c.args.host) (g.H.Host.state c.args.host) in
    record { table = words_want (map string_bytes c.args.words.now) h _ (g.W.World.told c.args.world.now) (g.W.World.told c.out_of_memory.new.world) c.out_of_memory.ensures.told }

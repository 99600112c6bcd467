use Rattle.std.proofs.Common.{◌≡◌, map, string_bytes, inl, inr}
use Rattle.clap.specs.Words.{app_of, rows_of, found_of}
use Rattle.vsim_words.proofs.Found.{simple_at, free_at, found_some, found_none}
use Rattle.vsim_words.proofs.command.parse.Goals as goal

pub returns-in-Ok-try_get_matches_from-clause-ok :
    goal.returns-in-Ok-try_get_matches_from-clause-ok
returns-in-Ok-try_get_matches_from-clause-ok c =
    let is = c.in-Ok.ensures in
    let e = c.in-Ok-try_get_matches_from.ensures in
    found_some (app_of c.in-Ok.command) (map string_bytes c.args.words.now) (rows_of (found_of c.in-Ok-try_get_matches_from.matches)) is
    (e.kinds (free_at (app_of c.in-Ok.command) is)) ((e.matches (simple_at (app_of c.in-Ok.command) is)).0)

pub returns-in-Err-clause-usage : goal.returns-in-Err-clause-usage
returns-in-Err-clause-usage c = λ usage.
    let is = c.in-Ok.ensures in
    let told : c.fault_of.result ≡ _ = cc in
    elim (c.in-Err.ensures.kinds (free_at (app_of c.in-Ok.command) is)) [
      | inl memory ↦ absurd (c.fault_of.ensures told memory)
      | inr among ↦ found_none (app_of c.in-Ok.command) (map string_bytes c.args.words.now) _ is among
    ]

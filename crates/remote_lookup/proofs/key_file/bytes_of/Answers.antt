use Rattle.std.proofs.Common.{rules}
use Rattle.std.specs.Prelude.{option_map}
use Rattle.outside.specs.Files.{Shows}
use Rattle.remote_lookup.specs.KeyFiles as spec
use Rattle.remote_lookup.proofs.LoadLemmas.{shown_of, within_items}
use Rattle.remote_lookup.proofs.key_file.bytes_of.Goals as goal

pub returns-in-Ok-clause-shows : goal.returns-in-Ok-clause-shows
returns-in-Ok-clause-shows g c =
    let held = g.F.Folder.holds c.args.folder.now in
    let name = spec.key_name c.args.remote.now.prefix c.args.at.key in
    let shows : Shows held name 67108865 (option_map (λ bytes. bytes.items) c.in-Ok.found) = search rules in
    shown_of held name (option_map (λ bytes. bytes.items) c.in-Ok.found) shows (within_items c.in-Ok.found 67108865 c.in-Ok.ensures.within)

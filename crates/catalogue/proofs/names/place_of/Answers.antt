use Rattle.std.proofs.Common.{◌∙◌}
use Rattle.std.specs.Str.{bytes_eq}
use Rattle.catalogue.proofs.PlaceLemmas.{position-bytes}
use Rattle.catalogue.proofs.names.place_of.Goals as goal

pub returns-clause-place : goal.returns-clause-place
returns-clause-place c = c.get_index_of.ensures.index ∙ position-bytes (bytes_eq c.args.lower.now) c.args.names.now.keys

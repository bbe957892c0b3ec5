use Rattle.std.proofs.Common.{◌∙◌, sym, ap, Global}
use Rattle.std.specs.Prelude.{map}
use Rattle.std.specs.String.{string_bytes}
use Rattle.clap.specs.Faults.{fault_of, is_simple_and_free}
use Rattle.clap.specs.Simple.{App, is_simple, matches_of}
use Rattle.clap.specs.Takes.{takes}
use Rattle.command_line.specs.Program.{program}
use Rattle.command_line.proofs.TakenLaws.{takes_faultless, not_true, program_is_simple, program_is_free}
use Rattle.command_line.proofs.matching.find_matches.Goals as goal

pub returns-in-Ok-try_get_matches_from-clause-taken : goal.returns-in-Ok-try_get_matches_from-clause-taken
returns-in-Ok-try_get_matches_from-clause-taken c =
    let words = map (string_bytes {Z = Global}) c.args.words.now in
    takes_faultless words
    (ap (λ (a : App). fault_of a words) (sym c.in-Ok.ensures)
    ∙ c.in-Ok-try_get_matches_from.ensures.kinds (ap is_simple_and_free c.in-Ok.ensures ∙ program_is_free))

pub returns-in-Ok-try_get_matches_from-clause-found : goal.returns-in-Ok-try_get_matches_from-clause-found
returns-in-Ok-try_get_matches_from-clause-found c =
    let words = map (string_bytes {Z = Global}) c.args.words.now in
    (c.in-Ok-try_get_matches_from.ensures.matches (ap is_simple c.in-Ok.ensures ∙ program_is_simple)).0
    ∙ ap (λ (a : App). matches_of a words) c.in-Ok.ensures

pub returns-in-Err-clause-refused : goal.returns-in-Err-clause-refused
returns-in-Err-clause-refused c =
    let words = map (string_bytes {Z = Global}) c.args.words.now in
    λ out. not_true (takes program words)
    (λ taken. c.fault_of.ensures.form out (c.in-Err.ensures.passes (ap (λ (a : App). takes a words) c.in-Ok.ensures ∙ taken)))

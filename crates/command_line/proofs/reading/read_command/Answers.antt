use Rattle.std.proofs.Common.{◌≡◌, ◌∙◌, Global, Option, Some, None, Ok, Err}
use Rattle.std.specs.Prelude.{map, Result, IfOk, IfErr}
use Rattle.std.specs.String.{string_bytes}
use Rattle.clap.specs.Matches.{found_of}
use Rattle.clap.specs.Walk.{rows_of}
use Rattle.command_line.specs.Answers.{Reads}
use Rattle.command_line.specs.Form.{command}
use Rattle.command_line.specs.Within.{IsWithin}
use Rattle.command_line.specs.declared.command.Command.{Command}
use Rattle.command_line.specs.declared.fault.WordsFault.{WordsFault}
use Rattle.command_line.specs.declared.fault.WordsFault.TheVariants.{OutOfForm}
use Rattle.command_line.proofs.AnswerLaws.{handed_on}
use Rattle.command_line.proofs.WithinLaws.{command_taken, command_refused, command_within}
use Rattle.command_line.proofs.reading.read_command.Goals as goal

taken : (o p : Option Command) (r : Result Command WordsFault) → o ≡ p → Reads p r → IfOk r (λ c. o ≡ Some c)
taken o p (Ok c) e h = e ∙ h
taken o p (Err f) e h = tt

refused : (o p : Option Command) (r : Result Command WordsFault) → o ≡ p → Reads p r → IfErr r (λ f. f ≡ OutOfForm → o ≡ None)
refused o p (Ok c) e h = tt
refused o p (Err f) e h = λ out. e ∙ h out

within : (words : _) (r : Result Command WordsFault) → IfOk r (λ c. command words ≡ Some c) → IfOk r IsWithin
within words (Ok c) h = command_within words c h
within words (Err f) h = tt

pub returns-in_err-matches-clause-refused : goal.returns-in_err-matches-clause-refused
returns-in_err-matches-clause-refused c =
    handed_on c.from_residual.result c.in_err-matches.field-0.0 _ c.from_residual.ensures.1
    (λ out. command_refused (map (string_bytes {Z = Global}) c.args.words.now) (c.in_err-matches.ensures.refused out))

pub returns-clause-taken : goal.returns-clause-taken
returns-clause-taken c =
    taken _ _ c.asked_by.result
    (command_taken (map (string_bytes {Z = Global}) c.args.words.now) (rows_of (found_of c.in_ok-matches.matches)) c.in_ok-matches.ensures.taken c.in_ok-matches.ensures.found)
    c.asked_by.ensures

pub returns-clause-within : goal.returns-clause-within
returns-clause-within c = within (map (string_bytes {Z = Global}) c.args.words.now) c.asked_by.result (returns-clause-taken c)

pub returns-clause-refused : goal.returns-clause-refused
returns-clause-refused c =
    refused _ _ c.asked_by.result
    (command_taken (map (string_bytes {Z = Global}) c.args.words.now) (rows_of (found_of c.in_ok-matches.matches)) c.in_ok-matches.ensures.taken c.in_ok-matches.ensures.found)
    c.asked_by.ensures

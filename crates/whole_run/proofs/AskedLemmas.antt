-- What words ask for, by what the command line reads of them.
use Rattle.std.proofs.Common.{◌≡◌, ◌∙◌, ℕ, true, List, Option, Some, None, ap, sym}
use Rattle.std.specs.Prelude.{option_map}
use Rattle.command_line.specs.Form.{command}
use Rattle.command_line.specs.declared.command.Command.{Command}
use Rattle.command_line.specs.Within.{HasScansAlone, IsTask, IsWithin}
use Rattle.run_answers.specs.Settings.{AreSettings}
use Rattle.std.specs.Option.{option_map_or}
use Rattle.whole_run.specs.Asked.{request_of, asked, loads_none, are_fileless}
use Rattle.whole_run.specs.declared.asking.Request.{Request}

pub asked_of : (words : List (List ℕ)) (c : Command) (r : Request) → command words ≡ Some c → r ≡ request_of c → asked words ≡ Some r
unfolding asked
asked_of words c r e f = ap (λ (o : Option Command). option_map request_of o) e ∙ ap (λ (x : Request). let o : Option Request = Some x in o) (sym f)

pub asked_none : (words : List (List ℕ)) → command words ≡ None → asked words ≡ None
unfolding asked
asked_none words e = ap (λ (o : Option Command). option_map request_of o) e

-- what is asked for is within what the words may ask for
pub request_within : (c : Command) → IsWithin c → IsTask (request_of c).task × AreSettings (request_of c).settings
request_within c w = (w.task, record { some = w.some; few = w.few; script = w.route; room = w.cache })

-- nor do statements run together that are reached by more than scans
pub shared_within : (c : Command) → IsWithin c → (request_of c).settings.shared ≡ true → HasScansAlone (request_of c).task
shared_within c w e = (w.shared e).1

-- the demo loads no file
pub fileless_by : (words : List (List ℕ)) (a : Request) → asked words ≡ Some a → are_fileless words ≡ true → loads_none a.task ≡ true
fileless_by words a is e = sym (ap (λ (o : Option Request). option_map_or (λ (r : Request). loads_none r.task) o true) is) ∙ e

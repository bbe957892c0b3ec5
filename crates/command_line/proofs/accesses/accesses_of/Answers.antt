use Rattle.std.proofs.Common.{◌≡◌, ◌∙◌, ℕ, List, [], Option, Some, Bor, ap, sym, true, false}
use Rattle.std.specs.Prelude.{option_map}
use Rattle.command_line.specs.Accesses.{accesses_of, items_in, tables_differ}
use Rattle.command_line.specs.Answers.{with_items}
use Rattle.command_line.specs.declared.command.AccessWord.{AccessWord}
use Rattle.command_line.specs.declared.command.TableWord.{TableWord}
use Rattle.command_line.proofs.AnswerLaws.{fault_read, no_step, then_step}
use Rattle.command_line.proofs.AccessLaws.{in_turn, differ_none}
use Rattle.command_line.proofs.accesses.accesses_of.Goals as goal

abbrev text_of : Option (Bor (List ℕ)) → Option (List ℕ)
text_of = option_map (λ t. t.now)

second : (tables : List TableWord) (start seen : List AccessWord) (index lookup : Option (List ℕ)) → start ≡ []
    → with_items tables true start (items_in index) ≡ Some seen → accesses_of tables index lookup ≡ with_items tables false seen (items_in lookup)
second tables start seen index lookup none first =
    in_turn tables index lookup
    ∙ then_step (with_items tables true [] (items_in index)) seen (λ more. with_items tables false more (items_in lookup))
    (ap (λ (xs : List AccessWord). with_items tables true xs (items_in index)) (sym none) ∙ first)

pub push_items-requires-clause-differ : goal.push_items-requires-clause-differ
push_items-requires-clause-differ c = ap tables_differ c.new-accesses.ensures.items ∙ differ_none

pub returns-in_err-push_items : goal.returns-in_err-push_items
returns-in_err-push_items c =
    fault_read (accesses_of c.args.tables.now (text_of c.args.index) (text_of c.args.lookup)) c.from_residual.result c.in_err-push_items.field-0.0 c.from_residual.ensures.1
    (λ out. in_turn c.args.tables.now (text_of c.args.index) (text_of c.args.lookup)
    ∙ no_step _ (λ more. with_items c.args.tables.now false more (items_in (text_of c.args.lookup)))
    (ap (λ (xs : List AccessWord). with_items c.args.tables.now true xs (items_in (text_of c.args.index))) (sym c.new-accesses.ensures.items)
    ∙ c.in_err-push_items.ensures.refused out))

pub returns-in_err-push_items-2 : goal.returns-in_err-push_items-2
returns-in_err-push_items-2 c =
    fault_read (accesses_of c.args.tables.now (text_of c.args.index) (text_of c.args.lookup)) c.from_residual-in_err-push_items-2.result
    c.in_err-push_items-2.field-0.0 c.from_residual-in_err-push_items-2.ensures.1
    (λ out. second c.args.tables.now _ c.push_items.new.accesses.items (text_of c.args.index) (text_of c.args.lookup) c.new-accesses.ensures.items
    c.in_ok-push_items.ensures.pushed ∙ c.in_err-push_items-2.ensures.refused out)

pub returns : goal.returns
returns c =
    second c.args.tables.now _ c.push_items.new.accesses.items (text_of c.args.index) (text_of c.args.lookup) c.new-accesses.ensures.items
    c.in_ok-push_items.ensures.pushed
    ∙ (c.in_ok-push_items-2.ensures.pushed ∙ ap Some (sym c.from_vec.ensures))

-- The demo's script reads as its tree.
use Rattle.std.proofs.Common.{◌≡◌, Ok, refl}
use Rattle.std.specs.Str.{IsUtf8}
use Rattle.sq_token.specs.Form.{front}
use Rattle.sq_token.specs.Mark.{word_mark, same}
use Rattle.sq_token.specs.Piece.{pieces}
use Rattle.sq_token.specs.Tok.{decimal, toks}
use Rattle.sq_parse.specs.Parse.{parsed}
use Rattle.sq_parse.specs.Reader as read
use Rattle.sq_parse.specs.Reading.{many}
use Rattle.sq_parse.specs.Fault.{ReadsAs}
use Rattle.sq_parse.proofs.ParseLemmas.{spelled_by}
use Rattle.run_plan.specs.DemoScript.{demo_script}
use Rattle.run_plan.specs.Prepared.{IsSpelled}
use Rattle.run_plan.proofs.DemoTree.{demo_tree}

is_text : IsUtf8 demo_script
unfolding demo_script lib.Utf8.encode
is_text = (demo_script, (refl, refl))

parsed_demo : parsed demo_script ≡ Ok demo_tree
unfolding demo_script parsed toks pieces front word_mark same decimal many read.name read.column read.literal read.simple_column read.alias read.optional_alias read.column_item read.behind_dot read.behind_name read.plain_item read.item read.items read.select_list read.source read.falls read.nulls_first read.key read.keys read.order read.extent read.groups read.conjunction read.disjunction read.plain_number read.number_led read.column_led read.term read.sum_from read.sum read.operand read.comparison read.behind_subject read.predicate read.primary read.truth_test read.negation read.neg read.nested read.condition read.joined read.join read.where_condition read.sources read.limit read.statement read.statements read.script
parsed_demo = refl

reads_demo : ReadsAs demo_script (Ok demo_tree)
reads_demo = (is_text, spelled_by demo_script demo_tree parsed_demo)

pub spelled_demo : IsSpelled demo_script (Ok demo_tree)
spelled_demo = (Ok demo_tree, reads_demo, refl)

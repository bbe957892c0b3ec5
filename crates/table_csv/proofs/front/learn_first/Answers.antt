use Rattle.std.proofs.Common.{◌≡◌, List, length, sym, ap, ◌∙◌, subst}
use Rattle.csv.specs.Records.{fields_of}
use Rattle.table_csv.specs.declared.types.Seen.{Seen}
use Rattle.table_csv.specs.Headed.{IsLearned}
use Rattle.table_csv.specs.Work.{all_learned}
use Rattle.table_csv.proofs.FileLemmas.{all_learned-length}
use Rattle.table_csv.proofs.FrontLemmas.{learned-push, written_back}
use Rattle.table_csv.proofs.front.learn_first.Goals as goal

pub loop-preserved : goal.loop-preserved
loop-preserved c =
    let old = c.loop.seen.items in
    let new = c.learn_record.new.seen in
    let fs = fields_of c.next_row.new.row in
    let learnt : new ≡ all_learned old fs = c.learn_record.ensures ∙ ap (λ (s : List Seen). all_learned s fs) c.as_mut_slice.ensures.value in
    let back = written_back c.loop.seen.len new old (sym c.as_mut_slice.ensures.len ∙ ap length c.as_mut_slice.ensures.value)
    (ap length learnt ∙ all_learned-length old fs) in
    record {
      plain = c.in_ok-next_row.ensures.plain;
      known = subst (λ (s : List Seen). IsLearned c.args.width s) (sym (back ∙ learnt)) (learned-push c.args.width old fs c.loop.invariant.known);
    }

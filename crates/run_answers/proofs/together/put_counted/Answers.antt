use Rattle.std.proofs.Common.{List, map, refl, sym, subst}
use Rattle.shared_eddy.specs.declared.gathered.Found.{Found}
use Rattle.run_answers.specs.Joint.{AreBags}
use Rattle.run_answers.proofs.PutLemmas.{both_put, both_stopped}
use Rattle.run_answers.proofs.together.put_counted.Goals as goal

pub returns-in-Ok : goal.returns-in-Ok
returns-in-Ok g c = λ gives items bags.
    let same = subst (λ (l : List Found). AreBags gives items (map (λ f. f.combos.items) l)) (sym c.as_slice.ensures.value) bags in
    rw (← c.outputs.view_is) (both_put _ _ _ _ c.put_counts.result c.put_line.result c.in-Ok.is (c.put_counts.ensures gives items same)
    c.put_line.ensures.notes c.put_line.ensures.put)

pub returns-in-Err : goal.returns-in-Err
returns-in-Err g c = λ gives items bags.
    let same = subst (λ (l : List Found). AreBags gives items (map (λ f. f.combos.items) l)) (sym c.as_slice.ensures.value) bags in
    rw (← c.outputs.view_is) (both_stopped _ _ _ _ c.put_counts.result c.in-Err.stop c.in-Err.is (c.put_counts.ensures gives items same) refl)

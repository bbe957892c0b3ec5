use Rattle.std.proofs.Common.{Bool, ap, ◌∙◌}
use Rattle.std.specs.Prelude.{◌&&◌, ◌==◌}
use Rattle.group_sink.specs.Parts.{is_same_part}
use Rattle.group_sink.specs.declared.part.Part.{Part}
use Rattle.group_sink.proofs.ViewLemmas.{numbered_agree}
use Rattle.group_sink.proofs.PartLemmas.{keys_same}
use Rattle.group_sink.proofs.Results.{on_ok}
use Rattle.group_sink.proofs.part.number_parts.Goals as goal

pub returns : goal.returns
returns c =
    let parts = c.args.parts.now in
    on_ok c.number_all.result
    (λ numbers h. h ∙ numbered_agree _ is_same_part (λ (x : Part). Unit {0}) (λ x y p q. ap (λ (b : Bool). (x.group == y.group) && b) (keys_same _ c.key_laws.ensures.same x.key y.key)) parts (λ k d low. tt)) c.number_all.ensures

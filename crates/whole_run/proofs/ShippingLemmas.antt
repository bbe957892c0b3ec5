-- For the proofs: predicates with the signatures of the shipped ones are the shipped ones.
use Rattle.std.proofs.Common.{◌≡◌, ℕ, List, subst}
use Rattle.fn_registry.specs.Meaning.{gives_of}
use Rattle.fn_registry.specs.Registry.{number_named, kinds_numbered}
use Rattle.fn_registry.specs.ShippedSignatures.{shipped_signatures}
use Rattle.fn_registry.specs.declared.signature.Signature.{Signature}
use Rattle.run_base.specs.Seen.{World}
use Rattle.run_plan.specs.Prepared.{predicates}
use Rattle.whole_run.specs.Headline.{HeadlineByCode}
use Rattle.whole_run.specs.Shipped.{shipped_predicates}

-- the headline under the one is the headline under the other
pub shipped_headline : {D O N : Type 0} (ss : List Signature) (words : List (List ℕ)) (before after : D) (old new : World O N) (code : ℕ)
    → ss ≡ shipped_signatures
    → HeadlineByCode (predicates (number_named ss) (kinds_numbered ss) (gives_of 0)) words before after old new code
    → HeadlineByCode shipped_predicates words before after old new code
shipped_headline ss words before after old new code same h =
    subst (λ (l : List Signature). HeadlineByCode (predicates (number_named l) (kinds_numbered l) (gives_of 0)) words before after old new code)
    same h

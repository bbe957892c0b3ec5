use Rattle.std.proofs.Common.{true, cond, List, ℕ, refl, ap, ◌∙◌}
use Rattle.std.specs.Prelude.{string_bytes}
use Rattle.std.specs.Str.{bytes_eq}
use Rattle.std.specs.BTreeSet.{contains_text}
use Rattle.std.proofs.lemmas.Map.Text.{btree_set_updates_text}
use Rattle.sq_expr.proofs.MembershipLemmas.{added_text}
use Rattle.sq_expr.proofs.membership.Literals.add_text.Goals as goal

pub returns : goal.returns
returns c x =
    let key = c.in_ok-from_str.field-0 in
    let old = c.args.self.now.texts in
    added_text c.args.self.now _ c.args.text.now
    (λ q. btree_set_updates_text (string_bytes key) old c.insert.new.self true c.in_ok-insert.ensures.updates q
    ∙ ap (λ (bs : List ℕ). cond (bytes_eq bs q) true (contains_text old q)) c.in_ok-from_str.ensures.ok)
    refl refl refl refl x

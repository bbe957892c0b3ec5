use Rattle.std.proofs.Common.{◌≡◌, Bool, true, false, not, ap, sym, refl, ◌∙◌}
use Rattle.std.specs.Prelude.{string_bytes}
use Rattle.std.specs.BTreeSet.{contains_text}
use Rattle.std.proofs.lemmas.Map.Text.{btree_set_updates_text}
use Rattle.sq_value.specs.Name.{lower}
use Rattle.sq_parse.specs.declared.tree.Name.{Name}
use Rattle.sq_bind.proofs.RepeatedLemmas.{more_names}
use Rattle.sq_bind.proofs.names.put_alias.Goals as goal

not_not : (b : Bool) → not (not b) ≡ b
not_not true = refl
not_not false = refl

pub returns-clause-told : goal.returns-clause-told
returns-clause-told c front held =
    let key = c.in_ok-lower.lower in
    let alias = c.args.alias.now in
    let bytes : string_bytes key ≡ lower alias.text = c.in_ok-lower.ensures.ok ∙ ap lower c.as_str.ensures in
    ap not c.in_ok-is_new.ensures.added
    ∙ not_not (contains_text c.args.names.now (string_bytes key))
    ∙ ap (contains_text c.args.names.now) bytes
    ∙ held alias.text

pub returns-clause-put : goal.returns-clause-put
returns-clause-put c front source is held =
    let key = c.in_ok-lower.lower in
    let bytes : string_bytes key ≡ lower source.alias.text =
    c.in_ok-lower.ensures.ok ∙ ap lower c.as_str.ensures ∙ ap (λ (n : Name). lower n.text) (sym is) in
    more_names c.args.names.now c.insert.new.self (string_bytes key) front source bytes
    (btree_set_updates_text (string_bytes key) c.args.names.now c.insert.new.self true c.in_ok-is_new.ensures.updates) held

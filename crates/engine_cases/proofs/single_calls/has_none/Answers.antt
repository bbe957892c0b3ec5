use Rattle.std.proofs.Common.{◌≡◌, ◌<◌, ◌∙◌, [], ap, sym, arith, length, ℕ, Some}
use Rattle.std.proofs.lemmas.Bool.Decides.{Decides-eqb}
use Rattle.std.proofs.lemmas.List.{nil_from_length}
use Rattle.sq_value.specs.Key.{rank_of_key}
use Rattle.sq_expr.specs.declared.block.AliasUse.{AliasUse}
use Rattle.eddy_meaning.specs.Keys.{rows_of_key}
use Rattle.index_source.specs.Rows.{rows_with, Column}
use Rattle.engine_cases.proofs.single_calls.has_none.Goals as goal

same_use : (u v : AliasUse) → Some u ≡ Some v → u ≡ v
same_use u v e = cc

same_column : (x y : ℕ) → Some x ≡ Some y → x ≡ y
same_column x y e = cc

pub returns : goal.returns
returns c empty u column used look_up =
    let block = c.args.block.now in
    let tables = c.args.tables.now in
    let key = rank_of_key c.args.key.now in
    let same : u ≡ c.use_of-item.result = same_use u c.use_of-item.result (sym used ∙ c.use_of-item.ensures) in
    let column_is : column ≡ c.in-Some.column = same_column column c.in-Some.column (sym look_up ∙ ap (λ (w : AliasUse). w.access.look_up) same ∙ c.in-Some.is) in
    let none : c.rows.result.now ≡ [] =
    nil_from_length c.rows.result.now ((Decides-eqb (length c.rows.result.now) 0).0 (sym c.is_empty.ensures ∙ empty)) in
    let few : c.args.alias < 12 = omega (arith, c.requires.alias, c.requires.given.fits.few_aliases) in
    let over : rows_with c.in_ok-lookup.lookup.table c.in_ok-lookup.lookup.column key ≡ rows_with c.get.result.now c.in-Some.column key =
    ap (λ (l : Column). rows_with l.table l.column key) c.in_ok-lookup.ensures in
    ap (λ (n : ℕ). rows_of_key block tables c.args.alias n key) column_is
    ∙ c.lookup_law.ensures block tables c.args.alias c.in-Some.column c.use_of-item.result c.get.result.now key few c.use_of-item.ensures c.get.ensures
    ∙ sym over ∙ sym c.rows.ensures ∙ none

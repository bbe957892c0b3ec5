use Rattle.std.proofs.Common.{◌≡◌, ◌<◌, ◌≤◌, ap, sym, subst, ℕ, List, length, Option, Some, None, Vec, Global, arith}
use Rattle.std.specs.Prelude.{Ok, option_map}
use Rattle.std.proofs.lemmas.Result.{IfErr-weaker, IfOk-weaker}
use Rattle.sq_value.specs.Relation.{Relation}
use Rattle.sq_value.specs.declared.value.Value.{Value}
use Rattle.table_csv.specs.TableFile.{table_of_bytes}
use Rattle.remote_lookup.specs.KeyFiles as spec
use Rattle.remote_lookup.specs.KeyFiles.{rows_for}
use Rattle.remote_lookup.proofs.LoadLemmas.{Has, Shown, lacking, refused_for, refused_long, whole}
use Rattle.remote_lookup.proofs.key_file.load_file.Goals as goal

pub returns-in_default-clause-rows : goal.returns-in_default-clause-rows
returns-in_default-clause-rows g c =
    let held = g.F.Folder.holds c.args.folder.now in
    let name = spec.key_name c.args.remote.now.prefix c.args.at.key in
    let columns = c.args.columns.now in
    let column = c.args.remote.now.column in
    let key = c.args.at.key in
    let shown : Shown columns column key held name None =
    subst (λ (o : Option (Vec ℕ Global)). Shown columns column key held name (option_map (λ bytes. bytes.items) o)) c.in_default.is c.in_ok-bytes.ensures.shows in
    subst (λ (l : List (List Value)). Has columns column key held name (Ok l)) (sym (ap (λ (t : Relation). t.rows) c.in_ok-empty_table.ensures)) (lacking columns column key held name shown)

pub returns-then-len-gt-MOST_BYTES-clause-refused : goal.returns-then-len-gt-MOST_BYTES-clause-refused
returns-then-len-gt-MOST_BYTES-clause-refused g c =
    let held = g.F.Folder.holds c.args.folder.now in
    let name = spec.key_name c.args.remote.now.prefix c.args.at.key in
    let columns = c.args.columns.now in
    let column = c.args.remote.now.column in
    let key = c.args.at.key in
    let shown : Shown columns column key held name (Some c.in-Some.bytes.items) =
    subst (λ (o : Option (Vec ℕ Global)). Shown columns column key held name (option_map (λ bytes. bytes.items) o)) c.in-Some.is c.in_ok-bytes.ensures.shows in
    let over : 67108864 < length c.in-Some.bytes.items = omega (arith, c.if-len-gt-MOST_BYTES.true, c.len.ensures, c.in-Some.bytes.ok.0) in
    refused_long columns column key held name c.in-Some.bytes.items (g.F.Folder.faults c.args.folder.now) (g.F.Folder.faults c.bytes_of.new.folder) c.args.at
    shown over c.in_ok-bytes.ensures.kept

pub returns-clause-rows : goal.returns-clause-rows
returns-clause-rows g c =
    let held = g.F.Folder.holds c.args.folder.now in
    let name = spec.key_name c.args.remote.now.prefix c.args.at.key in
    let columns = c.args.columns.now in
    let column = c.args.remote.now.column in
    let key = c.args.at.key in
    let bytes : List ℕ = c.as_slice.result.now in
    let shown : Shown columns column key held name (Some bytes) =
    subst (λ (l : List ℕ). Shown columns column key held name (Some l)) (sym c.as_slice.ensures.value)
    (subst (λ (o : Option (Vec ℕ Global)). Shown columns column key held name (option_map (λ bytes. bytes.items) o)) c.in-Some.is c.in_ok-bytes.ensures.shows) in
    let short : length bytes ≤ 67108864 = omega (arith, c.if-len-gt-MOST_BYTES.false, c.len.ensures, c.as_slice.ensures.len) in
    IfOk-weaker _ (λ (t : Relation). rows_for columns column key (table_of_bytes bytes) ≡ Ok t.rows) (λ (t : Relation). Has columns column key held name (Ok t.rows))
    (λ t is. whole columns column key held name bytes shown short (Ok t.rows) is)
    c.table_of.ensures.rows

pub returns-clause-refused : goal.returns-clause-refused
returns-clause-refused g c =
    let held = g.F.Folder.holds c.args.folder.now in
    let name = spec.key_name c.args.remote.now.prefix c.args.at.key in
    let columns = c.args.columns.now in
    let column = c.args.remote.now.column in
    let key = c.args.at.key in
    let bytes : List ℕ = c.as_slice.result.now in
    let shown : Shown columns column key held name (Some bytes) =
    subst (λ (l : List ℕ). Shown columns column key held name (Some l)) (sym c.as_slice.ensures.value)
    (subst (λ (o : Option (Vec ℕ Global)). Shown columns column key held name (option_map (λ bytes. bytes.items) o)) c.in-Some.is c.in_ok-bytes.ensures.shows) in
    let short : length bytes ≤ 67108864 = omega (arith, c.if-len-gt-MOST_BYTES.false, c.len.ensures, c.as_slice.ensures.len) in
    IfErr-weaker _ _ _
    (λ f h. refused_for columns column key held name bytes (g.F.Folder.faults c.args.folder.now) (g.F.Folder.faults c.bytes_of.new.folder) c.args.at f
    shown short c.in_ok-bytes.ensures.kept h)
    c.table_of.ensures.fault

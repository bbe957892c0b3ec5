use Rattle.std.proofs.Common.{◌≡◌, ◌∙◌, ◌∷◌, ◌++◌, [], ap, sym, subst, refl, List, set, length, Some}
use Rattle.std.specs.Prelude.{slice_get}
use Rattle.std.proofs.lemmas.List.{append_assoc}
use Rattle.std.proofs.lemmas.Option.{slice_get_read}
use Rattle.sq_value.specs.Relation.{Relation}
use Rattle.remote_lookup.specs.Gathered.{CanTake, with_key, with_keys}
use Rattle.remote_lookup.specs.Working.{known}
use Rattle.remote_lookup.specs.declared.remote.RemoteKey.{RemoteKey}
use Rattle.remote_lookup.proofs.GatherLemmas.{taken_key}
use Rattle.remote_lookup.proofs.InsertLemmas.{Entry}
use Rattle.remote_lookup.proofs.key_tables.KeyTables.gathered.Goals as goal

pub loop-key-preserved : goal.loop-key-preserved
loop-key-preserved c =
    let old : List Entry = c.loop-key.key-iterator in
    let new : List Entry = c.next.new.self in
    let k : RemoteKey = c.in-Some.key in
    let t : Relation = c.in-Some.table in
    let first : old ≡ (k, t) ∷ new = c.in-Some.ensures.steps in
    let into = c.loop-key.tables.items in
    let room : CanTake into ((k, t) ∷ new) = subst (CanTake into) first c.loop-key.invariant.room in
    let was : slice_get into k.remote ≡ Some c.index_mut.result.now =
    slice_get_read into (length into) k.remote c.index_mut.result.now refl room.0 c.index_mut.ensures.value in
    let added : set into k.remote c.append.new.self ≡ with_key into (k, t) = taken_key into k t c.index_mut.result.now c.append.new.self was c.in_ok-append.ensures.ok in
    record {
      can = tt;
      ends = tt;
      keys = ap (λ (l : List RemoteKey). l ++ known new) c.in_ok-push.ensures.items
          ∙ append_assoc c.loop-key.keys.items (k ∷ []) (known new)
          ∙ ap (λ (l : List Entry). c.loop-key.keys.items ++ known l) (sym first)
          ∙ c.loop-key.invariant.keys;
      rows = ap (λ (l : List Relation). with_keys l new) added ∙ ap (with_keys into) (sym first) ∙ c.loop-key.invariant.rows;
      room = subst (λ (l : List Relation). CanTake l new) (sym added) room.2;
    }

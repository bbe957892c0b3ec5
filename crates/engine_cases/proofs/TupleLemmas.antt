-- Tuples that stay sound, step by step.
use Rattle.std.proofs.Common.{◌≡◌, ◌<◌, ◌≤◌, refl, ℕ, List, Option, Some, None, true, false, sym, subst, length}
use Rattle.std.specs.Prelude.{is_some, slice_get, slice_set, slice_index}
use Rattle.std.proofs.lemmas.Option.{slice_get_within}
use Rattle.sq_value.specs.Relation.{Relation}
use Rattle.sq_expr.specs.declared.block.AliasUse.{AliasUse}
use Rattle.sq_expr.specs.declared.block.Block.{Block}
use Rattle.bag_meaning.specs.Bag.{sizes_of}
use Rattle.tuple_span.specs.Parts.{part_of, later}
use Rattle.eddy_meaning.specs.Tuple.{Tuple}
use Rattle.eddy_meaning.specs.Faithful.{IsSound}
use Rattle.eddy_meaning.specs.Route.{IsLegalSelect, mark_done}
use Rattle.eddy_meaning.proofs.MatchLemmas.{part_from_some}
use Rattle.eddy_meaning.proofs.SoundLemmas.{IsSound-mark, IsSound-joined}
use Rattle.stem_module.proofs.ProbeLemmas.{sizes_there}

some_none : (s : ℕ) → Some s ≡ None → ⊥
some_none s e = cc

pub is_none : (o : Option ℕ) → is_some o ≡ false → o ≡ None
is_none None e = refl
is_none (Some n) e = absurd cc

-- a row of an alias's table is one of the alias
pub in_table : (block : Block) (tables : List Relation) (alias row : ℕ) (u : AliasUse) (table : Relation)
    → slice_get block.aliases alias ≡ Some u → slice_get tables u.table ≡ Some table → row < length table.rows
    → (alias < length block.aliases) × (row < slice_index (sizes_of block tables) alias)
in_table block tables alias row u table used is low = (
  slice_get_within block.aliases alias u used,
  subst (λ (n : ℕ). row < n) (sym (sizes_there block tables alias u table used is)) low,
)

-- a conjunct whose selection is legal may be marked
pub mark_sound : (block : Block) (tables : List Relation) (t : Tuple) (p : ℕ) → IsSound block tables t → IsLegalSelect block t p
    → IsSound block tables (mark_done p t)
mark_sound block tables t p h legal = IsSound-mark block tables t p h record { conjunct = legal.conjunct; at = legal.at; covers = legal.covers }

-- a row may be joined to a tuple with a stamp, whatever its own stamp
pub join_sound : (block : Block) (tables : List Relation) (t : Tuple) (alias row s : ℕ) → length block.aliases ≤ 12
    → is_some t.stamp ≡ true → is_some (part_of t.parts alias) ≡ false
    → (alias < length block.aliases) × (row < slice_index (sizes_of block tables) alias) → IsSound block tables t
    → IsSound block tables (record t { parts = slice_set t.parts alias (Some row); stamp = Some (later t.stamp s) })
join_sound block tables t alias row s few stamped lacks there h =
    let has = part_from_some t.stamp stamped in
    let h' = IsSound-joined block tables t has.0 alias row few has.1 (is_none (part_of t.parts alias) lacks) there.0 there.1 h in
    record { wide = h'.wide; in_range = h'.in_range; done = h'.done; single = λ e. absurd (some_none _ e) }

-- What is loaded in the end.
use Rattle.std.proofs.Common.{◌≡◌, ℕ, ◌<◌, ◌≤◌, List, [], Option, length, map, ap, sym, ◌∙◌, subst, arith}
use Rattle.std.specs.Prelude.{All, Ok, Result}
use Rattle.std.specs.Result.{IsErrAnd}
use Rattle.std.proofs.lemmas.Result.{err_from_is_err_and}
use Rattle.outside.specs.Files.{File}
use Rattle.sq_value.specs.Relation.{Relation}
use Rattle.sq_value.specs.declared.value.Value.{Value}
use Rattle.sq_value.specs.declared.value.Truth.{Truth}
use Rattle.sq_expr.specs.declared.block.Block.{Block}
use Rattle.remote_lookup.specs.Gathered.{CanTake, with_keys}
use Rattle.remote_lookup.specs.KeyFiles.{KeyBytes, key_file_of}
use Rattle.remote_lookup.specs.Loaded.{AnswersOver, AreLoaded, MayRefuse, remote_tables}
use Rattle.remote_lookup.specs.Rounds.{Comes, rows_of_file}
use Rattle.remote_lookup.specs.Working.{AreFound, AreStored, HasCome, IsWork, OverKeys, empty_of, known, rows_loaded}
use Rattle.remote_lookup.specs.declared.remote.Loaded.{Loaded}
use Rattle.remote_lookup.specs.declared.remote.Remote.{Remote}
use Rattle.remote_lookup.specs.declared.remote.RemoteKey.{RemoteKey}
use Rattle.remote_lookup.specs.declared.remote.RemoteFault.{RemoteFault}
use Rattle.remote_lookup.specs.declared.remote.RemoteFault.TheVariants as fault
use Rattle.remote_lookup.specs.declared.rounds.Work.{Work}
use Rattle.remote_lookup.proofs.GatherLemmas.{can_take, filled_stacked, few_stacked, stacked, stacked_none, with_all}
use Rattle.remote_lookup.proofs.GivenLemmas.{given_any, over_loaded}
use Rattle.remote_lookup.proofs.InsertLemmas.{Entry}
use Rattle.remote_lookup.proofs.QueryLemmas.{element}
use Rattle.remote_lookup.proofs.RoundLemmas.{needed_by_rounds}

module _ (tables : List Relation) (remotes : List Remote) (w : Work) (work : IsWork tables remotes w) where
  -- each remote has few rows
  few_loaded : (n : ℕ) → n < length remotes → rows_loaded w.loaded n ≤ 4000000
  few_loaded n low =
      let t = element w.tallies.items n (omega (arith, low, work.count)) in
      let of = work.tallies n t.0 t.1 in
      omega (arith, of.rows, of.few_rows)

  module _ (empties : List Relation) (are : empties ≡ map (empty_of tables) remotes) where
    begun : empties ≡ stacked tables [] 0 remotes
    begun = are ∙ stacked_none tables 0 remotes

    -- so the tables take the rows of all keys
    pub may_gather : CanTake empties w.loaded
    may_gather = subst (λ (l : List Relation). CanTake l w.loaded) (sym begun) (can_take tables remotes [] w.loaded work.entries few_loaded)

    pub gathered : with_keys empties w.loaded ≡ stacked tables w.loaded 0 remotes
    gathered = ap (λ (l : List Relation). with_keys l w.loaded) begun ∙ with_all tables remotes [] w.loaded work.entries

  pub few_rows : All (λ (t : Relation). length t.rows ≤ 4000000) (stacked tables w.loaded 0 remotes)
  few_rows = few_stacked tables w.loaded 0 remotes (λ i low. few_loaded i (omega (arith, low)))

module _ (gives : ℕ → Value → Value → Truth) (block : Block) (tables : List Relation) (remotes : List Remote) where
  -- what the rounds come to is loaded
  are_loaded : (found : KeyBytes) (entries : List Entry) (keys : List RemoteKey) (loaded : List Relation) → keys ≡ known entries → loaded ≡ stacked tables entries 0 remotes
      → Comes gives block tables remotes (key_file_of tables remotes found) [] (Ok (known entries)) → AreStored (key_file_of tables remotes found) entries
      → AreLoaded gives block tables remotes found keys loaded
  are_loaded found entries keys loaded same made comes stored = record {
    comes = there;
    needed = needed_by_rounds gives block tables remotes (key_file_of tables remotes found) keys there;
    filled = made ∙ filled_stacked tables (key_file_of tables remotes found) entries stored 0 remotes
        ∙ ap (λ (l : List RemoteKey). remote_tables (λ r k. rows_of_file (key_file_of tables remotes found r k)) tables l remotes) (sym same);
  }
    where
      there : Comes gives block tables remotes (key_file_of tables remotes found) [] (Ok keys)
      there = subst (λ (l : List RemoteKey). let due : Result (List RemoteKey) RemoteFault = Ok l in Comes gives block tables remotes (key_file_of tables remotes found) [] due) (sym same) comes

  module _ (held : Option (List File)) where
    -- so it is answered
    pub answers_loaded : (w : Work) (answer : Loaded) → IsWork tables remotes w → AreFound tables remotes held w.loaded → HasCome gives block tables remotes w
        → answer.keys.items ≡ known w.loaded → answer.tables.items ≡ stacked tables w.loaded 0 remotes → AnswersOver gives block tables remotes held (Ok answer)
    answers_loaded w answer work found come same made =
        let over = over_loaded tables remotes held w.loaded work.ordered found in
        record {
          found = over.0;
          agrees = over.1;
          loaded = are_loaded over.0 w.loaded answer.keys.items answer.tables.items same made (come (key_file_of tables remotes over.0) over.2) over.2;
          refused = tt;
        }

    -- and a refusal of the rounds is
    pub answers_refused : (answer : Result Loaded RemoteFault) (f : RemoteFault) → IsErrAnd answer (λ g. g ≡ f)
        → OverKeys remotes held (λ found. MayRefuse gives block tables remotes found f) → AnswersOver gives block tables remotes held answer
    answers_refused answer f is over = let q = err_from_is_err_and answer is in rw (q.1, q.2) (record { found = over.0; agrees = over.1; loaded = tt; refused = over.2 })

    -- want of memory may always be
    pub answers_memory : (answer : Result Loaded RemoteFault) → IsErrAnd answer (λ g. g ≡ fault.Memory) → AnswersOver gives block tables remotes held answer
    answers_memory answer is =
        answers_refused answer fault.Memory is (given_any tables remotes held (λ found. MayRefuse gives block tables remotes found fault.Memory) (λ found. tt))

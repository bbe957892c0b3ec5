-- A statement over the tables that were loaded for it.
use Rattle.std.proofs.Common.{◌≡◌, ◌≢◌, ℕ, ◌<◌, ℤ, List, length, Result, Ok, Err, refl, ◌∙◌, ap, subst}
use Rattle.std.specs.Prelude.{AllPairs, IfErr, IfOk}
use Rattle.std.proofs.lemmas.List.Elements.{All-weaker}
use Rattle.std.proofs.lemmas.Option.{slice_get_within}
use Rattle.outside.specs.Faults.{RoseOrFull}
use Rattle.sq_value.specs.Relation.{Relation}
use Rattle.sq_value.specs.declared.value.Value.{Value}
use Rattle.sq_value.specs.declared.value.Truth.{Truth}
use Rattle.sq_expr.specs.declared.block.Block.{Block}
use Rattle.table_csv.specs.declared.fault.TableFault.TheVariants as table
use Rattle.remote_lookup.specs.Filled.{exchanged, tables_for}
use Rattle.remote_lookup.specs.KeyFiles.{key_file_of}
use Rattle.remote_lookup.specs.Loaded.{AnswersOver, AreLoaded, FitRemotes, IsRemote, MayRefuse, NamesOneOf, UnlessReadOrMemory}
use Rattle.remote_lookup.specs.Rounds.{rows_of_file}
use Rattle.remote_lookup.specs.declared.remote.KeyFault.TheVariants as key
use Rattle.remote_lookup.specs.declared.remote.Loaded.{Loaded}
use Rattle.remote_lookup.specs.declared.remote.Remote.{Remote}
use Rattle.remote_lookup.specs.declared.remote.RemoteFault.{RemoteFault}
use Rattle.remote_lookup.specs.declared.remote.RemoteFault.TheVariants as fault
use Rattle.remote_lookup.specs.declared.remote.RemoteKey.{RemoteKey}
use Rattle.remote_lookup.proofs.FillingLemmas.{filling}
use Rattle.run_base.specs.Items.{Item, item_over}
use Rattle.run_base.specs.Seen.{Folder, Outputs}
use Rattle.run_base.specs.declared.bound.Bound.{Bound}
use Rattle.run_answers.specs.Answering.{AnswersOne}
use Rattle.run_answers.specs.Tally.{IsTally}
use Rattle.run_answers.specs.Text.{numbered_text}
use Rattle.run_answers.specs.declared.settings.Settings.{Settings}
use Rattle.run_answers.specs.declared.stopping.Stop.{Stop}
use Rattle.remote_answers.specs.Answered.{CountsBy, Ran, StatementTo, over}
use Rattle.remote_answers.specs.Exchanged.{HaveTables}
use Rattle.remote_answers.specs.declared.halting.Halt.TheVariants as halt

-- the remotes of a block have tables of their own
pub have_tables : (block : Block) (tables : List Relation) (remotes : List Remote) → FitRemotes block tables remotes → HaveTables tables remotes
have_tables block tables remotes h = record {
  there = All-weaker (IsRemote tables) (λ (r : Remote). r.table < length tables) (λ r k. slice_get_within tables r.table k.table k.is) remotes h.each;
  differ = h.differ;
}

module _ {O N : Type 0} (s : Settings) (gives : ℕ → Value → Value → Truth) (tables : List Relation) (remotes : List Remote) (number : ℕ) (b : Bound)
    (from to : Folder) (mid new : Outputs O N) where
  -- an item over tables
  abbrev Put : Item → Result (Unit {0}) Stop → Type 0
  Put item r = AnswersOne s.tally (IsTally s.cache gives) number item (numbered_text gives number item) mid new r

  -- the statement was run over what was loaded
  module _ (l : Loaded) (answer : Result Loaded RemoteFault) (is : answer ≡ Ok l) (h : AnswersOver gives b.block tables remotes from.holds answer)
      (differ : AllPairs (λ (x y : Remote). x.table ≢ y.table) remotes) where
    ran : (r : Result (Unit {0}) Stop) → Put (item_over (exchanged tables remotes l.tables.items) b) r → Ran s (over gives tables remotes (λ n. h.found)) number b mid new r
    ran r put =
        let loaded = subst (λ (x : Result Loaded RemoteFault). IfOk x (λ y. AreLoaded gives b.block tables remotes h.found y.keys.items y.tables.items)) is h.loaded in
        let same : exchanged tables remotes l.tables.items ≡ tables_for remotes rows tables l.keys.items =
        ap (exchanged tables remotes) loaded.filled ∙ filling rows tables l.keys.items remotes differ in
        record {
          keys = l.keys.items;
          come = loaded.comes;
          put = subst (λ (ts : List Relation). Put (item_over ts b) r) same put;
        }
      where
        rows : ℕ → ℤ → List (List Value)
        rows = λ r k. rows_of_file (key_file_of tables remotes h.found r k)

    pub ran_done : to.faults ≡ from.faults → (x : Unit {0}) (r : Result (Unit {0}) Stop) → r ≡ Ok x → Put (item_over (exchanged tables remotes l.tables.items) b) r
        → StatementTo s gives tables remotes number b from to mid new (Ok x)
    ran_done kept x r e put = record {
      found = h.found;
      agrees = h.agrees;
      counted = kept;
      ends = subst (λ (q : Result (Unit {0}) Stop). Ran s (over gives tables remotes (λ n. h.found)) number b mid new q) e (ran r put);
    }

    pub ran_stopped : to.faults ≡ from.faults → (y : Stop) (r : Result (Unit {0}) Stop) → r ≡ Err y → Put (item_over (exchanged tables remotes l.tables.items) b) r
        → StatementTo s gives tables remotes number b from to mid new (Err (halt.Stopped y))
    ran_stopped kept y r e put = record {
      found = h.found;
      agrees = h.agrees;
      counted = kept;
      ends = subst (λ (q : Result (Unit {0}) Stop). Ran s (over gives tables remotes (λ n. h.found)) number b mid new q) e (ran r put);
    }

  -- what a refusal leaves of the folder
  counted : (why : RemoteFault) → UnlessReadOrMemory why (to.faults ≡ from.faults) → ((at : RemoteKey) → why ≡ fault.Read at → RoseOrFull from.faults to.faults)
      → CountsBy from to why
  counted (fault.Read at) kept read = read at refl
  counted (fault.TooLong at) kept read = kept
  counted (fault.BadFile at y) kept read = kept
  counted (fault.TooManyKeys remote) kept read = kept
  counted (fault.TooManyRows remote) kept read = kept
  counted fault.Memory kept read = kept

  -- nothing was loaded
  pub not_loaded : (why : RemoteFault) (answer : Result Loaded RemoteFault) → answer ≡ Err why → AnswersOver gives b.block tables remotes from.holds answer
      → UnlessReadOrMemory why (to.faults ≡ from.faults) → ((at : RemoteKey) → why ≡ fault.Read at → RoseOrFull from.faults to.faults)
      → NamesOneOf (length remotes) why → ((at : RemoteKey) → answer ≢ Err (fault.BadFile at (key.Table table.Memory))) → new ≡ mid
      → StatementTo s gives tables remotes number b from to mid new (Err (halt.Refused why))
  not_loaded why answer is h kept read names memory same = record {
    found = h.found;
    agrees = h.agrees;
    counted = counted why kept read;
    ends = (
      same,
      record { names = names; memory = λ at e. memory at (is ∙ ap (λ (y : RemoteFault). let x : Result Loaded RemoteFault = Err y in x) e) },
      subst (λ (x : Result Loaded RemoteFault). IfErr x (MayRefuse gives b.block tables remotes h.found)) is h.refused,
    );
  }

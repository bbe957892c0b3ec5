-- What a look shows of a key's file, and what is given of it then.
use Rattle.std.proofs.Common.{◌≡◌, inl, inr, ℕ, ◌<◌, ◌≤◌, Bool, false, cond, List, [], take, length, Option, Some, None, Vec, Global, refl, ap, sym, ◌∙◌, arith}
use Rattle.std.specs.Prelude.{◌≢◌, ℤ, nat_lt, option_map, Result, Ok, Err, IfSome, vec_len}
use Rattle.std.proofs.lemmas.Bool.{lt-ltb, ltb-true, false_from_ne_true}
use Rattle.std.proofs.lemmas.List.{length-take, take_all}
use Rattle.outside.specs.Files.{File, Shows, lookup}
use Rattle.remote_lookup.specs.Reading.{IsFault, IsRefusal, OverFile}
use Rattle.remote_lookup.specs.declared.remote.RemoteKey.{RemoteKey}
use Rattle.remote_lookup.specs.declared.remote.RemoteFault.{RemoteFault}
use Rattle.remote_lookup.specs.declared.remote.RemoteFault.TheVariants as variants
use Rattle.remote_lookup.specs.declared.remote.KeyFault.TheVariants as why
use Rattle.table_csv.specs.declared.fault.TableFault.TheVariants as table
use Rattle.sq_value.specs.declared.table.Column.{Column}
use Rattle.sq_value.specs.declared.value.Value.{Value}
use Rattle.table_csv.specs.TableFile.{table_of_bytes}
use Rattle.remote_lookup.specs.KeyFiles.{rows_for, rows_in}
use Rattle.remote_lookup.specs.Rounds.{Bad, Cause, TooLong}

-- what a vector's elements are as many as
pub within_items : (o : Option (Vec ℕ Global)) (n : ℕ) → IfSome o (λ (v : Vec ℕ Global). vec_len v ≤ n)
    → IfSome (option_map (λ (v : Vec ℕ Global). v.items) o) (λ (l : List ℕ). length l ≤ n)
within_items None n h = tt
within_items (Some v) n h = omega (arith, h, v.ok.0)

-- what a look shows is the front of what is given: of what the folder holds, where it tells that, or else of itself
pub shown_of : (held : Option (List File)) (name : List ℕ) (shown : Option (List ℕ)) → Shows held name 67108865 shown
    → IfSome shown (λ (bytes : List ℕ). length bytes ≤ 67108865) → OverFile name held (λ found. option_map (take 67108865) found ≡ shown)
shown_of None name shown shows within = (shown, (λ files e. absurd cc), all shown within)
  where
    all : (o : Option (List ℕ)) → IfSome o (λ (bytes : List ℕ). length bytes ≤ 67108865) → option_map (take 67108865) o ≡ o
    all None h = refl
    all (Some bytes) h = ap (λ (l : List ℕ). let o : Option (List ℕ) = Some l in o) (take_all 67108865 bytes h)
shown_of (Some files) name shown shows within =
    (lookup files name, (λ others e. let same : files ≡ others = cc in ap (λ (l : List File). lookup l name) same), shows)

module _ (columns : List Column) (column : ℕ) (key : ℤ) (held : Option (List File)) (name : List ℕ) where
  abbrev Rows : Type 0
  Rows = Result (List (List Value)) Cause

  -- what a look shows of the file
  abbrev pub Shown : Option (List ℕ) → Type 0
  Shown shown = OverFile name held (λ found. option_map (take 67108865) found ≡ shown)

  -- what its rows are, or its cause
  abbrev pub Has : Rows → Type 0
  Has rows = OverFile name held (λ found. rows_in columns column key found ≡ rows)

  -- a file that is lacking has no rows
  pub lacking : Shown None → Has (Ok [])
  lacking shown = (shown.0, shown.1, file shown.0 shown.2)
    where
      file : (o : Option (List ℕ)) → option_map (take 67108865) o ≡ None → rows_in columns column key o ≡ Ok []
      file None e = refl
      file (Some all) e = absurd cc

  -- one of which fewer bytes than the limit are shown is shown whole
  pub whole : (bytes : List ℕ) → Shown (Some bytes) → length bytes ≤ 67108864 → (rows : Rows) → rows_for columns column key (table_of_bytes bytes) ≡ rows → Has rows
  whole bytes shown short rows is = (shown.0, shown.1, file shown.0 shown.2)
    where
      file : (o : Option (List ℕ)) → option_map (take 67108865) o ≡ Some bytes → rows_in columns column key o ≡ rows
      file None e = absurd cc
      file (Some all) e =
          let front : take 67108865 all ≡ bytes = cc in
          let size = sym (length-take 67108865 all) ∙ ap length front in
          let few : length all ≤ 67108864 = omega (arith, size, short) in
          let same : all ≡ bytes = sym (take_all 67108865 all (omega (arith, few))) ∙ front in
          let under : nat_lt 67108864 (length all) ≡ false =
          false_from_ne_true (nat_lt 67108864 (length all)) (λ h. let over : 67108864 < length all = ltb-true 67108864 (length all) h in absurd (omega (arith, few, over))) in
          ap (λ (b : Bool). cond b (Err TooLong) (rows_for columns column key (table_of_bytes all))) under
          ∙ ap (λ (l : List ℕ). rows_for columns column key (table_of_bytes l)) same ∙ is

  -- and one of which more are shown is too long
  pub long : (bytes : List ℕ) → Shown (Some bytes) → 67108864 < length bytes → Has (Err TooLong)
  long bytes shown over = (shown.0, shown.1, file shown.0 shown.2)
    where
      file : (o : Option (List ℕ)) → option_map (take 67108865) o ≡ Some bytes → rows_in columns column key o ≡ Err TooLong
      file None e = absurd cc
      file (Some all) e =
          let front : take 67108865 all ≡ bytes = cc in
          let size = sym (length-take 67108865 all) ∙ ap length front in
          let more : 67108864 < length all = omega (arith, size, over) in
          ap (λ (b : Bool). cond b (Err TooLong) (rows_for columns column key (table_of_bytes all))) (lt-ltb 67108864 (length all) more)

  abbrev Refused : ℕ → ℕ → RemoteKey → RemoteFault → Type 0
  Refused before now at f = IsRefusal before now (λ cause. Has (Err cause)) at f

  -- so it is refused for it
  pub refused_long : (bytes : List ℕ) (before now : ℕ) (at : RemoteKey) → Shown (Some bytes) → 67108864 < length bytes → now ≡ before
      → Refused before now at (variants.TooLong at)
  refused_long bytes before now at shown over kept = inr (inr (TooLong, apart, kept, long bytes shown over, refl))
    where
      apart : TooLong ≢ Bad (why.Table table.Memory)
      apart e = cc

  -- and one that is whole for what its table has
  pub refused_for : (bytes : List ℕ) (before now : ℕ) (at : RemoteKey) (f : RemoteFault) → Shown (Some bytes) → length bytes ≤ 67108864 → now ≡ before
      → IsFault (λ cause. rows_for columns column key (table_of_bytes bytes) ≡ Err cause) at f → Refused before now at f
  refused_for bytes before now at f shown short kept h = by h
    where
      by : IsFault (λ cause. rows_for columns column key (table_of_bytes bytes) ≡ Err cause) at f → Refused before now at f
      by (inl memory) = inr (inl memory)
      by (inr other) = inr (inr (other.0, other.1, kept, whole bytes shown short (Err other.0) other.2, other.3))

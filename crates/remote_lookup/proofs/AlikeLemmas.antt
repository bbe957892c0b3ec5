-- What the rounds come to goes by what the file of each key is.
use Rattle.std.proofs.Common.{◌≡◌, inl, inr, ℕ, ◌+◌, cond, List, [], ◌∷◌, ◌++◌, length, Option, Some, None, refl, ap, sym, ◌∙◌, subst}
use Rattle.std.specs.Prelude.{ℤ, nat_lt, filter, not, Bool, Contains, Result, Ok, Err}
use Rattle.std.specs.List.{flat_map}
use Rattle.sq_value.specs.Relation.{Relation}
use Rattle.sq_value.specs.declared.value.Value.{Value}
use Rattle.sq_value.specs.declared.value.Truth.{Truth}
use Rattle.sq_expr.specs.declared.block.Block.{Block}
use Rattle.remote_lookup.specs.Filled.{keys_at, remote_of}
use Rattle.remote_lookup.specs.Needed.{HasRowOf, IsAskedFor}
use Rattle.remote_lookup.specs.Rounds.{AreAskedBy, Breaks, Cause, Comes, Crowds, Ends, Goes, fault_at, first_fault, lists_key, row_count_of, rows_of_file}
use Rattle.remote_lookup.specs.declared.remote.Remote.{Remote}
use Rattle.remote_lookup.specs.declared.remote.RemoteKey.{RemoteKey}
use Rattle.remote_lookup.specs.declared.remote.RemoteFault.{RemoteFault}
use Rattle.remote_lookup.specs.declared.remote.RemoteFault.TheVariants as fault
use Rattle.remote_lookup.proofs.CountLemmas.{first_found, first_none}

-- each key's file is the same
abbrev pub AreAlike : (ℕ → ℤ → Result (List (List Value)) Cause) → (ℕ → ℤ → Result (List (List Value)) Cause) → Type 0
AreAlike file other = (remote : ℕ) (key : ℤ) → file remote key ≡ other remote key

alike_back : (file other : ℕ → ℤ → Result (List (List Value)) Cause) → AreAlike file other → AreAlike other file
alike_back file other same remote key = sym (same remote key)

module _ (file other : ℕ → ℤ → Result (List (List Value)) Cause) (same : AreAlike file other) where
  -- as many rows
  count_alike : (keys : List RemoteKey) (remote : ℕ) → row_count_of file keys remote ≡ row_count_of other keys remote
  count_alike keys remote = ap (length {A = List Value}) (all (keys_at keys remote))
    where
      all : (ks : List ℤ) → flat_map (λ (k : ℤ). rows_of_file (file remote k)) ks ≡ flat_map (λ (k : ℤ). rows_of_file (other remote k)) ks
      all [] = refl
      all (k ∷ ks) =
          ap (λ (l : List (List Value)). l ++ flat_map (λ (j : ℤ). rows_of_file (file remote j)) ks) (ap rows_of_file (same remote k))
          ∙ ap (λ (l : List (List Value)). rows_of_file (other remote k) ++ l) (all ks)

  fault_alike : (known : List RemoteKey) (at : RemoteKey) → fault_at file known at (file at.remote at.key) ≡ fault_at other known at (other at.remote at.key)
  fault_alike known at = ap (fault_at file known at) (same at.remote at.key) ∙ by (other at.remote at.key)
    where
      by : (r : Result (List (List Value)) Cause) → fault_at file known at r ≡ fault_at other known at r
      by (Err cause) = refl
      by (Ok rows) =
          ap (λ (n : ℕ). let o : Option RemoteFault = cond (nat_lt 4000000 (n + length rows)) (Some (fault.TooManyRows at.remote)) None in o) (count_alike known at.remote)

  -- the same first fault
  pub first_fault_alike : (keys known : List RemoteKey) → first_fault file known keys ≡ first_fault other known keys
  unfolding first_fault
  first_fault_alike [] known = refl
  first_fault_alike (k ∷ keys) known = by (fault_at file known k (file k.remote k.key)) refl (first_fault_alike keys (known ++ k ∷ []))
    where
      by : (o : Option RemoteFault) → fault_at file known k (file k.remote k.key) ≡ o → first_fault file (known ++ k ∷ []) keys ≡ first_fault other (known ++ k ∷ []) keys
          → first_fault file known (k ∷ keys) ≡ first_fault other known (k ∷ keys)
      by (Some f) e again = first_found file known k keys f e ∙ sym (first_found other known k keys f (sym (fault_alike known k) ∙ e))
      by None e again = first_none file known k keys e ∙ again ∙ sym (first_none other known k keys (sym (fault_alike known k) ∙ e))

module _ (gives : ℕ → Value → Value → Truth) (block : Block) (tables : List Relation) (remotes : List Remote) where
  -- the same keys are asked for
  asked_alike : (file other : ℕ → ℤ → Result (List (List Value)) Cause) → AreAlike file other → (keys : ℕ → ℤ → Bool) (remote : ℕ) (key : ℤ)
      → IsAskedFor gives block tables remotes (λ r k. rows_of_file (file r k)) keys remote key → IsAskedFor gives block tables remotes (λ r k. rows_of_file (other r k)) keys remote key
  asked_alike file other same keys remote key (inl h) = inl h
  asked_alike file other same keys remote key (inr h) = inr (record {
    c = h.c;
    ask = h.ask;
    u = h.u;
    used = h.used;
    row = h.row;
    of = row_of (remote_of remotes h.u.table) h.of;
    own = h.own;
    has = h.has;
  })
    where
      row_of : (o : Option ℕ) → HasRowOf (λ r k. rows_of_file (file r k)) tables keys h.u.table h.row o → HasRowOf (λ r k. rows_of_file (other r k)) tables keys h.u.table h.row o
      row_of None of = of
      row_of (Some n) of = (of.0, of.1, subst (λ (l : List (List Value)). Contains l h.row) (ap rows_of_file (same n of.0)) of.2)

  module _ (file other : ℕ → ℤ → Result (List (List Value)) Cause) (same : AreAlike file other) where
    asked_by_alike : (known next : List RemoteKey) → AreAskedBy gives block tables remotes file known next → AreAskedBy gives block tables remotes other known next
    asked_by_alike known next asked = record {
      ordered = asked.ordered;
      each = λ remote key. (
        λ h. asked_alike file other same (lists_key known) remote key ((asked.each remote key).0 h),
        λ h. (asked.each remote key).1 (asked_alike other file (alike_back file other same) (lists_key known) remote key h),
      );
    }

    abbrev News : List RemoteKey → List RemoteKey → List RemoteKey
    News known next = filter (λ (k : RemoteKey). not (lists_key known k.remote k.key)) next

    -- so the rounds come to the same
    pub comes_alike : (known : List RemoteKey) (due : Result (List RemoteKey) RemoteFault) → Comes gives block tables remotes file known due → Comes gives block tables remotes other known due
    comes_alike known due (Ends known' asked) = Ends known' (asked_by_alike known' known' asked)
    comes_alike known due (Crowds known' next remote asked more crowd) = Crowds known' next remote (asked_by_alike known' next asked) more crowd
    comes_alike known due (Breaks known' next why asked more crowd first) =
        Breaks known' next why (asked_by_alike known' next asked) more crowd (sym (first_fault_alike file other same (News known' next) known') ∙ first)
    comes_alike known due (Goes known' next due' asked more crowd first rest) =
        Goes known' next due' (asked_by_alike known' next asked) more crowd (sym (first_fault_alike file other same (News known' next) known') ∙ first)
        (comes_alike next due' rest)

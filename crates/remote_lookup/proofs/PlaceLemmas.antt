-- What stands at a place once another one was set, and the spare tables then.
use Rattle.std.proofs.Common.{◌≡◌, ◌≢◌, ℕ, zero, suc, ◌<◌, Bool, true, false, List, [], ◌∷◌, set, length, Option, Some, refl, ap, sym, ◌∙◌, subst, arith}
use Rattle.std.specs.Prelude.{◌==◌, slice_get, IfErr, IfSome, Result}
use Rattle.std.specs.Result.{IsErrAnd}
use Rattle.std.proofs.lemmas.Result.{err_from_is_err_and}
use Rattle.std.proofs.lemmas.Bool.{eqb-true, eqb-false}
use Rattle.std.proofs.lemmas.List.{length-set}
use Rattle.sq_value.specs.Relation.{Relation}
use Rattle.remote_lookup.specs.Asking.{AreSpare}
use Rattle.remote_lookup.specs.KeyFiles.{table_columns}
use Rattle.remote_lookup.specs.declared.remote.Remote.{Remote}
use Rattle.remote_lookup.proofs.QueryLemmas.{some_one, element}

pub get_set_same : {X : Type 0} (xs : List X) (i : ℕ) (x : X) → i < length xs → slice_get (set xs i x) i ≡ Some x
get_set_same [] i x low = absurd (omega (arith, low))
get_set_same (y ∷ xs) zero x low = refl
get_set_same (y ∷ xs) (suc i) x low = get_set_same xs i x (omega (arith, low))

pub get_set_other : {X : Type 0} (xs : List X) (i j : ℕ) (x : X) → i ≢ j → slice_get (set xs i x) j ≡ slice_get xs j
get_set_other [] i j x ne = refl
get_set_other (y ∷ xs) zero zero x ne = absurd (ne refl)
get_set_other (y ∷ xs) zero (suc j) x ne = refl
get_set_other (y ∷ xs) (suc i) zero x ne = refl
get_set_other (y ∷ xs) (suc i) (suc j) x ne = let ne' : i ≢ j = (λ e. ne (ap suc e)) in get_set_other xs i j x ne'

-- a refusal that is handed on
pub through : {T E : Type 0} (r : Result T E) (y : E) (P : E → Type 0) → IsErrAnd r (λ x. x ≡ y) → P y → IfErr r P
through r y P h p = let q = err_from_is_err_and r h in rw (q.1, q.2) p

-- what holds of what is there
pub if_there : {X : Type 0} (P : X → Type 0) (o : Option X) (x : X) → o ≡ Some x → IfSome o P → P x
if_there {X} P o x is h = subst (λ (q : Option X). IfSome q P) is h

pub there_if : {X : Type 0} (P : X → Type 0) (o : Option X) (x : X) → o ≡ Some x → P x → IfSome o P
there_if {X} P o x is h = subst (λ (q : Option X). IfSome q P) (sym is) h

module _ (tables : List Relation) (remotes : List Remote) where
  -- a table has the columns of a remote's
  abbrev pub HasColumns : ℕ → Relation → Type 0
  HasColumns at t = IfSome (slice_get remotes at) (λ (r : Remote). t.columns ≡ table_columns tables r.table)

  module _ (spare : List Relation) (at : ℕ) (are : AreSpare tables remotes spare) (low : at < length remotes) where
    own_columns : (own : Relation) → slice_get spare at ≡ Some own → HasColumns at own
    own_columns own is = let r = element remotes at low in there_if (λ (r : Remote). own.columns ≡ table_columns tables r.table) (slice_get remotes at) r.0 r.1 (are.columns at r.0 own r.1 is)

    -- so it may be set among the spare ones
    pub may_set : (t : Relation) → HasColumns at t → IfSome (slice_get spare at) (λ (old : Relation). t.columns ≡ old.columns)
    may_set t has =
        let r = element remotes at low in
        let s = element spare at (omega (arith, low, are.count)) in
        there_if (λ (old : Relation). t.columns ≡ old.columns) (slice_get spare at) s.0 s.1
        (if_there (λ (r : Remote). t.columns ≡ table_columns tables r.table) (slice_get remotes at) r.0 r.1 has ∙ sym (are.columns at r.0 s.0 r.1 s.1))

    pub still_spare : (t : Relation) → HasColumns at t → AreSpare tables remotes (set spare at t)
    still_spare t has = record {
      count = length-set spare at t ∙ are.count;
      columns = λ remote r s is there. by remote r s is there (at == remote) refl;
    }
      where
        by : (remote : ℕ) (r : Remote) (s : Relation) → slice_get remotes remote ≡ Some r → slice_get (set spare at t) remote ≡ Some s
            → (b : Bool) → (at == remote) ≡ b → s.columns ≡ table_columns tables r.table
        by remote r s is there true e =
            let same : at ≡ remote = eqb-true at remote e in
            let one : s ≡ t = some_one (sym there ∙ ap (slice_get (set spare at t)) (sym same) ∙ get_set_same spare at t (omega (arith, low, are.count))) in
            ap (λ (q : Relation). q.columns) one
            ∙ if_there (λ (r : Remote). t.columns ≡ table_columns tables r.table) (slice_get remotes at) r (ap (slice_get remotes) same ∙ is) has
        by remote r s is there false e = are.columns remote r s is (sym (get_set_other spare at remote t (eqb-false at remote e)) ∙ there)

    -- and the own one back again
    pub may_set_back : (t own : Relation) → HasColumns at t → slice_get spare at ≡ Some own → IfSome (slice_get (set spare at t) at) (λ (old : Relation). own.columns ≡ old.columns)
    may_set_back t own has is =
        let r = element remotes at low in
        there_if (λ (old : Relation). own.columns ≡ old.columns) (slice_get (set spare at t) at) t (get_set_same spare at t (omega (arith, low, are.count)))
        (are.columns at r.0 own r.1 is ∙ sym (if_there (λ (r : Remote). t.columns ≡ table_columns tables r.table) (slice_get remotes at) r.0 r.1 has))

  pub spare_back : (spare : List Relation) (at : ℕ) → AreSpare tables remotes spare → at < length remotes → (t own : Relation) → HasColumns at t → slice_get spare at ≡ Some own
      → AreSpare tables remotes (set (set spare at t) at own)
  spare_back spare at are low t own has is = still_spare (set spare at t) at (still_spare spare at are low t has) low own (own_columns spare at are low own is)

  pub same_back : (spare : List Relation) (at : ℕ) → AreSpare tables remotes spare → at < length remotes → (t back : Relation) → slice_get (set spare at t) at ≡ Some back → back ≡ t
  same_back spare at are low t back is = some_one (sym is ∙ get_set_same spare at t (omega (arith, low, are.count)))

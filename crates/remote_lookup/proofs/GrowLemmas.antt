-- What is asked for where one key more is known.
use Rattle.std.proofs.Common.{◌≡◌, ◌⊎◌, inl, inr, ℕ, Bool, true, false, List, [], ◌∷◌, ◌++◌, Option, Some, None, refl, ap, sym, ◌∙◌, subst}
use Rattle.std.specs.Prelude.{◌↔◌, ◌&&◌, ◌||◌, ◌==◌, ℤ, Contains}
use Rattle.std.specs.Ordering.{int_eq}
use Rattle.std.specs.Cmp.{signed_Decides}
use Rattle.std.proofs.lemmas.Bool.{eqb-true, eq-eqb}
use Rattle.sq_value.specs.Relation.{Relation}
use Rattle.sq_value.specs.declared.value.Value.{Value}
use Rattle.sq_value.specs.declared.value.Truth.{Truth}
use Rattle.sq_expr.specs.declared.block.Block.{Block}
use Rattle.bag_meaning.proofs.SpanLemmas.{both}
use Rattle.remote_lookup.specs.Filled.{remote_of}
use Rattle.remote_lookup.specs.Needed.{HasRowOf, IsAskedFor, IsAskedByRow, IsAskedByFile}
use Rattle.remote_lookup.specs.Rounds.{lists_key}
use Rattle.remote_lookup.specs.declared.remote.Remote.{Remote}
use Rattle.remote_lookup.specs.declared.remote.RemoteKey.{RemoteKey}

lists_key-push : (keys : List RemoteKey) (k : RemoteKey) (remote : ℕ) (key : ℤ)
    → lists_key (keys ++ k ∷ []) remote key ≡ (lists_key keys remote key || ((k.remote == remote) && int_eq k.key key))
lists_key-push [] k remote key = or_false ((k.remote == remote) && int_eq k.key key)
  where
    or_false : (b : Bool) → (b || false) ≡ b
    or_false true = refl
    or_false false = refl
lists_key-push (j ∷ keys) k remote key =
    ap (λ (b : Bool). ((j.remote == remote) && int_eq j.key key) || b) (lists_key-push keys k remote key)
    ∙ or_assoc ((j.remote == remote) && int_eq j.key key) (lists_key keys remote key) ((k.remote == remote) && int_eq k.key key)
  where
    or_assoc : (a b c : Bool) → (a || (b || c)) ≡ ((a || b) || c)
    or_assoc true b c = refl
    or_assoc false b c = refl

module _ (gives : ℕ → Value → Value → Truth) (block : Block) (tables : List Relation) (remotes : List Remote)
    (rows : ℕ → ℤ → List (List Value)) (known : List RemoteKey) (k : RemoteKey) where
  -- a row of one key more: it was there, or is of the file of the key
  row_more : (t : ℕ) (row : List Value) (o : Option ℕ) → HasRowOf rows tables (lists_key (known ++ k ∷ [])) t row o
      → HasRowOf rows tables (lists_key known) t row o ⊎ ((o ≡ Some k.remote) × Contains (rows k.remote k.key) row)
  row_more t row None h = inl h
  row_more t row (Some remote) h = by (lists_key known remote h.0) refl (sym (lists_key-push known k remote h.0) ∙ h.1)
    where
      by : (b : Bool) → lists_key known remote h.0 ≡ b → (b || ((k.remote == remote) && int_eq k.key h.0)) ≡ true
          → HasRowOf rows tables (lists_key known) t row (Some remote) ⊎ ((Some remote ≡ Some k.remote) × Contains (rows k.remote k.key) row)
      by true e d = inl (h.0, e, h.2)
      by false e d =
          let parts = both (k.remote == remote) (int_eq k.key h.0) d in
          let one : k.remote ≡ remote = eqb-true k.remote remote parts.0 in
          let two : k.key ≡ h.0 = (signed_Decides k.key h.0).0 parts.1 in
          inr (
            ap (λ (n : ℕ). let o : Option ℕ = Some n in o) (sym one),
            subst (λ (n : ℕ). Contains (rows n k.key) row) (sym one) (subst (λ (i : ℤ). Contains (rows remote i) row) (sym two) h.2),
          )

  row_there : (t : ℕ) (row : List Value) (o : Option ℕ) → HasRowOf rows tables (lists_key known) t row o → HasRowOf rows tables (lists_key (known ++ k ∷ [])) t row o
  row_there t row None h = h
  row_there t row (Some remote) h =
      (h.0, lists_key-push known k remote h.0 ∙ ap (λ (b : Bool). b || ((k.remote == remote) && int_eq k.key h.0)) h.1, h.2)

  row_new : (t : ℕ) (row : List Value) (o : Option ℕ) → o ≡ Some k.remote → Contains (rows k.remote k.key) row → HasRowOf rows tables (lists_key (known ++ k ∷ [])) t row o
  row_new t row o e in' =
      subst (HasRowOf rows tables (lists_key (known ++ k ∷ [])) t row) (sym e)
      (k.key, lists_key-push known k k.remote k.key ∙ last (lists_key known k.remote k.key) itself, in')
    where
      itself : ((k.remote == k.remote) && int_eq k.key k.key) ≡ true
      itself = ap (λ (b : Bool). b && int_eq k.key k.key) (eq-eqb k.remote k.remote refl) ∙ (signed_Decides k.key k.key).1 refl

      last : (b : Bool) {c : Bool} → c ≡ true → (b || c) ≡ true
      last true e = refl
      last false e = e

  -- what is asked for: what was, and what a row of the key's file asks for
  pub asked_grows : (remote : ℕ) (key : ℤ)
      → IsAskedFor gives block tables remotes rows (lists_key (known ++ k ∷ [])) remote key
      ↔ (IsAskedFor gives block tables remotes rows (lists_key known) remote key ⊎ IsAskedByFile gives block remotes rows k remote key)
  asked_grows remote key = (there, back)
    where
      split : (h : IsAskedByRow gives block tables remotes rows (lists_key (known ++ k ∷ [])) remote key)
          → HasRowOf rows tables (lists_key known) h.u.table h.row (remote_of remotes h.u.table) ⊎ ((remote_of remotes h.u.table ≡ Some k.remote) × Contains (rows k.remote k.key) h.row)
          → IsAskedFor gives block tables remotes rows (lists_key known) remote key ⊎ IsAskedByFile gives block remotes rows k remote key
      split h (inl old) = inl (inr (record { c = h.c; ask = h.ask; u = h.u; used = h.used; row = h.row; of = old; own = h.own; has = h.has }))
      split h (inr new) = inr (record { c = h.c; ask = h.ask; u = h.u; used = h.used; of = new.0; row = h.row; in' = new.1; own = h.own; has = h.has })

      there : IsAskedFor gives block tables remotes rows (lists_key (known ++ k ∷ [])) remote key
          → IsAskedFor gives block tables remotes rows (lists_key known) remote key ⊎ IsAskedByFile gives block remotes rows k remote key
      there (inl literal) = inl (inl literal)
      there (inr h) = split h (row_more h.u.table h.row (remote_of remotes h.u.table) h.of)

      back : IsAskedFor gives block tables remotes rows (lists_key known) remote key ⊎ IsAskedByFile gives block remotes rows k remote key
          → IsAskedFor gives block tables remotes rows (lists_key (known ++ k ∷ [])) remote key
      back (inl (inl literal)) = inl literal
      back (inl (inr h)) =
          inr (record { c = h.c; ask = h.ask; u = h.u; used = h.used; row = h.row; of = row_there h.u.table h.row (remote_of remotes h.u.table) h.of; own = h.own; has = h.has })
      back (inr h) =
          inr (record { c = h.c; ask = h.ask; u = h.u; used = h.used; row = h.row; of = row_new h.u.table h.row (remote_of remotes h.u.table) h.of h.in'; own = h.own; has = h.has })

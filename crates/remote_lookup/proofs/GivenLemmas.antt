-- What is given of keys' files by what was found of them: what the folder holds, where it tells that, and else what was shown.
use Rattle.std.proofs.Common.{◌≡◌, ℕ, Bool, true, false, cond, List, [], ◌∷◌, Option, Some, None, refl, ap, sym, ◌∙◌}
use Rattle.std.specs.Prelude.{◌&&◌, ◌||◌, ◌==◌, ℤ, All, slice_get, Result, ⊤}
use Rattle.std.specs.Ordering.{int_eq, is_eq}
use Rattle.std.specs.Cmp.{signed_Decides}
use Rattle.std.specs.declared.cmp.Ordering.TheVariants.{Less}
use Rattle.std.proofs.lemmas.Bool.{eqb-true, eq-eqb}
use Rattle.std.proofs.lemmas.List.Elements.{All-cons, All-head, All-nil, All-tail}
use Rattle.outside.specs.Files.{File, lookup}
use Rattle.sq_value.specs.Relation.{Relation}
use Rattle.sq_value.specs.declared.value.Value.{Value}
use Rattle.bag_meaning.proofs.PairLemmas.{AllPairs-head, AllPairs-tail}
use Rattle.bag_meaning.proofs.SpanLemmas.{both}
use Rattle.remote_lookup.specs.KeyFiles.{AreKeysGiven, KeyBytes, file_in, key_file_of, key_name}
use Rattle.remote_lookup.specs.Rounds.{AreOrdered, Cause, key_order, lists_key}
use Rattle.remote_lookup.specs.Working.{AreFound, AreStored, IsFound, IsStored, MayBe, OverKeys, OverLoaded, known}
use Rattle.remote_lookup.specs.declared.remote.Remote.{Remote}
use Rattle.remote_lookup.specs.declared.remote.RemoteKey.{RemoteKey}
use Rattle.remote_lookup.proofs.InsertLemmas.{Entry, left_false, right_false}
use Rattle.remote_lookup.proofs.QueryLemmas.{some_one}
use Rattle.remote_lookup.proofs.SetLemmas.{ties}
use Rattle.remote_lookup.proofs.TrueLemmas.{file_is}

-- whether this is the key
abbrev is_key : RemoteKey → ℕ → ℤ → Bool
is_key at remote key = (remote == at.remote) && int_eq key at.key

-- the same with these bytes of one key
abbrev with_bytes : KeyBytes → RemoteKey → Option (List ℕ) → KeyBytes
with_bytes found at bytes remote key = cond (is_key at remote key) bytes (found remote key)

own_bytes : (found : KeyBytes) (at : RemoteKey) (bytes : Option (List ℕ)) → with_bytes found at bytes at.remote at.key ≡ bytes
own_bytes found at bytes = ap (λ (b : Bool). cond b bytes (found at.remote at.key)) itself
  where
    itself : is_key at at.remote at.key ≡ true
    itself = ap (λ (b : Bool). b && int_eq at.key at.key) (eq-eqb at.remote at.remote refl) ∙ (signed_Decides at.key at.key).1 refl

other_bytes : (found : KeyBytes) (at : RemoteKey) (bytes : Option (List ℕ)) (remote : ℕ) (key : ℤ) → is_key at remote key ≡ false → with_bytes found at bytes remote key ≡ found remote key
other_bytes found at bytes remote key apart = ap (λ (b : Bool). cond b bytes (found remote key)) apart

-- a key isn't among later ones
not_among : (k : RemoteKey) (keys : List RemoteKey) → All (λ (j : RemoteKey). key_order k j ≡ Less) keys → lists_key keys k.remote k.key ≡ false
not_among k [] later = refl
not_among k (j ∷ js) later =
    let apart : is_key k j.remote j.key ≡ false = sym (ties k j) ∙ ap is_eq (All-head (λ (i : RemoteKey). key_order k i ≡ Less) j js later) in
    ap (λ (b : Bool). b || lists_key js k.remote k.key) apart ∙ not_among k js (All-tail (λ (i : RemoteKey). key_order k i ≡ Less) j js later)

module _ (tables : List Relation) (remotes : List Remote) (held : Option (List File)) where
  -- something is given of keys' files
  pub given_any : (P : KeyBytes → Type 0) → ((found : KeyBytes) → P found) → OverKeys remotes held P
  given_any P all = by held
    where
      -- of a remote that is there
      told : List File → Option Remote → ℤ → Option (List ℕ)
      told files None key = None
      told files (Some r) key = lookup files (key_name r.prefix key)

      by : (h : Option (List File)) → OverKeys remotes h P
      by None = ((λ remote key. None), (λ files e. absurd cc), all (λ remote key. None))
      by (Some files) = ((λ remote key. told files (slice_get remotes remote) key), agrees, all (λ remote key. told files (slice_get remotes remote) key))
        where
          agrees : AreKeysGiven remotes (Some files) (λ remote key. told files (slice_get remotes remote) key)
          agrees others e remote key r is =
              let same : files ≡ others = some_one e in
              ap (λ (o : Option Remote). told files o key) is ∙ ap (λ (l : List File). lookup l (key_name r.prefix key)) same

  -- one key's bytes more are given
  given_more : (found : KeyBytes) (at : RemoteKey) (r : Remote) (bytes : Option (List ℕ)) → slice_get remotes at.remote ≡ Some r
      → ((files : List File) → held ≡ Some files → bytes ≡ lookup files (key_name r.prefix at.key))
      → AreKeysGiven remotes held found → AreKeysGiven remotes held (with_bytes found at bytes)
  given_more found at r bytes is one given files told remote key s there = by (is_key at remote key) refl
    where
      by : (b : Bool) → is_key at remote key ≡ b → with_bytes found at bytes remote key ≡ lookup files (key_name s.prefix key)
      by true e =
          let parts = both (remote == at.remote) (int_eq key at.key) e in
          let remote' : remote ≡ at.remote = eqb-true remote at.remote parts.0 in
          let key' : key ≡ at.key = (signed_Decides key at.key).0 parts.1 in
          let one' : r ≡ s = some_one (sym is ∙ ap (slice_get remotes) (sym remote') ∙ there) in
          ap (λ (b : Bool). cond b bytes (found remote key)) e
          ∙ one files told
          ∙ ap (λ (k : ℤ). lookup files (key_name r.prefix k)) (sym key')
          ∙ ap (λ (q : Remote). lookup files (key_name q.prefix key)) one'
      by false e = other_bytes found at bytes remote key e ∙ given files told remote key s there

  -- and what is loaded of others stays what their files have
  stored_more : (entries : List Entry) (found : KeyBytes) (at : RemoteKey) (bytes : Option (List ℕ)) → lists_key (known entries) at.remote at.key ≡ false
      → AreStored (key_file_of tables remotes found) entries → AreStored (key_file_of tables remotes (with_bytes found at bytes)) entries
  unfolding key_file_of
  stored_more [] found at bytes new stored = All-nil (IsStored (key_file_of tables remotes (with_bytes found at bytes)))
  stored_more (e ∷ es) found at bytes new stored =
      let apart = left_false (is_key at e.0.remote e.0.key) (lists_key (known es) at.remote at.key) new in
      All-cons (IsStored (key_file_of tables remotes (with_bytes found at bytes))) e es
      (ap (λ (o : Option (List ℕ)). file_in tables o e.0.key (slice_get remotes e.0.remote)) (other_bytes found at bytes e.0.remote e.0.key apart)
      ∙ All-head (IsStored (key_file_of tables remotes found)) e es stored)
      (stored_more es found at bytes (right_false (is_key at e.0.remote e.0.key) (lists_key (known es) at.remote at.key) new)
      (All-tail (IsStored (key_file_of tables remotes found)) e es stored))

  -- so one key more may be what it may be, beside those that are loaded
  pub over_more : (entries : List Entry) (at : RemoteKey) (x : Result (List (List Value)) Cause) → lists_key (known entries) at.remote at.key ≡ false → MayBe tables remotes held at x
      → OverLoaded tables remotes held entries (λ file. ⊤) → OverLoaded tables remotes held entries (λ file. file at.remote at.key ≡ x)
  over_more entries at x new may over =
      let found = with_bytes over.0 at may.2.0 in (
        found,
        given_more over.0 at may.0 may.2.0 may.1 may.2.1 over.1,
        stored_more entries over.0 at may.2.0 new over.2,
        file_is tables remotes found at may.0 may.2.0 may.1 (own_bytes over.0 at may.2.0) x may.2.2,
      )

  -- what is loaded is what the files have that are given
  pub over_loaded : (entries : List Entry) → AreOrdered (known entries) → AreFound tables remotes held entries → OverLoaded tables remotes held entries (λ file. ⊤)
  over_loaded [] ordered found = let any = given_any (λ f. ⊤) (λ f. tt) in (any.0, any.1, All-nil (IsStored (key_file_of tables remotes any.0)), tt)
  over_loaded (e ∷ es) ordered found =
      let rest = over_loaded es (AllPairs-tail (λ (a b : RemoteKey). key_order a b ≡ Less) e.0 (known es) ordered) (All-tail (IsFound tables remotes held) e es found) in
      let one = over_more es e.0 _ (not_among e.0 (known es) (AllPairs-head (λ (a b : RemoteKey). key_order a b ≡ Less) e.0 (known es) ordered)) (All-head (IsFound tables remotes held) e es found) rest in
      (one.0, one.1, All-cons (IsStored (key_file_of tables remotes one.0)) e es one.3 one.2, tt)

  -- and so is what holds of each of these
  pub over_as : (entries : List Entry) (P Q : (ℕ → ℤ → Result (List (List Value)) Cause) → Type 0)
      → ((file : ℕ → ℤ → Result (List (List Value)) Cause) → AreStored file entries → P file → Q file)
      → OverLoaded tables remotes held entries P → OverLoaded tables remotes held entries Q
  over_as entries P Q f over = (over.0, over.1, over.2, f (key_file_of tables remotes over.0) over.2 over.3)

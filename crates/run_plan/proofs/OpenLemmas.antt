-- One remote more.
use Rattle.std.proofs.Common.{◌≡◌, ◌≢◌, ℕ, zero, suc, ◌<◌, List, [], ◌∷◌, ◌++◌, length, get_or, Option, Some, None, refl, sym, ◌∙◌, ap, subst, arith}
use Rattle.std.specs.Prelude.{option_map, option_and_then, slice_get, All, AllPairs}
use Rattle.std.proofs.lemmas.Option.{slice_get_within}
use Rattle.std.proofs.lemmas.List.Elements.{All-nil, All-push, All-weaker, All-get_or, All-same}
use Rattle.std.proofs.lemmas.List.Quantifiers.{all_pairs_push}
use Rattle.sq_value.specs.Relation.{Relation}
use Rattle.sq_value.specs.declared.table.Column.{Column}
use Rattle.sq_value.specs.declared.value.ColType.TheVariants as kind
use Rattle.command_line.specs.declared.command.RemoteWord.{RemoteWord}
use Rattle.remote_lookup.specs.Loaded.{IsRemote}
use Rattle.remote_lookup.specs.declared.remote.Remote.{Remote}
use Rattle.run_plan.specs.declared.opening.Heading.{Heading}
use Rattle.run_plan.specs.Headings.{IsHeadingOf, Opened, opened_as, with_remote}
use Rattle.run_plan.specs.Open.{AreOpen}

-- an element of a list stays at its place in a longer one
front : {X : Type 0} (xs : List X) (y : X) (i : ℕ) (x : X) → slice_get xs i ≡ Some x → slice_get (xs ++ y ∷ []) i ≡ Some x
front [] y i x e = absurd cc
front (z ∷ xs) y zero x e = e
front (z ∷ xs) y (suc i) x e = front xs y i x e

last : {X : Type 0} (xs : List X) (y : X) → slice_get (xs ++ y ∷ []) (length xs) ≡ Some y
last [] y = refl
last (x ∷ xs) y = last xs y

-- a remote is one over more tables
remote_stays : (tables : List Relation) (t : Relation) (r : Remote) → IsRemote tables r → IsRemote (tables ++ t ∷ []) r
remote_stays tables t r h =
    let is = front tables t r.table h.table h.is in
    record {
      table = h.table;
      is = is;
      empty = h.empty;
      integer =
          ap (λ (o : Option Relation). option_map (λ (c : Column). c.kind) (option_and_then (λ (u : Relation). slice_get u.columns r.column) o)) (is ∙ sym h.is)
          ∙ h.integer;
    }

remote_new : (tables : List Relation) (h : Heading) (r : Remote) → IsHeadingOf h → r.table ≡ length tables → r.column ≡ h.column
    → IsRemote (tables ++ h.table ∷ []) r
remote_new tables h r is e f =
    let at : slice_get (tables ++ h.table ∷ []) r.table ≡ Some h.table = ap (slice_get (tables ++ h.table ∷ [])) e ∙ last tables h.table in
    record {
      table = h.table;
      is = at;
      empty = is.empty;
      integer =
          ap (λ (o : Option Relation). option_map (λ (c : Column). c.kind) (option_and_then (λ (u : Relation). slice_get u.columns r.column) o)) at
          ∙ ap (λ (n : ℕ). option_map (λ (c : Column). c.kind) (slice_get h.table.columns n)) f
          ∙ is.integer;
    }

pub open_none : (tables : List Relation) → AreOpen tables []
open_none tables = record { each = All-nil (IsRemote tables); differ = λ i j d h k. absurd (omega (arith, k)) }

pub open_more : (old new : Opened) (word : RemoteWord) (h : Heading) → AreOpen old.catalogue.tables old.remotes → IsHeadingOf h
    → new ≡ with_remote old word h → AreOpen new.catalogue.tables new.remotes
open_more old new word h a is e = subst (λ (o : Opened). AreOpen o.catalogue.tables o.remotes) (sym e) (record { each = each; differ = differ })
  where
    r : Remote
    r = record { table = length old.catalogue.tables; column = h.column; prefix = word.prefix }

    tables : List Relation
    tables = old.catalogue.tables ++ h.table ∷ []

    each : All (IsRemote tables) (old.remotes ++ r ∷ [])
    each =
        All-push (IsRemote tables) old.remotes r
        (All-weaker (IsRemote old.catalogue.tables) (IsRemote tables) (λ x y. remote_stays old.catalogue.tables h.table x y) old.remotes a.each)
        (remote_new old.catalogue.tables h r is refl refl)

    below : (k : ℕ) (d : Remote) → k < length old.remotes → (get_or old.remotes k d).table ≢ r.table
    below k d within =
        let one = All-get_or (IsRemote old.catalogue.tables) old.remotes k d within a.each in
        let lower = slice_get_within old.catalogue.tables (get_or old.remotes k d).table one.table one.is in
        λ same. omega (arith, lower, same)

    differ : AllPairs (λ (x y : Remote). x.table ≢ y.table) (old.remotes ++ r ∷ [])
    differ = all_pairs_push (λ (x y : Remote). x.table ≢ y.table) old.remotes r a.differ below

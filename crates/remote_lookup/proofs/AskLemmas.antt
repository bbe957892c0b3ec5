-- What a block asks its remotes by, conjunct by conjunct.
use Rattle.std.proofs.Common.{◌≡◌, ◌↔◌, ◌⊎◌, append-nil, inl, inr, ℕ, ◌+◌, ◌<◌, ◌≤◌, List, [], ◌∷◌, ◌++◌, length, get_or, Option, Some, None, refl, ap, sym, ◌∙◌, subst, arith}
use Rattle.std.specs.Prelude.{Contains, slice_get, Result, Ok, Err, OnOk}
use Rattle.std.specs.Option.{option_to_list}
use Rattle.std.proofs.lemmas.Bool.{cases_lt}
use Rattle.std.proofs.lemmas.Option.{slice_get_read}
use Rattle.std.proofs.lemmas.List.Elements.{Contains-append_left, Contains-append_right, Contains-push_cases}
use Rattle.eddy_meaning.proofs.MatchLemmas.{Contains-here, Contains-nil}
use Rattle.sq_value.specs.declared.value.Cmp.{Cmp}
use Rattle.sq_value.specs.declared.value.Cmp.TheVariants.{Eq}
use Rattle.sq_expr.specs.declared.cond.Cond.{Cond}
use Rattle.sq_expr.specs.declared.cond.Cond.TheVariants.{Compare}
use Rattle.sq_expr.specs.declared.cond.Side.{Side}
use Rattle.sq_expr.specs.declared.block.Block.{Block}
use Rattle.sq_expr.specs.declared.block.Conjunct.{Conjunct}
use Rattle.remote_lookup.specs.Asks.{ask_by, IsAskIn, AreAsksBelow}
use Rattle.remote_lookup.specs.declared.asks.Ask.{Ask}
use Rattle.remote_lookup.specs.declared.remote.Remote.{Remote}

pub on_ok : {A E : Type 0} {P Q : Type 0} (r : Result A E) → (P → Q) → OnOk r P → OnOk r Q
on_ok (Ok a) f h = f h
on_ok (Err e) f h = tt

-- one more, where there is one
in_found : (xs : List Ask) (o : Option Ask) (ask : Ask) → Contains (xs ++ option_to_list o) ask → Contains xs ask ⊎ (o ≡ Some ask)
in_found xs None ask h = inl (subst (λ (l : List Ask). Contains l ask) (append-nil xs) h)
in_found xs (Some a) ask h = by (Contains-push_cases xs a ask h)
  where
    by : Contains xs ask ⊎ (a ≡ ask) → Contains xs ask ⊎ (Some a ≡ Some ask)
    by (inl old) = inl old
    by (inr e) = inr (ap (λ (x : Ask). let o : Option Ask = Some x in o) e)

found_in : (xs : List Ask) (o : Option Ask) (ask : Ask) → o ≡ Some ask → Contains (xs ++ option_to_list o) ask
found_in xs o ask e =
    subst (λ (p : Option Ask). Contains (xs ++ option_to_list p) ask) (sym e) (Contains-append_right xs (ask ∷ []) ask (Contains-here ask []))

sides_of : (x y x' y' : Side) (cond : Cond) → cond ≡ Compare x Eq y → cond ≡ Compare x' Eq y' → (x ≡ x') × (y ≡ y')
sides_of x y x' y' cond e f =
    let both : Compare x Eq y ≡ Compare x' Eq y' = sym e ∙ f in
    (cc, cc)

-- what an equality adds
pub pushed : (block : Block) (remotes : List Remote) (cond : Cond) (x y : Side) (how : Cmp) → cond ≡ Compare x how y → how ≡ Eq
    → (old new : List Ask) → new ≡ (old ++ option_to_list (ask_by block remotes x y)) ++ option_to_list (ask_by block remotes y x)
    → (ask : Ask) → Contains new ask ↔ (Contains old ask ⊎ IsAskIn block remotes cond ask)
pushed block remotes cond x y how is equal old new made ask = (λ h. to (in_found mid two ask (subst (λ (l : List Ask). Contains l ask) made h)), from)
  where
    one : Option Ask
    one = ask_by block remotes x y

    two : Option Ask
    two = ask_by block remotes y x

    mid : List Ask
    mid = old ++ option_to_list (ask_by block remotes x y)

    here : cond ≡ Compare x Eq y
    here = is ∙ ap (λ (c : Cmp). Compare x c y) equal

    first : Contains old ask ⊎ (ask_by block remotes x y ≡ Some ask) → Contains old ask ⊎ IsAskIn block remotes cond ask
    first (inl h) = inl h
    first (inr e) = inr (x, y, here, inl e)

    to : Contains (old ++ option_to_list (ask_by block remotes x y)) ask ⊎ (ask_by block remotes y x ≡ Some ask) → Contains old ask ⊎ IsAskIn block remotes cond ask
    to (inl h) = first (in_found old (ask_by block remotes x y) ask h)
    to (inr e) = inr (x, y, here, inr e)

    back : Contains (mid ++ option_to_list two) ask → Contains new ask
    back h = subst (λ (l : List Ask). Contains l ask) (sym made) h

    asked : (x' y' : Side) → (x ≡ x') × (y ≡ y') → (ask_by block remotes x' y' ≡ Some ask) ⊎ (ask_by block remotes y' x' ≡ Some ask) → Contains new ask
    asked x' y' same (inl e) =
        back (Contains-append_left mid (option_to_list two) ask
        (found_in old one ask (ap (λ (s : Side). ask_by block remotes s y) same.0 ∙ ap (ask_by block remotes x') same.1 ∙ e)))
    asked x' y' same (inr e) =
        back (found_in mid two ask (ap (λ (s : Side). ask_by block remotes s x) same.1 ∙ ap (ask_by block remotes y') same.0 ∙ e))

    from : Contains old ask ⊎ IsAskIn block remotes cond ask → Contains new ask
    from (inl h) = back (Contains-append_left mid (option_to_list two) ask (Contains-append_left old (option_to_list one) ask h))
    from (inr h) = asked h.0 h.1 (sides_of x y h.0 h.1 cond here h.2) h.3

-- before any conjunct nothing is asked
pub asks_none : (block : Block) (remotes : List Remote) → AreAsksBelow block remotes 0 []
asks_none block remotes ask = (λ h. absurd (Contains-nil ask h), λ h. absurd (omega (arith, h.1)))

-- one conjunct more
pub asks_more : (block : Block) (remotes : List Remote) (i : ℕ) (c : Conjunct) (old new : List Ask) → slice_get block.conjuncts i ≡ Some c
    → AreAsksBelow block remotes i old
    → ((ask : Ask) → Contains new ask ↔ (Contains old ask ⊎ IsAskIn block remotes c.cond ask))
    → AreAsksBelow block remotes (i + 1) new
asks_more block remotes i c old new at below step ask = (λ h. to ((step ask).0 h), from)
  where
    Below : ℕ → Type 0
    Below end = (p : ℕ) × (p < end) × ((d : Conjunct) × (slice_get block.conjuncts p ≡ Some d) × IsAskIn block remotes d.cond ask)

    wider : Below i → Below (i + 1)
    wider h = (h.0, omega (arith, h.1), h.2)

    to : Contains old ask ⊎ IsAskIn block remotes c.cond ask → Below (i + 1)
    to (inl h) = wider ((below ask).0 h)
    to (inr h) = (i, omega arith, (c, at, h))

    some_one : {X : Type 0} {x y : X} → Some x ≡ Some y → x ≡ y
    some_one e = cc

    by : (p : ℕ) (d : Conjunct) → slice_get block.conjuncts p ≡ Some d → IsAskIn block remotes d.cond ask → (p < i) ⊎ (p ≡ i) → Contains old ask ⊎ IsAskIn block remotes c.cond ask
    by p d is asks (inl low) = inl ((below ask).1 (p, low, (d, is, asks)))
    by p d is asks (inr e) =
        inr (subst (λ (x : Conjunct). IsAskIn block remotes x.cond ask) (some_one (sym is ∙ ap (slice_get block.conjuncts) e ∙ at)) asks)

    from : Below (i + 1) → Contains new ask
    from h = (step ask).1 (by h.0 h.2.0 h.2.1 h.2.2 (cases_lt' h.0 h.1))
      where
        cases_lt' : (p : ℕ) → p < i + 1 → (p < i) ⊎ (p ≡ i)
        cases_lt' p low = last (cases_lt p i)
          where
            last : (p < i) ⊎ (i ≤ p) → (p < i) ⊎ (p ≡ i)
            last (inl h) = inl h
            last (inr h) = inr (omega (arith, h, low))

-- the element at a place
pub got_at : {X : Type 0} (xs ys : List X) (k : ℕ) (x : X) → ys ≡ xs → k < length ys → x ≡ get_or ys k x → slice_get xs k ≡ Some x
got_at {X} xs ys k x same low e = subst (λ (l : List X). slice_get l k ≡ Some x) same (slice_get_read ys (length ys) k x refl low e)

-- Accesses that are gathered one behind another.
use Rattle.std.proofs.Common.{◌≡◌, ◌∙◌, ℕ, ◌==◌, ◌&&◌, ◌||◌, Bool, cond, true, false, List, [], ◌∷◌, ◌++◌, Option, Some, None, refl, sym, ap, cond, append_assoc}
use Rattle.std.specs.Prelude.{not}
use Rattle.std.specs.List.{list_any}
use Rattle.std.proofs.lemmas.Bool.{eqb-true, eq-eqb}
use Rattle.std.proofs.lemmas.List.Folds.{list_any-append}
use Rattle.command_line.specs.Steps.{◌>>=◌}
use Rattle.command_line.specs.Accesses.{access_of, accesses_of_items, accesses_of, items_in, is_of_table, tables_differ, if_differ}
use Rattle.command_line.specs.Answers.{with_items}
use Rattle.command_line.specs.declared.command.TableWord.{TableWord}
use Rattle.command_line.specs.declared.command.AccessWord.{AccessWord}
use Rattle.command_line.proofs.TakenLaws.{holds_both}
use Rattle.clap.proofs.WalkLemmas.{both}

-- an element that passes stands in a longer list too
any_front : {X : Type 0} (p : X → Bool) (xs ys : List X) → list_any p xs ≡ true → list_any p (xs ++ ys) ≡ true
any_front p xs ys e = list_any-append p xs ys ∙ ap (λ b. b || list_any p ys) e

any_behind : {X : Type 0} (p : X → Bool) (xs : List X) (x : X) (ys : List X) → p x ≡ true → list_any p (xs ++ x ∷ ys) ≡ true
any_behind p [] x ys e = ap (λ b. b || list_any p ys) e
any_behind p (z ∷ xs) x ys e = by (p z) (any_behind p xs x ys e)
  where
    by : (b : Bool) → list_any p (xs ++ x ∷ ys) ≡ true → (b || list_any p (xs ++ x ∷ ys)) ≡ true
    by true f = refl
    by false f = f

-- tables with two accesses have two in a longer list
differ_front : (xs ys : List AccessWord) → tables_differ xs ≡ false → tables_differ (xs ++ ys) ≡ false
unfolding tables_differ
differ_front [] ys e = absurd cc
differ_front (a ∷ xs) ys e = by (list_any (is_of_table a.table) xs) refl e (λ h. differ_front xs ys h)
  where
    rest : (b : Bool) → tables_differ (xs ++ ys) ≡ false → (b && tables_differ (xs ++ ys)) ≡ false
    rest true f = f
    rest false f = refl

    by : (b : Bool) → list_any (is_of_table a.table) xs ≡ b → (not b && tables_differ xs) ≡ false
        → (tables_differ xs ≡ false → tables_differ (xs ++ ys) ≡ false)
        → (not (list_any (is_of_table a.table) (xs ++ ys)) && tables_differ (xs ++ ys)) ≡ false
    by true f g more = ap (λ c. not c && tables_differ (xs ++ ys)) (any_front (is_of_table a.table) xs ys f)
    by false f g more = rest (not (list_any (is_of_table a.table) (xs ++ ys))) (more g)

-- a table that has an access gets a second one
repeated : (xs : List AccessWord) (a : AccessWord) (ys : List AccessWord) → list_any (is_of_table a.table) xs ≡ true → tables_differ (xs ++ a ∷ ys) ≡ false
unfolding tables_differ
repeated [] a ys e = absurd cc
repeated (b ∷ xs) a ys e = by (b.table == a.table) refl e (λ h. repeated xs a ys h)
  where
    rest : (c : Bool) → tables_differ (xs ++ a ∷ ys) ≡ false → (c && tables_differ (xs ++ a ∷ ys)) ≡ false
    rest true f = f
    rest false f = refl

    by : (same : Bool) → (b.table == a.table) ≡ same → (same || list_any (is_of_table a.table) xs) ≡ true
        → (list_any (is_of_table a.table) xs ≡ true → tables_differ (xs ++ a ∷ ys) ≡ false)
        → (not (list_any (is_of_table b.table) (xs ++ a ∷ ys)) && tables_differ (xs ++ a ∷ ys)) ≡ false
    by true f g more =
        ap (λ c. not c && tables_differ (xs ++ a ∷ ys))
        (any_behind (is_of_table b.table) xs a ys (eq-eqb a.table b.table (sym (eqb-true b.table a.table f))))
    by false f g more = rest (not (list_any (is_of_table b.table) (xs ++ a ∷ ys))) (more g)

-- a table that has no access yet gets one
pub differ_more : (xs : List AccessWord) (a : AccessWord) → tables_differ xs ≡ true → list_any (is_of_table a.table) xs ≡ false
    → tables_differ (xs ++ a ∷ []) ≡ true
unfolding tables_differ
differ_more [] a e f = refl
differ_more (b ∷ xs) a e f =
    let parts = both (not (list_any (is_of_table b.table) xs)) (tables_differ xs) e in
    let none = neither (b.table == a.table) (list_any (is_of_table a.table) xs) f in
    holds_both (not (list_any (is_of_table b.table) (xs ++ a ∷ []))) (tables_differ (xs ++ a ∷ []))
    (ap not (list_any-append (is_of_table b.table) xs (a ∷ [])) ∙ other (list_any (is_of_table b.table) xs) (a.table == b.table) parts.0 (turned (b.table == a.table) (a.table == b.table) none.0 refl))
    (differ_more xs a parts.1 none.1)
  where
    neither : (x y : Bool) → (x || y) ≡ false → (x ≡ false) × (y ≡ false)
    neither true y g = absurd cc
    neither false y g = (refl, g)

    turned : (x y : Bool) → (b.table == a.table) ≡ false → (a.table == b.table) ≡ y → y ≡ false
    turned x true g h = absurd (yes_no (sym g ∙ eq-eqb b.table a.table (sym (eqb-true a.table b.table h))))
      where
        yes_no : false ≡ true → ⊥
        yes_no i = absurd cc
    turned x false g h = refl

    other : (x y : Bool) → not x ≡ true → y ≡ false → not (x || (y || false)) ≡ true
    other true y g h = absurd cc
    other false true g h = absurd cc
    other false false g h = refl

-- the accesses of an item and more
pub with_items-none : (tables : List TableWord) (scan : Bool) (seen : List AccessWord) (item : List ℕ) (items : List (List ℕ)) → access_of tables scan item ≡ None
    → with_items tables scan seen (item ∷ items) ≡ None
unfolding with_items accesses_of_items
with_items-none tables scan seen item items e =
    ap (λ (o : Option AccessWord). (o >>= (λ a. accesses_of_items tables scan items >>= (λ more. Some (a ∷ more)))) >>= (λ more. if_differ (seen ++ more))) e

pub with_items-some : (tables : List TableWord) (scan : Bool) (seen : List AccessWord) (item : List ℕ) (items : List (List ℕ)) (a : AccessWord)
    → access_of tables scan item ≡ Some a → with_items tables scan seen (item ∷ items) ≡ with_items tables scan (seen ++ a ∷ []) items
unfolding with_items accesses_of_items
with_items-some tables scan seen item items a e =
    ap (λ (o : Option AccessWord). (o >>= (λ a. accesses_of_items tables scan items >>= (λ more. Some (a ∷ more)))) >>= (λ more. if_differ (seen ++ more))) e
    ∙ by (accesses_of_items tables scan items)
  where
    by : (o : Option (List AccessWord)) → ((o >>= (λ more. Some (a ∷ more))) >>= (λ more. if_differ (seen ++ more))) ≡ (o >>= (λ more. if_differ ((seen ++ a ∷ []) ++ more)))
    by None = refl
    by (Some more) = ap if_differ (sym (append_assoc seen (a ∷ []) more))

pub with_items-repeated : (tables : List TableWord) (scan : Bool) (seen : List AccessWord) (item : List ℕ) (items : List (List ℕ)) (a : AccessWord)
    → access_of tables scan item ≡ Some a → list_any (is_of_table a.table) seen ≡ true → with_items tables scan seen (item ∷ items) ≡ None
unfolding with_items accesses_of_items
with_items-repeated tables scan seen item items a e f =
    ap (λ (o : Option AccessWord). (o >>= (λ a. accesses_of_items tables scan items >>= (λ more. Some (a ∷ more)))) >>= (λ more. if_differ (seen ++ more))) e
    ∙ by (accesses_of_items tables scan items)
  where
    by : (o : Option (List AccessWord)) → ((o >>= (λ more. Some (a ∷ more))) >>= (λ more. if_differ (seen ++ more))) ≡ None
    by None = refl
    by (Some more) = ap (λ b. cond b (Some (seen ++ a ∷ more)) None) (repeated seen a more f)

-- the accesses of no item
pub with_items-end : (tables : List TableWord) (scan : Bool) (seen : List AccessWord) → tables_differ seen ≡ true → with_items tables scan seen [] ≡ Some seen
unfolding with_items accesses_of_items
with_items-end tables scan seen e =
    ap if_differ (append_nil seen) ∙ ap (λ b. cond b (Some seen) None) e
  where
    append_nil : {X : Type 0} (xs : List X) → xs ++ [] ≡ xs
    append_nil [] = refl
    append_nil (x ∷ xs) = ap (λ ys. x ∷ ys) (append_nil xs)

-- the accesses of two options are those of one, and then of the other
pub in_turn : (tables : List TableWord) (index lookup : Option (List ℕ))
    → accesses_of tables index lookup ≡ (with_items tables true [] (items_in index) >>= (λ seen. with_items tables false seen (items_in lookup)))
unfolding with_items
in_turn tables index lookup = by (accesses_of_items tables true (items_in index))
  where
    second : Option (List AccessWord)
    second = accesses_of_items tables false (items_in lookup)

    late : (o : Option (List AccessWord)) (xs : List AccessWord) → tables_differ xs ≡ false → (o >>= (λ ys. if_differ (xs ++ ys))) ≡ None
    late None xs f = refl
    late (Some ys) xs f = ap (λ b. cond b (Some (xs ++ ys)) None) (differ_front xs ys f)

    keep : (b : Bool) (xs : List AccessWord) → tables_differ xs ≡ b
        → (second >>= (λ ys. if_differ (xs ++ ys))) ≡ (cond b (Some xs) None >>= (λ seen. second >>= (λ ys. if_differ (seen ++ ys))))
    keep true xs f = refl
    keep false xs f = late second xs f

    by : (o : Option (List AccessWord)) → (o >>= (λ xs. second >>= (λ ys. if_differ (xs ++ ys))))
        ≡ ((o >>= (λ xs. if_differ ([] ++ xs))) >>= (λ seen. second >>= (λ ys. if_differ (seen ++ ys))))
    by None = refl
    by (Some xs) = keep (tables_differ xs) xs refl

-- no access is one of each table at most
pub differ_none : tables_differ [] ≡ true
unfolding tables_differ
differ_none = refl

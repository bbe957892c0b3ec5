-- A flat list of values against the rows that it stands for.
use Rattle.std.proofs.Common.{◌≡◌, ℕ, zero, suc, ◌+◌, ◌*◌, ◌<◌, ◌≤◌, List, [], ◌∷◌, ◌++◌, length, take, drop, get_or, Option, Some, None, refl, ap, sym, ◌∙◌, arith, subst}
use Rattle.std.specs.Prelude.{option_and_then, slice_get, All, IfSome}
use Rattle.std.proofs.lemmas.List.{take-append-le, drop-append-le, length-append, length-drop, take_all}
use Rattle.std.proofs.lemmas.Option.{slice_get-get_or, slice_get_within, get_or_from_slice_get}
use Rattle.std.proofs.lemmas.List.Elements.{All-append, All-push, All-same}
use Rattle.std.proofs.lemmas.Nat.{mul-add-lt}
use Rattle.sq_value.specs.Relation.{IsRow, HasKind, rows_of}
use Rattle.sq_value.specs.declared.value.Value.{Value}
use Rattle.sq_value.specs.Flat.{IsFlat}
use Rattle.sq_value.specs.declared.table.Column.{Column}
use Rattle.sq_value.specs.declared.table.Table.TheInside.{Inside}

-- as many rows as were asked for
pub length-rows_of : (w n : ℕ) (vs : List Value) → length (rows_of w n vs) ≡ n
unfolding rows_of
length-rows_of w zero vs = refl
length-rows_of w (suc n) vs = ap (λ (k : ℕ). suc k) (length-rows_of w n (drop w vs))

-- a row behind the values is a row behind the rows
pub rows_of-push : (w n : ℕ) (vs row : List Value) → length vs ≡ n * w → length row ≡ w
    → rows_of w (suc n) (vs ++ row) ≡ rows_of w n vs ++ (row ∷ [])
unfolding rows_of
rows_of-push w zero [] row e f = ap (λ (r : List Value). r ∷ []) (take_all w row (omega arith))
rows_of-push w zero (v ∷ vs) row e f = absurd (omega arith)
rows_of-push w (suc n) vs row e f =
    let long : w ≤ length vs = omega arith in
    let left : length (drop w vs) ≡ n * w = omega (arith, length-drop w vs) in
    let front : take w (vs ++ row) ≡ take w vs = take-append-le w vs row long in
    let back : drop w (vs ++ row) ≡ drop w vs ++ row = drop-append-le w vs row long in
    ap (λ (r : List Value). r ∷ rows_of w (suc n) (drop w (vs ++ row))) front
    ∙ ap (λ (more : List Value). take w vs ∷ rows_of w (suc n) more) back
    ∙ ap (λ (rs : List (List Value)). take w vs ∷ rs) (rows_of-push w n (drop w vs) row left f)

-- rows behind rows
pub rows_of-append : (w n m : ℕ) (vs ws : List Value) → length vs ≡ n * w → rows_of w (n + m) (vs ++ ws) ≡ rows_of w n vs ++ rows_of w m ws
unfolding rows_of
rows_of-append w zero m [] ws e =
    let same : zero + m ≡ m = omega arith in
    ap (λ (k : ℕ). rows_of w k ws) same
rows_of-append w zero m (v ∷ vs) ws e = absurd (omega arith)
rows_of-append w (suc n) m vs ws e =
    let long : w ≤ length vs = omega arith in
    let left : length (drop w vs) ≡ n * w = omega (arith, length-drop w vs) in
    let same : suc n + m ≡ suc (n + m) = omega arith in
    ap (λ (k : ℕ). rows_of w k (vs ++ ws)) same
    ∙ ap (λ (r : List Value). r ∷ rows_of w (n + m) (drop w (vs ++ ws))) (take-append-le w vs ws long)
    ∙ ap (λ (more : List Value). take w vs ∷ rows_of w (n + m) more) (drop-append-le w vs ws long)
    ∙ ap (λ (rs : List (List Value)). take w vs ∷ rs) (rows_of-append w n m (drop w vs) ws left)

-- what stands behind a front
slice_get-drop : {X : Type 0} (n : ℕ) (xs : List X) (i : ℕ) → slice_get (drop n xs) i ≡ slice_get xs (n + i)
slice_get-drop zero xs i = ap (slice_get xs) (omega arith)
slice_get-drop (suc n) [] i = refl
slice_get-drop (suc n) (x ∷ xs) i =
    let same : suc (n + i) ≡ suc n + i = omega arith in
    slice_get-drop n xs i ∙ ap (slice_get (x ∷ xs)) same

-- what stands in a front
slice_get-take : {X : Type 0} (n : ℕ) (xs : List X) (i : ℕ) → i < n → slice_get (take n xs) i ≡ slice_get xs i
slice_get-take zero xs i h = absurd (omega arith)
slice_get-take (suc n) [] i h = refl
slice_get-take (suc n) (x ∷ xs) zero h = refl
slice_get-take (suc n) (x ∷ xs) (suc i) h = slice_get-take n xs i (omega arith)

-- the value at a row and a column stands at one place of the flat list
pub cell-rows_of : (w n : ℕ) (vs : List Value) (r c : ℕ) → r < n → c < w
    → option_and_then (λ cells. slice_get cells c) (slice_get (rows_of w n vs) r) ≡ slice_get vs (r * w + c)
unfolding rows_of
cell-rows_of w zero vs r c h k = absurd (omega arith)
cell-rows_of w (suc n) vs zero c h k =
    let same : c ≡ zero * w + c = omega arith in
    slice_get-take w vs c k ∙ ap (slice_get vs) same
cell-rows_of w (suc n) vs (suc r) c h k =
    let same : w + (r * w + c) ≡ suc r * w + c = omega arith in
    cell-rows_of w n (drop w vs) r c (omega arith) k ∙ slice_get-drop w vs (r * w + c) ∙ ap (slice_get vs) same

-- a row is as long as the heading
pub length-IsRow : (cs : List Column) (vs : List Value) → IsRow cs vs → length vs ≡ length cs
length-IsRow [] [] h = refl
length-IsRow [] (v ∷ vs) h = absurd h
length-IsRow (c ∷ cs) [] h = absurd h
length-IsRow (c ∷ cs) (v ∷ vs) h = ap (λ (k : ℕ). suc k) (length-IsRow cs vs h.1)

-- a value of a row is of its column's type
pub HasKind-from_row : (cs : List Column) (vs : List Value) (i : ℕ) (v : Value) → IsRow cs vs → slice_get vs i ≡ Some v
    → IfSome (slice_get cs i) (λ c. HasKind c.kind v)
HasKind-from_row [] [] i v h e = absurd cc
HasKind-from_row [] (w ∷ vs) i v h e = absurd h
HasKind-from_row (c ∷ cs) [] i v h e = absurd h
HasKind-from_row (c ∷ cs) (w ∷ vs) zero v h e =
    let same : w ≡ v = cc in
    subst (HasKind c.kind) same h.0
HasKind-from_row (c ∷ cs) (w ∷ vs) (suc i) v h e = HasKind-from_row cs vs i v h.1 e

-- what a value of a flat table is
pub record IsValueAt (cs : List Column) (n : ℕ) (vs : List Value) (r c : ℕ) (v : Value) : Type 0 where
  pub at : option_and_then (λ cells. slice_get cells c) (slice_get (rows_of (length cs) n vs) r) ≡ Some v
  pub kind : IfSome (slice_get cs c) (λ col. HasKind col.kind v)

-- the place of a row and a column is within the values
pub place-lt : (w n : ℕ) (vs : List Value) (r c : ℕ) → length vs ≡ n * w → r < n → c < w → r * w + c < length vs
place-lt w n vs r c e h k = omega (arith, mul-add-lt r w c n h k)

-- a cell of rows that fit is of its column's type
kind_of-cell : (cs : List Column) (rows : List (List Value)) (r c : ℕ) (v : Value) → All (IsRow cs) rows
    → option_and_then (λ cells. slice_get cells c) (slice_get rows r) ≡ Some v → IfSome (slice_get cs c) (λ col. HasKind col.kind v)
kind_of-cell cs rows r c v all e = by (slice_get rows r) refl e
  where
    by : (o : Option (List Value)) → slice_get rows r ≡ o → option_and_then (λ cells. slice_get cells c) o ≡ Some v
        → IfSome (slice_get cs c) (λ col. HasKind col.kind v)
    by None is got = absurd cc
    by (Some row) is got =
        let here : get_or rows r [] ≡ row = get_or_from_slice_get rows r row [] is in
        let fits : IsRow cs (get_or rows r []) = all r [] (slice_get_within rows r row is) in
        HasKind-from_row cs row c v (subst (IsRow cs) here fits) got

-- the value at the place of a row and a column
pub IsValueAt-flat : (cs : List Column) (n : ℕ) (vs : List Value) (r c w : ℕ) (v : Value) → length vs ≡ n * length cs
    → All (IsRow cs) (rows_of (length cs) n vs) → r < n → c < length cs → w ≡ length cs → v ≡ get_or vs (r * w + c) v → IsValueAt cs n vs r c v
IsValueAt-flat cs n vs r c w v e all h k wide is =
    let here : get_or vs (r * w + c) v ≡ get_or vs (r * length cs + c) v = ap (λ (m : ℕ). get_or vs (r * m + c) v) wide in
    let place : slice_get vs (r * length cs + c) ≡ Some v =
    slice_get-get_or vs (r * length cs + c) v (place-lt (length cs) n vs r c e h k) ∙ ap (λ (x : Value). Some x) (sym here ∙ sym is) in
    let at : option_and_then (λ cells. slice_get cells c) (slice_get (rows_of (length cs) n vs) r) ≡ Some v =
    cell-rows_of (length cs) n vs r c h k ∙ place in
    record { at = at; kind = kind_of-cell cs (rows_of (length cs) n vs) r c v all at }

-- what a push leaves
pub record IsPushed (cs : List Column) (n : ℕ) (vs row ws : List Value) : Type 0 where
  pub full : length ws ≡ (n + 1) * length cs
  pub rows : rows_of (length cs) (n + 1) ws ≡ rows_of (length cs) n vs ++ (row ∷ [])
  pub each : All (IsRow cs) (rows_of (length cs) (n + 1) ws)

pub IsPushed-append : (cs : List Column) (n : ℕ) (vs row ws : List Value) → ws ≡ vs ++ row → length vs ≡ n * length cs
    → All (IsRow cs) (rows_of (length cs) n vs) → IsRow cs row → IsPushed cs n vs row ws
IsPushed-append cs n vs row ws e f all h =
    let long = length-IsRow cs row h in
    let same : n + 1 ≡ suc n = omega arith in
    let rows : rows_of (length cs) (n + 1) ws ≡ rows_of (length cs) n vs ++ (row ∷ []) =
    ap (λ (m : ℕ). rows_of (length cs) m ws) same ∙ ap (rows_of (length cs) (suc n)) e ∙ rows_of-push (length cs) n vs row f long in
    record {
      full = ap (length {A = Value}) e ∙ omega (arith, length-append vs row, long, f);
      rows = rows;
      each = All-same (IsRow cs) _ _ rows (All-push (IsRow cs) (rows_of (length cs) n vs) row all h);
    }

-- what the rows of another table behind its own leave
pub record IsJoined (cs : List Column) (n m : ℕ) (vs us ws : List Value) : Type 0 where
  pub full : length ws ≡ (n + m) * length cs
  pub rows : rows_of (length cs) (n + m) ws ≡ rows_of (length cs) n vs ++ rows_of (length cs) m us
  pub each : All (IsRow cs) (rows_of (length cs) (n + m) ws)

-- what moving all rows of another table leaves
pub IsJoined-append : (cs : List Column) (n m : ℕ) (vs us ws : List Value) → ws ≡ vs ++ us → length vs ≡ n * length cs → length us ≡ m * length cs
    → All (IsRow cs) (rows_of (length cs) n vs) → All (IsRow cs) (rows_of (length cs) m us) → IsJoined cs n m vs us ws
IsJoined-append cs n m vs us ws e f g all more =
    let rows : rows_of (length cs) (n + m) ws ≡ rows_of (length cs) n vs ++ rows_of (length cs) m us =
    ap (rows_of (length cs) (n + m)) e ∙ rows_of-append (length cs) n m vs us f in
    record {
      full = ap (length {A = Value}) e ∙ omega (arith, length-append vs us, f, g);
      rows = rows;
      each = All-same (IsRow cs) _ _ rows (All-append (IsRow cs) (rows_of (length cs) n vs) (rows_of (length cs) m us) all more);
    }

-- the same of two flat tables of the same columns
pub IsJoined-flat : (s o : Inside) (vs : List Value) → IsFlat s → IsFlat o → o.columns.items ≡ s.columns.items → vs ≡ s.values.items ++ o.values.items
    → IsJoined s.columns.items s.rows o.rows s.values.items o.values.items vs
IsJoined-flat s o vs f g same e =
    let wide : length o.values.items ≡ o.rows * length s.columns.items =
    subst (λ (cs : List Column). length o.values.items ≡ o.rows * length cs) same g.full in
    let each : All (IsRow s.columns.items) (rows_of (length s.columns.items) o.rows o.values.items) =
    subst (λ (cs : List Column). All (IsRow cs) (rows_of (length cs) o.rows o.values.items)) same g.each in
    IsJoined-append _ _ _ _ _ _ e f.full wide f.each each

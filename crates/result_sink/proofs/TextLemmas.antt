-- The text of fields and records, piece by piece.
use Rattle.std.proofs.Common.{◌≡◌, ◌≢◌, ℕ, ◌+◌, ◌<◌, ◌≤◌, Bool, true, false, cond, eqb, ◌==◌, if◌then◌else◌, List, [], ◌∷◌, ◌++◌, length, map, take, drop, get_or, refl, sym, ◌∙◌, ap, subst, arith, append_assoc}
use Rattle.std.proofs.lemmas.List.{take_more, take_all, get_or-map, take-append-drop, length-append, length-map, append-nil}
use Rattle.std.proofs.lemmas.Bool.Decides.{Decides-eqb}
use Rattle.std.specs.List.{flat_map}
use Rattle.std.specs.Prelude.{Option}
use Rattle.outside.specs.Told.{Adds}
use Rattle.outside.proofs.Laws.{Adds-nothing, Adds-twice}
use Rattle.std.proofs.lemmas.List.Concat.{flat_map-append, flat_map-cons}
use Rattle.sq_value.specs.Relation.{Relation}
use Rattle.sq_expr.specs.declared.block.Block.{Block}
use Rattle.bag_meaning.specs.Answer.{answer_text, heading_fields, row_fields}
use Rattle.bag_meaning.specs.declared.combo.Combo.{Combo}
use Rattle.result_sink.specs.Ready.{AddsPart, rows_of_combo, record_text}
use Rattle.csv.proofs.WriteFacts.{escaped-append, row-step}
use Rattle.csv.specs.Writing.{default_writer, escaped, field_text, fields_text, row_body, row_text, is_blank, next_sep}

-- the bytes between quotes of a field of one byte, a quote or not
pub escaped_quote : (b : ℕ) → b ≡ 34 → escaped default_writer (b ∷ []) ≡ 34 ∷ 34 ∷ []
unfolding escaped
escaped_quote b e = rw e refl

pub escaped_other : (b : ℕ) → b ≢ 34 → escaped default_writer (b ∷ []) ≡ b ∷ []
unfolding escaped
escaped_other b n = by (eqb b 34) refl
  where
    by : (t : Bool) → eqb b 34 ≡ t → cond t (34 ∷ b ∷ []) (b ∷ []) ≡ b ∷ []
    by true e = absurd (n ((Decides-eqb b 34).0 e))
    by false e = refl

pub escaped_none : escaped default_writer [] ≡ []
unfolding escaped
escaped_none = refl

-- a loop's step
pub escaped_step : (start line new xs : List ℕ) (i d : ℕ) → i < length xs → line ≡ start ++ escaped default_writer (take i xs)
    → new ≡ line ++ escaped default_writer (get_or xs i d ∷ []) → new ≡ start ++ escaped default_writer (take (i + 1) xs)
escaped_step start line new xs i d h e f =
    let more : escaped default_writer (take (i + 1) xs) ≡ escaped default_writer (take i xs) ++ escaped default_writer (get_or xs i d ∷ []) =
    ap (escaped default_writer) (take_more xs i d h) ∙ escaped-append default_writer (take i xs) (get_or xs i d ∷ []) in
    f ∙ ap (λ (z : List ℕ). z ++ escaped default_writer (get_or xs i d ∷ [])) e
    ∙ append_assoc start (escaped default_writer (take i xs)) (escaped default_writer (get_or xs i d ∷ []))
    ∙ ap (λ (z : List ℕ). start ++ z) (sym more)

pub ruleset escaped_bytes = (escaped_quote, escaped_other)

no_body : (f : List ℕ) (rest : List (List ℕ)) → length (row_body default_writer (f ∷ rest)) ≡ 0 → rest ≡ []
unfolding fields_text
no_body f [] e = refl
no_body f (g ∷ rest) e =
    absurd (omega (arith, length-append (field_text default_writer f) (44 ∷ (field_text default_writer g ++ fields_text default_writer rest))))

nil-from_length : (xs : List ℕ) → length xs ≡ 0 → xs ≡ []
nil-from_length [] e = refl
nil-from_length (x ∷ xs) e = absurd (omega arith)

-- the end of a record that shows no byte
pub row_end_blank : (fields : List (List ℕ)) → row_body default_writer fields ≡ [] → row_text default_writer fields ≡ 34 ∷ 34 ∷ 10 ∷ []
unfolding is_blank fields_text
row_end_blank [] e = refl
row_end_blank (f ∷ []) e =
    let none : field_text default_writer f ≡ [] = sym (append-nil (field_text default_writer f)) ∙ e in
    rw none refl
row_end_blank (f ∷ g ∷ rest) e = absurd (cc (no_body f (g ∷ rest) (ap (length {A = ℕ}) e)))

-- the end of any other
pub row_end_shown : (fields : List (List ℕ)) → row_body default_writer fields ≢ []
    → row_text default_writer fields ≡ row_body default_writer fields ++ (10 ∷ [])
unfolding is_blank fields_text
row_end_shown [] n = absurd (n refl)
row_end_shown (f ∷ []) n = by (length (field_text default_writer f) == 0) refl
  where
    by : (t : Bool) → (length (field_text default_writer f) == 0) ≡ t
        → row_body default_writer (f ∷ []) ++ (cond t (34 ∷ 34 ∷ []) [] ++ 10 ∷ []) ≡ row_body default_writer (f ∷ []) ++ (10 ∷ [])
    by true e =
        let none : field_text default_writer f ≡ [] = nil-from_length (field_text default_writer f) ((Decides-eqb _ 0).0 e) in
        absurd (n (append-nil (field_text default_writer f) ∙ none))
    by false e = refl
row_end_shown (f ∷ g ∷ rest) n = refl

pub ruleset row_ends = (row_end_blank, row_end_shown)

-- a loop's step: a separator and one more field
pub line_step : {X : Type 0} (g : X → List ℕ) (xs : List X) (i : ℕ) (x : X) (line mid new : List ℕ) → i < length xs → x ≡ get_or xs i x
    → line ≡ row_body default_writer (take i (map g xs)) → mid ≡ line ++ next_sep default_writer i
    → new ≡ mid ++ field_text default_writer (g x) → new ≡ row_body default_writer (take (i + 1) (map g xs))
line_step g xs i x line mid new h is e f k =
    let within : i < length (map g xs) = omega (arith, length-map xs g) in
    let more = row-step default_writer (map g xs) i within in
    k ∙ ap (λ (z : List ℕ). z ++ field_text default_writer (g x)) f
    ∙ append_assoc line (next_sep default_writer i) (field_text default_writer (g x))
    ∙ ap (λ (z : List ℕ). z ++ (next_sep default_writer i ++ field_text default_writer (g x))) e
    ∙ ap (λ (z : List ℕ). row_body default_writer (take i (map g xs)) ++ (next_sep default_writer i ++ field_text default_writer z)) (sym (get_or-map g xs i x [] h ∙ ap g (sym is)))
    ∙ sym more

-- a loop's end: every field stands in the line
pub line_end : {X : Type 0} (g : X → List ℕ) (xs : List X) (i : ℕ) (line : List ℕ) → length xs ≤ i
    → line ≡ row_body default_writer (take i (map g xs)) → line ≡ row_body default_writer (map g xs)
line_end g xs i line h e = e ∙ ap (row_body default_writer) (take_all i (map g xs) (omega (arith, length-map xs g)))

-- what `finish_record` adds
pub finished_blank : (old new : List ℕ) (fields : List (List ℕ)) → length old ≡ 0 → new ≡ old ++ (34 ∷ 34 ∷ 10 ∷ [])
    → old ≡ row_body default_writer fields → new ≡ row_text default_writer fields
finished_blank old new fields none e f =
    let empty = nil-from_length old none in
    e ∙ ap (λ (z : List ℕ). z ++ (34 ∷ 34 ∷ 10 ∷ [])) empty ∙ sym (row_end_blank fields (sym f ∙ empty))

pub finished_shown : (old new : List ℕ) (fields : List (List ℕ)) → length old ≢ 0 → new ≡ old ++ (10 ∷ [])
    → old ≡ row_body default_writer fields → new ≡ row_text default_writer fields
finished_shown old new fields some e f =
    e ∙ ap (λ (z : List ℕ). z ++ (10 ∷ [])) f ∙ sym (row_end_shown fields (λ none. some (ap (length {A = ℕ}) (f ∙ none))))

-- a text made of all items begins with what the first ones make, and what the next one makes
pub flat_map-split : {X A : Type 0} (f : X → List A) (xs : List X) (i : ℕ) (d : X) → i < length xs
    → flat_map f xs ≡ (flat_map f (take i xs) ++ f (get_or xs i d)) ++ flat_map f (drop (i + 1) xs)
flat_map-split {X = X} {A = A} f xs i d h =
    let x : X = get_or xs i d in
    let one : flat_map f (x ∷ []) ≡ f x = flat_map-cons f x [] ∙ append-nil (f x) in
    ap (flat_map f) (sym (take-append-drop (i + 1) xs)) ∙ flat_map-append f (take (i + 1) xs) (drop (i + 1) xs)
    ∙ ap (λ (ys : List X). flat_map f ys ++ flat_map f (drop (i + 1) xs)) (take_more xs i d h)
    ∙ ap (λ (z : List A). z ++ flat_map f (drop (i + 1) xs)) (flat_map-append f (take i xs) (x ∷ []))
    ∙ ap (λ (z : List A). (flat_map f (take i xs) ++ z) ++ flat_map f (drop (i + 1) xs)) one

flat_map-map : {X Y A : Type 0} (f : Y → List A) (g : X → Y) (xs : List X) → flat_map f (map g xs) ≡ flat_map (λ x. f (g x)) xs
flat_map-map f g [] = refl
flat_map-map {A = A} f g (x ∷ xs) =
    flat_map-cons f (g x) (map g xs) ∙ ap (λ (z : List A). f (g x) ++ z) (flat_map-map f g xs) ∙ sym (flat_map-cons (λ y. f (g y)) x xs)

-- the text of an answer: its heading, and a record for each combination
pub answer_text-combos : (block : Block) (tables : List Relation) (combos : List Combo)
    → answer_text block tables (map (rows_of_combo block) combos)
    ≡ row_text default_writer (heading_fields block) ++ flat_map (record_text block tables) combos
unfolding answer_text
answer_text-combos block tables combos =
    ap (λ (z : List ℕ). row_text default_writer (heading_fields block) ++ z)
    (flat_map-map (λ rows. row_text default_writer (row_fields block tables rows)) (rows_of_combo block) combos)

-- ---- a part of a text

-- a text that isn't empty, of which nothing was added
pub AddsPart-nothing : (told : Option (List ℕ)) (text : List ℕ) → text ≢ [] → AddsPart told told text
AddsPart-nothing told text some = ([], text, refl, some, Adds-nothing told)

-- a text, and then a part of the next
pub AddsPart-after : (old mid new : Option (List ℕ)) (first second : List ℕ)
    → Adds old mid first → AddsPart mid new second → AddsPart old new (first ++ second)
AddsPart-after old mid new first second h (front, rest, split, some, k) =
    (first ++ front, rest, ap (λ (w : List ℕ). first ++ w) split ∙ sym (append_assoc first front rest), some, Adds-twice old mid new first front h k)

-- a part of a text is one of what begins with it
pub AddsPart-longer : (old new : Option (List ℕ)) (text more : List ℕ) → AddsPart old new text → AddsPart old new (text ++ more)
AddsPart-longer old new text more (front, rest, split, some, k) =
    (front, rest ++ more, ap (λ (w : List ℕ). w ++ more) split ∙ append_assoc front rest more, still rest some, k)
  where
    still : (xs : List ℕ) → xs ≢ [] → xs ++ more ≢ []
    still [] n = absurd (n refl)
    still (x ∷ xs) n = λ e. cc

-- a record's text ends with a line feed, so it is never empty
pub row_text-some : (fields : List (List ℕ)) → row_text default_writer fields ≢ []
row_text-some fields e =
    let blank = if is_blank default_writer fields then 34 ∷ 34 ∷ [] else [] in
    let long = length-append (row_body default_writer fields) (blank ++ (10 ∷ [])) in
    let end = length-append blank (10 ∷ []) in
    absurd (omega (arith, long, end, ap (length {A = ℕ}) e))

-- ---- texts that are added part by part

-- what was added is the text of the items before those that are left
abbrev pub AddsBefore : {X : Type 0} → (X → List ℕ) → List X → List X → Option (List ℕ) → Option (List ℕ) → Type 0
AddsBefore {X} f xs rest old now = (front : List X) × (xs ≡ front ++ rest) × Adds old now (flat_map f front)

pub AddsBefore-start : {X : Type 0} (f : X → List ℕ) (xs : List X) (told : Option (List ℕ)) → AddsBefore f xs xs told told
AddsBefore-start f xs told = ([], refl, Adds-nothing told)

-- the text of three parts
pub flat_map-parts : {X : Type 0} (f : X → List ℕ) (xs front rest some more : List X) → xs ≡ front ++ rest → rest ≡ some ++ more
    → flat_map f xs ≡ (flat_map f front ++ flat_map f some) ++ flat_map f more
flat_map-parts {X = X} f xs front rest some more e k =
    ap (flat_map f) (e ∙ ap (λ (z : List X). front ++ z) k) ∙ flat_map-append f front (some ++ more)
    ∙ ap (λ (z : List ℕ). flat_map f front ++ z) (flat_map-append f some more)
    ∙ sym (append_assoc (flat_map f front) (flat_map f some) (flat_map f more))

-- one part more
pub AddsBefore-more : {X : Type 0} (f : X → List ℕ) (xs rest some more : List X) (old mid new : Option (List ℕ))
    → rest ≡ some ++ more → AddsBefore f xs rest old mid → Adds mid new (flat_map f some) → AddsBefore f xs more old new
AddsBefore-more {X = X} f xs rest some more old mid new k (front, e, h) step = (
  front ++ some,
  e ∙ ap (λ (z : List X). front ++ z) k ∙ sym (append_assoc front some more),
  subst (Adds old new) (sym (flat_map-append f front some)) (Adds-twice old mid new (flat_map f front) (flat_map f some) h step),
)

-- none is left
pub AddsBefore-all : {X : Type 0} (f : X → List ℕ) (xs rest : List X) (old new : Option (List ℕ)) → length rest ≡ 0
    → AddsBefore f xs rest old new → Adds old new (flat_map f xs)
AddsBefore-all f xs [] old new none (front, e, h) = subst (λ ys. Adds old new (flat_map f ys)) (sym (e ∙ append-nil front)) h
AddsBefore-all f xs (x ∷ rest) old new none before = absurd (omega arith)

-- the records of some combinations aren't nothing
pub records-some : (block : Block) (tables : List Relation) (combos : List Combo) → 0 < length combos → flat_map (record_text block tables) combos ≢ []
records-some block tables [] some = absurd (omega arith)
records-some block tables (c ∷ combos) some = λ e.
    row_text-some (row_fields block tables (rows_of_combo block c))
    (first (record_text block tables c) (flat_map (record_text block tables) combos) (sym (flat_map-cons (record_text block tables) c combos) ∙ e))
  where
    first : (x y : List ℕ) → x ++ y ≡ [] → x ≡ []
    first [] y e = refl
    first (a ∷ x) y e = absurd (cc e)

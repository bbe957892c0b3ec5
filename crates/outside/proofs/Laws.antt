-- What callers need of counts of faults, of what sinks tell, and of files that are read.
use Rattle.std.proofs.Common.{◌≡◌, ℕ, ◌+◌, ◌<◌, ◌≤◌, List, [], ◌∷◌, ◌++◌, length, take, drop, get_or, Option, None, Some, Result, Ok, Err, refl, sym, ap, ◌∙◌, subst, append_assoc, arith}
use Rattle.std.specs.Prelude.{OnErr, option_map}
use Rattle.std.proofs.lemmas.List.{append-nil, length-take, take_all, take_more, take-append-drop}
use Rattle.std.proofs.lemmas.Grind.{flat_map-append}
use Rattle.std.specs.List.{flat_map}
use Rattle.outside.specs.Faults.{RoseOrFull, NeverFalls}
use Rattle.outside.specs.Told.{Adds, AddsFront}

-- a count that rose has risen at any later time
pub RoseOrFull-later : (before now later : ℕ) → RoseOrFull before now → NeverFalls now later → RoseOrFull before later
RoseOrFull-later before now later rose stays = omega arith

-- and seen from any earlier time
pub RoseOrFull-earlier : (earlier before now : ℕ) → NeverFalls earlier before → RoseOrFull before now → RoseOrFull earlier now
RoseOrFull-earlier earlier before now stays rose = omega arith

-- nothing was put
pub Adds-nothing : (told : Option (List ℕ)) → Adds told told []
Adds-nothing None = tt
Adds-nothing (Some xs) = sym (append-nil xs)

-- two texts in a row are one text
pub Adds-twice : (old mid new : Option (List ℕ)) (first second : List ℕ)
    → Adds old mid first → Adds mid new second → Adds old new (first ++ second)
Adds-twice None None None first second h k = tt
Adds-twice None None (Some z) first second h k = k
Adds-twice None (Some y) new first second h k = absurd h
Adds-twice (Some x) None None first second h k = tt
Adds-twice (Some x) None (Some z) first second h k = absurd k
Adds-twice (Some x) (Some y) None first second h k = tt
Adds-twice (Some x) (Some y) (Some z) first second h k =
    k ∙ ap (λ (w : List ℕ). w ++ second) h ∙ append_assoc x first second

-- the whole text is a front of it
pub AddsFront-whole : (old new : Option (List ℕ)) (text : List ℕ) → Adds old new text → AddsFront old new text
AddsFront-whole old new text h = (text, [], sym (append-nil text), h)

-- nothing is a front of any text
pub AddsFront-nothing : (told : Option (List ℕ)) (text : List ℕ) → AddsFront told told text
AddsFront-nothing told text = ([], text, refl, Adds-nothing told)

-- a text, and then a front of the next
pub AddsFront-after : (old mid new : Option (List ℕ)) (first second : List ℕ)
    → Adds old mid first → AddsFront mid new second → AddsFront old new (first ++ second)
AddsFront-after old mid new first second h (front, rest, split, k) =
    (first ++ front, rest, ap (λ (w : List ℕ). first ++ w) split ∙ sym (append_assoc first front rest), Adds-twice old mid new first front h k)

-- a front of a text is a front of what begins with it
pub AddsFront-longer : (old new : Option (List ℕ)) (text more : List ℕ)
    → AddsFront old new text → AddsFront old new (text ++ more)
AddsFront-longer old new text more (front, rest, split, k) =
    (front, rest ++ more, ap (λ (w : List ℕ). w ++ more) split ∙ append_assoc front rest more, k)

-- a text, a front of the next, and a whole that begins with both
pub AddsFront-within : (old mid new : Option (List ℕ)) (first second more text : List ℕ) → text ≡ (first ++ second) ++ more
    → Adds old mid first → AddsFront mid new second → AddsFront old new text
AddsFront-within old mid new first second more text split h k =
    subst (AddsFront old new) (sym split)
    (AddsFront-longer old new (first ++ second) more (AddsFront-after old mid new first second h k))

-- a text, and then a last put that may fail
pub AddsFront-at_err : {T E : Type 0} (r : Result T E) (old mid new : Option (List ℕ)) (first second : List ℕ)
    → Adds old mid first → OnErr r (AddsFront mid new second) → OnErr r (AddsFront old new (first ++ second))
AddsFront-at_err (Ok x) old mid new first second h k = tt
AddsFront-at_err (Err e) old mid new first second h k = AddsFront-after old mid new first second h k

-- the texts of all items: those before one, its own, and those behind it
flat_map-split : {X : Type 0} (f : X → List ℕ) (xs : List X) (i : ℕ) (d : X) → i < length xs
    → flat_map f xs ≡ (flat_map f (take i xs) ++ f (get_or xs i d)) ++ flat_map f (drop (i + 1) xs)
flat_map-split f xs i d h =
    let whole : flat_map f xs ≡ flat_map f (take (i + 1) xs ++ drop (i + 1) xs) =
    ap (flat_map f) (sym (take-append-drop (i + 1) xs)) in
    let parts : flat_map f (take (i + 1) xs ++ drop (i + 1) xs) ≡ flat_map f (take (i + 1) xs) ++ flat_map f (drop (i + 1) xs) =
    flat_map-append f (take (i + 1) xs) (drop (i + 1) xs) in
    let more : flat_map f (take (i + 1) xs) ≡ flat_map f (take i xs ++ (get_or xs i d ∷ [])) =
    ap (flat_map f) (take_more xs i d h) in
    let last : flat_map f (take i xs ++ (get_or xs i d ∷ [])) ≡ flat_map f (take i xs) ++ (f (get_or xs i d) ++ []) =
    flat_map-append f (take i xs) (get_or xs i d ∷ []) in
    let bare : f (get_or xs i d) ++ [] ≡ f (get_or xs i d) = append-nil (f (get_or xs i d)) in
    whole ∙ parts ∙ ap (λ (w : List ℕ). w ++ flat_map f (drop (i + 1) xs)) (more ∙ last ∙ ap (λ (w : List ℕ). flat_map f (take i xs) ++ w) bare)

-- in a loop that puts the text of each item: what was put before one, and a front of its text
pub AddsFront-at_item : {X : Type 0} (f : X → List ℕ) (xs : List X) (i : ℕ) (x : X) (old mid new : Option (List ℕ))
    → i < length xs → x ≡ get_or xs i x → Adds old mid (flat_map f (take i xs)) → AddsFront mid new (f x)
    → AddsFront old new (flat_map f xs)
AddsFront-at_item f xs i x old mid new h item before at =
    let split : flat_map f xs ≡ (flat_map f (take i xs) ++ f x) ++ flat_map f (drop (i + 1) xs) =
    flat_map-split f xs i x h ∙ ap (λ y. (flat_map f (take i xs) ++ f y) ++ flat_map f (drop (i + 1) xs)) (sym item) in
    AddsFront-within old mid new (flat_map f (take i xs)) (f x) (flat_map f (drop (i + 1) xs)) (flat_map f xs) split before at

-- where fewer bytes came than the limit, they are the whole file
pub read-whole : (found : Option (List ℕ)) (limit : ℕ) (bytes : List ℕ)
    → option_map (take limit) found ≡ Some bytes → length bytes < limit → found ≡ Some bytes
read-whole None limit bytes e h = cc
read-whole (Some xs) limit bytes e h =
    let same : take limit xs ≡ bytes = cc in
    let short : length xs ≤ limit = omega (arith, length-take limit xs, ap length same) in
    ap Some (sym (take_all limit xs short) ∙ same)

-- the laws of what is told, for a search in a caller
pub ruleset puts = (Adds-nothing, Adds-twice, AddsFront-whole, AddsFront-nothing, AddsFront-after, AddsFront-longer, AddsFront-at_err, AddsFront-at_item)

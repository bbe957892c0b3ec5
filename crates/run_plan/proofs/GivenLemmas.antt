-- What is given of files that are loaded, one each of some words.
use Rattle.std.proofs.Common.{◌≡◌, ℕ, ◌+◌, ◌<◌, ◌≤◌, List, [], ◌∷◌, ◌++◌, length, take, drop, get_or, Option, Some, None, refl, sym, ◌∙◌, ap, subst, arith, append_assoc}
use Rattle.std.specs.Prelude.{map}
use Rattle.std.proofs.lemmas.List.{take_more, take-append-drop, length-append, length-map, length-take-le, map-append}
use Rattle.outside.specs.Files.{File, lookup}
use Rattle.run_plan.specs.Given.{IsFileGiven, AreAllGiven}

-- what is given of a file
abbrev pub Found : Type 0
Found = Option (List ℕ)

-- what is given of a file that a folder was asked for: what it holds, where it tells that, and else what was loaded
abbrev pub found_at : Option (List File) → List ℕ → Found → Found
found_at None name loaded = loaded
found_at (Some files) name loaded = lookup files name

pub is_found : (held : Option (List File)) (name : List ℕ) (loaded : Found) → IsFileGiven name held (found_at held name loaded)
is_found None name loaded files e = absurd cc
is_found (Some given) name loaded files e = let same : given ≡ files = cc in ap (λ (fs : List File). lookup fs name) same

-- the same where the folder is as it was
pub found_before : (name : List ℕ) (old mid : Option (List File)) (found : Found) → mid ≡ old → IsFileGiven name mid found → IsFileGiven name old found
found_before name old mid found same h = subst (λ (o : Option (List File)). IsFileGiven name o found) same h

-- ---- the files of words, in order

-- what a folder that holds these files gives of a word's
abbrev held_at : {W : Type 0} → (W → List ℕ) → List File → W → Found
held_at name_of files w = lookup files (name_of w)

-- of no word
pub found_none : {W : Type 0} (name_of : W → List ℕ) (held : Option (List File)) → AreAllGiven name_of [] held []
found_none name_of held = record { count = refl; held = λ files e. refl }

one_more : {W : Type 0} (name_of : W → List ℕ) (files : List File) (all : List W) (i : ℕ) (word d : W) (founds : List Found) (found : Found)
    → i < length all → word ≡ get_or all i d → founds ≡ map (held_at name_of files) (take i all) → found ≡ held_at name_of files word
    → founds ++ found ∷ [] ≡ map (held_at name_of files) (take (i + 1) all)
one_more {W} name_of files all i word d founds found h is before here =
    ap (λ (xs : List Found). xs ++ found ∷ []) before ∙ ap (λ (x : Found). map (held_at name_of files) (take i all) ++ x ∷ []) here
    ∙ sym (map-append (held_at name_of files) (take i all) (word ∷ []))
    ∙ ap (λ (w : W). map (held_at name_of files) (take i all ++ w ∷ [])) is ∙ ap (map (held_at name_of files)) (sym (take_more all i d h))

-- of one word more
pub found_more : {W : Type 0} (name_of : W → List ℕ) (held : Option (List File)) (all : List W) (i : ℕ) (word d : W) (founds : List Found) (found : Found)
    → i < length all → word ≡ get_or all i d → AreAllGiven name_of (take i all) held founds → IsFileGiven (name_of word) held found
    → AreAllGiven name_of (take (i + 1) all) held (founds ++ found ∷ [])
found_more name_of held all i word d founds found h is before here =
    let now : length (take (i + 1) all) ≡ i + 1 = length-take-le (i + 1) all (omega (arith, h)) in
    let was : length (take i all) ≡ i = length-take-le i all (omega (arith, h)) in
    record {
      count = length-append founds (found ∷ []) ∙ ap (λ (n : ℕ). n + 1) (before.count ∙ was) ∙ sym now;
      held = λ files e. one_more name_of files all i word d founds found h is (before.held files e) (here files e);
    }

-- of files that weren't loaded
abbrev pub unread : {W : Type 0} → (W → List ℕ) → Option (List File) → List W → List Found
unread {W} name_of held words = map (λ (w : W). found_at held (name_of w) None) words

pub unread_found : {W : Type 0} (name_of : W → List ℕ) (held : Option (List File)) (words : List W) → AreAllGiven name_of words held (unread name_of held words)
unread_found {W} name_of held words = record {
  count = length-map words (λ (w : W). found_at held (name_of w) None);
  held = λ files e. ap (λ (o : Option (List File)). unread name_of o words) e;
}

-- of all words, where the rest isn't loaded
pub found_rest : {W : Type 0} (name_of : W → List ℕ) (held : Option (List File)) (all : List W) (i : ℕ) (founds : List Found) → i ≤ length all
    → AreAllGiven name_of (take i all) held founds → AreAllGiven name_of all held (founds ++ unread name_of held (drop i all))
found_rest {W} name_of held all i founds h before =
    let rest = unread_found name_of held (drop i all) in
    let split : length (take i all) + length (drop i all) ≡ length all =
    sym (length-append (take i all) (drop i all)) ∙ ap (λ (ws : List W). length ws) (take-append-drop i all) in
    record {
      count = length-append founds (unread name_of held (drop i all)) ∙ ap (λ (n : ℕ). n + length (unread name_of held (drop i all))) before.count
          ∙ ap (λ (n : ℕ). length (take i all) + n) rest.count ∙ split;
      held = λ files e. ap (λ (xs : List Found). xs ++ unread name_of held (drop i all)) (before.held files e)
          ∙ ap (λ (xs : List Found). map (held_at name_of files) (take i all) ++ xs) (rest.held files e)
          ∙ sym (map-append (held_at name_of files) (take i all) (drop i all)) ∙ ap (map (held_at name_of files)) (take-append-drop i all);
    }

pub found_count : {W : Type 0} (name_of : W → List ℕ) (held : Option (List File)) (all : List W) (i : ℕ) (founds : List Found) → i ≤ length all
    → AreAllGiven name_of (take i all) held founds → length founds ≡ i
found_count name_of held all i founds h before = before.count ∙ length-take-le i all h

-- of the words up to one, and of all where the rest isn't loaded
pub found_through : {W : Type 0} (name_of : W → List ℕ) (held : Option (List File)) (all : List W) (i : ℕ) (word d : W) (founds : List Found) (found : Found)
    → i < length all → word ≡ get_or all i d → AreAllGiven name_of (take i all) held founds → IsFileGiven (name_of word) held found
    → AreAllGiven name_of all held (founds ++ found ∷ unread name_of held (drop (i + 1) all))
found_through name_of held all i word d founds found h is before here =
    subst (AreAllGiven name_of all held) (append_assoc founds (found ∷ []) (unread name_of held (drop (i + 1) all)))
    (found_rest name_of held all (i + 1) (founds ++ found ∷ []) (omega (arith, h)) (found_more name_of held all i word d founds found h is before here))

-- the same where the folder is as it was
pub found_all : {W : Type 0} (name_of : W → List ℕ) (words : List W) (old mid : Option (List File)) (founds : List Found) → mid ≡ old
    → AreAllGiven name_of words mid founds → AreAllGiven name_of words old founds
found_all name_of words old mid founds same h = subst (λ (o : Option (List File)). AreAllGiven name_of words o founds) same h

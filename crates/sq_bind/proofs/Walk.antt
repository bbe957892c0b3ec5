-- A loop over a list that joins what each element gives: what is joined so far and what the rest gives are the whole.
use Rattle.std.proofs.Common.{◌≡◌, ℕ, ◌+◌, ◌<◌, List, ◌∷◌, length, drop, get_or, ap, sym, ◌∙◌}
use Rattle.std.proofs.lemmas.List.{drop_more}

module _ {A B : Type 0} (op : B → B → B) (assoc : (x y z : B) → op (op x y) z ≡ op x (op y z)) (f : ℕ → List A → B) (g : ℕ → A → B)
    (each : (k : ℕ) (x : A) (xs : List A) → f k (x ∷ xs) ≡ op (g k x) (f (k + 1) xs)) where
  -- the next element is joined; elements count from 0
  pub walk : (xs : List A) (i : ℕ) (d : A) (sofar whole : B) → i < length xs → op sofar (f i (drop i xs)) ≡ whole
      → op (op sofar (g i (get_or xs i d))) (f (i + 1) (drop (i + 1) xs)) ≡ whole
  walk xs i d sofar whole within before =
      let x = get_or xs i d in
      assoc sofar (g i x) (f (i + 1) (drop (i + 1) xs))
      ∙ ap (op sofar) (sym (each i x (drop (i + 1) xs)) ∙ ap (f i) (sym (drop_more xs i d within)))
      ∙ before

-- Remotes whose names differ, and items that are gathered one behind another.
use Rattle.std.proofs.Common.{◌≡◌, ◌∙◌, ℕ, ◌≤◌, ◌<◌, ◌-◌, ◌&&◌, Bool, true, List, [], ◌∷◌, ◌++◌, length, take, drop, get_or, refl, ap, append_assoc, arith}
use Rattle.std.specs.Prelude.{map}
use Rattle.command_line.specs.Remotes.{is_new, remotes_differ}
use Rattle.command_line.specs.declared.command.RemoteWord.{RemoteWord}
use Rattle.command_line.specs.declared.command.TableWord.{TableWord}
use Rattle.command_line.proofs.TableLaws.{from_place}

-- whether the names of no remote, and of a remote and more, are new and differ
pub remotes_differ-none : (ts : List TableWord) (rs : List RemoteWord) → length rs < 1 → true ≡ remotes_differ ts rs
unfolding remotes_differ
remotes_differ-none ts [] h = refl
remotes_differ-none ts (r ∷ rs) h = absurd (omega arith)

pub remotes_differ-more : (ts : List TableWord) (rs : List RemoteWord) (r : RemoteWord) (name : List ℕ) (new : Bool) → 1 ≤ length rs
    → r ≡ get_or rs 0 r → name ≡ r.name → new ≡ is_new ts (take (length rs - 1) (drop 1 rs)) name
    → (new && remotes_differ ts (take (length rs - 1) (drop 1 rs))) ≡ remotes_differ ts rs
unfolding remotes_differ
remotes_differ-more ts [] r name new h e f g = absurd (omega arith)
remotes_differ-more ts (u ∷ us) r name new h e f g =
    let all : take (length (u ∷ us) - 1) us ≡ us = from_place 1 (u ∷ us) in
    let same : new ≡ is_new ts us u.name =
    g ∙ ap (λ (vs : List RemoteWord). is_new ts vs name) all ∙ ap (is_new ts us) (f ∙ ap (λ (v : RemoteWord). v.name) e) in
    ap (λ (vs : List RemoteWord). new && remotes_differ ts vs) all ∙ ap (λ b. b && remotes_differ ts us) same

-- one item more, of those that are left
pub one_more : {X Y : Type 0} (f : X → Y) (xs : List Y) (x : X) (rest : List X) → (xs ++ f x ∷ []) ++ map f rest ≡ xs ++ map f (x ∷ rest)
one_more f xs x rest = append_assoc xs (f x ∷ []) (map f rest)

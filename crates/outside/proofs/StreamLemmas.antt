-- What calls in a row do to the bytes of a stream.
use Rattle.std.proofs.Common.{ℕ, ◌+◌, ◌-◌, List, length, take, drop, Option, sym, subst}
use Rattle.std.proofs.lemmas.List.{take-append-drop, take_rest}
use Rattle.std.proofs.Math.Seq.{take-add}
use Rattle.std.specs.Io.KnownBytes.{Appends, Keeps}
use Rattle.std.proofs.KnownBytes.{Appends-trans, Appends-kept}
use Rattle.outside.specs.Streams.{TakesPrefix}

-- a prefix of a piece was taken, and then some of its rest
pub Appends-more : (before mid now : Option (List ℕ)) (piece : List ℕ) (start count : ℕ) → Appends before mid (take start piece)
    → Appends mid now (take count (take (length piece - start) (drop start piece))) → Appends before now (take (start + count) piece)
Appends-more before mid now piece start count first second =
    let more : Appends mid now (take count (drop start piece)) =
    subst (λ rest. Appends mid now (take count rest)) (take_rest piece start) second in
    subst (Appends before now) (sym (take-add start count piece)) (Appends-trans before mid now _ _ first more)

-- a prefix of a piece was taken, and then nothing
pub TakesPrefix-stopped : (before mid now : Option (List ℕ)) (piece : List ℕ) (start : ℕ)
    → Appends before mid (take start piece) → Keeps mid now → TakesPrefix piece before now
TakesPrefix-stopped before mid now piece start taken kept =
    (take start piece, drop start piece, sym (take-append-drop start piece), Appends-kept before mid now _ taken kept)

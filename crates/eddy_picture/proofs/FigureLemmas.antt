-- A lane's counts so far, and the lanes that were taken so far.
use Rattle.std.proofs.Common.{◌≡◌, ℕ, ◌+◌, ◌<◌, Bool, true, false, cond, List, [], ◌∷◌, ◌++◌, length, map, take, ap, sym, ◌∙◌, arith}
use Rattle.std.specs.Prelude.{filter}
use Rattle.std.specs.List.{range_with_len}
use Rattle.std.proofs.Math.ListN.{set}
use Rattle.std.proofs.lemmas.List.{append-nil, length-set, map-id, take_more_set}
use Rattle.std.proofs.lemmas.List.FromFn.{filter_of_map_range_with_len_more, map-range_with_len_more}
use Rattle.eddy_picture.specs.Figures.{was_given, taken_lanes}

-- one part more
pub one_part : (f : ℕ → ℕ) (counts : List ℕ) (part v : ℕ) → part < 10 → length counts ≡ 10 → take part counts ≡ map f (range_with_len 0 part) → v ≡ f part
    → (take (part + 1) (set counts part v) ≡ map f (range_with_len 0 (part + 1))) × (length (set counts part v) ≡ 10)
one_part f counts part v low long so is = (
  take_more_set counts part v (omega (arith, low, long)) ∙ ap (λ (l : List ℕ). l ++ v ∷ []) so
      ∙ ap (λ (x : ℕ). map f (range_with_len 0 part) ++ x ∷ []) is
      ∙ sym (map-range_with_len_more f 0 part part (omega arith)),
  length-set counts part v ∙ long,
)

-- one lane more
one_lane : (given : List ℕ) (lane : ℕ) (b : Bool) → was_given given lane ≡ b → taken_lanes given (lane + 1) ≡ taken_lanes given lane ++ cond b (lane ∷ []) []
unfolding taken_lanes
one_lane given lane b e =
    ap (filter (was_given given)) (sym (map-id (range_with_len 0 (lane + 1))))
    ∙ filter_of_map_range_with_len_more (was_given given) (λ (n : ℕ). n) 0 lane lane (omega arith)
    ∙ ap (λ (l : List ℕ). filter (was_given given) l ++ cond (was_given given lane) (lane ∷ []) []) (map-id (range_with_len 0 lane))
    ∙ ap (λ (t : Bool). filter (was_given given) (range_with_len 0 lane) ++ cond t (lane ∷ []) []) e

pub lane_taken : (given : List ℕ) (lane : ℕ) → was_given given lane ≡ true → taken_lanes given (lane + 1) ≡ taken_lanes given lane ++ lane ∷ []
lane_taken given lane e = one_lane given lane true e

pub lane_left : (given : List ℕ) (lane : ℕ) → was_given given lane ≡ false → taken_lanes given (lane + 1) ≡ taken_lanes given lane
lane_left given lane e = one_lane given lane false e ∙ append-nil (taken_lanes given lane)

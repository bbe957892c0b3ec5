use Rattle.std.proofs.Common.{◌≡◌, ℤ, pos, subst, sym, ℕ, w64, rules}
use mir.Val.{SFits, to_z, of_z}
use Rattle.std.proofs.lemmas.Int.{to_z-of_z}
use Rattle.std.specs.Prelude.{MatchOption}
use Rattle.sq_value.specs.Rank.{millionths}
use Rattle.remote_lookup.proofs.IntegerLemmas.{mapped, renamed, of_1, of_2, of_3, of_4, of_5}
use Rattle.remote_lookup.proofs.integer.whole.Goals as goal

pub returns-in-1 : goal.returns-in-1
returns-in-1 c =
    let units : ℤ = c.args.units in
    let fits : SFits w64 units = search rules in
    subst (λ (scale : ℕ). MatchOption c.divided.result ((k : ℤ) → millionths units scale ≡ millionths k 0 → ⊥) (λ k. millionths units scale ≡ millionths k 0))
    (sym c.in-1.is)
    (mapped c.divided.result (λ none k e. none k ((of_1 units k).1 e)) (λ k e. (of_1 units k).0 e)
    (renamed c.divided.result (to_z w64 (of_z w64 units)) units (pos 10) (to_z-of_z w64 units fits) c.divided.ensures))

pub returns-in-2 : goal.returns-in-2
returns-in-2 c =
    let units : ℤ = c.args.units in
    let fits : SFits w64 units = search rules in
    subst (λ (scale : ℕ). MatchOption c.divided-in-2.result ((k : ℤ) → millionths units scale ≡ millionths k 0 → ⊥) (λ k. millionths units scale ≡ millionths k 0))
    (sym c.in-2.is)
    (mapped c.divided-in-2.result (λ none k e. none k ((of_2 units k).1 e)) (λ k e. (of_2 units k).0 e)
    (renamed c.divided-in-2.result (to_z w64 (of_z w64 units)) units (pos 100) (to_z-of_z w64 units fits) c.divided-in-2.ensures))

pub returns-in-3 : goal.returns-in-3
returns-in-3 c =
    let units : ℤ = c.args.units in
    let fits : SFits w64 units = search rules in
    subst (λ (scale : ℕ). MatchOption c.divided-in-3.result ((k : ℤ) → millionths units scale ≡ millionths k 0 → ⊥) (λ k. millionths units scale ≡ millionths k 0))
    (sym c.in-3.is)
    (mapped c.divided-in-3.result (λ none k e. none k ((of_3 units k).1 e)) (λ k e. (of_3 units k).0 e)
    (renamed c.divided-in-3.result (to_z w64 (of_z w64 units)) units (pos 1000) (to_z-of_z w64 units fits) c.divided-in-3.ensures))

pub returns-in-4 : goal.returns-in-4
returns-in-4 c =
    let units : ℤ = c.args.units in
    let fits : SFits w64 units = search rules in
    subst (λ (scale : ℕ). MatchOption c.divided-in-4.result ((k : ℤ) → millionths units scale ≡ millionths k 0 → ⊥) (λ k. millionths units scale ≡ millionths k 0))
    (sym c.in-4.is)
    (mapped c.divided-in-4.result (λ none k e. none k ((of_4 units k).1 e)) (λ k e. (of_4 units k).0 e)
    (renamed c.divided-in-4.result (to_z w64 (of_z w64 units)) units (pos 10000) (to_z-of_z w64 units fits) c.divided-in-4.ensures))

pub returns-in-5 : goal.returns-in-5
returns-in-5 c =
    let units : ℤ = c.args.units in
    let fits : SFits w64 units = search rules in
    subst (λ (scale : ℕ). MatchOption c.divided-in-5.result ((k : ℤ) → millionths units scale ≡ millionths k 0 → ⊥) (λ k. millionths units scale ≡ millionths k 0))
    (sym c.in-5.is)
    (mapped c.divided-in-5.result (λ none k e. none k ((of_5 units k).1 e)) (λ k e. (of_5 units k).0 e)
    (renamed c.divided-in-5.result (to_z w64 (of_z w64 units)) units (pos 100000) (to_z-of_z w64 units fits) c.divided-in-5.ensures))

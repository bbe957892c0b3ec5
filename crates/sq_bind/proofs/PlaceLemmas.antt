-- The places of conjuncts, in lists that stand one behind the other.
use Rattle.std.proofs.Common.{◌≡◌, ℕ, ◌+◌, ◌<◌, ◌≤◌, Bool, true, false, List, [], ◌∷◌, ◌++◌, length, take, drop, get_or, slice_get, Option, Some, None, refl, ap, sym, ◌∙◌}
use Rattle.std.specs.List.{flat_map}
use Rattle.std.specs.Option.{option_map}
use Rattle.std.proofs.lemmas.List.{append_assoc, append-nil, map-append, take_more}
use Rattle.std.proofs.lemmas.List.Concat.{flat_map-append}
use Rattle.std.proofs.lemmas.Option.{slice_get-map}
use Rattle.std.proofs.Math.ListN.{drop_of_length-le}
use Rattle.sq_parse.specs.declared.tree.Source.{Source}
use Rattle.sq_parse.specs.declared.tree.Tree.{Tree}
use Rattle.sq_expr.specs.declared.cond.Cond.{Cond}
use Rattle.sq_bind.specs.Condition.{Calls, between, extra_faults, conjunct_faults}
use Rattle.sq_bind.specs.Fault.{first_of}
use Rattle.sq_bind.specs.Seen.{places_in, between_places}
use Rattle.sq_parse.specs.declared.tree.Statement.{Statement}
use Rattle.sq_bind.specs.Statement.{part_seeing, joins_from, part_conjuncts, placed_in, parts_of}
use Rattle.sq_bind.specs.Visible.{Alias}
use Rattle.sq_bind.specs.declared.conjunct.Placed.{Placed}
use Rattle.sq_bind.specs.declared.fault.BindFault.{BindFault}
use Rattle.sq_bind.specs.declared.fault.BindFault.TheVariants.{TooManyConjuncts}
use Rattle.sq_bind.proofs.Walk.{walk}

-- a BETWEEN's
pub places_between : (at : ℕ) (n : Bool) (low high : Cond) → places_in (between at n low high).conjuncts ≡ between_places at n
places_between at true low high = refl
places_between at false low high = refl

pub places-append : (xs ys : List Placed) → places_in (xs ++ ys) ≡ places_in xs ++ places_in ys
places-append xs ys = map-append (λ (p : Placed). p.at) xs ys

-- the next part's
pub more_places : (f : Tree → List Placed) (parts : List Tree) (i : ℕ) (d : Tree) (old before now : List ℕ) → i < length parts
    → before ≡ (old ++ places_in (flat_map f (take i parts))) → now ≡ (before ++ places_in (f (get_or parts i d)))
    → now ≡ (old ++ places_in (flat_map f (take (i + 1) parts)))
more_places f parts i d old before now within e more =
    let x = get_or parts i d in
    let front = flat_map f (take i parts) in
    let longer : (front ++ f x) ≡ flat_map f (take (i + 1) parts) =
    ap (λ (ys : List Placed). front ++ ys) (sym (append-nil (f x))) ∙ sym (flat_map-append f (take i parts) (x ∷ []))
    ∙ sym (ap (λ (ts : List Tree). flat_map f ts) (take_more parts i d within)) in
    more ∙ ap (λ (b : List ℕ). b ++ places_in (f x)) e ∙ append_assoc old (places_in front) (places_in (f x))
    ∙ ap (λ (ns : List ℕ). old ++ ns) (sym (places-append front (f x)) ∙ ap places_in longer)

abbrev pub seen_places : Calls → List Alias → Option Tree → List ℕ
seen_places calls aliases condition = places_in (flat_map (part_conjuncts calls) (part_seeing aliases condition))

abbrev pub join_places : Calls → List Alias → ℕ → List Source → List ℕ
join_places calls aliases first sources = places_in (flat_map (part_conjuncts calls) (joins_from aliases first sources))

-- the next source's
pub next_places : (calls : Calls) (aliases : List Alias) (sources : List Source) (i : ℕ) (d : Source) (sofar whole : List ℕ) → i < length sources
    → (sofar ++ join_places calls aliases i (drop i sources)) ≡ whole
    → ((sofar ++ seen_places calls (take (i + 1) aliases) (get_or sources i d).on) ++ join_places calls aliases (i + 1) (drop (i + 1) sources)) ≡ whole
next_places calls aliases sources i d sofar whole =
    walk ◌++◌ append_assoc (λ k xs. join_places calls aliases k xs) (λ k s. seen_places calls (take (k + 1) aliases) s.on)
    (λ k s xs. ap places_in (flat_map-append (part_conjuncts calls) (part_seeing (take (k + 1) aliases) s.on) (joins_from aliases (k + 1) xs))
    ∙ places-append (flat_map (part_conjuncts calls) (part_seeing (take (k + 1) aliases) s.on)) (flat_map (part_conjuncts calls) (joins_from aliases (k + 1) xs)))
    sources i d sofar whole

pub all_places : (calls : Calls) (aliases : List Alias) (sources : List Source) (i : ℕ) (sofar whole : List ℕ) → length sources ≤ i
    → (sofar ++ join_places calls aliases i (drop i sources)) ≡ whole → sofar ≡ whole
all_places calls aliases sources i sofar whole past before =
    sym (append-nil sofar) ∙ ap (λ (xs : List Source). sofar ++ join_places calls aliases i xs) (sym (drop_of_length-le sources past)) ∙ before

-- those of all conditions
pub both_places : (calls : Calls) (aliases : List Alias) (s : Statement)
    → (join_places calls aliases 0 s.sources ++ seen_places calls aliases s.condition) ≡ places_in (placed_in calls aliases s)
unfolding placed_in parts_of
both_places calls aliases s =
    let joins = joins_from aliases 0 s.sources in
    let last = part_seeing aliases s.condition in
    sym (ap places_in (flat_map-append (part_conjuncts calls) joins last)
    ∙ places-append (flat_map (part_conjuncts calls) joins) (flat_map (part_conjuncts calls) last))

abbrev extra_at : Option ℕ → List BindFault
extra_at None = []
extra_at (Some at) = TooManyConjuncts at ∷ []

-- the 49th's
pub extra_placed : (placed : List Placed) → first_of (conjunct_faults placed) ≡ first_of (extra_at (slice_get (places_in placed) 48))
extra_placed placed =
    by (slice_get placed 48) ∙ ap (λ (o : Option ℕ). first_of (extra_at o)) (sym (slice_get-map (λ (p : Placed). p.at) placed 48))
  where
    by : (o : Option Placed) → first_of (extra_faults o) ≡ first_of (extra_at (option_map (λ (p : Placed). p.at) o))
    by None = refl
    by (Some p) = refl

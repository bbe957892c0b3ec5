-- The aliases and the conditions of FROM, one source after another.
use Rattle.std.proofs.Common.{◌≡◌, ℕ, ◌+◌, ◌<◌, ◌≤◌, List, [], ◌∷◌, ◌++◌, length, drop, take, get_or, Option, refl, ap, sym, ◌∙◌}
use Rattle.std.specs.List.{flat_map}
use Rattle.std.proofs.Math.ListN.{drop_of_length-le}
use Rattle.std.proofs.lemmas.List.{append_assoc, append-nil}
use Rattle.sq_parse.specs.declared.tree.Source.{Source}
use Rattle.sq_bind.specs.Fault.{sooner, first_of}
use Rattle.sq_bind.specs.Condition.{Calls}
use Rattle.sq_bind.specs.Visible.{Alias}
use Rattle.sq_bind.specs.Statement.{Scope, aliases_from, table_number, columns_at, Part, part_seeing, joins_from, part_conjuncts, part_faults}
use Rattle.sq_bind.specs.declared.conjunct.Placed.{Placed}
use Rattle.sq_bind.specs.declared.fault.BindFault.{BindFault}
use Rattle.sq_bind.proofs.FaultLemmas.{first_of-append, sooner_assoc, sooner_none}
use Rattle.sq_bind.proofs.Walk.{walk}

-- the alias of a source
abbrev pub alias_at : Scope → ℕ → Source → Alias
alias_at scope number s = record { number = number; name = s.alias.text; columns = columns_at scope.tables (table_number scope s) }

pub next_seen : (scope : Scope) (sources : List Source) (i : ℕ) (d : Source) (sofar whole : List Alias) → i < length sources
    → (sofar ++ aliases_from scope i (drop i sources)) ≡ whole
    → ((sofar ++ (alias_at scope i (get_or sources i d) ∷ [])) ++ aliases_from scope (i + 1) (drop (i + 1) sources)) ≡ whole
next_seen scope sources i d sofar whole =
    walk ◌++◌ append_assoc (λ k xs. aliases_from scope k xs) (λ k s. alias_at scope k s ∷ []) (λ k s xs. refl) sources i d sofar whole

pub all_seen : (scope : Scope) (sources : List Source) (i : ℕ) (sofar whole : List Alias) → length sources ≤ i
    → (sofar ++ aliases_from scope i (drop i sources)) ≡ whole → sofar ≡ whole
all_seen scope sources i sofar whole past before =
    sym (append-nil sofar) ∙ ap (λ (xs : List Source). sofar ++ aliases_from scope i xs) (sym (drop_of_length-le sources past)) ∙ before

flat_map-append : {X Y : Type 0} (f : X → List Y) (xs ys : List X) → flat_map f (xs ++ ys) ≡ flat_map f xs ++ flat_map f ys
flat_map-append f [] ys = refl
flat_map-append f (x ∷ xs) ys = ap (λ zs. f x ++ zs) (flat_map-append f xs ys) ∙ sym (append_assoc (f x) (flat_map f xs) (flat_map f ys))

module _ (calls : Calls) (aliases : List Alias) where
  pub next_join : (sources : List Source) (i : ℕ) (d : Source) (sofar whole : List Placed) → i < length sources
      → (sofar ++ flat_map (part_conjuncts calls) (joins_from aliases i (drop i sources))) ≡ whole
      → ((sofar ++ flat_map (part_conjuncts calls) (part_seeing (take (i + 1) aliases) (get_or sources i d).on))
      ++ flat_map (part_conjuncts calls) (joins_from aliases (i + 1) (drop (i + 1) sources))) ≡ whole
  next_join sources i d sofar whole =
      walk ◌++◌ append_assoc (λ k xs. flat_map (part_conjuncts calls) (joins_from aliases k xs))
      (λ k s. flat_map (part_conjuncts calls) (part_seeing (take (k + 1) aliases) s.on))
      (λ k s xs. flat_map-append (part_conjuncts calls) (part_seeing (take (k + 1) aliases) s.on) (joins_from aliases (k + 1) xs)) sources i d sofar whole

  pub all_joined : (sources : List Source) (i : ℕ) (sofar whole : List Placed) → length sources ≤ i
      → (sofar ++ flat_map (part_conjuncts calls) (joins_from aliases i (drop i sources))) ≡ whole → sofar ≡ whole
  all_joined sources i sofar whole past before =
      sym (append-nil sofar)
      ∙ ap (λ (xs : List Source). sofar ++ flat_map (part_conjuncts calls) (joins_from aliases i xs)) (sym (drop_of_length-le sources past)) ∙ before

  pub next_join_fault : (sources : List Source) (i : ℕ) (d : Source) (sofar whole : Option BindFault) → i < length sources
      → sooner sofar (first_of (flat_map (part_faults calls) (joins_from aliases i (drop i sources)))) ≡ whole
      → sooner (sooner sofar (first_of (flat_map (part_faults calls) (part_seeing (take (i + 1) aliases) (get_or sources i d).on))))
      (first_of (flat_map (part_faults calls) (joins_from aliases (i + 1) (drop (i + 1) sources)))) ≡ whole
  next_join_fault sources i d sofar whole =
      walk sooner sooner_assoc (λ k xs. first_of (flat_map (part_faults calls) (joins_from aliases k xs)))
      (λ k s. first_of (flat_map (part_faults calls) (part_seeing (take (k + 1) aliases) s.on)))
      (λ k s xs. ap first_of (flat_map-append (part_faults calls) (part_seeing (take (k + 1) aliases) s.on) (joins_from aliases (k + 1) xs))
      ∙ first_of-append (flat_map (part_faults calls) (part_seeing (take (k + 1) aliases) s.on)) (flat_map (part_faults calls) (joins_from aliases (k + 1) xs)))
      sources i d sofar whole

  pub all_join_faults : (sources : List Source) (i : ℕ) (sofar whole : Option BindFault) → length sources ≤ i
      → sooner sofar (first_of (flat_map (part_faults calls) (joins_from aliases i (drop i sources)))) ≡ whole → sofar ≡ whole
  all_join_faults sources i sofar whole past before =
      sym (sooner_none sofar)
      ∙ ap (λ (xs : List Source). sooner sofar (first_of (flat_map (part_faults calls) (joins_from aliases i xs)))) (sym (drop_of_length-le sources past))
      ∙ before

  -- both kinds of conditions
  pub conjuncts_of_both : (xs ys : List Part) → flat_map (part_conjuncts calls) (xs ++ ys) ≡ flat_map (part_conjuncts calls) xs ++ flat_map (part_conjuncts calls) ys
  conjuncts_of_both xs ys = flat_map-append (part_conjuncts calls) xs ys

  pub faults_of_both : (xs ys : List Part)
      → first_of (flat_map (part_faults calls) (xs ++ ys)) ≡ sooner (first_of (flat_map (part_faults calls) xs)) (first_of (flat_map (part_faults calls) ys))
  faults_of_both xs ys =
      ap first_of (flat_map-append (part_faults calls) xs ys) ∙ first_of-append (flat_map (part_faults calls) xs) (flat_map (part_faults calls) ys)

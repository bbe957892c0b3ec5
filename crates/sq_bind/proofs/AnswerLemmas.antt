-- What the answers of the rounds say together, and that a statement has one answer.
use Rattle.std.proofs.Common.{◌≡◌, ◌≢◌, ◌⊎◌, inl, inr, ℕ, ◌<◌, ◌≤◌, List, [], ◌∷◌, length, map, Option, Some, None, Result, Ok, Err, refl, ap, sym, subst, ◌∙◌, arith}
use Rattle.std.specs.Prelude.{All, MatchResult, IfOk, IfErr, IsErrAnd, IsSome, IfSome, IsSomeAnd}
use Rattle.std.specs.List.{AllByRecursion as Each}
use Rattle.std.proofs.lemmas.Bool.{cases_order}
use Rattle.std.proofs.lemmas.List.Elements.{All-nil, All-cons, All-head, All-tail, recursion_from_All}
use Rattle.sq_parse.specs.declared.tree.Source.{Source}
use Rattle.sq_parse.specs.declared.tree.Statement.{Statement}
use Rattle.sq_expr.specs.Reach.{IsReachable}
use Rattle.sq_expr.specs.declared.block.Block.{Block}
use Rattle.sq_expr.specs.declared.shape.Shape.{Shape}
use Rattle.sq_bind.specs.Fault.{first_of}
use Rattle.sq_expr.specs.Fits.{IsFit}
use Rattle.sq_expr.specs.Shapes.{FitsShape}
use Rattle.sq_expr.specs.declared.block.AliasUse.{AliasUse}
use Rattle.sq_bind.specs.Visible.{Alias}
use Rattle.sq_bind.specs.Statement.{Scope, from_faults, rest_faults, matches_of, shape_in, shaped_of, plain_block, block_of, aliases_in, placed_in, placed_conjunct, first_output, use_of}
use Rattle.sq_bind.specs.Found.{IsFound, used_at, matches_with}
use Rattle.sq_bind.specs.Given.{AreAccesses}
use Rattle.sq_bind.specs.Reached.{first_unreached}
use Rattle.sq_bind.specs.Sound.{IsSound}
use Rattle.sq_bind.specs.Answer.{IsReachedAlias, IsFirstUnreached, IsBindFault, IsBound, IsBoundShape}
use Rattle.sq_bind.specs.Told.{IsMade, IsAnswer, IsPlainOf}
use Rattle.sq_bind.specs.declared.shaped.Shaped.{Shaped}
use Rattle.sq_bind.specs.declared.fault.BindFault.{BindFault}
use Rattle.sq_bind.specs.declared.fault.BindFault.TheVariants as fault
use Rattle.sq_bind.proofs.BlockFits.{first_round, held, faultless, both_fit}
use Rattle.sq_bind.proofs.ShapeFits.{shape_fits}
use Rattle.sq_bind.proofs.ReachLemmas.{unreached, all_reached}
use Rattle.std.proofs.lemmas.List.{length-map}
use Rattle.sq_bind.proofs.FirstLemmas.{none_first, first_is, first_unique, no_first, reachable_by}

-- ---- one answer

unreached_twice : (block : Block) (a b : ℕ) → IsFirstUnreached block a → IsFirstUnreached block b → a ≡ b
unreached_twice block a b x y = by (cases_order a b)
  where
    by : (a ≡ b) ⊎ ((a < b) ⊎ (b < a)) → a ≡ b
    by (inl e) = e
    by (inr (inl low)) = absurd (x.unreached (y.first a low))
    by (inr (inr low)) = absurd (y.unreached (x.first b low))

module _ (scope : Scope) (s : Statement) where
  -- a statement has one fault
  pub one_fault : (f g : BindFault) → IsBindFault scope s f → IsBindFault scope s g → f ≡ g
  one_fault f g (inl a) (inl b) = first_unique (from_faults scope s.sources) f g a b
  one_fault f g (inl a) (inr b) = absurd (no_first (from_faults scope s.sources) f b.0 a)
  one_fault f g (inr a) (inl b) = absurd (no_first (from_faults scope s.sources) g a.0 b)
  one_fault f g (inr (x, inl a)) (inr (y, inl b)) = first_unique (rest_faults scope s) f g a b
  one_fault f g (inr (x, inl a)) (inr (y, inr b)) = absurd (no_first (rest_faults scope s) f b.0 a)
  one_fault f g (inr (x, inr a)) (inr (y, inl b)) = absurd (no_first (rest_faults scope s) g a.0 b)
  one_fault f g (inr (x, inr a)) (inr (y, inr b)) =
      let u = a.1 in
      let v = b.1 in
      u.1 ∙ ap fault.Unreachable (unreached_twice (matches_of scope s) u.0 v.0 u.2 v.2) ∙ sym v.1

  reached_each : (block : Block) → IsReachable block → (a : ℕ) → a < length block.aliases → IsReachedAlias block a
  reached_each block h a low = record {
    scanned = h.first;
    u = h.u;
    at = h.at;
    scan = h.scanned;
    within = λ set' closed. h.each set' closed a low;
  }

  -- the matches have the aliases and the conjuncts of the plain block
  plain_matches : IsReachable (matches_of scope s) → IsReachable (block_of scope s)
  unfolding plain_block
  plain_matches h = reachable_by (matches_of scope s) (block_of scope s) refl refl h

  matches_plain : IsReachable (block_of scope s) → IsReachable (matches_of scope s)
  unfolding plain_block
  matches_plain h = reachable_by (block_of scope s) (matches_of scope s) refl refl h

  -- and none beside a block
  pub no_fault : (block : Block) (f : BindFault) → IsBound scope s block → IsBindFault scope s f → ⊥
  no_fault block f bound (inl a) = no_first (from_faults scope s.sources) f bound.from a
  no_fault block f bound (inr (x, inl a)) = no_first (rest_faults scope s) f bound.rest a
  no_fault block f bound (inr (x, inr a)) =
      let u = a.1.2 in
      u.unreached (reached_each (matches_of scope s) (matches_plain (subst IsReachable bound.is bound.reachable)) a.1.0 u.there)

  pub one_block : (x y : Block) → IsBound scope s x → IsBound scope s y → x ≡ y
  one_block x y a b = a.is ∙ sym b.is

  -- nor beside a block and a shape
  pub no_fault_shape : (shaped : Shaped) (f : BindFault) → IsBoundShape scope s shaped → IsBindFault scope s f → ⊥
  no_fault_shape shaped f bound told =
      let reached : IsReachable (matches_of scope s) = subst (λ (m : Shaped). IsReachable m.block) bound.is bound.reachable in
      no_fault (block_of scope s) f
      (record { from = bound.from; rest = bound.rest; is = refl; reachable = plain_matches reached }) told

  pub one_shape : (x y : Shaped) → IsBoundShape scope s x → IsBoundShape scope s y → x ≡ y
  one_shape x y a b = a.is ∙ sym b.is

  -- what was made, as the block and as the block with the shape
  pub bound_plain : (made : Shaped) (block : Block) → IsMade scope s made → block ≡ plain_block made.block made.shape → IsBound scope s block
  bound_plain made block h e =
      let is : block ≡ block_of scope s = e ∙ ap (λ (m : Shaped). plain_block m.block m.shape) h.is in
      record { from = h.from; rest = h.rest; is = is; reachable = subst IsReachable (sym is) h.reachable }

  pub bound_shape : (made : Shaped) → IsMade scope s made → IsBoundShape scope s made
  bound_shape made h = record {
    from = h.from;
    rest = h.rest;
    is = h.is;
    reachable = subst (λ (m : Shaped). IsReachable m.block) (sym h.is) (matches_plain h.reachable);
  }

  pub unordered : (made : Shaped) → IsMade scope s made → made.block.order ≡ []
  unfolding matches_of
  unordered made h = ap (λ (m : Shaped). m.block.order) h.is

  -- what is said of a statement that isn't shaped
  abbrev pub IsPlainAnswer : Result Block BindFault → Type 0
  IsPlainAnswer r = MatchResult r (IsBound scope s) (λ f. (f ≡ fault.Memory) ⊎ IsBindFault scope s f)

  pub plain_told : (made : Result Shaped BindFault) (r : Result Block BindFault) → IsAnswer scope s made → IsPlainOf made r → IsPlainAnswer r
  plain_told (Ok m) (Ok block) h e = bound_plain m block h e
  plain_told (Ok m) (Err f) h e = inl e
  plain_told (Err f) (Ok block) h e = absurd e
  plain_told (Err f) (Err g) h e = subst (λ (x : BindFault). (x ≡ fault.Memory) ⊎ IsBindFault scope s x) (sym e) h

  pub plain_fits : (made : Result Shaped BindFault) (r : Result Block BindFault)
      → IfOk made (λ m. IsFit scope.calls.kinds scope.tables (plain_block m.block m.shape)) → IsPlainOf made r
      → IfOk r (IsFit scope.calls.kinds scope.tables)
  plain_fits (Ok m) (Ok block) h e = subst (IsFit scope.calls.kinds scope.tables) (sym e) h
  plain_fits (Ok m) (Err f) h e = tt
  plain_fits (Err f) (Ok block) h e = absurd e
  plain_fits (Err f) (Err g) h e = tt

  pub plain_bound : (r : Result Block BindFault) → IsPlainAnswer r → IfOk r (IsBound scope s)
  plain_bound (Ok block) h = h
  plain_bound (Err f) h = tt

  pub plain_reachable : (r : Result Block BindFault) → IsPlainAnswer r → IfOk r IsReachable
  plain_reachable (Ok block) h = h.reachable
  plain_reachable (Err f) h = tt

  pub plain_fault : (r : Result Block BindFault) → IsPlainAnswer r → IfErr r (λ f. f ≢ fault.Memory → IsBindFault scope s f)
  plain_fault (Ok block) h = tt
  plain_fault (Err f) (inl e) = λ other. absurd (other e)
  plain_fault (Err f) (inr h) = λ other. h

  -- each clause of an answer
  pub every_bound : (r : Result Block BindFault) → IsPlainAnswer r
      → (block : Block) → IsBound scope s block → MatchResult r (λ found. found ≡ block) (λ f. f ≡ fault.Memory)
  every_bound (Ok found) h block bound = one_block found block h bound
  every_bound (Err f) (inl e) block bound = e
  every_bound (Err f) (inr h) block bound = absurd (no_fault block f bound h)

  pub every_fault : (r : Result Block BindFault) → IsPlainAnswer r
      → (f : BindFault) → IsBindFault scope s f → MatchResult r (λ block. ⊥) (λ found. (found ≡ f) ⊎ (found ≡ fault.Memory))
  every_fault (Ok block) h f told = no_fault block f h told
  every_fault (Err g) (inl e) f told = inr e
  every_fault (Err g) (inr h) f told = inl (one_fault g f h told)

  pub shape_bound : (r : Result Shaped BindFault) → IsAnswer scope s r → IfOk r (IsBoundShape scope s)
  shape_bound (Ok made) h = bound_shape made h
  shape_bound (Err f) h = tt

  pub shape_reachable : (r : Result Shaped BindFault) → IsAnswer scope s r → IfOk r (λ made. IsReachable made.block)
  shape_reachable (Ok made) h = (bound_shape made h).reachable
  shape_reachable (Err f) h = tt

  pub shape_unordered : (r : Result Shaped BindFault) → IsAnswer scope s r → IfOk r (λ made. made.block.order ≡ [])
  shape_unordered (Ok made) h = unordered made h
  shape_unordered (Err f) h = tt

  pub told_fault : (r : Result Shaped BindFault) → IsAnswer scope s r → IfErr r (λ f. f ≢ fault.Memory → IsBindFault scope s f)
  told_fault (Ok made) h = tt
  told_fault (Err f) (inl e) = λ other. absurd (other e)
  told_fault (Err f) (inr h) = λ other. h

  pub every_shape : (r : Result Shaped BindFault) → IsAnswer scope s r → (shaped : Shaped) → IsBoundShape scope s shaped
      → MatchResult r (λ found. found ≡ shaped) (λ f. f ≡ fault.Memory)
  every_shape (Ok found) h shaped bound = one_shape found shaped (bound_shape found h) bound
  every_shape (Err f) (inl e) shaped bound = e
  every_shape (Err f) (inr h) shaped bound = absurd (no_fault_shape shaped f bound h)

  pub every_shape_fault : (r : Result Shaped BindFault) → IsAnswer scope s r → (f : BindFault) → IsBindFault scope s f
      → MatchResult r (λ made. ⊥) (λ found. (found ≡ f) ⊎ (found ≡ fault.Memory))
  every_shape_fault (Ok made) h f told = no_fault_shape made f (bound_shape made h) told
  every_shape_fault (Err g) (inl e) f told = inr e
  every_shape_fault (Err g) (inr h) f told = inl (one_fault g f h told)

  -- ---- the rounds

  pub from_answer : (f : BindFault) → first_of (from_faults scope s.sources) ≡ Some f → (f ≡ fault.Memory) ⊎ IsBindFault scope s f
  from_answer f e = inr (inl (first_is (from_faults scope s.sources) f e))

  pub few_sources : from_faults scope s.sources ≡ [] → length s.sources ≤ 12
  few_sources e = (first_round scope s.sources e).few

  all_there : (P : ℕ → Type 0) (sources : List Source) → Each (λ (x : Source). IsSome (scope.table x.table.text)) sources
      → All (λ (one : Option ℕ). IfSome one P) (map (λ (x : Source). scope.table x.table.text) sources)
      → All (λ (one : Option ℕ). IsSomeAnd one P) (map (λ (x : Source). scope.table x.table.text) sources)
  all_there P [] h within = All-nil (λ (one : Option ℕ). IsSomeAnd one P)
  all_there P (x ∷ more) h within =
      let rest = map (λ (x : Source). scope.table x.table.text) more in
      All-cons (λ (one : Option ℕ). IsSomeAnd one P) (scope.table x.table.text) rest
      (one (scope.table x.table.text) h.0 (All-head (λ (one : Option ℕ). IfSome one P) (scope.table x.table.text) rest within))
      (all_there P more h.1 (All-tail (λ (one : Option ℕ). IfSome one P) (scope.table x.table.text) rest within))
    where
      one : (o : Option ℕ) → IsSome o → IfSome o P → IsSomeAnd o P
      one None h k = absurd cc
      one (Some n) h k = k

  pub found_there : (P : ℕ → Type 0) (found : List (Option ℕ)) → IsFound scope s.sources found → from_faults scope s.sources ≡ []
      → All (λ (one : Option ℕ). IfSome one P) found → All (λ (one : Option ℕ). IsSomeAnd one P) found
  found_there P found is e within =
      subst (All (λ (one : Option ℕ). IsSomeAnd one P)) (sym is)
      (all_there P s.sources (first_round scope s.sources e).found (subst (All (λ (one : Option ℕ). IfSome one P)) is within))

  pub rest_answer : from_faults scope s.sources ≡ [] → (f : BindFault) → (f ≡ fault.Memory) ⊎ (first_of (rest_faults scope s) ≡ Some f)
      → (f ≡ fault.Memory) ⊎ IsBindFault scope s f
  rest_answer from f (inl e) = inl e
  rest_answer from f (inr e) = inr (inr (from, inl (first_is (rest_faults scope s) f e)))

  -- a fault that is handed on
  pub handed_on : (r : Result Shaped BindFault) (f : BindFault) → IsErrAnd r (λ given. given ≡ f) → (f ≡ fault.Memory) ⊎ IsBindFault scope s f → IsAnswer scope s r
  handed_on (Ok made) f h told = absurd h
  handed_on (Err g) f h told = subst (λ (e : BindFault). (e ≡ fault.Memory) ⊎ IsBindFault scope s e) (sym h) told

  map_over : {X Y Z : Type 0} (f : X → Y) (g : Y → Z) (xs : List X) → map g (map f xs) ≡ map (λ x. g (f x)) xs
  map_over f g [] = refl
  map_over f g (x ∷ xs) = ap (λ zs. g (f x) ∷ zs) (map_over f g xs)

  uses_are : (found : List (Option ℕ)) → IsFound scope s.sources found → map (used_at scope.accesses) found ≡ map (use_of scope) s.sources
  uses_are found is = ap (λ (f : List (Option ℕ)). map (used_at scope.accesses) f) is
      ∙ map_over (λ (x : Source). scope.table x.table.text) (used_at scope.accesses) s.sources

  pub matches_are : (found : List (Option ℕ)) → IsFound scope s.sources found
      → matches_with scope.accesses found (aliases_in scope s) (placed_in scope.calls (aliases_in scope s) s) ≡ matches_of scope s
  unfolding matches_of
  matches_are found is = ap with_uses (uses_are found is)
    where
      with_uses : List AliasUse → Block
      with_uses uses = record {
        aliases = uses;
        conjuncts = map placed_conjunct (placed_in scope.calls (aliases_in scope s) s);
        output = first_output (aliases_in scope s) ∷ [];
        order = [];
      }

  length-matches : length (matches_of scope s).aliases ≡ length s.sources
  unfolding matches_of
  length-matches = length-map s.sources (use_of scope)

  length-block : length (block_of scope s).aliases ≡ length s.sources
  unfolding plain_block
  length-block = length-matches

  pub few_uses : from_faults scope s.sources ≡ [] → (made : Shaped) → made.block ≡ matches_of scope s → length made.block.aliases ≤ 12
  few_uses from made is =
      let same = ap (λ (b : Block). length b.aliases) is ∙ length-matches in
      let few = few_sources from in
      omega (arith, same, few)

  pub made_is : (made : Shaped) → made.block ≡ matches_of scope s → made.shape ≡ shape_in (aliases_in scope s) s → made ≡ shaped_of scope s
  made_is made e f =
      ap (λ (b : Block). together b made.shape) e ∙ ap (λ (x : Shape). together (matches_of scope s) x) f
    where
      together : Block → Shape → Shaped
      together b x = record { block = b; shape = x }

  -- where nothing else is unreached, the plain block isn't
  unreached_is : (o : Option ℕ) → first_unreached (matches_of scope s) ≡ o → first_unreached (block_of scope s) ≡ o
  unfolding plain_block first_unreached
  unreached_is o e = e

  -- what the reach of the matches says of the statement
  pub reach_answer : from_faults scope s.sources ≡ [] → first_of (rest_faults scope s) ≡ None → 0 < length s.sources
      → (made : Shaped) → made ≡ shaped_of scope s → (r : Result Shaped BindFault)
      → IfOk r (λ found. found ≡ made) → IfOk r (λ found. first_unreached made.block ≡ None)
      → IfErr r (λ f. (f ≡ fault.Memory) ⊎ ((alias : ℕ) × ((f ≡ fault.Unreachable alias) × (first_unreached made.block ≡ Some alias)))) → IsAnswer scope s r
  reach_answer from rest some made is (Ok found) same reached told =
      let any : 0 < length (block_of scope s).aliases = (let l = length-block in omega (arith, some, l)) in
      record {
        from = from;
        rest = none_first (rest_faults scope s) rest;
        is = same ∙ is;
        reachable = all_reached (block_of scope s) any (unreached_is None (ap (λ (m : Shaped). first_unreached m.block) (sym is) ∙ reached));
      }
  reach_answer from rest some made is (Err f) same reached (inl e) = inl e
  reach_answer from rest some made is (Err f) same reached (inr u) =
      let any : 0 < length (matches_of scope s).aliases = (let l = length-matches in omega (arith, some, l)) in
      let at : first_unreached (matches_of scope s) ≡ Some u.0 = ap (λ (m : Shaped). first_unreached m.block) (sym is) ∙ u.1.1 in
      inr (inr (from, inr (none_first (rest_faults scope s) rest, (u.0, u.1.0, unreached (matches_of scope s) u.0 any at))))

  -- the block fits
  each_within : (P : ℕ → Type 0) (sources : List Source) → All (λ (one : Option ℕ). IfSome one P) (map (λ (x : Source). scope.table x.table.text) sources)
      → Each (λ (x : Source). IfSome (scope.table x.table.text) P) sources
  each_within P [] h = tt
  each_within P (x ∷ more) h =
      let rest = map (λ (x : Source). scope.table x.table.text) more in (
        All-head (λ (one : Option ℕ). IfSome one P) (scope.table x.table.text) rest h,
        each_within P more (All-tail (λ (one : Option ℕ). IfSome one P) (scope.table x.table.text) rest h),
      )

  -- what was made fits, and the plain block of it
  pub record Fits (made : Shaped) : Type 0 where
    pub plain : IsFit scope.calls.kinds scope.tables (plain_block made.block made.shape)
    pub block : IsFit scope.calls.kinds scope.tables made.block
    pub shape : FitsShape scope.tables made.block made.shape

  pub fit_made : IsSound s → AreAccesses scope.tables scope.accesses → (found : List (Option ℕ)) → IsFound scope s.sources found
      → All (λ (one : Option ℕ). IfSome one (λ (table : ℕ). table < length scope.tables)) found
      → All (λ (a : Alias). 0 < length a.columns) (aliases_in scope s)
      → from_faults scope s.sources ≡ [] → first_of (rest_faults scope s) ≡ None
      → (made : Shaped) → made ≡ shaped_of scope s → Fits made
  fit_made sound accesses found is within some from rest made same =
      let each = each_within (λ (table : ℕ). table < length scope.tables) s.sources
      (subst (All (λ (one : Option ℕ). IfSome one (λ (table : ℕ). table < length scope.tables))) is within) in
      let there = recursion_from_All (λ (a : Alias). 0 < length a.columns) (aliases_in scope s) some in
      let h = held scope s from in
      let fine = faultless scope s sound there h (none_first (rest_faults scope s) rest) in
      let both = both_fit scope s sound accesses each from h fine in
      subst Fits (sym same) (record { plain = both.plain; block = both.matches; shape = shape_fits scope s h fine })

  -- and so it does where it is handed on
  pub fit_plain : (made : Shaped) → Fits made → (r : Result Shaped BindFault) → IfOk r (λ found. found ≡ made)
      → IfOk r (λ found. IsFit scope.calls.kinds scope.tables (plain_block found.block found.shape))
  fit_plain made h (Ok found) e = subst (λ (m : Shaped). IsFit scope.calls.kinds scope.tables (plain_block m.block m.shape)) (sym e) h.plain
  fit_plain made h (Err f) e = tt

  pub fit_block : (made : Shaped) → Fits made → (r : Result Shaped BindFault) → IfOk r (λ found. found ≡ made)
      → IfOk r (λ found. IsFit scope.calls.kinds scope.tables found.block)
  fit_block made h (Ok found) e = subst (λ (m : Shaped). IsFit scope.calls.kinds scope.tables m.block) (sym e) h.block
  fit_block made h (Err f) e = tt

  pub fit_shape : (made : Shaped) → Fits made → (r : Result Shaped BindFault) → IfOk r (λ found. found ≡ made)
      → IfOk r (λ found. FitsShape scope.tables found.block found.shape)
  fit_shape made h (Ok found) e = subst (λ (m : Shaped). FitsShape scope.tables m.block m.shape) (sym e) h.shape
  fit_shape made h (Err f) e = tt

  -- there is one
  pub some_answer : 0 < length s.sources → ((block : Block) × IsBound scope s block) ⊎ ((f : BindFault) × IsBindFault scope s f)
  some_answer some = by (first_of (from_faults scope s.sources)) refl
    where
      any : 0 < length (matches_of scope s).aliases
      any = let l = length-matches in omega (arith, some, l)

      reach : from_faults scope s.sources ≡ [] → rest_faults scope s ≡ [] → (o : Option ℕ) → first_unreached (matches_of scope s) ≡ o
          → ((block : Block) × IsBound scope s block) ⊎ ((f : BindFault) × IsBindFault scope s f)
      reach from rest None e =
          inl (block_of scope s, record { from = from; rest = rest; is = refl; reachable = plain_matches (all_reached (matches_of scope s) any e) })
      reach from rest (Some alias) e =
          inr (fault.Unreachable alias, inr (from, inr (rest, (alias, refl, unreached (matches_of scope s) alias any e))))

      rest' : from_faults scope s.sources ≡ [] → (o : Option BindFault) → first_of (rest_faults scope s) ≡ o
          → ((block : Block) × IsBound scope s block) ⊎ ((f : BindFault) × IsBindFault scope s f)
      rest' from None e = reach from (none_first (rest_faults scope s) e) (first_unreached (matches_of scope s)) refl
      rest' from (Some f) e = inr (f, inr (from, inl (first_is (rest_faults scope s) f e)))

      by : (o : Option BindFault) → first_of (from_faults scope s.sources) ≡ o
          → ((block : Block) × IsBound scope s block) ⊎ ((f : BindFault) × IsBindFault scope s f)
      by None e = rest' (none_first (from_faults scope s.sources) e) (first_of (rest_faults scope s)) refl
      by (Some f) e = inr (f, inl (first_is (from_faults scope s.sources) f e))

  -- and a block and a shape, or a fault
  pub some_shape : 0 < length s.sources → ((shaped : Shaped) × IsBoundShape scope s shaped) ⊎ ((f : BindFault) × IsBindFault scope s f)
  some_shape some = by (some_answer some)
    where
      by : ((block : Block) × IsBound scope s block) ⊎ ((f : BindFault) × IsBindFault scope s f)
          → ((shaped : Shaped) × IsBoundShape scope s shaped) ⊎ ((f : BindFault) × IsBindFault scope s f)
      by (inl (block, h)) =
          inl (
            shaped_of scope s,
            bound_shape (shaped_of scope s) (record { from = h.from; rest = h.rest; is = refl; reachable = subst IsReachable h.is h.reachable }),
          )
      by (inr told) = inr told

-- Statements reach remotes by their look-ups alone.
use Rattle.std.proofs.Common.{◌≡◌, ℕ, ◌+◌, ◌<◌, Bool, true, false, List, [], ◌∷◌, ◌++◌, length, get_or, map, Option, Some, None, Result, Ok, Err, refl, sym, ◌∙◌, ap, subst, arith}
use Rattle.std.specs.Prelude.{All, slice_get, slice_index_or, ◌==◌}
use Rattle.std.proofs.lemmas.Option.{slice_get-get_or, slice_get_within, get_or_from_slice_get}
use Rattle.std.proofs.lemmas.List.Elements.{All-nil, All-cons, All-map, All-get_or, All-from_get_or}
use Rattle.std.proofs.lemmas.List.Quantifiers.{position-Some}
use Rattle.sq_expr.specs.declared.block.Access.{Access}
use Rattle.sq_expr.specs.declared.block.AliasUse.{AliasUse}
use Rattle.sq_expr.specs.declared.block.Block.{Block}
use Rattle.sq_expr.specs.declared.shape.Shape.{Shape}
use Rattle.sq_parse.specs.declared.tree.Source.{Source}
use Rattle.sq_parse.specs.declared.tree.Statement.{Statement}
use Rattle.sq_bind.specs.Answer as binding
use Rattle.sq_bind.specs.Statement.{Scope, scanned, use_of, block_of, matches_of, plain_block, shaped_of}
use Rattle.sq_bind.specs.declared.shaped.Shaped.{Shaped}
use Rattle.remote_lookup.specs.Filled.{remote_of}
use Rattle.remote_lookup.specs.Needed.{AreRemotes}
use Rattle.remote_lookup.specs.declared.remote.Remote.{Remote}
use Rattle.run_base.specs.declared.bound.Bound.{Bound}
use Rattle.run_plan.specs.Open.{AreReached}
use Rattle.run_plan.specs.Prepared.{IsBoundAs, IsBoundTo, AreBoundTo}
use Rattle.run_plan.specs.Steps.{Behind, AndThen, ComesTo}
use Rattle.run_plan.specs.declared.status.Status.{Status}

-- an alias is reached as its table is
abbrev IsUsed : List Access → AliasUse → Type 0
IsUsed accesses u = u.access ≡ slice_index_or accesses u.table scanned

all_used : (scope : Scope) (sources : List Source) → All (IsUsed scope.accesses) (map (use_of scope) sources)
all_used scope sources = All-map (IsUsed scope.accesses) (use_of scope) sources (all_of sources)
  where
    all_of : (ss : List Source) → All (λ (s : Source). IsUsed scope.accesses (use_of scope s)) ss
    all_of [] = All-nil (λ (s : Source). IsUsed scope.accesses (use_of scope s))
    all_of (s ∷ ss) = All-cons (λ (t : Source). IsUsed scope.accesses (use_of scope t)) s ss refl (all_of ss)

block_used : (scope : Scope) (s : Statement) → All (IsUsed scope.accesses) (block_of scope s).aliases
unfolding plain_block matches_of
block_used scope s = all_used scope s.sources

matches_used : (scope : Scope) (s : Statement) → All (IsUsed scope.accesses) (matches_of scope s).aliases
unfolding matches_of
matches_used scope s = all_used scope s.sources

-- the remote that a table belongs to is there
there : (remotes : List Remote) (table i : ℕ) (d : Remote) → remote_of remotes table ≡ Some i → slice_get remotes i ≡ Some (get_or remotes i d)
there remotes table i d e = slice_get-get_or remotes i d (position-Some (λ (r : Remote). r.table == table) remotes i d e).0

used_remotes : (remotes : List Remote) (accesses : List Access) (block : Block) → AreReached remotes accesses → All (IsUsed accesses) block.aliases
    → AreRemotes block remotes
used_remotes remotes accesses block reached used = record {
  unscanned = λ alias u remote e f.
      let d : Remote = record { table = 0; column = 0; prefix = [] } in
      ap (λ (a : Access). a.scan) (at alias u remote (get_or remotes remote d) e f (there remotes u.table remote d f));
  look_up = λ alias u remote r e f g. ap (λ (a : Access). a.look_up) (at alias u remote r e f g);
}
  where
    at : (alias : ℕ) (u : AliasUse) (remote : ℕ) (r : Remote) → slice_get block.aliases alias ≡ Some u → remote_of remotes u.table ≡ Some remote
        → slice_get remotes remote ≡ Some r → u.access ≡ record { scan = false; look_up = Some r.column }
    at alias u remote r e f g =
        let is : get_or block.aliases alias u ≡ u = get_or_from_slice_get block.aliases alias u u e in
        let within = slice_get_within block.aliases alias u e in
        subst (IsUsed accesses) is (All-get_or (IsUsed accesses) block.aliases alias u within used) ∙ reached u.table remote r f g

bound_remotes : (remotes : List Remote) (scope : Scope) (s : Statement) (block : Block) (shape : Option Shape) → AreReached remotes scope.accesses
    → IsBoundAs scope s block shape → AreRemotes block remotes
bound_remotes remotes scope s block None reached h =
    used_remotes remotes scope.accesses block reached
    (subst (λ (b : Block). All (IsUsed scope.accesses) b.aliases) (sym h.1.is) (block_used scope s))
bound_remotes remotes scope s block (Some shape) reached h =
    let is : block ≡ matches_of scope s = ap (λ (x : Shaped). x.block) h.1.is in
    used_remotes remotes scope.accesses block reached
    (subst (λ (b : Block). All (IsUsed scope.accesses) b.aliases) (sym is) (matches_used scope s))

ok_same : {x y : List Bound} → ◌≡◌ {A = Result (List Bound) Status} (Ok x) (Ok y) → x ≡ y
ok_same e = cc

never_ok : {x : List Bound} {s : Status} → ◌≡◌ {A = Result (List Bound) Status} (Ok x) (Err s) → ⊥
never_ok e = cc

-- each statement that is bound reaches remotes by their look-ups alone
pub all_remotes : (remotes : List Remote) (scope : Scope) (number : ℕ) (statements : List Statement) (bounds : List Bound) → AreReached remotes scope.accesses
    → AreBoundTo scope number statements (Ok bounds) → All (λ (b : Bound). AreRemotes b.block remotes) bounds
unfolding AreBoundTo
all_remotes remotes scope number [] bounds reached h =
    subst (All (λ (b : Bound). AreRemotes b.block remotes)) (sym (ok_same h)) (All-nil (λ (b : Bound). AreRemotes b.block remotes))
all_remotes remotes scope number (s ∷ more) bounds reached h =
    by (λ bs f. all_remotes remotes scope (number + 1) more bs reached f) h.0 h.1 h.2
  where
    all : ((bs : List Bound) → AreBoundTo scope (number + 1) more (Ok bs) → All (λ (b : Bound). AreRemotes b.block remotes) bs)
        → (b : Bound) → IsBoundTo scope number s (Ok b) → (r : Result (List Bound) Status) → AreBoundTo scope (number + 1) more r
        → Behind (λ bs. ComesTo (Ok (b ∷ bs))) r (Ok bounds) → All (λ (x : Bound). AreRemotes x.block remotes) bounds
    all rest b is (Err e) f g = absurd (never_ok g)
    all rest b is (Ok bs) f g =
        subst (All (λ (x : Bound). AreRemotes x.block remotes)) (sym (ok_same g))
        (All-cons (λ (x : Bound). AreRemotes x.block remotes) b bs (bound_remotes remotes scope s b.block b.shape reached is) (rest bs f))

    by : ((bs : List Bound) → AreBoundTo scope (number + 1) more (Ok bs) → All (λ (b : Bound). AreRemotes b.block remotes) bs)
        → (r : Result Bound Status) → IsBoundTo scope number s r
        → Behind (λ b. AndThen (AreBoundTo scope (number + 1) more) (λ bs. ComesTo (Ok (b ∷ bs)))) r (Ok bounds)
        → All (λ (x : Bound). AreRemotes x.block remotes) bounds
    by rest (Err e) f g = absurd (never_ok g)
    by rest (Ok b) f g = all rest b f g.0 g.1 g.2

-- What is spelled within a depth is spelled within each greater one, so there is one tree whatever the depth.
use Rattle.std.proofs.Common.{inl, inr, ℕ, zero, suc, ◌+◌, ◌≤◌, List, [], ◌∷◌, length, Some, None, refl, arith}
use Rattle.sq_token.specs.declared.mark.Mark.{Mark}
use Rattle.sq_token.specs.declared.mark.Mark.TheVariants as k
use Rattle.sq_parse.specs.declared.tree.Tree.{Tree}
use Rattle.sq_parse.specs.declared.tree.Tree.TheVariants as tree
use Rattle.sq_token.specs.Tok.{Tok}
use Rattle.sq_parse.specs.Tree.{tested, all_of, any_of, joined_on, statement_of}
use Rattle.sq_parse.specs.Rules as rule
use Rattle.sq_parse.specs.Rules.{Then, ◌⊗◌, ◌⊕◌, ◌⊛◌}
use Rattle.sq_parse.specs.Grammar as g
use Rattle.sq_parse.specs.Grammar.{Limits}
use Rattle.sq_parse.specs.Spelling.{unlimited, OneTree}
use Rattle.sq_parse.proofs.StatementsExact.{one_script}

abbrev pub Sub : {A : Type 0} → (List Tok → A → Type 0) → (List Tok → A → Type 0) → Type 0
Sub {A} l m = (us : List Tok) (a : A) → l us a → m us a

same_rule : {A : Type 0} (l : List Tok → A → Type 0) → Sub l l
same_rule l us a h = h

none : {A : Type 0} (l : List Tok → A → Type 0) → Sub rule.nothing l
none l us a h = absurd h

then : {A B : Type 0} (l l' : List Tok → A → Type 0) (r r' : List Tok → B → Type 0) → Sub l l' → Sub r r' → Sub (l ⊗ r) (l' ⊗ r')
then l l' r r' x y us c h = record { first = h.first; second = h.second; parts = h.parts; left = x h.first c.0 h.left; right = y h.second c.1 h.right }

gives : {A B : Type 0} (f : A → B) (l l' : List Tok → A → Type 0) → Sub l l' → Sub (f ⊛ l) (f ⊛ l')
gives f l l' x us b h = (h.0, x us h.0 h.1, h.2)

either : {A : Type 0} (l l' r r' : List Tok → A → Type 0) → Sub l l' → Sub r r' → Sub (l ⊕ r) (l' ⊕ r')
either l l' r r' x y us a (inl h) = inl (x us a h)
either l l' r r' x y us a (inr h) = inr (y us a h)

maybe : {A : Type 0} (l l' : List Tok → A → Type 0) → Sub l l' → Sub (rule.optional l) (rule.optional l')
maybe l l' x us None h = h
maybe l l' x us (Some a) h = x us a h

many : {A : Type 0} (l l' : List Tok → A → Type 0) → Sub l l' → Sub (rule.many l) (rule.many l')
many l l' x us [] h = h
many l l' x us (a ∷ more) h = (h.0, h.1, h.2, x h.0 a h.3, many l l' x h.1 more h.4)

after : {A : Type 0} (wanted : Mark) (l l' : List Tok → A → Type 0) → Sub l l' → Sub (rule.after wanted l) (rule.after wanted l')
after wanted l l' x = gives (λ p. p.1) (rule.mark wanted ⊗ l) (rule.mark wanted ⊗ l') (then (rule.mark wanted) (rule.mark wanted) l l' (same_rule (rule.mark wanted)) x)

separated : {A : Type 0} (wanted : Mark) (l l' : List Tok → A → Type 0) → Sub l l' → Sub (rule.separated wanted l) (rule.separated wanted l')
separated wanted l l' x = then l l' (rule.many (rule.after wanted l)) (rule.many (rule.after wanted l')) x (many (rule.after wanted l) (rule.after wanted l') (after wanted l l' x))

enclosed : {A : Type 0} (l l' : List Tok → A → Type 0) → Sub l l' → Sub (rule.enclosed l) (rule.enclosed l')
enclosed l l' x = after k.Open _ _ (gives (λ p. p.0) (l ⊗ rule.mark k.Close) (l' ⊗ rule.mark k.Close) (then l l' (rule.mark k.Close) (rule.mark k.Close) x (same_rule (rule.mark k.Close))))

disjunction : (n n' : List Tok → Tree → Type 0) → Sub n n' → Sub (g.disjunction n) (g.disjunction n')
disjunction n n' x = gives (λ p. any_of p.0 p.1) _ _ (separated k.Or (g.conjunction n) (g.conjunction n') (gives (λ p. all_of p.0 p.1) _ _ (separated k.And n n' x)))

module _ (limits : Limits) where
  negation : (m m' l l' : List Tok → Tree → Type 0) → Sub m m' → Sub l l' → Sub (g.negation limits m l) (g.negation limits m' l')
  negation m m' l l' y x = either _ _ _ _ (gives tree.Not _ _ (after k.Not m m' y))
      (gives (λ p. tested p.0 p.1) _ _ (then (g.primary limits l) (g.primary limits l') _ _
      (either _ _ (g.predicate limits) (g.predicate limits) (enclosed l l' x) (same_rule (g.predicate limits))) (same_rule _)))

  neg : (d e : ℕ) → d ≤ e → Sub (g.neg limits d) (g.neg limits e)
  neg zero zero h = same_rule (g.neg limits zero)
  neg zero (suc e) h = negation rule.nothing (g.neg limits e) rule.nothing (g.disjunction (g.neg limits e)) (none (g.neg limits e)) (none (g.disjunction (g.neg limits e)))
  neg (suc d) zero h = absurd (omega arith)
  neg (suc d) (suc e) h =
      let deeper = neg d e (omega arith) in
      negation (g.neg limits d) (g.neg limits e) (g.disjunction (g.neg limits d)) (g.disjunction (g.neg limits e)) deeper (disjunction (g.neg limits d) (g.neg limits e) deeper)

  module _ (d e : ℕ) (h : d ≤ e) where
    condition : Sub (g.condition limits d) (g.condition limits e)
    condition = disjunction (g.neg limits d) (g.neg limits e) (neg d e h)

    join : Sub (g.join limits d) (g.join limits e)
    join = either _ _ _ _ (same_rule (rule.after k.Comma g.source)) (either _ _ _ _ (same_rule (rule.after k.Cross (rule.after k.Join g.source)))
        (gives (λ p. joined_on p.1.0 p.1.1) _ _ (then (rule.optional (rule.mark k.Inner)) (rule.optional (rule.mark k.Inner)) _ _ (same_rule (rule.optional (rule.mark k.Inner)))
        (then (rule.after k.Join g.source) (rule.after k.Join g.source) _ _ (same_rule (rule.after k.Join g.source)) (after k.On _ _ condition)))))

    statement : Sub (g.statement limits d) (g.statement limits e)
    statement = gives (λ p. statement_of p.0 p.1.0 p.1.1.0 p.1.1.1.0 p.1.1.1.1.0 p.1.1.1.1.1.0 p.1.1.1.1.1.1) _ _ (after k.Select _ _
        (then g.extent g.extent _ _ (same_rule g.extent)
        (then g.select_list g.select_list _ _ (same_rule g.select_list)
        (then _ _ _ _ (after k.From _ _ (gives (λ p. p.0 ∷ p.1) _ _ (then g.source g.source _ _ (same_rule g.source) (many (g.join limits d) (g.join limits e) join))))
        (then _ _ _ _ (maybe _ _ (after k.Where _ _ condition)) (same_rule _))))))

    pub script : Sub (g.script limits d) (g.script limits e)
    script = gives (λ p. record { statements = p.0.0 ∷ p.0.1 }) _ _ (then _ _ _ _ (separated k.Semicolon (g.statement limits d) (g.statement limits e) statement) (same_rule (rule.optional (rule.mark k.Semicolon))))

-- a list of tokens has at most one tree
pub one_tree : OneTree
one_tree ts x y h h' =
    let deep : ℕ = h.0 + h'.0 in
    let few : ℕ = length x.statements + length y.statements in
    one_script unlimited (λ n e. refl) deep few ts x y (script unlimited h.0 deep (omega arith) ts x h.1) (script unlimited h'.0 deep (omega arith) ts y h'.1) (omega arith) (omega arith)

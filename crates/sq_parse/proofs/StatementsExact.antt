-- The reader of statements is exact for its rule, and the reader of scripts for scripts of few statements.
use Rattle.std.proofs.Common.{◌≡◌, Bool, true, false, ◌||◌, ⊎_elim, ℕ, zero, suc, ◌≤◌, List, [], ◌∷◌, ◌++◌, length, Option, Some, None, unwrap_or, Ok, Err, refl, ap, sym, subst, cond, ◌∙◌, append_assoc, append-nil, arith}
use Rattle.sq_token.specs.declared.mark.Mark.{Mark}
use Rattle.sq_token.specs.declared.mark.Mark.TheVariants as k
use Rattle.sq_parse.specs.declared.stop.Stop.TheVariants as stop
use Rattle.sq_parse.specs.declared.tree.Statement.{Statement}
use Rattle.sq_parse.specs.declared.tree.Script.{Script}
use Rattle.sq_token.specs.Mark.{is, same, is_name}
use Rattle.sq_token.specs.Tok.{Tok, next, behind, done}
use Rattle.sq_parse.specs.Tree.{joined_on, statement_of}
use Rattle.sq_parse.specs.Rules as rule
use Rattle.sq_parse.specs.Rules.{Then, ◌⊗◌, ◌⊕◌, ◌⊛◌}
use Rattle.sq_parse.specs.Reading as reading
use Rattle.sq_parse.specs.Reading.{Parser, Outcome, and_then, ◌>>=◌, ◌<$>◌, ◌<+>◌}
use Rattle.sq_parse.specs.Grammar as g
use Rattle.sq_parse.specs.Grammar.{Limits}
use Rattle.sq_parse.specs.Reader as read
use Rattle.sq_parse.proofs.Exact.{Exact, token, weaker, gives, followed, either, maybe, repeated, after, Full, Full-either, Full-after, Full-gives, Full-right, Full-left, if_ok, and_then_ok, Ok-value, Err-Ok}
use Rattle.sq_parse.proofs.OperandsExact.{anything, plain_number}
use Rattle.sq_parse.proofs.ItemsExact.{source, select_list, keys, extent, columns}
use Rattle.sq_parse.proofs.ConditionsExact.{ends_condition, condition}

abbrev ends_join : Mark → Bool
ends_join m = is k.Comma m || is k.Cross m || is k.Inner m || is k.Join m || is k.Where m || is k.Group m || is k.Order m || is k.Limit m || is k.Semicolon m || is k.End m

-- what comes behind the sources, behind WHERE, behind GROUP BY, behind ORDER BY, and behind a statement
abbrev ends_statement : Mark → Bool
ends_statement m = is k.Semicolon m || is k.End m

abbrev begins_limit : Mark → Bool
begins_limit m = is k.Limit m || ends_statement m

abbrev begins_order : Mark → Bool
begins_order m = is k.Order m || begins_limit m

abbrev begins_groups : Mark → Bool
begins_groups m = is k.Group m || begins_order m

abbrev begins_where : Mark → Bool
begins_where m = is k.Where m || begins_groups m

module _ (limits : Limits) (nested : (n : ℕ) → limits.narrow n ≡ true → limits.wide n ≡ true) (d : ℕ) where
  joined : Exact ((λ p. joined_on p.1.0 p.1.1) ⊛ (rule.optional (rule.mark k.Inner) ⊗ (rule.after k.Join g.source ⊗ rule.after k.On (g.condition limits d)))) (read.joined limits d) (λ m. is k.Inner m || is k.Join m) ends_condition
  unfolding read.joined same
  joined = gives (λ p. joined_on p.1.0 p.1.1) (followed (maybe (is k.Inner) (is k.Join) (token (is k.Inner) refl) refl refl refl)
      (followed (after k.Join refl source) (after k.On refl (condition limits nested d)) refl) refl)

  pub join : Exact (g.join limits d) (read.join limits d) read.begins_join ends_join
  unfolding read.join same
  join = weaker read.begins_join ends_join (either (is k.Comma) (after k.Comma refl source) (either (is k.Cross) (after k.Cross refl (after k.Join refl source)) joined refl refl) refl refl) refl refl

  pub Full-join : Full (g.join limits d)
  Full-join = Full-either _ _ (Full-after k.Comma g.source) (Full-either _ _ (Full-after k.Cross (rule.after k.Join g.source))
      (Full-gives (λ p. joined_on p.1.0 p.1.1) (Full-right _ _ (Full-left _ _ (Full-after k.Join g.source)))))

  where_condition : Exact (rule.optional (rule.after k.Where (g.condition limits d))) (read.where_condition limits d) begins_where begins_groups
  unfolding read.where_condition same
  where_condition = maybe (is k.Where) begins_groups (after k.Where refl (condition limits nested d)) refl refl refl

  groups : Exact g.groups read.groups begins_groups begins_order
  unfolding read.groups same
  groups = gives (λ columns. unwrap_or columns []) (maybe (is k.Group) begins_order (after k.Group refl (after k.By refl columns)) refl refl refl)

  order : Exact g.order read.order begins_order begins_limit
  unfolding read.order same
  order = gives (λ keys. unwrap_or keys []) (maybe (is k.Order) begins_limit (after k.Order refl (after k.By refl keys)) refl refl refl)

  limit : Exact (g.limit limits) (read.limit limits) begins_limit ends_statement
  unfolding read.limit read.count same
  limit = maybe (is k.Limit) ends_statement (after k.Limit refl (gives (λ n. n.number) (plain_number limits nested))) refl refl refl

  pub statement : Exact (g.statement limits d) (read.statement limits d) (is k.Select) ends_statement
  unfolding read.statement read.sources same
  statement = gives (λ p. statement_of p.0 p.1.0 p.1.1.0 p.1.1.1.0 p.1.1.1.1.0 p.1.1.1.1.1.0 p.1.1.1.1.1.1)
      (after k.Select refl (followed extent
      (followed select_list (followed (after k.From refl (gives (λ p. p.0 ∷ p.1) (followed source
      (repeated (g.join limits d) (read.join limits d) read.begins_join ends_join read.begins_join begins_where join refl refl refl refl Full-join) refl)))
      (followed where_condition (followed groups (followed order limit refl) refl) refl) refl) refl) refl))

  -- ---- scripts

  abbrev more_rule : List Tok → Statement → Type 0
  more_rule = rule.after k.Semicolon (g.statement limits d)

  -- what is left of a script behind its first statement
  record Rest (ts : List Tok) (xs : List Statement) : Type 0 where
    us : List Tok
    vs : List Tok
    last : Option Tok
    parts : ts ≡ us ++ vs
    left : rule.many more_rule us xs
    right : rule.optional (rule.mark k.Semicolon) vs last

  semicolon : Exact (rule.mark k.Semicolon) (reading.mark k.Semicolon) (is k.Semicolon) anything
  unfolding same
  semicolon = token (is k.Semicolon) refl

  first_of_rest : (ts us vs : List Tok) (xs : List Statement) (last : Option Tok) → ts ≡ us ++ vs → rule.many more_rule us xs → rule.optional (rule.mark k.Semicolon) vs last → ends_statement (next ts) ≡ true
  unfolding same
  first_of_rest ts us vs [] None parts l r = rw (parts, l, r) refl
  first_of_rest ts us vs [] (Some t) parts l r = rw (parts, l, r.0, r.1) refl
  first_of_rest ts us vs (x ∷ more) last parts l r =
      let q = l.3.1 in
      rw (parts, l.2, q.parts, q.left.0, q.left.1) refl

  not_done : (ts : List Tok) → is k.Select (next ts) ≡ true → done ts ≡ false
  unfolding same
  not_done [] e = cc
  not_done (t ∷ ts) e = refl

  goes_on : (more : Parser (List Statement)) (t : Tok) (w : List Tok) → is k.Semicolon t.mark ≡ true → done w ≡ false → read.after_semicolon limits more (t ∷ w) ≡ more w
  goes_on more t w e f = rw (e, f) refl

  again_rest : (n : ℕ) (xs : List Statement) (ts us vs : List Tok) (last : Option Tok) → ts ≡ us ++ vs → rule.many more_rule us xs → rule.optional (rule.mark k.Semicolon) vs last → length xs ≤ n → read.statements limits d n ts ≡ Ok (xs, [])
  unfolding read.statements same
  again_rest zero [] ts us vs None parts l r fits = rw (parts, l, r) refl
  again_rest zero [] ts us vs (Some t) parts l r fits = rw (parts, l, r.0, r.1) refl
  again_rest (suc n) [] ts us vs None parts l r fits = rw (parts, l, r) refl
  again_rest (suc n) [] ts us vs (Some t) parts l r fits = rw (parts, l, r.0, r.1) refl
  again_rest zero (x ∷ more) ts us vs last parts l r fits = absurd (omega arith)
  again_rest (suc n) (x ∷ more) ts us vs last parts l r fits =
      let q = l.3.1 in
      let w = l.1 ++ vs in
      let ends = first_of_rest w l.1 vs more last refl l.4 r in
      let begun = not_done (q.second ++ w) (statement.begins q.second l.3.0.1 w q.right ends) in
      let others = again_rest n more w l.1 vs last refl l.4 r (omega arith) in
      let shape : ts ≡ l.3.0.0 ∷ (q.second ++ w) =
      parts ∙ (ap (λ z. z ++ vs) (l.2 ∙ ap (λ z. z ++ l.1) (q.parts ∙ ap (λ z. z ++ q.second) q.left.0)) ∙ ap (λ z. l.3.0.0 ∷ z) (append_assoc q.second l.1 vs)) in
      rw shape (goes_on (read.statement limits d >>= (λ s. (λ ys. s ∷ ys) <$> read.statements limits d n)) l.3.0.0 (q.second ++ w) q.left.1 begun
      ∙ rw (statement.again q.second l.3.0.1 w q.right ends, others) (ap (λ z. Ok (z ∷ more, [])) l.3.2))

  data Went (more : Parser (List Statement)) (ts : List Tok) (xs : List Statement) (rest : List Tok) : Type 0 where
    stopped : [] ≡ xs → ts ≡ rest → Went more ts xs rest
    ended : (t : Tok) → is k.Semicolon t.mark ≡ true → ts ≡ t ∷ rest → [] ≡ xs → Went more ts xs rest
    went : (t : Tok) (w : List Tok) → is k.Semicolon t.mark ≡ true → ts ≡ t ∷ w → more w ≡ Ok (xs, rest) → Went more ts xs rest

  how : (more : Parser (List Statement)) (ts : List Tok) (xs : List Statement) (rest : List Tok) → read.after_semicolon limits more ts ≡ Ok (xs, rest) → Went more ts xs rest
  how more ts xs rest e = ⊎_elim
      (λ h. let o = and_then_ok (reading.mark k.Semicolon ts) (λ _. λ us. cond (done us) (reading.pure [] us) (more us)) (xs, rest) h.1 in
      let x = semicolon.takes ts o.0 o.1 o.2 in
      let shape : ts ≡ o.0 ∷ o.1 = x.2 ∙ ap (λ z. z ++ o.1) x.1.0 in
      ⊎_elim
      (λ i. let pair = Ok-value i.1 in ended o.0 x.1.1 (shape ∙ ap (λ z. o.0 ∷ z) (ap (λ z. z.1) pair)) (ap (λ z. z.0) pair))
      (λ i. went o.0 o.1 x.1.1 shape i.1)
      (if_ok (done o.1) (reading.pure [] o.1) (more o.1) (xs, rest) o.3))
      (λ h. let pair = Ok-value h.1 in stopped (ap (λ z. z.0) pair) (ap (λ z. z.1) pair))
      (if_ok (is k.Semicolon (next ts)) _ (reading.pure [] ts) (xs, rest) e)

  refused : (ts : List Tok) (v : List Statement × List Tok) → read.no_more limits ts ≡ Ok v → ⊥
  refused ts v e = ⊎_elim (λ h. Err-Ok h.1) (λ h. Err-Ok h.1) (if_ok (is k.Select (next ts)) (reading.refuse stop.TooManyStatements ts) (reading.refuse stop.Syntax ts) v e)

  no_more : Rest [] []
  no_more = record { us = []; vs = []; last = None; parts = refl; left = refl; right = refl }

  one_more : (t : Tok) → is k.Semicolon t.mark ≡ true → Rest (t ∷ []) []
  one_more t e = record { us = []; vs = t ∷ []; last = Some t; parts = refl; left = refl; right = (refl, e) }

  abbrev Took : ℕ → List Tok → List Statement → List Tok → Type 0
  Took n ts xs rest = (us : List Tok) × Rest us xs × (ts ≡ us ++ rest) × (length xs ≤ n)

  took_none : (n : ℕ) (ts : List Tok) (xs : List Statement) (rest us : List Tok) → Rest us [] → ts ≡ us ++ rest → [] ≡ xs → Took n ts xs rest
  took_none n ts xs rest us r e is = (us, subst (λ ys. Rest us ys) is r, e, subst (λ ys. length ys ≤ n) is (omega arith))

  took_zero : (ts : List Tok) (xs : List Statement) (rest : List Tok) → Went (read.no_more limits) ts xs rest → Took 0 ts xs rest
  took_zero ts xs rest (stopped a b) = took_none 0 ts xs rest [] no_more b a
  took_zero ts xs rest (ended t e f a) = took_none 0 ts xs rest (t ∷ []) (one_more t e) f a
  took_zero ts xs rest (went t w e f g) = absurd (refused w (xs, rest) g)

  took_more : (n : ℕ) → ((ts : List Tok) (xs : List Statement) (rest : List Tok) → read.statements limits d n ts ≡ Ok (xs, rest) → Took n ts xs rest)
      → (ts : List Tok) (xs : List Statement) (rest : List Tok) → Went (read.statement limits d >>= (λ s. (λ more. s ∷ more) <$> read.statements limits d n)) ts xs rest → Took (suc n) ts xs rest
  took_more n others ts xs rest (stopped a b) = took_none (suc n) ts xs rest [] no_more b a
  took_more n others ts xs rest (ended t e f a) = took_none (suc n) ts xs rest (t ∷ []) (one_more t e) f a
  took_more n others ts xs rest (went t w e f g) =
      let o = and_then_ok (read.statement limits d w) (λ s. (λ more. s ∷ more) <$> read.statements limits d n) (xs, rest) g in
      let i = and_then_ok (read.statements limits d n o.1) (λ more. reading.pure (o.0 ∷ more)) (xs, rest) o.3 in
      let pair = Ok-value i.3 in
      let made : o.0 ∷ i.0 ≡ xs = ap (λ z. z.0) pair in
      let left : i.1 ≡ rest = ap (λ z. z.1) pair in
      let x = statement.takes w o.0 o.1 o.2 in
      let r = others o.1 i.0 i.1 i.2 in
      let back = r.1 in (
        t ∷ (x.0 ++ r.0),
        subst (λ ys. Rest (t ∷ (x.0 ++ r.0)) ys) made (record {
          us = t ∷ (x.0 ++ back.us);
          vs = back.vs;
          last = back.last;
          parts = ap (λ z. t ∷ z) (ap (λ z. x.0 ++ z) back.parts ∙ sym (append_assoc x.0 back.us back.vs));
          left = (t ∷ x.0, back.us, refl, ((t, o.0), record { first = t ∷ []; second = x.0; parts = refl; left = (refl, e); right = x.1 }, refl), back.left);
          right = back.right;
        }),
        f ∙ ap (λ z. t ∷ z) (x.2 ∙ (ap (λ z. x.0 ++ z) (r.2 ∙ ap (λ z. r.0 ++ z) left) ∙ sym (append_assoc x.0 r.0 rest))),
        subst (λ ys. length ys ≤ suc n) made (let few : length i.0 ≤ n = r.3 in omega arith),
      )

  take_rest : (n : ℕ) (ts : List Tok) (xs : List Statement) (rest : List Tok) → read.statements limits d n ts ≡ Ok (xs, rest) → Took n ts xs rest
  unfolding read.statements
  take_rest zero ts xs rest e = took_zero ts xs rest (how _ ts xs rest e)
  take_rest (suc n) ts xs rest e = took_more n (take_rest n) ts xs rest (how _ ts xs rest e)

  nil_from_done : (ts : List Tok) → done ts ≡ true → ts ≡ []
  nil_from_done [] e = refl
  nil_from_done (t ∷ ts) e = cc

  assembled : (ts first mid us rest : List Tok) (s : Statement) (xs : List Statement) → g.statement limits d first s → Rest us xs → ts ≡ first ++ mid → mid ≡ us ++ rest → rest ≡ [] → g.script limits d ts (record { statements = s ∷ xs })
  assembled ts first mid us rest s xs h r parts behind none = (
    ((s, xs), r.last),
    record {
      first = first ++ r.us;
      second = r.vs;
      parts = parts ∙ (ap (λ z. first ++ z) (behind ∙ (ap (λ z. us ++ z) none ∙ (append-nil us ∙ r.parts))) ∙ sym (append_assoc first r.us r.vs));
      left = record { first = first; second = r.us; parts = refl; left = h; right = r.left };
      right = r.right;
    },
    refl,
  )

  finished : (n : ℕ) (ts mid more : List Tok) (s : Statement) (xs : List Statement) (tree : Script) (rest : List Tok) → (us : List Tok) × g.statement limits d us s × (ts ≡ us ++ mid) → Took n mid xs more
      → cond {A = Outcome Script} (done more) (Ok (record { statements = s ∷ xs }, more)) (Err (stop.Syntax, more)) ≡ Ok (tree, rest) → g.script limits d ts tree × (length tree.statements ≤ suc n)
  finished n ts mid more s xs tree rest x r e = ⊎_elim
      (λ h. let made = ap (λ z. z.0) (Ok-value h.1) in (
        subst (λ t. g.script limits d ts t) made (assembled ts x.0 mid r.0 more s xs x.1 r.1 x.2 r.2 (nil_from_done more h.0)),
        subst (λ (t : Script). length t.statements ≤ suc n) made (let few : length xs ≤ n = r.3 in omega arith),
      ))
      (λ h. absurd (Err-Ok h.1))
      (if_ok (done more) (Ok (record { statements = s ∷ xs }, more)) (Err (stop.Syntax, more)) (tree, rest) e)

  -- what the reader of scripts takes is a script of few statements
  pub script_takes : (n : ℕ) (ts : List Tok) (tree : Script) (rest : List Tok) → read.script limits d n ts ≡ Ok (tree, rest) → g.script limits d ts tree × (length tree.statements ≤ suc n)
  unfolding read.script
  script_takes n ts tree rest e =
      let o = and_then_ok (read.statement limits d ts) _ (tree, rest) e in
      let i = and_then_ok (read.statements limits d n o.1) _ (tree, rest) o.3 in
      finished n ts o.1 i.1 o.0 i.0 tree rest (statement.takes ts o.0 o.1 o.2) (take_rest n o.1 i.0 i.1 i.2) i.3

  -- and each script of few statements is taken
  pub script_again : (n : ℕ) (ts : List Tok) (tree : Script) → g.script limits d ts tree → length tree.statements ≤ suc n → read.script limits d n ts ≡ Ok (tree, [])
  unfolding read.script
  script_again n ts tree h fits =
      let all = h.1 in
      let one = all.left in
      let w = one.second ++ all.second in
      let few : length h.0.0.1 ≤ n = let f : length (h.0.0.0 ∷ h.0.0.1) ≤ suc n = subst (λ (t : Script). length t.statements ≤ suc n) (sym h.2) fits in omega arith in
      let ends = first_of_rest w one.second all.second h.0.0.1 h.0.1 refl one.right all.right in
      let shape : ts ≡ one.first ++ w = all.parts ∙ (ap (λ z. z ++ all.second) one.parts ∙ append_assoc one.first one.second all.second) in
      rw (shape, statement.again one.first h.0.0.0 w one.left ends, again_rest n h.0.0.1 w one.second all.second h.0.1 refl one.right all.right few) (ap (λ t. Ok (t, [])) h.2)

  -- so a list of tokens has at most one tree
  pub one_script : (n : ℕ) (ts : List Tok) (tree tree' : Script) → g.script limits d ts tree → g.script limits d ts tree' → length tree.statements ≤ suc n → length tree'.statements ≤ suc n → tree ≡ tree'
  one_script n ts tree tree' h h' fits fits' = ap (λ z. z.0) (Ok-value (sym (script_again n ts tree h fits) ∙ script_again n ts tree' h' fits'))

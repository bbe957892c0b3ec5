-- Where the readers of statements and scripts stop.
use Rattle.std.proofs.Common.{◌≡◌, ℕ, ◌<◌, ◌≤◌, [], ◌∷◌, unwrap_or, refl}
use Rattle.sq_token.specs.declared.mark.Mark.TheVariants as k
use Rattle.sq_parse.specs.declared.stop.Stop.TheVariants as stop
use Rattle.sq_token.specs.Mark.{is, same}
use Rattle.sq_parse.specs.Tree.{joined_on, statement_of}
use Rattle.sq_parse.specs.Rules as rule
use Rattle.sq_parse.specs.Rules.{Then, ◌⊗◌, ◌⊕◌, ◌⊛◌}
use Rattle.sq_parse.specs.Grammar as g
use Rattle.sq_parse.specs.Grammar.{Limits, shipped}
use Rattle.sq_parse.specs.Spelling.{unlimited}
use Rattle.sq_parse.specs.Reader as read
use Rattle.sq_token.proofs.Marks.{within_self}
use Rattle.sq_parse.proofs.Loops.{Shrinks, Shrinks-exact}
use Rattle.sq_parse.proofs.Shrinking.{nested, no_join}
use Rattle.sq_parse.proofs.StatementsExact as statements_exact
use Rattle.sq_parse.proofs.Tracks.{Faults, Tracks, any, unstarred, token, weaker, gives, followed, after}
use Rattle.sq_parse.proofs.Choices.{plainly, either, maybe, repeated}
use Rattle.sq_parse.proofs.OperandsTrack as operands
use Rattle.sq_parse.proofs.ItemsTrack as items
use Rattle.sq_parse.proofs.ConditionsTrack as conditions

shrinks_join : (d : ℕ) → Shrinks (read.join unlimited d)
shrinks_join d = Shrinks-exact (statements_exact.join unlimited (λ n h. refl) d) (statements_exact.Full-join unlimited (λ n h. refl) d)

module _ (C : Faults) (d d' e : ℕ) (a : d ≤ d') (b : d ≤ e) (deep : C.counts stop.TooDeep → d ≡ d') (deeper : C.owed stop.TooDeep → d < e) where
  condition : Tracks (g.condition shipped d) (g.condition unlimited e) (read.condition shipped d) (read.condition unlimited d') C unstarred unstarred
  condition = conditions.condition C d d' e a b deep deeper

  join : Tracks (g.join shipped d) (g.join unlimited e) (read.join shipped d) (read.join unlimited d') C unstarred unstarred
  unfolding read.join read.joined same
  join = either (is k.Comma) (plainly (after k.Comma refl refl refl refl (items.source C)))
      (either (is k.Cross) (plainly (after k.Cross refl refl refl refl (after k.Join refl refl refl refl (items.source C))))
      (gives (λ p. joined_on p.1.0 p.1.1) (followed (maybe (is k.Inner) refl (plainly (token C (is k.Inner) unstarred k.Inner refl refl refl refl)))
      (followed (after k.Join refl refl refl refl (items.source C)) (after k.On refl refl refl refl condition) refl) refl)))

  sources : Tracks ((λ p. p.0 ∷ p.1) ⊛ (g.source ⊗ rule.many (g.join shipped d))) ((λ p. p.0 ∷ p.1) ⊛ (g.source ⊗ rule.many (g.join unlimited e))) (read.sources shipped d) (read.sources unlimited d') C any unstarred
  unfolding read.sources
  sources = gives (λ p. p.0 ∷ p.1) (followed (items.source C)
      (repeated (g.join shipped d) (g.join unlimited e) (read.join shipped d) (read.join unlimited d') C unstarred read.begins_join join no_join (statements_exact.Full-join shipped nested d) (shrinks_join d'))
      (within_self unstarred))

  where_condition : Tracks (rule.optional (rule.after k.Where (g.condition shipped d))) (rule.optional (rule.after k.Where (g.condition unlimited e))) (read.where_condition shipped d) (read.where_condition unlimited d') C unstarred unstarred
  unfolding read.where_condition same
  where_condition = maybe (is k.Where) refl (plainly (after k.Where refl refl refl refl condition))

  groups : Tracks g.groups g.groups read.groups read.groups C unstarred unstarred
  unfolding read.groups same
  groups = gives (λ columns. unwrap_or columns []) (maybe (is k.Group) refl (plainly (after k.Group refl refl refl refl (after k.By refl refl refl refl (items.columns C)))))

  order : Tracks g.order g.order read.order read.order C unstarred unstarred
  unfolding read.order same
  order = gives (λ keys. unwrap_or keys []) (maybe (is k.Order) refl (plainly (after k.Order refl refl refl refl (after k.By refl refl refl refl (items.keys C)))))

  limit : Tracks (g.limit shipped) (g.limit unlimited) (read.limit shipped) (read.limit unlimited) C unstarred unstarred
  unfolding read.limit read.count same
  limit = maybe (is k.Limit) refl (plainly (after k.Limit refl refl refl refl (gives (λ n. n.number) (operands.plain_number C))))

  pub statement : Tracks (g.statement shipped d) (g.statement unlimited e) (read.statement shipped d) (read.statement unlimited d') C any unstarred
  unfolding read.statement same
  statement = gives (λ p. statement_of p.0 p.1.0 p.1.1.0 p.1.1.1.0 p.1.1.1.1.0 p.1.1.1.1.1.0 p.1.1.1.1.1.1)
      (after k.Select refl refl refl refl (followed (items.extent C)
      (followed (items.select_list C) (followed (after k.From refl refl refl refl sources)
      (followed where_condition (followed groups (followed order limit refl) refl) refl) refl) refl) refl))

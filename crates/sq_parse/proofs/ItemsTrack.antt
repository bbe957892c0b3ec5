-- Where the readers of select lists, sources and sort keys stop.
use Rattle.std.proofs.Common.{◌≡◌, Bool, true, false, ◌&&◌, cond, inl, inr, ⊎_elim, ◌<◌, ◌≤◌, List, [], ◌∷◌, ◌++◌, length, Err, Some, None, unwrap_or, option_map, refl, ap, sym, ◌∙◌, arith}
use Rattle.sq_token.specs.declared.mark.Mark.{Mark}
use Rattle.sq_token.specs.declared.mark.Mark.TheVariants as k
use Rattle.sq_parse.specs.declared.stop.Stop.{Stop}
use Rattle.sq_token.specs.Tok.{Tok, next}
use Rattle.sq_parse.specs.Reading as reading
use Rattle.sq_parse.specs.Reading.{Parser}
use Rattle.sq_expr.specs.declared.shape.AggKind.TheVariants as agg
use Rattle.sq_parse.specs.declared.tree.Name.{Name}
use Rattle.sq_parse.specs.declared.tree.ColRef.{ColRef}
use Rattle.sq_parse.specs.declared.tree.Items.TheVariants as selected
use Rattle.sq_parse.specs.declared.tree.Item.TheVariants as shown
use Rattle.sq_token.specs.Mark.{is, same, is_name, is_agg, is_extent, is_reckoned, is_way, is_end}
use Rattle.sq_parse.specs.Tree.{column_of, source_of, way_of, reckoned_by, agg_item}
use Rattle.sq_parse.specs.Rules as rule
use Rattle.sq_parse.specs.Rules.{◌⊗◌, ◌⊕◌, ◌⊛◌}
use Rattle.sq_parse.specs.Grammar as g
use Rattle.sq_parse.specs.Reader as read
use Rattle.sq_token.proofs.Marks.{within, within_at, within_self, and_left}
use Rattle.sq_parse.proofs.Shrinking as shrinking
use Rattle.sq_parse.proofs.ItemsExact.{column_rest, dot_rest, from_rest}
use Rattle.sq_parse.proofs.Tracks.{Faults, Tracks, any, unstarred, token, weaker, along, gives, followed, chained, after, if_is}
use Rattle.sq_parse.proofs.Choices.{plainly, either, maybe, list_of, enclosed, always, by_test, Moves, moves_token, moves_gives, moves_then, moves_chain, falls, shrinks_by, again_at_once}
use Rattle.sq_parse.proofs.Exact.{Full, Full-token, Full-gives, Full-left, Full-either}
use Rattle.sq_parse.proofs.Places.{view, next_same, next_seen}
use Rattle.sq_parse.proofs.OperandsTrack as operands
use Rattle.sq_parse.proofs.OperandsTrack.{Full-name}

-- a test of the second token depends on the next one alone once a token was read
steady_agg : (us rest w : List Tok) → 1 ≤ length us → view rest ≡ view w → read.begins_agg (us ++ rest) ≡ read.begins_agg (us ++ w)
steady_agg [] rest w some m = absurd (omega arith)
steady_agg (x ∷ us) rest w some m = ap (λ z. is_agg x.mark && is k.Open z) (next_same us rest w (next_seen rest w m))

no_agg : (ts : List Tok) → is_name (next ts) ≡ false → read.begins_agg ts ≡ false
unfolding same
no_agg ts e = rw (outside is_agg is_name refl (next ts) e) refl
  where
    cc_of : {b : Bool} → b ≡ true → b ≡ false → ⊥
    cc_of x y = cc

    not_so : (b : Bool) → (b ≡ true → ⊥) → b ≡ false
    not_so true h = absurd (h refl)
    not_so false h = refl

    outside : (p q : Mark → Bool) → within p q ≡ true → (m : Mark) → q m ≡ false → p m ≡ false
    outside p q h m f = not_so (p m) (λ g. cc_of (within_at p q h m g) f)

-- in parentheses, whatever its last token is
bracketed : {A : Type 0} {l l' : List Tok → A → Type 0} {p p' : Parser A} {C : Faults} → Tracks l l' p p' C any any → Tracks (rule.enclosed l) (rule.enclosed l') (reading.enclosed p) (reading.enclosed p') C any unstarred
unfolding same
bracketed {C = C} x = after k.Open refl refl refl refl (gives (λ q. q.0) (followed x (token C (is k.Close) unstarred k.Close refl refl refl refl) refl))

module _ (C : Faults) where
  name : Tracks g.name g.name read.name read.name C any unstarred
  name = operands.name C

  alias : Tracks g.alias g.alias read.alias read.alias C unstarred unstarred
  unfolding read.alias same
  alias = gives (λ p. p.1) (followed (maybe (is k.As) refl (plainly (token C (is k.As) unstarred k.As refl refl refl refl))) name refl)

  optional_alias : Tracks (rule.optional g.alias) (rule.optional g.alias) read.optional_alias read.optional_alias C unstarred unstarred
  unfolding read.optional_alias
  optional_alias = maybe read.begins_alias (within_self unstarred) alias

  pub source : Tracks g.source g.source read.source read.source C any unstarred
  unfolding read.source
  source = gives (λ p. source_of p.0 p.1) (followed name optional_alias (within_self unstarred))

  column_item : (c : ColRef) → Tracks (column_rest c) (column_rest c) (read.column_item c) (read.column_item c) C unstarred unstarred
  unfolding read.column_item
  column_item c = gives (λ a. shown.Col c a) optional_alias

  behind_dot : (n : Name) → Tracks (dot_rest n) (dot_rest n) (read.behind_dot n) (read.behind_dot n) C any any
  unfolding read.behind_dot same
  behind_dot n = either (is k.Star) (gives (λ _. shown.AllOf n) (token C (is k.Star) any k.Star refl refl refl refl)) (weaker any any (chained name (λ m. column_item (column_of n (Some m))) refl) refl refl)

  behind_name : (n : Name) → Tracks (rule.after k.Dot (dot_rest n) ⊕ column_rest (column_of n None)) (rule.after k.Dot (dot_rest n) ⊕ column_rest (column_of n None)) (read.behind_name n) (read.behind_name n) C unstarred any
  unfolding read.behind_name same
  behind_name n = either (is k.Dot) (weaker unstarred any (after k.Dot refl refl refl refl (behind_dot n)) refl refl) (weaker unstarred any (column_item (column_of n None)) refl refl)

  plain_item : Tracks g.plain_item g.plain_item read.plain_item read.plain_item C any any
  unfolding read.plain_item
  plain_item = along (λ us a h. from_rest us h.first h.second h.between a h.parts h.left h.right) (λ us a h. from_rest us h.first h.second h.between a h.parts h.left h.right) (chained name behind_name (within_self unstarred))

  counted : Tracks g.counted g.counted read.counted read.counted C any any
  unfolding read.counted same
  counted = either (is k.Star) (gives (λ _. (agg.CountAll, None)) (token C (is k.Star) any k.Star refl refl refl refl)) (gives (λ c. (agg.Count, Some c)) (weaker any any (operands.column C) refl refl))

  counted_in : Tracks (rule.enclosed g.counted) (rule.enclosed g.counted) (reading.enclosed read.counted) (reading.enclosed read.counted) C any unstarred
  counted_in = bracketed counted

  aggregate : Tracks g.aggregate g.aggregate read.aggregate read.aggregate C any unstarred
  unfolding read.aggregate read.count_of read.reckoned same
  aggregate = either (is k.Count)
      (gives (λ p. (p.0.at, p.1)) (followed (token C (is k.Count) any k.Count refl refl refl refl) counted_in refl))
      (gives (λ p. (p.0.at, (reckoned_by p.0.mark, Some p.1))) (followed (token C is_reckoned any k.Sum refl refl refl refl) (enclosed (plainly (operands.column C))) refl))

  aggregate_item : Tracks ((λ p. agg_item p.0.0 p.0.1.0 p.0.1.1 p.1) ⊛ (g.aggregate ⊗ rule.optional g.alias)) ((λ p. agg_item p.0.0 p.0.1.0 p.0.1.1 p.1) ⊛ (g.aggregate ⊗ rule.optional g.alias)) read.aggregate_item read.aggregate_item C any any
  unfolding read.aggregate_item same
  aggregate_item = weaker any any (gives (λ p. agg_item p.0.0 p.0.1.0 p.0.1.1 p.1) (followed aggregate optional_alias refl)) refl refl

  -- ---- what begins with a name doesn't fail at once

  count_moves : Moves read.count_of C (is k.Count)
  unfolding read.count_of same
  count_moves = moves_gives (λ p. (p.0.at, p.1)) (moves_then (moves_token C (is k.Count)) (shrinks_by (token C (is k.Count) any k.Count refl refl refl refl) (Full-token (is k.Count))) (falls counted_in))

  reckoned_moves : Moves read.reckoned C is_reckoned
  unfolding read.reckoned same
  reckoned_moves = moves_gives (λ p. (p.0.at, (reckoned_by p.0.mark, Some p.1))) (moves_then (moves_token C is_reckoned) (shrinks_by (token C is_reckoned any k.Sum refl refl refl refl) (Full-token is_reckoned)) (falls (enclosed (plainly (operands.column C)))))

  aggregate_moves : Moves read.aggregate C is_agg
  unfolding read.aggregate
  aggregate_moves = record {
    goes = λ ts s rest h c e. ⊎_elim
        (λ i. count_moves.goes ts s rest i.0 c i.1)
        (λ i. reckoned_moves.goes ts s rest (rw i.0 at h) c i.1)
        (if_is (is k.Count (next ts)) (read.count_of ts) (read.reckoned ts) (Err (s, rest)) e);
  }

  Full-aggregate : Full g.aggregate
  Full-aggregate = Full-either _ _ (Full-gives (λ p. (p.0.at, p.1)) (Full-left (rule.mark k.Count) _ (Full-token (is k.Count)))) (Full-gives (λ p. (p.0.at, (reckoned_by p.0.mark, Some p.1))) (Full-left (rule.token is_reckoned) _ (Full-token is_reckoned)))

  aggregate_item_moves : Moves read.aggregate_item C is_agg
  unfolding read.aggregate_item
  aggregate_item_moves = moves_gives (λ p. agg_item p.0.0 p.0.1.0 p.0.1.1 p.1) (moves_then aggregate_moves (shrinks_by aggregate Full-aggregate) (falls optional_alias))

  plain_moves : Moves read.plain_item C is_name
  unfolding read.plain_item
  plain_moves = moves_chain (operands.name_moves C) (shrinks_by name Full-name) (λ n. falls (behind_name n))

  item_moves : Moves (λ ts. cond (read.begins_agg ts) (read.aggregate_item ts) (read.plain_item ts)) C is_name
  item_moves = record {
    goes = λ ts s rest h c e. ⊎_elim
        (λ i. aggregate_item_moves.goes ts s rest (and_left (is_agg (next ts)) _ i.0) c i.1)
        (λ i. plain_moves.goes ts s rest h c i.1)
        (if_is (read.begins_agg ts) (read.aggregate_item ts) (read.plain_item ts) (Err (s, rest)) e);
  }

  at_once : (b : Bool) (s : Stop) (rest w : List Tok) → is_name (next rest) ≡ b → C.counts s → cond (read.begins_agg rest) (read.aggregate_item rest) (read.plain_item rest) ≡ Err (s, rest) → view rest ≡ view w
      → cond (read.begins_agg w) (read.aggregate_item w) (read.plain_item w) ≡ Err (s, w)
  at_once true s rest w h c e m = let less : length rest < length rest = item_moves.goes rest s rest h c e in absurd (omega arith)
  at_once false s rest w h c e m = rw (no_agg w (ap is_name (sym (next_seen rest w m)) ∙ h)) (again_at_once plain_item s rest w c (rw (no_agg rest h) at e) m)

  item : Tracks g.item g.item read.item read.item C any any
  unfolding read.item
  item = by_test read.begins_agg (always aggregate_item) (always plain_item)
      (Full-gives (λ p. agg_item p.0.0 p.0.1.0 p.0.1.1 p.1) (Full-left g.aggregate (rule.optional g.alias) Full-aggregate))
      (Full-either _ _ (Full-gives (λ p. shown.AllOf p.0) (Full-left g.name _ Full-name)) (Full-gives (λ p. shown.Col p.0 p.1) (Full-left g.column _ (Full-gives (λ p. column_of p.0 p.1) (Full-left g.name _ Full-name)))))
      steady_agg
      (λ s rest w c e m. at_once (is_name (next rest)) s rest w refl c e m)
      (let z = plain_item.sample in (z.0, z.1, inr z.2, inr z.3))

  pub select_list : Tracks g.select_list g.select_list read.select_list read.select_list C any any
  unfolding read.select_list read.items same
  select_list = either (is k.Star) (gives (λ _. selected.Star) (token C (is k.Star) any k.Star refl refl refl refl)) (gives selected.List (list_of k.Comma refl refl refl refl shrinking.item item))

  key : Tracks g.key g.key read.key read.key C any unstarred
  unfolding read.key read.falls read.nulls_first same
  key = gives (λ p. record { column = p.0; way = way_of p.1.0 p.1.1 })
      (followed (operands.column C) (followed
      (gives (λ way. unwrap_or (option_map (λ w. is k.Desc w.mark) way) false) (maybe is_way refl (plainly (token C is_way unstarred k.Asc refl refl refl refl))))
      (gives (λ end. option_map (λ e. is k.First e.mark) end) (maybe (is k.Nulls) refl (plainly (after k.Nulls refl refl refl refl (token C is_end unstarred k.First refl refl refl refl)))))
      refl) refl)

  pub keys : Tracks (rule.list_of k.Comma g.key) (rule.list_of k.Comma g.key) read.keys read.keys C unstarred unstarred
  unfolding read.keys same
  keys = list_of k.Comma refl refl refl refl shrinking.key (plainly key)

  pub extent : Tracks g.extent g.extent read.extent read.extent C any any
  unfolding read.extent same
  extent = gives (λ extent. unwrap_or (option_map (λ w. is k.Distinct w.mark) extent) false) (maybe is_extent refl (weaker any any (token C is_extent unstarred k.All refl refl refl refl) refl refl))

  pub columns : Tracks (rule.list_of k.Comma g.column) (rule.list_of k.Comma g.column) read.columns read.columns C unstarred unstarred
  unfolding read.columns same
  columns = list_of k.Comma refl refl refl refl shrinking.column (plainly (operands.column C))

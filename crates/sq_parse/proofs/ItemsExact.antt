-- The readers of select lists, sources and sort keys are exact for their rules.
use Rattle.std.proofs.Common.{◌≡◌, Bool, true, false, not, ◌||◌, ◌&&◌, ℕ, ◌∷◌, inl, inr, List, [], ◌++◌, Option, Some, None, unwrap_or, option_map, refl, ap, sym, ◌∙◌, append_assoc, append-nil}
use Rattle.sq_token.specs.declared.mark.Mark.{Mark}
use Rattle.sq_token.specs.declared.mark.Mark.TheVariants as k
use Rattle.sq_expr.specs.declared.shape.AggKind.TheVariants as agg
use Rattle.sq_parse.specs.declared.tree.Name.{Name}
use Rattle.sq_parse.specs.declared.tree.ColRef.{ColRef}
use Rattle.sq_parse.specs.declared.tree.Items.TheVariants as selected
use Rattle.sq_parse.specs.declared.tree.Item.{Item}
use Rattle.sq_parse.specs.declared.tree.Item.TheVariants as shown
use Rattle.sq_token.specs.Mark.{is, same, is_name, is_extent, is_agg, is_reckoned, is_way, is_end}
use Rattle.sq_token.specs.Tok.{Tok, next}
use Rattle.sq_parse.specs.Tree.{column_of, source_of, way_of, reckoned_by, agg_item}
use Rattle.sq_parse.specs.Rules as rule
use Rattle.sq_parse.specs.Rules.{Then, ◌⊗◌, ◌⊕◌, ◌⊛◌}
use Rattle.sq_parse.specs.Grammar as g
use Rattle.sq_parse.specs.Reader as read
use Rattle.sq_token.proofs.Marks.{all_within, within_at, apart_at}
use Rattle.sq_parse.proofs.Exact.{Exact, Chain, by_test, closed, token, weaker, gives, followed, chained, along, either, maybe, after, list_exact}
use Rattle.sq_parse.proofs.OperandsExact.{anything, ends_column, name, column}

abbrev pub ends_source : Mark → Bool
ends_source m = not (is k.As m || is_name m)

abbrev pub ends_item : Mark → Bool
ends_item m = not (is k.Dot m || is k.As m || is_name m || is k.Open m)

pub alias : Exact g.alias read.alias read.begins_alias anything
unfolding read.alias same
alias = weaker read.begins_alias anything (gives (λ p. p.1) (followed (maybe (is k.As) is_name (token (is k.As) refl) refl refl refl) name refl)) refl refl

pub optional_alias : Exact (rule.optional g.alias) read.optional_alias anything ends_source
unfolding read.optional_alias same
optional_alias = weaker anything ends_source (maybe read.begins_alias ends_source alias refl refl refl) refl refl

pub source : Exact g.source read.source is_name ends_source
unfolding read.source
source = gives (λ p. source_of p.0 p.1) (followed name optional_alias refl)

-- ---- items, told by what stands behind their first name

abbrev pub column_rest : ColRef → List Tok → Item → Type 0
column_rest c = (λ a. shown.Col c a) ⊛ rule.optional g.alias

abbrev pub dot_rest : Name → List Tok → Item → Type 0
dot_rest n = (λ _. shown.AllOf n) ⊛ rule.mark k.Star ⊕ Chain g.name (λ m. column_rest (column_of n (Some m)))

abbrev pub item_by_name : List Tok → Item → Type 0
item_by_name = Chain g.name (λ n. rule.after k.Dot (dot_rest n) ⊕ column_rest (column_of n None))

to_column : (us first second cf cs : List Tok) (n : Name) (o : Option Name) (c : ColRef) (al : Option Name) (a : Item) → us ≡ first ++ second → first ≡ cf ++ cs → g.name cf n
    → rule.optional (rule.after k.Dot g.name) cs o → column_of n o ≡ c → rule.optional g.alias second al → shown.Col c al ≡ a → item_by_name us a
to_column us first second cf cs n None c al a parts inner left none made aliased is =
    record {
      first = cf;
      second = second;
      between = n;
      left = left;
      parts = parts ∙ ap (λ x. x ++ second) (inner ∙ (ap (λ x. cf ++ x) none ∙ append-nil cf));
      right = inr (al, aliased, ap (λ d. shown.Col d al) made ∙ is);
    }
to_column us first second cf cs n (Some m) c al a parts inner left dotted made aliased is =
    let d = dotted.1 in
    let same_name : dotted.0.1 ≡ m = dotted.2 in
    record {
      first = cf;
      second = cs ++ second;
      between = n;
      left = left;
      parts = parts ∙ (ap (λ x. x ++ second) inner ∙ append_assoc cf cs second);
      right = inl (
        (dotted.0.0, a),
        record {
          first = d.first;
          second = d.second ++ second;
          left = d.left;
          parts = ap (λ x. x ++ second) d.parts ∙ append_assoc d.first d.second second;
          right = inr (record {
            first = d.second;
            second = second;
            between = dotted.0.1;
            parts = refl;
            left = d.right;
            right = (al, aliased, ap (λ x. shown.Col (column_of n (Some x)) al) same_name ∙ (ap (λ x. shown.Col x al) made ∙ is));
          });
        },
        refl,
      );
    }

to_item : (us : List Tok) (a : Item) → g.plain_item us a → item_by_name us a
to_item us a (inl h) =
    let all = h.1 in
    let d = all.right.1 in
    record {
      first = all.first;
      second = all.second;
      between = h.0.0;
      parts = all.parts;
      left = all.left;
      right = inl ((all.right.0.0, a), record { first = d.first; second = d.second; parts = d.parts; left = d.left; right = inl (all.right.0.1, d.right, h.2) }, refl);
    }
to_item us a (inr h) =
    let c = h.1.left in
    to_column us h.1.first h.1.second c.1.first c.1.second c.0.0 c.0.1 h.0.0 h.0.1 a h.1.parts c.1.parts c.1.left c.1.right c.2 h.1.right h.2

from_dot : (us first second df ds : List Tok) (n : Name) (dot : Tok) (b a : Item) → us ≡ first ++ second → g.name first n → second ≡ df ++ ds → rule.mark k.Dot df dot → dot_rest n ds b → b ≡ a → g.plain_item us a
from_dot us first second df ds n dot b a parts left inner dotted (inl star) is =
    inl (
      (n, star.0),
      record {
        first = first;
        second = second;
        parts = parts;
        left = left;
        right = ((dot, star.0), record { first = df; second = ds; parts = inner; left = dotted; right = star.1 }, refl);
      },
      star.2 ∙ is,
    )
from_dot us first second df ds n dot b a parts left inner dotted (inr e) is =
    let m = e.between in
    let al = e.right in
    inr (
      (column_of n (Some m), al.0),
      record {
        first = first ++ (df ++ e.first);
        second = e.second;
        parts = parts ∙ (ap (λ x. first ++ x) (inner ∙ (ap (λ x. df ++ x) e.parts ∙ sym (append_assoc df e.first e.second))) ∙ sym (append_assoc first (df ++ e.first) e.second));
        left = (
          (n, Some m),
          record {
            first = first;
            second = df ++ e.first;
            parts = refl;
            left = left;
            right = ((dot, m), record { first = df; second = e.first; parts = refl; left = dotted; right = e.left }, refl);
          },
          refl,
        );
        right = al.1;
      },
      al.2 ∙ is,
    )

pub from_rest : (us first second : List Tok) (n : Name) (a : Item) → us ≡ first ++ second → g.name first n → (rule.after k.Dot (dot_rest n) ⊕ column_rest (column_of n None)) second a → g.plain_item us a
from_rest us first second n a parts left (inl d) = from_dot us first second d.1.first d.1.second n d.0.0 d.0.1 a parts left d.1.parts d.1.left d.1.right d.2
from_rest us first second n a parts left (inr c) =
    inr (
      (column_of n None, c.0),
      record {
        first = first;
        second = second;
        parts = parts;
        left = ((n, None), record { first = first; second = []; parts = sym (append-nil first); left = left; right = refl }, refl);
        right = c.1;
      },
      c.2,
    )

alias_of_item : Exact (rule.optional g.alias) read.optional_alias ends_column ends_item
unfolding read.optional_alias same
alias_of_item = weaker ends_column ends_item (maybe read.begins_alias ends_item alias refl refl refl) refl refl

column_item : (c : ColRef) → Exact (column_rest c) (read.column_item c) ends_column ends_item
unfolding read.column_item
column_item c = gives (λ a. shown.Col c a) alias_of_item

behind_dot : (n : Name) → Exact (dot_rest n) (read.behind_dot n) (λ m. is k.Star m || is_name m) ends_item
unfolding read.behind_dot same
behind_dot n = weaker (λ m. is k.Star m || is_name m) ends_item
    (either (is k.Star) (gives (λ _. shown.AllOf n) (token (is k.Star) refl)) (chained name (λ m. column_item (column_of n (Some m))) refl) refl refl) refl refl

named_item : (n : Name) → Exact (rule.after k.Dot (dot_rest n) ⊕ column_rest (column_of n None)) (read.behind_name n) anything ends_item
unfolding read.behind_name same
named_item n = weaker anything ends_item (either (is k.Dot) (after k.Dot refl (behind_dot n)) (column_item (column_of n None)) refl refl) refl refl

plain_item : Exact g.plain_item read.plain_item is_name ends_item
unfolding read.plain_item same
plain_item = along to_item (λ us a h. from_rest us h.first h.second h.between a h.parts h.left h.right) (chained name named_item refl)

-- ---- aggregates

counted : Exact g.counted read.counted (λ m. is k.Star m || is_name m) ends_column
unfolding read.counted same
counted = weaker (λ m. is k.Star m || is_name m) ends_column
    (either (is k.Star) (gives (λ _. (agg.CountAll, None)) (token (is k.Star) refl)) (gives (λ c. (agg.Count, Some c)) column) refl refl) refl refl

count_of : Exact ((λ p. (p.0.at, p.1)) ⊛ (rule.mark k.Count ⊗ rule.enclosed g.counted)) read.count_of (is k.Count) anything
unfolding read.count_of same
count_of = gives (λ p. (p.0.at, p.1)) (followed (token (is k.Count) refl) (closed counted refl) refl)

reckoned : Exact ((λ p. (p.0.at, (reckoned_by p.0.mark, Some p.1))) ⊛ (rule.token is_reckoned ⊗ rule.enclosed g.column)) read.reckoned is_reckoned anything
unfolding read.reckoned same
reckoned = gives (λ p. (p.0.at, (reckoned_by p.0.mark, Some p.1))) (followed (token is_reckoned refl) (closed column refl) refl)

aggregate : Exact g.aggregate read.aggregate is_agg anything
unfolding read.aggregate same
aggregate = weaker is_agg anything (either (is k.Count) count_of reckoned refl refl) refl refl

aggregate_item : Exact ((λ p. agg_item p.0.0 p.0.1.0 p.0.1.1 p.1) ⊛ (g.aggregate ⊗ rule.optional g.alias)) read.aggregate_item is_agg ends_item
unfolding read.aggregate_item same
aggregate_item = gives (λ p. agg_item p.0.0 p.0.1.0 p.0.1.1 p.1) (followed aggregate (weaker anything ends_item optional_alias refl refl) refl)

both_true : (a b : Bool) → a ≡ true → b ≡ true → (a && b) ≡ true
both_true a b e f = rw (e, f) refl

nothing_false : (a : Bool) → (a && false) ≡ false
nothing_false true = refl
nothing_false false = refl

lone : (t : Tok) (v : List Tok) → is k.Open (next v) ≡ false → read.begins_agg (t ∷ v) ≡ false
lone t v e = rw e (nothing_false (is_agg t.mark))

begins_alias_or_ends : Exact (rule.optional g.alias) read.optional_alias (λ m. read.begins_alias m || ends_item m) ends_item
unfolding read.optional_alias same
begins_alias_or_ends = maybe read.begins_alias ends_item alias refl refl refl

-- an aggregate is told by its word and the parenthesis behind it
told : (us : List Tok) (a : Item) (w : List Tok) → ((λ p. agg_item p.0.0 p.0.1.0 p.0.1.1 p.1) ⊛ (g.aggregate ⊗ rule.optional g.alias)) us a → read.begins_agg (us ++ w) ≡ true
unfolding same
told us a w h = let both = h.1 in rw both.parts (told_by both.first h.0.0 both.second w both.left)
  where
    told_by : (first : List Tok) (b : _) (second w : List Tok) → g.aggregate first b → read.begins_agg ((first ++ second) ++ w) ≡ true
    told_by first b second w (inl c) = let d = c.1 in let o = d.right.1 in rw (d.parts, d.left.0, o.parts, o.left.0, d.left.1) o.left.1
    told_by first b second w (inr c) = let d = c.1 in let o = d.right.1 in rw (d.parts, d.left.0, o.parts, o.left.0) (both_true (is_agg c.0.0.mark) (is k.Open d.right.0.0.mark) (within_at is_reckoned is_agg refl c.0.0.mark d.left.1) o.left.1)

by_column : (o : Option Name) (cs als w : List Tok) (al : Option Name) → rule.optional (rule.after k.Dot g.name) cs o → rule.optional g.alias als al → ends_item (next w) ≡ true → is k.Open (next ((cs ++ als) ++ w)) ≡ false
unfolding same
by_column None cs als w al none aliased e = rw none (apart_at (λ m. read.begins_alias m || ends_item m) (is k.Open) refl _ (begins_alias_or_ends.begins als al w aliased e))
by_column (Some m) cs als w al dotted aliased e = let d = dotted.1 in rw (d.parts, d.left.0) (apart_at (is k.Dot) (is k.Open) refl dotted.0.0.mark d.left.1)

untold : (us : List Tok) (a : Item) (w : List Tok) → g.plain_item us a → ends_item (next w) ≡ true → read.begins_agg (us ++ w) ≡ false
unfolding same
untold us a w (inl h) e =
    let both = h.1 in
    let d = both.right.1 in
    rw (both.parts, both.left.1.0, d.parts, d.left.0) (lone both.left.0 (both.right.0.0 ∷ (d.second ++ w)) (apart_at (is k.Dot) (is k.Open) refl both.right.0.0.mark d.left.1))
untold us a w (inr h) e =
    let both = h.1 in
    let c = both.left.1 in
    rw (both.parts, c.parts, c.left.1.0) (lone c.left.0 ((c.second ++ both.second) ++ w) (by_column both.left.0.1 c.second both.second w h.0.1 c.right both.right e))

pub item : Exact g.item read.item is_name ends_item
unfolding read.item same
item = weaker is_name ends_item (by_test read.begins_agg aggregate_item plain_item (λ us a w h e. told us a w h) untold) refl refl

abbrev pub ends_list : Mark → Bool
ends_list m = not (is k.Dot m || is k.As m || is_name m || is k.Open m || is k.Comma m)

pub select_list : Exact g.select_list read.select_list (λ m. is k.Star m || is_name m) ends_list
unfolding read.select_list read.items same
select_list = weaker (λ m. is k.Star m || is_name m) ends_list (either (is k.Star)
    (gives (λ _. selected.Star) (token (is k.Star) refl))
    (gives selected.List (list_exact k.Comma ends_list refl item refl refl refl refl refl))
    refl refl) refl refl

-- ---- sort keys

abbrev pub ends_key : Mark → Bool
ends_key m = not (is k.Dot m || is_way m || is k.Nulls m)

abbrev pub ends_keys : Mark → Bool
ends_keys m = not (is k.Dot m || is_way m || is k.Nulls m || is k.Comma m)

abbrev begins_ends : Mark → Bool
begins_ends m = is k.Nulls m || ends_key m

pub key : Exact g.key read.key is_name ends_key
unfolding read.key read.falls read.nulls_first same
key = gives (λ p. record { column = p.0; way = way_of p.1.0 p.1.1 })
    (followed column (followed
    (gives (λ way. unwrap_or (option_map (λ w. is k.Desc w.mark) way) false) (maybe is_way begins_ends (token is_way refl) refl refl (all_within begins_ends)))
    (gives (λ end. option_map (λ e. is k.First e.mark) end) (maybe (is k.Nulls) ends_key (after k.Nulls refl (token is_end refl)) refl refl (all_within ends_key))) refl) refl)

pub keys : Exact (rule.list_of k.Comma g.key) read.keys is_name ends_keys
unfolding read.keys same
keys = list_exact k.Comma ends_keys refl key refl refl refl refl refl

-- ---- DISTINCT, and columns of groups

pub extent : Exact g.extent read.extent anything (λ m. is k.Star m || is_name m)
unfolding read.extent same
extent = weaker anything (λ m. is k.Star m || is_name m) (gives (λ extent. unwrap_or (option_map (λ w. is k.Distinct w.mark) extent) false)
    (maybe is_extent (λ m. is k.Star m || is_name m) (token is_extent refl) refl refl refl)) refl refl

abbrev pub ends_columns : Mark → Bool
ends_columns m = not (is k.Dot m || is k.Comma m)

pub columns : Exact (rule.list_of k.Comma g.column) read.columns is_name ends_columns
unfolding read.columns same
columns = list_exact k.Comma ends_columns refl column refl refl refl refl refl

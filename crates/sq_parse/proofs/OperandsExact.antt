-- The readers of names, columns and operands are exact for their rules.
use Rattle.std.proofs.Common.{◌≡◌, Bool, true, false, not, ◌||◌, ℕ, List, [], ◌++◌, Some, None, Ok, refl, ⊎_elim}
use Rattle.sq_token.specs.declared.mark.Mark.{Mark}
use Rattle.sq_token.specs.declared.mark.Mark.TheVariants as k
use Rattle.sq_parse.specs.declared.tree.Operand.{Operand}
use Rattle.sq_parse.specs.declared.tree.Operand.TheVariants as o
use Rattle.sq_token.specs.Mark.{is, same, is_name, is_sign}
use Rattle.sq_token.specs.Tok.{Tok, head, next, behind}
use Rattle.sq_parse.specs.Tree.{name_of, column_of, number_term, column_term, signed, sum_of}
use Rattle.sq_parse.specs.Rules as rule
use Rattle.sq_parse.specs.Rules.{Then, ◌⊗◌, ◌⊕◌, ◌⊛◌}
use Rattle.sq_parse.specs.Reading as reading
use Rattle.sq_parse.specs.Reading.{Parser, ◌<$>◌, ◌<+>◌}
use Rattle.sq_parse.specs.Grammar as g
use Rattle.sq_parse.specs.Grammar.{Limits}
use Rattle.sq_parse.specs.Reader as read
use Rattle.sq_token.proofs.Marks.{apart_at, all_within}
use Rattle.sq_parse.proofs.Exact.{Exact, token, number, weaker, gives, followed, by_test, either, maybe, repeated, after, swapped, alike, nest, Full, Full-gives, Full-left, Full-token, if_ok}

-- ---- what may follow

abbrev pub anything : Mark → Bool
anything m = true

abbrev pub ends_column : Mark → Bool
ends_column m = not (is k.Dot m)

abbrev pub ends_number : Mark → Bool
ends_number m = not (is k.Star m)

abbrev pub ends_term : Mark → Bool
ends_term m = not (is k.Dot m || is k.Star m)

abbrev pub ends_operand : Mark → Bool
ends_operand m = not (is k.Dot m || is k.Star m || is_sign m)

abbrev pub begins_term : Mark → Bool
begins_term m = is_name m || is k.Number m

abbrev pub begins_operand : Mark → Bool
begins_operand m = read.is_literal m || is_sign m || begins_term m

-- ---- names and columns

pub name : Exact g.name read.name is_name anything
unfolding read.name same
name = gives name_of (token is_name refl)

pub column : Exact g.column read.column is_name ends_column
unfolding read.column same
column = gives (λ p. column_of p.0 p.1) (followed name (maybe (is k.Dot) ends_column (after k.Dot refl name) refl refl refl) refl)

pub literal : Exact g.literal read.literal read.is_literal anything
unfolding read.literal same
literal = weaker read.is_literal anything (either (is k.Null) (gives (λ n. o.Null n.at) (token (is k.Null) refl)) (gives (λ x. o.Text x.at x.text) (token (is k.Text) refl)) refl refl) refl refl

-- ---- terms

module _ (limits : Limits) where
  starred : (us : List Tok) (p : _) (w : List Tok) → ((λ q. number_term q.0 (Some q.1)) ⊛ (rule.number limits.narrow ⊗ rule.after k.Star g.column)) us p → read.is_starred (us ++ w) ≡ true
  starred us p w h =
      let a = h.1 in
      let s = a.right.1 in
      rw (a.parts, a.left.0, s.parts, s.left.0) s.left.1

  alone : (us : List Tok) (p : _) (w : List Tok) → ((λ n. number_term n None) ⊛ rule.number limits.wide) us p → ends_number (next w) ≡ true → read.is_starred (us ++ w) ≡ false
  unfolding same
  alone us p w h e = rw h.1.0 (apart_at ends_number (is k.Star) refl (next w) e)

  number_led : Exact (g.number_led limits) (read.number_led limits) (is k.Number) ends_term
  unfolding read.number_led same
  number_led = swapped (weaker (is k.Number) ends_term
      (by_test read.is_starred
      (gives (λ p. number_term p.0 (Some p.1)) (followed (number limits.narrow) (after k.Star refl column) refl))
      (weaker (is k.Number) ends_number (gives (λ n. number_term n None) (number limits.wide)) refl refl)
      (λ us p w h e. starred us p w h)
      alone)
      refl refl)

  column_led : Exact (g.column_led limits) (read.column_led limits) is_name ends_term
  unfolding read.column_led same
  column_led = gives (λ p. column_term p.0 p.1)
      (followed (weaker is_name ends_column column refl refl) (maybe (is k.Star) ends_term (after k.Star refl (number limits.narrow)) refl refl refl) refl)

  pub term : Exact (g.term limits) (read.term limits) begins_term ends_term
  unfolding read.term same
  term = weaker begins_term ends_term (either (is k.Number) number_led column_led refl refl) refl refl

  pub signed_term : Exact (g.signed_term limits) (read.signed_term limits) is_sign ends_term
  unfolding read.signed_term same
  signed_term = gives (λ p. signed p.0 p.1) (followed (token is_sign refl) term refl)

  pub Full-signed : Full (g.signed_term limits)
  Full-signed = Full-gives (λ p. signed p.0 p.1) (Full-left (rule.token is_sign) (g.term limits) (Full-token is_sign))

  abbrev pub plain_sum : Parser Operand
  plain_sum = (λ p. sum_of p.0 p.1.0 p.1.1) <$> (reading.optional is_sign (reading.token is_sign) <+> (read.term limits <+> reading.many is_sign (read.signed_term limits)))

  pub sum_alike : (ts : List Tok) (b : Bool) → is_sign (next ts) ≡ b → read.sum limits ts ≡ plain_sum ts
  unfolding read.sum read.sum_from
  sum_alike ts true e = rw e (nest (read.term limits (behind ts)) (reading.many is_sign (read.signed_term limits)) (Some (head ts)) sum_of)
  sum_alike ts false e = rw e (nest (read.term limits ts) (reading.many is_sign (read.signed_term limits)) None sum_of)

  sum_plainly : Exact (g.sum limits) plain_sum (λ m. is_sign m || begins_term m) ends_operand
  unfolding same
  sum_plainly = gives (λ p. sum_of p.0 p.1.0 p.1.1) (weaker (λ m. is_sign m || begins_term m) ends_operand
      (followed (maybe is_sign begins_term (token is_sign refl) refl refl (all_within begins_term))
      (followed term
      (repeated (g.signed_term limits) (read.signed_term limits) is_sign ends_term is_sign ends_operand signed_term refl refl refl refl Full-signed)
      refl)
      refl)
      refl refl)

  pub sum : Exact (g.sum limits) (read.sum limits) (λ m. is_sign m || begins_term m) ends_operand
  sum = alike (λ ts. sum_alike ts (is_sign (next ts)) refl) sum_plainly

  pub operand : Exact (g.operand limits) (read.operand limits) begins_operand ends_operand
  unfolding read.operand same
  operand = weaker begins_operand ends_operand (either read.is_literal literal sum refl refl) refl refl

  -- ---- arguments

  module _ (nested : (n : ℕ) → limits.narrow n ≡ true → limits.wide n ≡ true) where
    held : (ts us : List Tok) (a : Tok) → rule.number limits.narrow us a → rule.number limits.wide us a
    held ts us a h = (h.0, h.1, nested a.number h.2)

    plain_takes : (ts : List Tok) (a : Tok) (rest : List Tok) → read.plain_number limits ts ≡ Ok (a, rest) → (us : List Tok) × rule.number limits.wide us a × (ts ≡ us ++ rest)
    unfolding read.plain_number
    plain_takes ts a rest e = ⊎_elim
        (λ h. let x = (number limits.narrow).takes ts a rest h.1 in (x.0, held ts x.0 a x.1, x.2))
        (λ h. (number limits.wide).takes ts a rest h.1)
        (if_ok (read.is_starred ts) (reading.number limits.narrow ts) (reading.number limits.wide ts) (a, rest) e)

    plain_alone : (us : List Tok) (p : Tok) (w : List Tok) → rule.number limits.wide us p → ends_number (next w) ≡ true → read.is_starred (us ++ w) ≡ false
    unfolding same
    plain_alone us p w h e = rw h.0 (apart_at ends_number (is k.Star) refl (next w) e)

    pub plain_number : Exact (rule.number limits.wide) (read.plain_number limits) (is k.Number) ends_number
    unfolding read.plain_number
    plain_number = record {
      takes = plain_takes;
      again = λ us a w h e. rw (plain_alone us a w h e) ((number limits.wide).again us a w h refl);
      begins = λ us a w h e. (number limits.wide).begins us a w h refl;
    }

    pub simple : Exact (g.simple limits) (read.simple limits) begins_operand ends_term
    unfolding read.simple read.simple_number read.simple_column same
    simple = weaker begins_operand ends_term (either read.is_literal literal
        (either read.begins_number
        (gives (λ p. sum_of p.0 (number_term p.1 None) []) (followed (maybe is_sign (is k.Number) (token is_sign refl) refl refl (all_within (is k.Number))) plain_number refl))
        (gives (λ c. sum_of None (column_term c None) []) column)
        refl refl)
        refl refl) refl refl

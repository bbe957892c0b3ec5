-- Where the readers of predicates stop.
use Rattle.std.proofs.Common.{◌≡◌, Bool, true, false, ◌&&◌, cond, inl, ⊎_elim, ◌+◌, ◌<◌, ◌≤◌, List, [], ◌∷◌, ◌++◌, length, Option, is_some, Err, refl, ap, sym, ◌∙◌, arith, length-append}
use Rattle.sq_token.specs.declared.mark.Mark.TheVariants as k
use Rattle.sq_parse.specs.declared.stop.Stop.{Stop}
use Rattle.sq_parse.specs.declared.tree.Operand.{Operand}
use Rattle.sq_parse.specs.declared.tree.Tree.TheVariants as t
use Rattle.sq_token.specs.Mark.{is, same, is_name, is_comparison}
use Rattle.sq_token.specs.Tok.{Tok, next}
use Rattle.sq_parse.specs.Tree.{begin_of, comparison_by}
use Rattle.sq_parse.specs.Rules as rule
use Rattle.sq_parse.specs.Rules.{◌⊗◌, ◌⊕◌, ◌⊛◌}
use Rattle.sq_parse.specs.Reading as reading
use Rattle.sq_parse.specs.Reading.{Parser, ◌>>=◌, ◌<$>◌, ◌<+>◌}
use Rattle.sq_parse.specs.Grammar as g
use Rattle.sq_parse.specs.Grammar.{Limits, shipped}
use Rattle.sq_parse.specs.Spelling.{unlimited}
use Rattle.sq_parse.specs.Reader as read
use Rattle.sq_token.proofs.Marks.{all_within, within_self}
use Rattle.sq_parse.proofs.Exact.{Full, Full-gives, Full-left, Full-after, Chain}
use Rattle.sq_parse.proofs.Exact as exact
use Rattle.sq_parse.proofs.Loops.{Shrinks, Shrinks-exact}
use Rattle.sq_parse.proofs.OperandsExact as operands_exact
use Rattle.sq_parse.proofs.PredicatesExact.{compared_rest, null_rest, between_rest, within_rest, ranged_rest, subject_rest, with_subject, from_rest}
use Rattle.sq_parse.proofs.Places.{view, next_same, next_seen}
use Rattle.sq_parse.proofs.Tracks.{Faults, Tracks, any, unstarred, token, along, gives, followed, chained, after, if_is}
use Rattle.sq_parse.proofs.Choices.{plainly, either, maybe, list_of, enclosed, always, by_test, Moves, moves_gives, moves_then, moves_chain, falls, shrinks_by, again_at_once}
use Rattle.sq_parse.proofs.OperandsTrack as operands
use Rattle.sq_parse.proofs.OperandsTrack.{Full-name, Full-operand}

Full-chain : {A B : Type 0} (l : List Tok → A → Type 0) (r : A → List Tok → B → Type 0) → Full l → Full (Chain l r)
Full-chain l r full us b h =
    let n = full h.first h.between h.left in
    let both : length us ≡ length h.first + length h.second = ap length h.parts ∙ length-append h.first h.second in
    omega arith

no_comma_operand : Shrinks (reading.after k.Comma (read.operand unlimited))
unfolding same
no_comma_operand = Shrinks-exact (exact.after k.Comma refl (operands_exact.operand unlimited)) (Full-after k.Comma (g.operand unlimited))

no_comma_simple : Shrinks (reading.after k.Comma (read.simple unlimited))
unfolding same
no_comma_simple = Shrinks-exact (exact.after k.Comma refl (operands_exact.simple unlimited (λ n h. refl))) (Full-after k.Comma (g.simple unlimited))

-- a test of the second token depends on the next one alone once a token was read
steady_call : (us rest w : List Tok) → 1 ≤ length us → view rest ≡ view w → read.begins_call (us ++ rest) ≡ read.begins_call (us ++ w)
steady_call [] rest w some m = absurd (omega arith)
steady_call (x ∷ us) rest w some m = ap (λ z. is_name x.mark && is k.Open z) (next_same us rest w (next_seen rest w m))

no_call : (ts : List Tok) → is_name (next ts) ≡ false → read.begins_call ts ≡ false
no_call ts e = rw e refl

module _ (C : Faults) where
  operand : Tracks (g.operand shipped) (g.operand unlimited) (read.operand shipped) (read.operand unlimited) C unstarred unstarred
  operand = operands.operand C

  pub negated : Tracks (rule.optional (rule.mark k.Not)) (rule.optional (rule.mark k.Not)) (reading.optional (is k.Not) (reading.mark k.Not)) (reading.optional (is k.Not) (reading.mark k.Not)) C unstarred unstarred
  unfolding same
  negated = maybe (is k.Not) refl (plainly (token C (is k.Not) unstarred k.Not refl refl refl refl))

  comparison : (x : Operand) → Tracks (compared_rest shipped x) (compared_rest unlimited x) (read.comparison shipped x) (read.comparison unlimited x) C unstarred unstarred
  unfolding read.comparison same
  comparison x = gives (λ p. t.Compare (begin_of x) x (comparison_by p.0.mark) p.1) (plainly (followed (token C is_comparison unstarred k.Equal refl refl refl refl) operand refl))

  null_test : (x : Operand) → Tracks (null_rest shipped x) (null_rest unlimited x) (read.null_test shipped x) (read.null_test unlimited x) C unstarred unstarred
  unfolding read.null_test same
  null_test x = gives (λ p. t.IsNull (begin_of x) (is_some p.0) x) (plainly (after k.Is refl refl refl refl (followed negated (token C (is k.Null) unstarred k.Null refl refl refl refl) refl)))

  between : (x : Operand) (n : Option Tok) → Tracks (between_rest shipped x n) (between_rest unlimited x n) (read.between shipped x (is_some n)) (read.between unlimited x (is_some n)) C unstarred unstarred
  unfolding read.between same
  between x n = gives (λ p. t.Between (begin_of x) (is_some n) x p.0 p.1) (plainly (followed (after k.Between refl refl refl refl operand) (after k.And refl refl refl refl operand) refl))

  operands_of : Tracks (rule.list_of k.Comma (g.operand shipped)) (rule.list_of k.Comma (g.operand unlimited)) (read.operands shipped) (read.operands unlimited) C unstarred unstarred
  unfolding read.operands same
  operands_of = list_of k.Comma refl refl refl refl no_comma_operand operand

  listed_in : (x : Operand) (n : Option Tok) → Tracks (within_rest shipped x n) (within_rest unlimited x n) (read.within shipped x (is_some n)) (read.within unlimited x (is_some n)) C unstarred unstarred
  unfolding read.within same
  listed_in x n = gives (λ all. t.Within (begin_of x) (is_some n) x all) (plainly (after k.In refl refl refl refl (enclosed operands_of)))

  ranged : (x : Operand) → Tracks (ranged_rest shipped x) (ranged_rest unlimited x) (read.ranged shipped x) (read.ranged unlimited x) C unstarred unstarred
  unfolding read.ranged
  ranged x = chained negated (λ n. either (is k.Between) (between x n) (listed_in x n)) (within_self unstarred)

  behind_subject : (x : Operand) → Tracks (subject_rest shipped x) (subject_rest unlimited x) (read.behind_subject shipped x) (read.behind_subject unlimited x) C unstarred unstarred
  unfolding read.behind_subject
  behind_subject x = either is_comparison (comparison x) (either (is k.Is) (null_test x) (ranged x))

  subjects : Tracks (with_subject shipped) (with_subject unlimited) (read.operand shipped >>= read.behind_subject shipped) (read.operand unlimited >>= read.behind_subject unlimited) C unstarred unstarred
  subjects = chained operand behind_subject (within_self unstarred)

  arguments : Tracks (rule.enclosed (rule.list_of k.Comma (g.simple shipped))) (rule.enclosed (rule.list_of k.Comma (g.simple unlimited))) (reading.enclosed (read.simples shipped)) (reading.enclosed (read.simples unlimited)) C any unstarred
  unfolding read.simples same
  arguments = enclosed (list_of k.Comma refl refl refl refl no_comma_simple (operands.simple C))

  call : Tracks (g.call shipped) (g.call unlimited) (read.call shipped) (read.call unlimited) C unstarred unstarred
  unfolding read.call
  call = gives (λ p. t.Call p.0 p.1) (plainly (followed (operands.name C) arguments (all_within unstarred)))

  -- ---- what begins with a name doesn't fail at once

  call_moves : Moves (read.call shipped) C is_name
  unfolding read.call
  call_moves = moves_gives (λ p. t.Call p.0 p.1) (moves_then (operands.name_moves C) (shrinks_by (operands.name C) Full-name) (falls arguments))

  subjects_moves : Moves (read.operand shipped >>= read.behind_subject shipped) C is_name
  subjects_moves = moves_chain (operands.operand_moves C) (shrinks_by operand (Full-operand shipped)) (λ x. falls (behind_subject x))

  predicate_moves : Moves (λ ts. cond (read.begins_call ts) (read.call shipped ts) ((read.operand shipped >>= read.behind_subject shipped) ts)) C is_name
  predicate_moves = record {
    goes = λ ts s rest h c e. ⊎_elim
        (λ i. call_moves.goes ts s rest h c i.1)
        (λ i. subjects_moves.goes ts s rest h c i.1)
        (if_is (read.begins_call ts) (read.call shipped ts) ((read.operand shipped >>= read.behind_subject shipped) ts) (Err (s, rest)) e);
  }

  at_once : (b : Bool) (s : Stop) (rest w : List Tok) → is_name (next rest) ≡ b → C.counts s → cond (read.begins_call rest) (read.call shipped rest) ((read.operand shipped >>= read.behind_subject shipped) rest) ≡ Err (s, rest) → view rest ≡ view w
      → cond (read.begins_call w) (read.call unlimited w) ((read.operand unlimited >>= read.behind_subject unlimited) w) ≡ Err (s, w)
  at_once true s rest w h c e m = let less : length rest < length rest = predicate_moves.goes rest s rest h c e in absurd (omega arith)
  at_once false s rest w h c e m = rw (no_call w (ap is_name (sym (next_seen rest w m)) ∙ h)) (again_at_once subjects s rest w c (rw (no_call rest h) at e) m)

  pub predicate : Tracks (g.predicate shipped) (g.predicate unlimited) (read.predicate shipped) (read.predicate unlimited) C unstarred unstarred
  unfolding read.predicate
  predicate = along (from_rest shipped) (from_rest unlimited)
      (by_test read.begins_call (always call) (always subjects) (Full-gives (λ p. t.Call p.0 p.1) (Full-left g.name _ Full-name)) (Full-chain (g.operand shipped) (subject_rest shipped) (Full-operand shipped)) steady_call
      (λ s rest w c e m. at_once (is_name (next rest)) s rest w refl c e m)
      (let z = call.sample in (z.0, z.1, inl z.2, inl z.3)))

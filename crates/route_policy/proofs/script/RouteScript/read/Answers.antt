use Rattle.std.proofs.Common.{◌≡◌, ◌≢◌, ℕ, ◌+◌, ◌≤◌, ◌<◌, ◌++◌, [], Err, All, map, length, arith, sym, ◌∙◌, ap, subst}
use Rattle.std.proofs.lemmas.Bool.{eqb-true, eqb-false}
use Rattle.std.proofs.lemmas.List.Elements.{All-push}
use Rattle.std.proofs.lemmas.List.Sums.{sum_by_push}
use Rattle.std.specs.Option.{option_copied}
use Rattle.route_policy.specs.Script.{IsWord, word_text}
use Rattle.route_policy.specs.ScriptReading.{text_pieces, pieces_of, pieces_left, script_of_pieces}
use Rattle.route_policy.specs.declared.fault.ScriptFault.TheVariants.{BadWord}
use Rattle.route_policy.proofs.PieceLaws.{pieces_of-some}
use Rattle.route_policy.proofs.WordLaws.{read_word-Some}
use Rattle.route_policy.proofs.ReadingLaws.{script_of-words, script_of-long, script_of-bad, pieces-more}
use Rattle.route_policy.proofs.script.RouteScript.read.Goals as goal

below_64 : (n : ℕ) → n ≤ 64 → (n ≡ 64 → ⊥) → n < 64
below_64 n most not_all = let ne : n ≢ 64 = not_all in omega (arith, ne)

pub returns : goal.returns
returns c =
    let none : pieces_left (option_copied c.loop-rest.rest) ≡ [] = ap (λ rest. pieces_left (option_copied rest)) c.in_default.is in
    sym
    (ap script_of_pieces (c.loop-rest.invariant.pieces ∙ ap (λ left. map word_text c.loop-rest.words.items ++ left) none)
    ∙ script_of-words c.loop-rest.words.items c.loop-rest.invariant.known c.loop-rest.invariant.room)

pub returns-then-is_full : goal.returns-then-is_full
returns-then-is_full c =
    let left : pieces_left (option_copied c.loop-rest.rest) ≡ pieces_of c.in-Some.bytes.now = ap (λ rest. pieces_left (option_copied rest)) c.in-Some.is in
    let some = pieces_of-some c.in-Some.bytes.now in
    let full : length c.loop-rest.words.items ≡ 64 = eqb-true _ _ (sym c.is_full.ensures.value ∙ c.if-is_full.true) in
    sym
    (ap script_of_pieces (c.loop-rest.invariant.pieces ∙ ap (λ pieces. map word_text c.loop-rest.words.items ++ pieces) (left ∙ some.2))
    ∙ script_of-long c.loop-rest.words.items some.0 some.1 c.loop-rest.invariant.known full)

pub returns-in_default-read_word : goal.returns-in_default-read_word
returns-in_default-read_word c =
    let left : pieces_left (option_copied c.loop-rest.rest) ≡ pieces_of c.in-Some.bytes.now = ap (λ rest. pieces_left (option_copied rest)) c.in-Some.is in
    let not_full : length c.loop-rest.words.items ≡ 64 → ⊥ = eqb-false _ _ (sym c.is_full.ensures.value ∙ c.if-is_full.false) in
    sym
    (ap script_of_pieces
    (c.loop-rest.invariant.pieces ∙ ap (λ pieces. map word_text c.loop-rest.words.items ++ pieces) (left ∙ c.cut.ensures.pieces))
    ∙ script_of-bad c.loop-rest.words.items c.cut.result.0.now (pieces_left (option_copied c.cut.result.1)) c.loop-rest.invariant.known
    (below_64 (length c.loop-rest.words.items) c.loop-rest.invariant.room not_full)
    (sym c.in_default-read_word.ensures.value)
    ∙ ap (λ at. Err (BadWord at)) (sym c.loop-rest.invariant.start))

pub loop-rest-preserved : goal.loop-rest-preserved
loop-rest-preserved c =
    let left : pieces_left (option_copied c.loop-rest.rest) ≡ pieces_of c.in-Some.bytes.now = ap (λ rest. pieces_left (option_copied rest)) c.in-Some.is in
    let not_full : length c.loop-rest.words.items ≡ 64 → ⊥ = eqb-false _ _ (sym c.is_full.ensures.value ∙ c.if-is_full.false) in
    let room : length c.loop-rest.words.items < 64 = below_64 (length c.loop-rest.words.items) c.loop-rest.invariant.room not_full in
    let spelled = read_word-Some c.cut.result.0.now c.in-Some-read_word.word (sym c.in-Some-read_word.ensures.value) in
    let long : length (word_text c.in-Some-read_word.word) ≡ length c.cut.result.0.now = ap length spelled.text in
    record {
      pieces =
          pieces-more c.loop-rest.words.items c.in-Some-read_word.word c.cut.result.0.now (text_pieces c.args.text.now) (pieces_left (option_copied c.loop-rest.rest))
          (pieces_left (option_copied c.cut.result.1)) c.loop-rest.invariant.pieces (left ∙ c.cut.ensures.pieces) spelled.text
          ∙ ap (λ items. map word_text items ++ pieces_left (option_copied c.cut.result.1)) (sym c.push.ensures.items);
      known =
          subst (All IsWord) (sym c.push.ensures.items)
          (All-push IsWord c.loop-rest.words.items c.in-Some-read_word.word c.loop-rest.invariant.known spelled.known);
      start =
          rw c.push.ensures.items
          (omega
          (arith, sum_by_push (λ word. length (word_text word) + 1) c.loop-rest.words.items c.in-Some-read_word.word, c.loop-rest.invariant.start, long));
      few = omega (arith, c.push.ensures.len, c.loop-rest.invariant.few, c.in-Some-read_word.ensures.short);
      room = omega (arith, c.push.ensures.len, room);
    }

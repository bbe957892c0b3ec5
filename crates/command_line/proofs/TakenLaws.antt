-- That clap takes words in which it finds no fault.
use Rattle.std.proofs.Common.{◌≡◌, ◌≤◌, arith, ◌∙◌, ◌&&◌, ◌||◌, ◌==◌, ℕ, Bool, cond, true, false, not, zero, suc, refl, sym, ap, codes, List, [], ◌∷◌, length, drop, Option, Some, None, is_some}
use Rattle.std.specs.Prelude.{nat_lt, nat_le, encode_utf8, slice_get}
use Rattle.std.specs.List.{list_all}
use Rattle.std.specs.Option.{option_map_or}
use Rattle.std.specs.Str.{bytes_eq, chars}
use Rattle.clap.specs.Lexer.{long_of, short_of}
use Rattle.clap.specs.Facts.{parser_of_value, unwrap_or_range}
use Rattle.clap.specs.Values.{refused_kind}
use Rattle.clap.specs.ValueTests.{accepts}
use Rattle.clap.specs.Kinds.{Kinds, or_else, range_kinds, value_kinds, values_kinds}
use Rattle.clap.specs.Walk.{Held, Names, Row, Rule, Step, Text, Waiting, Walk, next, trailing, subcommand, value, action_of, arg_by_id, arg_by_index, arg_by_long, arg_by_short, attached_value, has_row, is_pending, most_values, nothing_held, finished, walk, walk_from, reacted, settled, subcommand_met, takes_several, takes_values, values_or_missing, walked, word_met}
use Rattle.clap.specs.Simple.{Shape, built, is_simple}
use Rattle.clap.specs.Faults.{fault_of, is_simple_and_free, level_fault, count_fault, bundle_fault, values_fault, repeat_fault, action_fault, use_fault, settle_fault, react_fault, option_fault, long_fault, short_fault, bundle_step_fault, flags_fault, flag_word_fault, other_fault, word_fault, positional_fault, step_fault, stray_fault, turn_fault, walk_fault}
use Rattle.clap.specs.Takes.{takes, level_passes, default_passes, is_valid, count_passes, bundle_passes, values_pass, set_passes, action_passes, use_passes, settle_passes, react_passes, option_passes, long_passes, short_passes, bundle_step_passes, flags_pass, flag_word_passes, other_passes, word_passes, positional_passes, step_passes, turn_passes, walk_passes}
use Rattle.clap.specs.declared.builder.action.ArgAction.{ArgAction}
use Rattle.clap.specs.declared.builder.action.ArgAction.TheVariants.{Set, Append, SetTrue, SetFalse, Count, Help, HelpShort, HelpLong, Version}
use Rattle.clap.specs.declared.builder.value_parser.ValueParser.{ValueParser}
use Rattle.clap.specs.declared.error.kind.ErrorKind.{ErrorKind}
use Rattle.clap.specs.declared.error.kind.ErrorKind.TheVariants.{InvalidValue, TooFewValues, TooManyValues, WrongNumberOfValues, ArgumentConflict, UnknownArgument, DisplayHelp, InvalidSubcommand}
use Rattle.clap.proofs.OnLiterals.{clap_on_literals}
use Rattle.clap.proofs.TakesLemmas.{leaf_takes}
use Rattle.clap.proofs.FaultLemmas.{leaf_fault}
use Rattle.command_line.specs.Program.{program}
use Rattle.std.proofs.lemmas.Bool.{le-leb, ltb-false, eqb-true}

-- two tests that hold
pub holds_both : (a b : Bool) → a ≡ true → b ≡ true → (a && b) ≡ true
holds_both true b p q = q
holds_both false b p q = absurd cc

-- two steps of which neither has a fault
pub none_of_both : (a b : Kinds) → or_else a b ≡ [] → (a ≡ []) × (b ≡ [])
none_of_both [] b e = (refl, e)
none_of_both (k ∷ ks) b e = absurd cc

-- a test that gives a fault where it fails
pub unless_fault : (b : Bool) (ks : Kinds) (k : ErrorKind) → cond b [] (k ∷ ks) ≡ [] → b ≡ true
unless_fault true ks k e = refl
unless_fault false ks k e = absurd cc

-- a test that gives a fault where it holds
pub when_fault : (b : Bool) (ks : Kinds) (k : ErrorKind) (rest : Kinds) → cond b (k ∷ ks) rest ≡ [] → (b ≡ false) × (rest ≡ [])
when_fault true ks k rest e = absurd cc
when_fault false ks k rest e = (refl, e)

values_taken : (i : Bool) (p : ValueParser) (vs : List Text) → values_kinds i p vs ≡ [] → list_all (accepts i p) vs ≡ true
values_taken i p [] e = refl
values_taken i p (v ∷ vs) e =
    let parts = none_of_both (value_kinds i p v) (values_kinds i p vs) e in
    holds_both (accepts i p v) (list_all (accepts i p) vs) (unless_fault (accepts i p v) [] (refused_kind p) parts.0) (values_taken i p vs parts.1)

range_taken : (least most n : ℕ) → range_kinds least most n ≡ [] → (nat_le least n && nat_le n most) ≡ true
range_taken least most n e = by (least == most) refl (when_fault (nat_lt 0 least && n == 0) [] InvalidValue _ e).1
  where
    between : least ≤ n → n ≤ most → (nat_le least n && nat_le n most) ≡ true
    between p q = holds_both (nat_le least n) (nat_le n most) (le-leb least n p) (le-leb n most q)

    several : cond (nat_lt n least) (TooFewValues ∷ []) (cond (nat_lt most n) (TooManyValues ∷ []) []) ≡ [] → (nat_le least n && nat_le n most) ≡ true
    several f =
        let first = when_fault (nat_lt n least) [] TooFewValues _ f in
        let second = when_fault (nat_lt most n) [] TooManyValues _ first.1 in
        between (ltb-false n least first.0) (ltb-false most n second.0)

    one : least ≡ most → cond (least == n) [] (WrongNumberOfValues ∷ []) ≡ [] → (nat_le least n && nat_le n most) ≡ true
    one same f =
        let here : least ≡ n = eqb-true least n (unless_fault (least == n) [] WrongNumberOfValues f) in
        between (omega (arith, here)) (omega (arith, here, same))

    by : (same : Bool) → (least == most) ≡ same
        → cond same (cond (least == n) [] (WrongNumberOfValues ∷ [])) (cond (nat_lt n least) (TooFewValues ∷ []) (cond (nat_lt most n) (TooManyValues ∷ []) [])) ≡ []
        → (nat_le least n && nat_le n most) ≡ true
    by true same f = one (eqb-true least most same) f
    by false same f = several f

not_repeated : (has again : Bool) → cond (has && not again) (ArgumentConflict ∷ []) [] ≡ [] → (not has || again) ≡ true
not_repeated true true e = refl
not_repeated true false e = absurd cc
not_repeated false again e = refl

set_taken : (again : Bool) (a : Rule) (values : List Text) (rows : List Row) → or_else (repeat_fault again a.id rows) (values_fault a values) ≡ []
    → set_passes again a values rows ≡ true
set_taken again a values rows e =
    let parts = none_of_both (repeat_fault again a.id rows) (values_fault a values) e in
    holds_both (not (has_row a.id rows) || again) (values_pass a values) (not_repeated (has_row a.id rows) again parts.0)
    (values_taken a.ignore_case (parser_of_value a.parser) values parts.1)

count_taken : (a : Rule) (values : List Text) (rows : List Row) → count_fault a values rows ≡ [] → count_passes a values rows ≡ true
count_taken a [] rows e = unless_fault _ [] (refused_kind (parser_of_value a.parser)) e
count_taken a (v ∷ vs) rows e = values_taken a.ignore_case (parser_of_value a.parser) (v ∷ vs) e

action_taken : (act : ArgAction) (again : Bool) (a : Rule) (values : List Text) (rows : List Row) → action_fault act again a values rows ≡ []
    → action_passes act again a values rows ≡ true
action_taken Set again a values rows e = set_taken again a values rows e
action_taken SetTrue again a values rows e = set_taken again a values rows e
action_taken SetFalse again a values rows e = set_taken again a values rows e
action_taken Append again a values rows e = values_taken a.ignore_case (parser_of_value a.parser) values e
action_taken Count again a values rows e = count_taken a values rows e
action_taken Help again a values rows e = absurd cc
action_taken HelpShort again a values rows e = absurd cc
action_taken HelpLong again a values rows e = absurd cc
action_taken Version again a values rows e = absurd cc

use_taken : (again : Bool) (a : Rule) (values : List Text) (rows : List Row) → use_fault again a values rows ≡ [] → use_passes again a values rows ≡ true
use_taken again a values rows e =
    let least = (unwrap_or_range a.range).start_inclusive in
    let parts = none_of_both (range_kinds least (most_values a) (length values)) (action_fault (action_of a) again a (values_or_missing a values) rows) e in
    three (nat_le least (length values)) (nat_le (length values) (most_values a)) (action_passes (action_of a) again a (values_or_missing a values) rows)
    (range_taken least (most_values a) (length values) parts.0) (action_taken (action_of a) again a (values_or_missing a values) rows parts.1)
  where
    three : (x y z : Bool) → (x && y) ≡ true → z ≡ true → (x && (y && z)) ≡ true
    three true true z p q = q
    three true false z p q = absurd cc
    three false y z p q = absurd cc

settle_taken : (c : List Rule) (again : Bool) (h : Held) → settle_fault c again h ≡ [] → settle_passes c again h ≡ true
settle_taken c again h e = by h.pending e
  where
    rule : (values : List Text) (o : Option Rule) → option_map_or (λ a. use_fault again a values h.rows) o [] ≡ []
        → option_map_or (λ a. use_passes again a values h.rows) o true ≡ true
    rule values None f = refl
    rule values (Some a) f = use_taken again a values h.rows f

    by : (o : Option (Text × List Text)) → option_map_or (λ p. option_map_or (λ a. use_fault again a p.1 h.rows) (arg_by_id c p.0) []) o [] ≡ []
        → option_map_or (λ p. option_map_or (λ a. use_passes again a p.1 h.rows) (arg_by_id c p.0) true) o true ≡ true
    by None f = refl
    by (Some p) f = rule p.1 (arg_by_id c p.0) f

react_taken : (c : List Rule) (again : Bool) (a : Rule) (values : List Text) (h : Held) → react_fault c again a values h ≡ []
    → react_passes c again a values h ≡ true
react_taken c again a values h e =
    let parts = none_of_both (settle_fault c again h) (use_fault again a values (settled c h).rows) e in
    holds_both (settle_passes c again h) (use_passes again a values (settled c h).rows) (settle_taken c again h parts.0)
    (use_taken again a values (settled c h).rows parts.1)

option_taken : (c : List Rule) (again : Bool) (a : Rule) (v : Option Text) (h : Held) → option_fault c again a v h ≡ []
    → option_passes c again a v h ≡ true
option_taken c again a None h e = settle_taken c again h e
option_taken c again a (Some v) h e = react_taken c again a (v ∷ []) h e

long_taken : (c : List Rule) (again : Bool) (o : Option Rule) (v : Option Text) (h : Held) → long_fault c again o v h ≡ []
    → long_passes c again o v h ≡ true
long_taken c again None v h e = absurd cc
long_taken c again (Some a) v h e = by (takes_values a) e
  where
    by : (b : Bool) → cond b (option_fault c again a v h) (cond (is_some v) (TooManyValues ∷ []) (react_fault c again a [] h)) ≡ []
        → cond b (option_passes c again a v h) (not (is_some v) && react_passes c again a [] h) ≡ true
    by true f = option_taken c again a v h f
    by false f =
        let parts = when_fault (is_some v) [] TooManyValues _ f in
        holds_both (not (is_some v)) (react_passes c again a [] h) (ap not parts.0) (react_taken c again a [] h parts.1)

short_taken : (c : List Rule) (again : Bool) (o : Option Rule) (rest : Text) (h : Held) (fault : Held → Kinds) (passes : Held → Bool)
    → ((g : Held) → fault g ≡ [] → passes g ≡ true) → short_fault c again o rest h fault ≡ [] → short_passes c again o rest h passes ≡ true
short_taken c again None rest h fault passes more e = absurd cc
short_taken c again (Some a) rest h fault passes more e = by (takes_values a) e
  where
    by : (b : Bool) → cond b (option_fault c again a (attached_value rest) h) (or_else (react_fault c again a [] h) (fault (reacted c a [] h))) ≡ []
        → cond b (option_passes c again a (attached_value rest) h) (react_passes c again a [] h && passes (reacted c a [] h)) ≡ true
    by true f = option_taken c again a (attached_value rest) h f
    by false f =
        let parts = none_of_both (react_fault c again a [] h) (fault (reacted c a [] h)) f in
        holds_both (react_passes c again a [] h) (passes (reacted c a [] h)) (react_taken c again a [] h parts.0) (more (reacted c a [] h) parts.1)

flag_taken : (c : List Rule) (again : Bool) (o : Option ℕ) (flags : Text) (skip : ℕ) (h : Held) (fault : Text → ℕ → Held → Kinds) (passes : Text → ℕ → Held → Bool)
    → ((rest : Text) (left : ℕ) (g : Held) → fault rest left g ≡ [] → passes rest left g ≡ true) → bundle_step_fault c again o flags skip h fault ≡ []
    → bundle_step_passes c again o flags skip h passes ≡ true
flag_taken c again None flags skip h fault passes more e = refl
flag_taken c again (Some x) flags zero h fault passes more e =
    let rest = drop (length (encode_utf8 x)) flags in
    short_taken c again (arg_by_short c x) rest h (fault rest 0) (passes rest 0) (more rest 0) e
flag_taken c again (Some x) flags (suc skip) h fault passes more e = more (drop (length (encode_utf8 x)) flags) skip h e

flags_taken : (c : List Rule) (again : Bool) (k : ℕ) (flags : Text) (skip : ℕ) (h : Held) → flags_fault c again k flags skip h ≡ []
    → flags_pass c again k flags skip h ≡ true
unfolding flags_fault flags_pass
flags_taken c again zero flags skip h e = refl
flags_taken c again (suc k) flags skip h e =
    flag_taken c again (slice_get (chars flags) 0) flags skip h (flags_fault c again k) (flags_pass c again k)
    (λ rest left g d. flags_taken c again k rest left g d) e

flag_word_taken : (c : List Rule) (again : Bool) (o : Option (Text × Option Text)) (word : Text) (h : Held) → flag_word_fault c again o word h ≡ []
    → flag_word_passes c again o word h ≡ true
flag_word_taken c again (Some p) word h e = long_taken c again (arg_by_long c p.0) p.1 h e
flag_word_taken c again None word h e = by (short_of word) e
  where
    by : (o : Option Text) → option_map_or (λ flags. bundle_fault c again flags h) o [] ≡ [] → option_map_or (λ flags. bundle_passes c again flags h) o true ≡ true
    by None f = refl
    by (Some flags) f = flags_taken c again (length flags) flags h.skip (record h { skip = 0 }) f

other_taken : (s : Shape) (o : Option Text) (word : Text) (h : Held) → other_fault s o word h ≡ [] → other_passes s o word h ≡ true
other_taken s (Some name) word h e = by (bytes_eq name (codes "help")) s.disable_help_subcommand e
  where
    by : (a b : Bool) → cond (a && not b) (DisplayHelp ∷ InvalidSubcommand ∷ []) [] ≡ [] → (not a || b) ≡ true
    by true true f = refl
    by true false f = absurd cc
    by false b f = refl
other_taken s None word h e = by (bytes_eq word (45 ∷ 45 ∷ [])) e
  where
    by : (b : Bool) → cond b [] (flag_word_fault s.rules s.args_override_self (long_of word) word h) ≡ []
        → (b || flag_word_passes s.rules s.args_override_self (long_of word) word h) ≡ true
    by true f = refl
    by false f = flag_word_taken s.rules s.args_override_self (long_of word) word h f

word_taken : (s : Shape) (names : Names) (is_trailing : Bool) (waiting : Waiting) (word : Text) (h : Held) → word_fault s names is_trailing waiting word h ≡ []
    → word_passes s names is_trailing waiting word h ≡ true
word_taken s names true waiting word h e = refl
word_taken s names false waiting word h e = other_taken s (subcommand_met names waiting word) word h e

step_taken : (s : Shape) (position : ℕ) (h : Held) (step : Step) → step_fault s position h step ≡ [] → step_passes s position h step ≡ true
step_taken s position h value e = by (arg_by_index s.rules position) e
  where
    stray : (leaf : Bool) → cond leaf (UnknownArgument ∷ []) (UnknownArgument ∷ InvalidSubcommand ∷ []) ≡ [] → false ≡ true
    stray true f = absurd cc
    stray false f = absurd cc

    pending : (a : Rule) (b : Bool) → cond b [] (settle_fault s.rules s.args_override_self h) ≡ [] → (b || settle_passes s.rules s.args_override_self h) ≡ true
    pending a true f = refl
    pending a false f = settle_taken s.rules s.args_override_self h f

    by : (o : Option Rule) → option_map_or (λ a. positional_fault s.rules s.args_override_self a h) o (stray_fault s) ≡ []
        → option_map_or (λ a. positional_passes s.rules s.args_override_self a h) o false ≡ true
    by None f = stray s.is_leaf f
    by (Some a) f = pending a (is_pending a h.pending && takes_several a) f
step_taken s position h (next waiting) e = refl
step_taken s position h (trailing place) e = refl
step_taken s position h (subcommand name) e = refl

turn_taken : (s : Shape) (names : Names) (w : Walk) (word : Text) → turn_fault s names w word ≡ [] → turn_passes s names w word ≡ true
turn_taken s names w word e = by (is_some w.stopped) e
  where
    met : Held × Step
    met = word_met s.rules names w.is_trailing w.waiting w.position word w.held

    by : (b : Bool) → cond b [] (or_else (word_fault s names w.is_trailing w.waiting word w.held) (step_fault s w.position met.0 met.1)) ≡ []
        → (b || (word_passes s names w.is_trailing w.waiting word w.held && step_passes s w.position met.0 met.1)) ≡ true
    by true f = refl
    by false f =
        let parts = none_of_both (word_fault s names w.is_trailing w.waiting word w.held) (step_fault s w.position met.0 met.1) f in
        holds_both (word_passes s names w.is_trailing w.waiting word w.held) (step_passes s w.position met.0 met.1)
        (word_taken s names w.is_trailing w.waiting word w.held parts.0) (step_taken s w.position met.0 met.1 parts.1)

walk_taken : (s : Shape) (names : Names) (w : Walk) (words : List Text) → walk_fault s names w words ≡ [] → walk_passes s names w words ≡ true
unfolding walk_fault walk_passes
walk_taken s names w [] e = refl
walk_taken s names w (word ∷ rest) e =
    let parts = none_of_both (turn_fault s names w word) (walk_fault s names (walked s.rules names w word) rest) e in
    holds_both (turn_passes s names w word) (walk_passes s names (walked s.rules names w word) rest) (turn_taken s names w word parts.0)
    (walk_taken s names (walked s.rules names w word) rest parts.1)

-- a level of a command without a fault passes, where its defaults pass and nothing is required
pub level_taken : (s : Shape) (h : Held) (words : List Text) → list_all default_passes s.rules ≡ true → is_valid s (finished s.rules (walk s.rules [] h words).held) false ≡ true
    → level_fault s [] h words false [] ≡ [] → level_passes s [] h words false ≡ true
level_taken s h words defaults valid e =
    let end = (walk s.rules [] h words).held in
    let first = none_of_both (walk_fault s [] (walk_from h) words) _ e in
    let second = none_of_both (settle_fault s.rules s.args_override_self end) _ first.1 in
    holds_both (walk_passes s [] (walk_from h) words) _ (walk_taken s [] (walk_from h) words first.0)
    (holds_both (settle_passes s.rules s.args_override_self end) _ (settle_taken s.rules s.args_override_self end second.0)
    (holds_both (list_all default_passes s.rules) _ defaults valid))

-- eddyql's command takes words in which clap finds no fault
pub takes_faultless : (words : List Text) → fault_of program words ≡ [] → takes program words ≡ true
unfolding program
takes_faultless words e =
    leaf_takes (built program) nothing_held words refl
    (level_taken (built program).top nothing_held words refl refl (sym (leaf_fault (built program) nothing_held words refl) ∙ e))

-- eddyql's command is one of those whose matches and faults clap defines
pub program_is_simple : is_simple program ≡ true
unfolding program clap_on_literals
program_is_simple = refl

pub program_is_free : is_simple_and_free program ≡ true
unfolding program clap_on_literals
program_is_free = refl

-- what isn't true
pub not_true : (b : Bool) → (b ≡ true → ⊥) → b ≡ false
not_true b never = by b refl
  where
    by : (c : Bool) → b ≡ c → b ≡ false
    by true e = absurd (never e)
    by false e = e

-- What the grammar says of lists and numbers: a statement of a script has no empty list, and small numbers.
use Rattle.std.proofs.Common.{◌≡◌, inl, inr, ℕ, zero, suc, ◌<◌, ◌≤◌, Bool, true, List, [], ◌∷◌, length, map, Option, Some, None, IfSome, is_some, refl, ap, subst, arith}
use Rattle.std.specs.Prelude.{All, nat_le, ⊤}
use Rattle.std.proofs.lemmas.Bool.{leb-true}
use Rattle.std.proofs.lemmas.List.Elements.{All-nil, All-cons, All-head, All-tail, All-contains}
use Rattle.sq_token.specs.declared.mark.Mark.{Mark}
use Rattle.sq_token.specs.declared.mark.Mark.TheVariants as k
use Rattle.sq_parse.specs.declared.tree.ColRef.{ColRef}
use Rattle.sq_parse.specs.declared.tree.RawTerm.{RawTerm}
use Rattle.sq_parse.specs.declared.tree.Name.{Name}
use Rattle.sq_parse.specs.declared.tree.Items.{Items}
use Rattle.sq_parse.specs.declared.tree.Items.TheVariants as items
use Rattle.sq_parse.specs.declared.tree.OrderItem.{OrderItem}
use Rattle.sq_parse.specs.declared.tree.Script.{Script}
use Rattle.sq_value.specs.declared.value.Cmp.{Cmp}
use Rattle.sq_value.specs.declared.value.Truth.{Truth}
use Rattle.sq_parse.specs.declared.tree.Source.{Source}
use Rattle.sq_parse.specs.declared.tree.Statement.{Statement}
use Rattle.sq_parse.specs.declared.tree.Operand.{Operand}
use Rattle.sq_parse.specs.declared.tree.Operand.TheVariants as o
use Rattle.sq_parse.specs.declared.tree.Tree.{Tree, every_made-Tree}
use Rattle.sq_parse.specs.declared.tree.Tree.TheVariants as t
use Rattle.sq_parse.specs.declared.tree.Tree.TheOpen as level
use Rattle.sq_token.specs.Mark.{is_sign, is_comparison, is_truth_word}
use Rattle.sq_token.specs.Tok.{Tok, toks}
use Rattle.sq_parse.specs.Tree as made
use Rattle.sq_parse.specs.Rules as rule
use Rattle.sq_parse.specs.Rules.{◌⊗◌, ◌⊕◌, ◌⊛◌}
use Rattle.sq_parse.specs.Grammar as g
use Rattle.sq_parse.specs.Grammar.{shipped}
use Rattle.sq_bind.specs.Sound.{IsSoundTerm, IsSoundOperand, IsSoundHere, IsSoundTree, IsSoundList, IsSound}
use Rattle.sq_bind.specs.Given.{IsParsed}

-- ---- what all values of a rule have in common

abbrev pub Gives : {A : Type 0} → (List Tok → A → Type 0) → (A → Type 0) → Type 0
Gives {A} l P = (us : List Tok) (a : A) → l us a → P a

-- nothing is said of the values
abbrev pub Any : {A : Type 0} → A → Type 0
Any a = ⊤

any : {A : Type 0} (l : List Tok → A → Type 0) → Gives l Any
any l us a h = tt

none : {A : Type 0} (P : A → Type 0) → Gives rule.nothing P
none P us a h = absurd h

gives : {A B : Type 0} (f : A → B) (l : List Tok → A → Type 0) (P : A → Type 0) (Q : B → Type 0)
    → Gives l P → ((a : A) → P a → Q (f a)) → Gives (f ⊛ l) Q
gives f l P Q x y us b h = subst Q h.2 (y h.0 (x us h.0 h.1))

then : {A B : Type 0} (l : List Tok → A → Type 0) (r : List Tok → B → Type 0) (P : A → Type 0) (Q : B → Type 0)
    → Gives l P → Gives r Q → Gives (l ⊗ r) (λ p. P p.0 × Q p.1)
then l r P Q x y us c h = (x h.first c.0 h.left, y h.second c.1 h.right)

either : {A : Type 0} (l r : List Tok → A → Type 0) (P : A → Type 0) → Gives l P → Gives r P → Gives (l ⊕ r) P
either l r P x y us a (inl h) = x us a h
either l r P x y us a (inr h) = y us a h

maybe : {A : Type 0} (l : List Tok → A → Type 0) (P : A → Type 0) → Gives l P → Gives (rule.optional l) (λ o. IfSome o P)
maybe l P x us None h = tt
maybe l P x us (Some a) h = x us a h

many : {A : Type 0} (l : List Tok → A → Type 0) (P : A → Type 0) → Gives l P → Gives (rule.many l) (All P)
many l P x us [] h = All-nil P
many l P x us (a ∷ more) h = All-cons P a more (x h.0 a h.3) (many l P x h.1 more h.4)

after : {A : Type 0} (wanted : Mark) (l : List Tok → A → Type 0) (P : A → Type 0) → Gives l P → Gives (rule.after wanted l) P
after wanted l P x =
    gives (λ p. p.1) (rule.mark wanted ⊗ l) (λ p. Any p.0 × P p.1) P (then (rule.mark wanted) l Any P (any (rule.mark wanted)) x) (λ p h. h.1)

separated : {A : Type 0} (wanted : Mark) (l : List Tok → A → Type 0) (P : A → Type 0)
    → Gives l P → Gives (rule.separated wanted l) (λ p. P p.0 × All P p.1)
separated wanted l P x = then l (rule.many (rule.after wanted l)) P (All P) x (many (rule.after wanted l) P (after wanted l P x))

-- a list that isn't empty
abbrev pub Some' : {A : Type 0} → (A → Type 0) → List A → Type 0
Some' P xs = (0 < length xs) × All P xs

cons : {A : Type 0} (P : A → Type 0) (x : A) (xs : List A) → P x → All P xs → Some' P (x ∷ xs)
cons P x xs h hs = (omega arith, All-cons P x xs h hs)

list_of : {A : Type 0} (wanted : Mark) (l : List Tok → A → Type 0) (P : A → Type 0) → Gives l P → Gives (rule.list_of wanted l) (Some' P)
list_of wanted l P x =
    gives (λ p. p.0 ∷ p.1) (rule.separated wanted l) (λ p. P p.0 × All P p.1) (Some' P) (separated wanted l P x) (λ p h. cons P p.0 p.1 h.0 h.1)

enclosed : {A : Type 0} (l : List Tok → A → Type 0) (P : A → Type 0) → Gives l P → Gives (rule.enclosed l) P
enclosed l P x =
    after k.Open _ P (gives (λ p. p.0) (l ⊗ rule.mark k.Close) (λ p. P p.0 × Any p.1) P (then l (rule.mark k.Close) P Any x (any (rule.mark k.Close))) (λ p h. h.0))

-- ---- numbers

-- a number that a bound allows
abbrev pub Within : ℕ → Tok → Type 0
Within limit n = n.number ≤ limit

small : (limit n : ℕ) → nat_le n limit ≡ true → n ≤ limit
small limit n e = leb-true n limit e

wide : Gives (rule.number shipped.wide) (Within 9223372036854775807)
wide us n h = small 9223372036854775807 n.number h.2

narrow : Gives (rule.number shipped.narrow) (Within 2147483647)
narrow us n h = small 2147483647 n.number h.2

number_led : Gives (g.number_led shipped) IsSoundTerm
number_led = either _ _ IsSoundTerm
    (gives (λ n. made.number_term n None) (rule.number shipped.wide) (Within 9223372036854775807) IsSoundTerm wide (λ n h. (n.number, (refl, h))))
    (gives (λ p. made.number_term p.0 (Some p.1)) (rule.number shipped.narrow ⊗ rule.after k.Star g.column) (λ p. Within 2147483647 p.0 × Any p.1) IsSoundTerm
    (then (rule.number shipped.narrow) (rule.after k.Star g.column) (Within 2147483647) Any narrow (any _)) (λ p h. (p.0.number, (refl, h.0))))

factor : (c : ColRef) (n : Option Tok) → IfSome n (Within 2147483647) → IsSoundTerm (made.column_term c n)
factor c None h = tt
factor c (Some n) h = (n.number, (refl, h))

column_led : Gives (g.column_led shipped) IsSoundTerm
column_led = gives (λ p. made.column_term p.0 p.1) (g.column ⊗ rule.optional (rule.after k.Star (rule.number shipped.narrow)))
    (λ p. Any p.0 × IfSome p.1 (Within 2147483647)) IsSoundTerm
    (then g.column (rule.optional (rule.after k.Star (rule.number shipped.narrow))) Any (λ o. IfSome o (Within 2147483647)) (any g.column)
    (maybe (rule.after k.Star (rule.number shipped.narrow)) (Within 2147483647) (after k.Star (rule.number shipped.narrow) (Within 2147483647) narrow)))
    (λ p h. factor p.0 p.1 h.1)

term : Gives (g.term shipped) IsSoundTerm
term = either (g.number_led shipped) (g.column_led shipped) IsSoundTerm number_led column_led

signed_term : Gives (g.signed_term shipped) IsSoundTerm
signed_term = gives (λ p. made.signed p.0 p.1) (rule.token is_sign ⊗ g.term shipped) (λ p. Any p.0 × IsSoundTerm p.1) IsSoundTerm
    (then (rule.token is_sign) (g.term shipped) Any IsSoundTerm (any (rule.token is_sign)) term) (λ p h. h.1)

-- ---- operands

summed : (sign : Option Tok) (first : RawTerm) (more : List RawTerm) → IsSoundTerm first → All IsSoundTerm more → IsSoundOperand (made.sum_of sign first more)
summed None first more h hs = cons IsSoundTerm first more h hs
summed (Some sign) first more h hs = cons IsSoundTerm (made.signed sign first) more h hs

sum : Gives (g.sum shipped) IsSoundOperand
sum = gives (λ p. made.sum_of p.0 p.1.0 p.1.1) (rule.optional (rule.token is_sign) ⊗ (g.term shipped ⊗ rule.many (g.signed_term shipped)))
    (λ p. Any p.0 × (IsSoundTerm p.1.0 × All IsSoundTerm p.1.1)) IsSoundOperand
    (then (rule.optional (rule.token is_sign)) (g.term shipped ⊗ rule.many (g.signed_term shipped)) Any (λ p. IsSoundTerm p.0 × All IsSoundTerm p.1)
    (any (rule.optional (rule.token is_sign)))
    (then (g.term shipped) (rule.many (g.signed_term shipped)) IsSoundTerm (All IsSoundTerm) term (many (g.signed_term shipped) IsSoundTerm signed_term)))
    (λ p h. summed p.0 p.1.0 p.1.1 h.1.0 h.1.1)

literal : Gives g.literal IsSoundOperand
literal = either _ _ IsSoundOperand
    (gives (λ n. o.Null n.at) (rule.mark k.Null) Any IsSoundOperand (any (rule.mark k.Null)) (λ n h. tt))
    (gives (λ x. o.Text x.at x.text) (rule.mark k.Text) Any IsSoundOperand (any (rule.mark k.Text)) (λ x h. tt))

operand : Gives (g.operand shipped) IsSoundOperand
operand = either g.literal (g.sum shipped) IsSoundOperand literal sum

-- ---- conditions

made_compare : (at : ℕ) (left : Operand) (how : Cmp) (right : Operand)
    → IsSoundOperand left → IsSoundOperand right → IsSoundTree (t.Compare at left how right)
made_compare at left how right h h' =
    subst IsSoundTree (t.rolls-Compare at left how right)
    (every_made-Tree IsSoundHere (level.Compare at left how right) (level.Compare at left how right) refl (h, h'))

made_between : (at : ℕ) (negated : Bool) (x low high : Operand)
    → IsSoundOperand x → IsSoundOperand low → IsSoundOperand high → IsSoundTree (t.Between at negated x low high)
made_between at negated x low high h h' h'' =
    subst IsSoundTree (t.rolls-Between at negated x low high)
    (every_made-Tree IsSoundHere (level.Between at negated x low high) (level.Between at negated x low high) refl (h, (h', h'')))

made_within : (at : ℕ) (negated : Bool) (x : Operand) (xs : List Operand)
    → IsSoundOperand x → All IsSoundOperand xs → IsSoundTree (t.Within at negated x xs)
made_within at negated x xs h hs =
    subst IsSoundTree (t.rolls-Within at negated x xs)
    (every_made-Tree IsSoundHere (level.Within at negated x xs) (level.Within at negated x xs) refl (h, hs))

made_null : (at : ℕ) (negated : Bool) (x : Operand) → IsSoundOperand x → IsSoundTree (t.IsNull at negated x)
made_null at negated x h =
    subst IsSoundTree (t.rolls-IsNull at negated x)
    (every_made-Tree IsSoundHere (level.IsNull at negated x) (level.IsNull at negated x) refl h)

made_call : (function : Name) (args : List Operand) → IsSoundTree (t.Call function args)
made_call function args =
    subst IsSoundTree (t.rolls-Call function args)
    (every_made-Tree IsSoundHere (level.Call function args) (level.Call function args) refl tt)

made_not : (part : Tree) → IsSoundTree part → IsSoundTree (t.Not part)
made_not part h = subst IsSoundTree (t.rolls-Not part) (every_made-Tree IsSoundHere (level.Not part) (level.Not (part, h)) refl tt)

made_is : (part : Tree) (negated : Bool) (truth : Truth) → IsSoundTree part → IsSoundTree (t.Is part negated truth)
made_is part negated truth h =
    subst IsSoundTree (t.rolls-Is part negated truth)
    (every_made-Tree IsSoundHere (level.Is part negated truth) (level.Is (part, h) negated truth) refl tt)

with_facts : (parts : List Tree) → All IsSoundTree parts → (zs : List ((z : Tree) × IsSoundTree z)) × (map (λ e. e.0) zs ≡ parts)
with_facts [] h = ([], refl)
with_facts (part ∷ parts) h =
    let rest = with_facts parts (All-tail IsSoundTree part parts h) in
    ((part, All-head IsSoundTree part parts h) ∷ rest.0, ap (λ (ts : List Tree). part ∷ ts) rest.1)

made_all : (parts : List Tree) → All IsSoundTree parts → IsSoundTree (t.All parts)
made_all parts h =
    let zs = with_facts parts h in
    subst IsSoundTree (t.rolls-All parts) (every_made-Tree IsSoundHere (level.All parts) (level.All zs.0) (ap level.All zs.1) tt)

made_any : (parts : List Tree) → All IsSoundTree parts → IsSoundTree (t.Any parts)
made_any parts h =
    let zs = with_facts parts h in
    subst IsSoundTree (t.rolls-Any parts) (every_made-Tree IsSoundHere (level.Any parts) (level.Any zs.0) (ap level.Any zs.1) tt)

comparison : Gives (g.comparison shipped) IsSoundTree
comparison = gives (λ p. t.Compare (made.begin_of p.0) p.0 (made.comparison_by p.1.0.mark) p.1.1)
    (g.operand shipped ⊗ (rule.token is_comparison ⊗ g.operand shipped))
    (λ p. IsSoundOperand p.0 × (Any p.1.0 × IsSoundOperand p.1.1)) IsSoundTree
    (then (g.operand shipped) (rule.token is_comparison ⊗ g.operand shipped) IsSoundOperand (λ p. Any p.0 × IsSoundOperand p.1) operand
    (then (rule.token is_comparison) (g.operand shipped) Any IsSoundOperand (any (rule.token is_comparison)) operand))
    (λ p h. made_compare (made.begin_of p.0) p.0 (made.comparison_by p.1.0.mark) p.1.1 h.0 h.1.1)

denied : Gives (rule.optional (rule.mark k.Not)) Any
denied = any (rule.optional (rule.mark k.Not))

between : Gives (g.between shipped) IsSoundTree
between = gives (λ p. t.Between (made.begin_of p.0) (is_some p.1.0) p.0 p.1.1.0 p.1.1.1)
    (g.operand shipped ⊗ (rule.optional (rule.mark k.Not) ⊗ (rule.after k.Between (g.operand shipped) ⊗ rule.after k.And (g.operand shipped))))
    (λ p. IsSoundOperand p.0 × (Any p.1.0 × (IsSoundOperand p.1.1.0 × IsSoundOperand p.1.1.1))) IsSoundTree
    (then (g.operand shipped) (rule.optional (rule.mark k.Not) ⊗ (rule.after k.Between (g.operand shipped) ⊗ rule.after k.And (g.operand shipped)))
    IsSoundOperand (λ p. Any p.0 × (IsSoundOperand p.1.0 × IsSoundOperand p.1.1)) operand
    (then (rule.optional (rule.mark k.Not)) (rule.after k.Between (g.operand shipped) ⊗ rule.after k.And (g.operand shipped))
    Any (λ p. IsSoundOperand p.0 × IsSoundOperand p.1) denied
    (then (rule.after k.Between (g.operand shipped)) (rule.after k.And (g.operand shipped)) IsSoundOperand IsSoundOperand
    (after k.Between (g.operand shipped) IsSoundOperand operand) (after k.And (g.operand shipped) IsSoundOperand operand))))
    (λ p h. made_between (made.begin_of p.0) (is_some p.1.0) p.0 p.1.1.0 p.1.1.1 h.0 h.1.1.0 h.1.1.1)

operands : Gives (rule.enclosed (rule.list_of k.Comma (g.operand shipped))) (Some' IsSoundOperand)
operands = enclosed (rule.list_of k.Comma (g.operand shipped)) (Some' IsSoundOperand) (list_of k.Comma (g.operand shipped) IsSoundOperand operand)

within : Gives (g.within shipped) IsSoundTree
within = gives (λ p. t.Within (made.begin_of p.0) (is_some p.1.0) p.0 p.1.1)
    (g.operand shipped ⊗ (rule.optional (rule.mark k.Not) ⊗ rule.after k.In (rule.enclosed (rule.list_of k.Comma (g.operand shipped)))))
    (λ p. IsSoundOperand p.0 × (Any p.1.0 × Some' IsSoundOperand p.1.1)) IsSoundTree
    (then (g.operand shipped) (rule.optional (rule.mark k.Not) ⊗ rule.after k.In (rule.enclosed (rule.list_of k.Comma (g.operand shipped))))
    IsSoundOperand (λ p. Any p.0 × Some' IsSoundOperand p.1) operand
    (then (rule.optional (rule.mark k.Not)) (rule.after k.In (rule.enclosed (rule.list_of k.Comma (g.operand shipped))))
    Any (Some' IsSoundOperand) denied (after k.In (rule.enclosed (rule.list_of k.Comma (g.operand shipped))) (Some' IsSoundOperand) operands)))
    (λ p h. made_within (made.begin_of p.0) (is_some p.1.0) p.0 p.1.1 h.0 h.1.1.1)

null_test : Gives (g.null_test shipped) IsSoundTree
null_test = gives (λ p. t.IsNull (made.begin_of p.0) (is_some p.1.0) p.0)
    (g.operand shipped ⊗ rule.after k.Is (rule.optional (rule.mark k.Not) ⊗ rule.mark k.Null)) (λ p. IsSoundOperand p.0 × Any p.1) IsSoundTree
    (then (g.operand shipped) (rule.after k.Is (rule.optional (rule.mark k.Not) ⊗ rule.mark k.Null)) IsSoundOperand Any operand
    (any (rule.after k.Is (rule.optional (rule.mark k.Not) ⊗ rule.mark k.Null))))
    (λ p h. made_null (made.begin_of p.0) (is_some p.1.0) p.0 h.0)

call : Gives (g.call shipped) IsSoundTree
call = gives (λ p. t.Call p.0 p.1) (g.name ⊗ rule.enclosed (rule.list_of k.Comma (g.simple shipped))) Any IsSoundTree
    (any (g.name ⊗ rule.enclosed (rule.list_of k.Comma (g.simple shipped)))) (λ p h. made_call p.0 p.1)

predicate : Gives (g.predicate shipped) IsSoundTree
predicate = either _ _ IsSoundTree comparison (either _ _ IsSoundTree between
    (either _ _ IsSoundTree within (either (g.null_test shipped) (g.call shipped) IsSoundTree null_test call)))

tested : (tree : Tree) (asked : Option (Option Tok × Tok)) → IsSoundTree tree → IsSoundTree (made.tested tree asked)
tested tree None h = h
tested tree (Some p) h = made_is tree (is_some p.0) (made.truth_by p.1.mark) h

all_of : (first : Tree) (more : List Tree) → IsSoundTree first → All IsSoundTree more → IsSoundTree (made.all_of first more)
all_of first [] h hs = h
all_of first (second ∷ more) h hs = made_all (first ∷ second ∷ more) (All-cons IsSoundTree first (second ∷ more) h hs)

any_of : (first : Tree) (more : List Tree) → IsSoundTree first → All IsSoundTree more → IsSoundTree (made.any_of first more)
any_of first [] h hs = h
any_of first (second ∷ more) h hs = made_any (first ∷ second ∷ more) (All-cons IsSoundTree first (second ∷ more) h hs)

conjunction : (neg : List Tok → Tree → Type 0) → Gives neg IsSoundTree → Gives (g.conjunction neg) IsSoundTree
conjunction neg x = gives (λ p. made.all_of p.0 p.1) (rule.separated k.And neg) (λ p. IsSoundTree p.0 × All IsSoundTree p.1) IsSoundTree
    (separated k.And neg IsSoundTree x) (λ p h. all_of p.0 p.1 h.0 h.1)

disjunction : (neg : List Tok → Tree → Type 0) → Gives neg IsSoundTree → Gives (g.disjunction neg) IsSoundTree
disjunction neg x = gives (λ p. made.any_of p.0 p.1) (rule.separated k.Or (g.conjunction neg)) (λ p. IsSoundTree p.0 × All IsSoundTree p.1) IsSoundTree
    (separated k.Or (g.conjunction neg) IsSoundTree (conjunction neg x)) (λ p h. any_of p.0 p.1 h.0 h.1)

negation : (lower inner : List Tok → Tree → Type 0) → Gives lower IsSoundTree → Gives inner IsSoundTree → Gives (g.negation shipped lower inner) IsSoundTree
negation lower inner x y = either (t.Not ⊛ rule.after k.Not lower) (g.test shipped inner) IsSoundTree
    (gives t.Not (rule.after k.Not lower) IsSoundTree IsSoundTree (after k.Not lower IsSoundTree x) made_not)
    (gives (λ p. made.tested p.0 p.1) (g.primary shipped inner ⊗ rule.optional (rule.after k.Is (rule.optional (rule.mark k.Not) ⊗ rule.token is_truth_word)))
    (λ p. IsSoundTree p.0 × Any p.1) IsSoundTree
    (then (g.primary shipped inner) (rule.optional (rule.after k.Is (rule.optional (rule.mark k.Not) ⊗ rule.token is_truth_word))) IsSoundTree Any
    (either (rule.enclosed inner) (g.predicate shipped) IsSoundTree (enclosed inner IsSoundTree y) predicate)
    (any (rule.optional (rule.after k.Is (rule.optional (rule.mark k.Not) ⊗ rule.token is_truth_word)))))
    (λ p h. tested p.0 p.1 h.0))

neg : (d : ℕ) → Gives (g.neg shipped d) IsSoundTree
neg zero = negation rule.nothing rule.nothing (none IsSoundTree) (none IsSoundTree)
neg (suc d) =
    let deeper = neg d in
    negation (g.neg shipped d) (g.disjunction (g.neg shipped d)) deeper (disjunction (g.neg shipped d) deeper)

-- ---- statements

condition : (d : ℕ) → Gives (g.condition shipped d) IsSoundTree
condition d = disjunction (g.neg shipped d) (neg d)

abbrev pub IsSoundJoin : Source → Type 0
IsSoundJoin s = IfSome s.on IsSoundTree

source : Gives g.source IsSoundJoin
source = gives (λ p. made.source_of p.0 p.1) (g.name ⊗ rule.optional g.alias) Any IsSoundJoin (any (g.name ⊗ rule.optional g.alias)) (λ p h. tt)

join : (d : ℕ) → Gives (g.join shipped d) IsSoundJoin
join d = either _ _ IsSoundJoin (after k.Comma g.source IsSoundJoin source)
    (either _ _ IsSoundJoin (after k.Cross (rule.after k.Join g.source) IsSoundJoin (after k.Join g.source IsSoundJoin source))
    (gives (λ p. made.joined_on p.1.0 p.1.1)
    (rule.optional (rule.mark k.Inner) ⊗ (rule.after k.Join g.source ⊗ rule.after k.On (g.condition shipped d)))
    (λ p. Any p.0 × (Any p.1.0 × IsSoundTree p.1.1)) IsSoundJoin
    (then (rule.optional (rule.mark k.Inner)) (rule.after k.Join g.source ⊗ rule.after k.On (g.condition shipped d)) Any (λ p. Any p.0 × IsSoundTree p.1)
    (any (rule.optional (rule.mark k.Inner)))
    (then (rule.after k.Join g.source) (rule.after k.On (g.condition shipped d)) Any IsSoundTree
    (any (rule.after k.Join g.source)) (after k.On (g.condition shipped d) IsSoundTree (condition d))))
    (λ p h. h.1.1)))

sources : (d : ℕ) → Gives ((λ p. p.0 ∷ p.1) ⊛ (g.source ⊗ rule.many (g.join shipped d))) (Some' IsSoundJoin)
sources d = gives (λ p. p.0 ∷ p.1) (g.source ⊗ rule.many (g.join shipped d)) (λ p. IsSoundJoin p.0 × All IsSoundJoin p.1) (Some' IsSoundJoin)
    (then g.source (rule.many (g.join shipped d)) IsSoundJoin (All IsSoundJoin) source (many (g.join shipped d) IsSoundJoin (join d)))
    (λ p h. cons IsSoundJoin p.0 p.1 h.0 h.1)

select_list : Gives g.select_list IsSoundList
select_list = either _ _ IsSoundList
    (gives (λ _. items.Star) (rule.mark k.Star) Any IsSoundList (any (rule.mark k.Star)) (λ p h. tt))
    (gives items.List (rule.list_of k.Comma g.item) (Some' Any) IsSoundList (list_of k.Comma g.item Any (any g.item)) (λ p h. h.0))

sound : (distinct : Bool) (selected : Items) (froms : List Source) (where' : Option Tree) (groups : List ColRef) (keys : List OrderItem)
    (limit : Option ℕ) → IsSoundList selected → Some' IsSoundJoin froms → IfSome where' IsSoundTree
    → IsSound (made.statement_of distinct selected froms where' groups keys limit)
sound distinct selected froms where' groups keys limit h hs hw = record { items = h; some_source = hs.0; joins = hs.1; condition = hw }

statement : (d : ℕ) → Gives (g.statement shipped d) IsSound
statement d = gives (λ p. made.statement_of p.0 p.1.0 p.1.1.0 p.1.1.1.0 p.1.1.1.1.0 p.1.1.1.1.1.0 p.1.1.1.1.1.1) _ (λ p. Any p.0 × (IsSoundList p.1.0 × (Some' IsSoundJoin p.1.1.0 × (IfSome p.1.1.1.0 IsSoundTree × Any p.1.1.1.1)))) IsSound
    (after k.Select _ _
    (then g.extent _ Any (λ p. IsSoundList p.0 × (Some' IsSoundJoin p.1.0 × (IfSome p.1.1.0 IsSoundTree × Any p.1.1.1))) (any g.extent)
    (then g.select_list _ IsSoundList (λ p. Some' IsSoundJoin p.0 × (IfSome p.1.0 IsSoundTree × Any p.1.1)) select_list
    (then _ _ (Some' IsSoundJoin) (λ p. IfSome p.0 IsSoundTree × Any p.1) (after k.From _ (Some' IsSoundJoin) (sources d))
    (then (rule.optional (rule.after k.Where (g.condition shipped d))) _ (λ o. IfSome o IsSoundTree) Any
    (maybe (rule.after k.Where (g.condition shipped d)) IsSoundTree (after k.Where (g.condition shipped d) IsSoundTree (condition d))) (any _))))))
    (λ p h. sound p.0 p.1.0 p.1.1.0 p.1.1.1.0 p.1.1.1.1.0 p.1.1.1.1.1.0 p.1.1.1.1.1.1 h.1.0 h.1.1.0 h.1.1.1.0)

abbrev pub AllSound : Script → Type 0
AllSound s = All IsSound s.statements

script : (d : ℕ) → Gives (g.script shipped d) AllSound
script d = gives (λ p. record { statements = p.0.0 ∷ p.0.1 }) (rule.separated k.Semicolon (g.statement shipped d) ⊗ rule.optional (rule.mark k.Semicolon))
    (λ p. (IsSound p.0.0 × All IsSound p.0.1) × Any p.1) AllSound
    (then (rule.separated k.Semicolon (g.statement shipped d)) (rule.optional (rule.mark k.Semicolon)) (λ p. IsSound p.0 × All IsSound p.1) Any
    (separated k.Semicolon (g.statement shipped d) IsSound (statement d)) (any (rule.optional (rule.mark k.Semicolon))))
    (λ p h. All-cons IsSound p.0.0 p.0.1 h.0.0 h.0.1)

-- a statement of a script that a text spells has no empty list, and small numbers
pub parsed_sound : (s : Statement) → IsParsed s → IsSound s
parsed_sound s h = All-contains IsSound h.script.statements s (script 64 (toks 0 h.text) h.script h.spelled.0) h.among

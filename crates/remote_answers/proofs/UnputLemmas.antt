-- Answers that want of memory cuts off, and the text of one answer behind others.
use Rattle.std.proofs.Common.{◌≡◌, ◌≢◌, ℕ, ◌+◌, Bool, true, false, cond, List, [], ◌∷◌, ◌++◌, length, Option, Some, None, Ok, Err, refl, sym, ◌∙◌, ap, subst, arith, append-nil, append_assoc}
use Rattle.std.specs.List.{flat_map}
use Rattle.std.specs.Prelude.{◌==◌}
use Rattle.std.proofs.lemmas.Bool.{ne_eqb}
use Rattle.std.proofs.lemmas.List.Concat.{flat_map-append, flat_map-cons}
use Rattle.sq_expr.specs.declared.shape.Shape.{Shape}
use Rattle.sq_value.specs.declared.value.Value.{Value}
use Rattle.sq_value.specs.declared.value.Truth.{Truth}
use Rattle.outside.proofs.Laws.{AddsFront-whole}
use Rattle.result_sink.proofs.WroteLemmas.{wrote_none}
use Rattle.run_base.specs.Items.{Item}
use Rattle.run_base.specs.Seen.{Outputs}
use Rattle.run_answers.specs.Answering.{Answers, AnswersOne}
use Rattle.run_answers.specs.Text.{behind_line, item_text, numbered_text, text_by, text_of}
use Rattle.run_answers.specs.declared.stopping.Stop.TheVariants as stop
use Rattle.run_answers.proofs.AnswerLemmas.{plain_text-some, shaped_text-some}

-- what predicates give
abbrev Gives : Type 0
Gives = ℕ → Value → Value → Truth

-- ---- want of memory

-- answers that are whole, where memory is wanting behind them
pub answers_cut : {A O N : Type 0} (tally : Bool) (IsRight : ℕ → A → List ℕ → Type 0) (number : ℕ) (items : List A) (text : List A → List ℕ)
    (old new : Outputs O N) → Answers tally IsRight number items text old new (Ok tt) → Answers tally IsRight number items text old new (Err stop.Memory)
answers_cut tally IsRight number items text old new a = record {
  out = record {
    counts = a.out.counts;
    ok = tt;
    kept = tt;
    failed = λ e. absurd cc;
    front = AddsFront-whole old.out.written new.out.written (text items) a.out.ok;
    short = λ e. absurd cc;
  };
  notes = record {
    finished = a.notes.finished;
    left = a.notes.left;
    split = a.notes.split;
    lines = a.notes.lines;
    are = a.notes.are;
    end' = a.notes.end'.0;
    quiet = a.notes.quiet;
  };
}

-- nothing was put of an answer
pub one_unput : {A O N : Type 0} (tally : Bool) (IsRight : ℕ → A → List ℕ → Type 0) (number : ℕ) (item : A) (text : List ℕ) (old new : Outputs O N) → text ≢ []
    → new ≡ old → AnswersOne tally IsRight number item text old new (Err stop.Memory)
one_unput {O = O} {N = N} tally IsRight number item text old new some e =
    subst (λ (o : Outputs O N). AnswersOne tally IsRight number item text old o (Err stop.Memory)) (sym e) (record {
      line = None;
      right = tt;
      put = record {
        out = wrote_none text old.out.written old.out.faults stop.Memory some (λ f. cc);
        whole = λ f. absurd cc;
        kept = λ f. absurd cc;
        notes = refl;
      };
    })

-- ---- texts

item_text-some : (gives : Gives) (item : Item) → item_text gives item ≢ []
item_text-some gives item = by item.bound.shape
  where
    by : (o : Option Shape) → text_by gives item o ≢ []
    by None = plain_text-some gives item
    by (Some shape) = shaped_text-some gives item shape

pub numbered_text-some : (gives : Gives) (number : ℕ) (item : Item) → numbered_text gives number item ≢ []
numbered_text-some gives number item = by (number == 1)
  where
    by : (b : Bool) → cond b (item_text gives item) (behind_line gives item) ≢ []
    by true = item_text-some gives item
    by false = λ e. absurd cc

-- the text of answers behind these
abbrev pub rest_text : Gives → List Item → List Item → List ℕ
rest_text gives [] zs = text_of gives zs
rest_text gives (x ∷ xs) zs = flat_map (behind_line gives) zs

pub rest_law : (gives : Gives) (xs zs : List Item) → text_of gives (xs ++ zs) ≡ text_of gives xs ++ rest_text gives xs zs
unfolding text_of
rest_law gives [] zs = refl
rest_law gives (x ∷ xs) zs =
    ap (λ (l : List ℕ). item_text gives x ++ l) (flat_map-append (behind_line gives) xs zs)
    ∙ sym (append_assoc (item_text gives x) (flat_map (behind_line gives) xs) (flat_map (behind_line gives) zs))

pub rest_none : (gives : Gives) (xs : List Item) → rest_text gives xs [] ≡ []
unfolding text_of
rest_none gives [] = refl
rest_none gives (x ∷ xs) = refl

pub rest_more : (gives : Gives) (xs : List Item) (b : Item) (bs : List Item)
    → rest_text gives xs (b ∷ bs) ≡ numbered_text gives (1 + length xs) b ++ flat_map (behind_line gives) bs
unfolding text_of
rest_more gives [] b bs = refl
rest_more gives (x ∷ xs) b bs =
    flat_map-cons (behind_line gives) b bs
    ∙ ap (λ (t : Bool). cond t (item_text gives b) (behind_line gives b) ++ flat_map (behind_line gives) bs)
    (sym (ne_eqb (1 + length (x ∷ xs)) 1 (λ e. omega (arith, e))))

pub rest_one : (gives : Gives) (xs : List Item) (b : Item) → rest_text gives xs (b ∷ []) ≡ numbered_text gives (1 + length xs) b
rest_one gives xs b = rest_more gives xs b [] ∙ append-nil (numbered_text gives (1 + length xs) b)

-- The headline of a run that has finished, and of a program by the code that it ends with.
use Rattle.std.proofs.Common.{◌≡◌, ℕ, true, List, refl, sym, ◌∙◌, subst, arith}
use Rattle.run_base.specs.Seen.{World}
use Rattle.run_plan.specs.Prepared.{Predicates}
use Rattle.run_plan.specs.Stage.{stage_of, code_of}
use Rattle.run_plan.specs.declared.status.Status.{Status}
use Rattle.run_plan.specs.declared.status.Status.TheVariants as status
use Rattle.whole_run.specs.Asked.{are_fileless}
use Rattle.whole_run.specs.Ending.{Finished}
use Rattle.whole_run.specs.Headline.{Headline, HeadlineByCode}
use Rattle.whole_run.proofs.DemoLemmas.{demo_finished}
use Rattle.whole_run.proofs.EndedLemmas.{complete_of, front_of}

-- a run that has finished has kept the headline
pub headline_of : {D O N : Type 0} (p : Predicates) (words : List (List ℕ)) (before after : D) (old new : World O N) (s : Status)
    → Finished p words old new s → (are_fileless words ≡ true → after ≡ before) → Headline p words before after old new s
headline_of p words before after old new s f untouched = record {
  given = f.given;
  is_given = f.is_given;
  done = f.ended.done;
  out_kept = f.ended.out_kept;
  causes = f.ended.ends;
  complete = complete_of p words f.given old new _ s f.ended;
  noted = f.noted_lines;
  cut = f.cut;
  refused = f.ended.refused;
  unread = f.ended.unread;
  front = front_of p words f.given old new _ s f.ended;
  nothing = f.ended.nothing;
  tallied = f.tallied;
  silent = f.silent;
  silent_count = f.kept;
  usage = f.usage;
  usage_only = f.ended.usage_only;
  untouched = untouched;
  demo = demo_finished p words old new s f;
  kept = f.ended.kept;
  read = f.ended.read;
  write = f.ended.write;
  not_found = f.ended.not_found;
  placed = f.ended.placed;
  named = f.ended.named;
  keeps = f.ended.keeps;
  folder_counts = f.ended.folder_counts;
  out_counts = f.ended.out_counts;
}

-- the one status whose code is 0
done_of : (s : Status) → code_of (stage_of s) ≡ 0 → s ≡ status.Done
done_of status.Done e = refl
done_of _ e = absurd (omega (arith, e))

-- a program that ends with the code of a run's status has kept it too
pub headline_by : {D O N : Type 0} (p : Predicates) (words : List (List ℕ)) (before after : D) (old new : World O N) (s : Status) (code : ℕ)
    → code ≡ code_of (stage_of s) → Headline p words before after old new s
    → HeadlineByCode p words before after old new code
headline_by p words before after old new s code is h =
    record { ended = s; is_code = is; done = λ zero. done_of s (sym is ∙ zero); run = h }

-- and so over the words as they are named otherwise
pub headline_named : {D O N : Type 0} (p : Predicates) (words named : List (List ℕ)) (before after : D) (old new : World O N) (s : Status)
    → words ≡ named → Headline p words before after old new s → Headline p named before after old new s
headline_named p words named before after old new s same h =
    subst (λ (ws : List (List ℕ)). Headline p ws before after old new s) same h

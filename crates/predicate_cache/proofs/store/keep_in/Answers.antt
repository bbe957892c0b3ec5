use Rattle.std.proofs.Common.{◌-◌, ◌<◌, ◌∷◌, take, Option, inl, inr, ap, ◌∙◌, ◌⊎◌, Result, Ok, Err}
use Rattle.std.specs.Option.{option_map_or}
use Rattle.std.specs.Prelude.{OnOk, OnErr}
use Rattle.std.specs.Map.{remove_entry}
use Rattle.lru.specs.LruCache.{lru_cache}
use Rattle.sq_value.specs.declared.value.Truth.{Truth}
use Rattle.predicate_cache.specs.Calls.{is_key}
use Rattle.predicate_cache.specs.declared.call_key.CallKey.{CallKey}
use Rattle.predicate_cache.proofs.EntryLemmas.{entry-none, take-first}
use Rattle.predicate_cache.proofs.store.keep_in.Goals as goal

either : {X E : Type 0} {P Q : Type 0} (r : Result X E) → OnOk r P → OnErr r Q → Q ⊎ P
either (Ok x) p q = inr p
either (Err e) p q = inl q

next : {P Q R : Type 0} → (Q → R) → P ⊎ Q → P ⊎ R
next f (inl p) = inl p
next f (inr q) = inr (f q)

pub returns : goal.returns
returns c =
    let es = c.args.kept.now.entries in
    let cap = c.args.kept.now.cap in
    let some : 0 < cap = c.len-few.ensures.valid.2 in
    next (λ h. h
    ∙ ap (λ (o : Option (CallKey × Truth)). lru_cache (option_map_or (λ e. (e.0, c.args.truth) ∷ remove_entry (is_key c.args.key) es) o ((c.args.key, c.args.truth) ∷ take (cap - 1) es)) cap)
    (entry-none (λ n x y. c.args.truth) c.args.key es c.requires)
    ∙ ap (λ l. lru_cache l cap) (take-first cap (c.args.key, c.args.truth) es some))
    (either c.put.result c.put.ensures.entries c.put.ensures.err)

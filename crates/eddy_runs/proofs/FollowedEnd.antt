-- Where a told run of the core has ended, its told routings are what they must be beside its answer.
use Rattle.std.proofs.Common.{◌≡◌, ◌⊎◌, inl, inr, ℕ, ◌+◌, ◌<◌, Bool, true, false, cond, List, [], ◌++◌, length, get_or, Option, Some, None, refl, ap, sym, ◌∙◌, arith, subst}
use Rattle.std.specs.Prelude.{map, slice_get, slice_index}
use Rattle.std.specs.List.{flat_map, range_with_len}
use Rattle.std.specs.List.Sorted.{IsPermutation}
use Rattle.std.specs.Option.{option_map_or}
use Rattle.std.proofs.lemmas.Bool.{cases_Bool}
use Rattle.std.proofs.lemmas.Option.{slice_get_within, get_or_from_slice_get}
use Rattle.std.proofs.lemmas.List.{append-nil, take_all}
use Rattle.std.proofs.lemmas.List.Folds.{flat_map-map}
use Rattle.std.proofs.lemmas.List.Sorted.{IsPermutation-refl}
use Rattle.sq_value.specs.Relation.{Relation}
use Rattle.sq_value.specs.declared.value.Value.{Value}
use Rattle.sq_value.specs.declared.value.Truth.{Truth}
use Rattle.sq_value.specs.declared.predicate.Kinds.{Kinds}
use Rattle.sq_expr.specs.Fits.{IsFit}
use Rattle.sq_expr.specs.declared.block.AliasUse.{AliasUse}
use Rattle.sq_expr.specs.declared.block.Block.{Block}
use Rattle.bag_meaning.specs.Bag.{sizes_of}
use Rattle.bag_meaning.proofs.ListLemmas.{flat_map_agree_on}
use Rattle.eddy_meaning.specs.Tuple.{Tuple}
use Rattle.eddy_meaning.specs.Keys.{Mark, rows_of_key}
use Rattle.eddy_meaning.specs.Route.{single}
use Rattle.eddy_meaning.specs.Act.{unfinished}
use Rattle.eddy_meaning.proofs.ReachLemmas.{at_place}
use Rattle.eddy_runs.specs.declared.event.Event.{Event}
use Rattle.eddy_runs.specs.declared.event.Event.TheVariants as event
use Rattle.eddy_runs.specs.State.{State, Asked, IsStep, HasEnded}
use Rattle.eddy_runs.specs.Told.{Told, IsToldRun, Opened, Acted, Routed, IsQuiet, most_hops}
use Rattle.eddy_runs.specs.Recorded.{marks_of}
use Rattle.eddy_runs.specs.Followed.{IsFollowed, scanned_tuples, fetched_tuples, entries_told, all_given}
use Rattle.eddy_runs.proofs.ToldLemmas.{told_run, asked_from, marked_from}
use Rattle.eddy_runs.proofs.FollowedLemmas.{claimed, claimed_is, rows_asked, fetched_by, Follows, follows_start, follows_claim, follows_fetch, follows_end, follows_routing}

module _ (gives : ℕ → Value → Value → Truth) (kinds : ℕ → Option Kinds) (block : Block) (tables : List Relation) (fits : IsFit kinds tables block) where
  follows_quiet : (tolds : List Told) (old new : State) (event : Event) → Follows gives block tables tolds old → IsQuiet event → IsStep gives block tables old event new → Follows gives block tables tolds new
  follows_quiet tolds old new (event.Claim alias) h quiet step = follows_claim gives block tables tolds old new alias h step
  follows_quiet tolds old new (event.Route place route) h quiet step = absurd quiet
  follows_quiet tolds old new (event.Fetch place) h quiet step = follows_fetch gives block tables tolds old new place h step
  follows_quiet tolds old new (event.End place) h quiet step = follows_end gives block tables tolds old new place h step

  follows : (tolds : List Told) (s : State) → IsToldRun gives block tables tolds s → Follows gives block tables tolds s
  follows _ _ Opened = follows_start gives block tables
  follows _ _ (Acted tolds old new event before quiet step) = follows_quiet tolds old new event (follows tolds old before) quiet step
  follows _ _ (Routed tolds old new place told before routing) =
      follows_routing gives block tables tolds old new place told (follows tolds old before) (told_run gives kinds block tables fits tolds old before).reached.keeps.faithful routing

  -- all rows of the scanned aliases arrived
  all_claimed : (tolds : List Told) (s : State) → Follows gives block tables tolds s → HasEnded block tables s
      → claimed 0 s.next ≡ flat_map (λ alias. option_map_or (scanned_tuples block tables alias) (slice_get block.aliases alias) []) (range_with_len 0 (length block.aliases))
  all_claimed tolds s h ends =
      claimed_is 0 s.next f (λ i n at.
      let same : 0 + i ≡ i = omega arith in
      subst (λ (a : ℕ). map (single a) (range_with_len 0 n) ≡ f a) (sym same) (one i n at))
      ∙ ap (λ (n : ℕ). flat_map f (range_with_len 0 n)) h.wide
    where
      f : ℕ → List Tuple
      f alias = option_map_or (scanned_tuples block tables alias) (slice_get block.aliases alias) []

      one : (i n : ℕ) → slice_get s.next i ≡ Some n → map (single i) (range_with_len 0 n) ≡ option_map_or (scanned_tuples block tables i) (slice_get block.aliases i) []
      one i n at =
          let low : i < length block.aliases = omega (arith, slice_get_within s.next i n at, h.wide) in
          let u = at_place block.aliases i low in
          by u.0 u.1 (cases_Bool u.0.access.scan) ∙ sym (ap (λ (o : Option AliasUse). option_map_or (scanned_tuples block tables i) o []) u.1)
        where
          n_is : slice_index s.next i ≡ n
          n_is = get_or_from_slice_get s.next i n 0 at

          by : (u : AliasUse) → slice_get block.aliases i ≡ Some u → (u.access.scan ≡ true) ⊎ (u.access.scan ≡ false) → map (single i) (range_with_len 0 n) ≡ scanned_tuples block tables i u
          by u used (inl scan) =
              ap (λ (k : ℕ). map (single i) (range_with_len 0 k)) (sym n_is ∙ sym (ends.scans i u used scan))
              ∙ sym (ap (λ (b : Bool). cond b (map (single i) (range_with_len 0 (slice_index (sizes_of block tables) i))) []) scan)
          by u used (inr closed) =
              ap (λ (k : ℕ). map (single i) (range_with_len 0 k)) (sym n_is ∙ h.unscanned i u used closed)
              ∙ sym (ap (λ (b : Bool). cond b (map (single i) (range_with_len 0 (slice_index (sizes_of block tables) i))) []) closed)

  -- and all rows of the asked keys
  all_fetched : (tolds : List Told) (s : State) → Follows gives block tables tolds s → HasEnded block tables s
      → flat_map (fetched_by gives block tables) s.asked ≡ flat_map (λ (m : Mark). option_map_or (fetched_tuples block tables m) (slice_get block.aliases m.alias) []) (marks_of s.asked)
  all_fetched tolds s h ends =
      flat_map_agree_on (fetched_by gives block tables) (λ (k : Asked). g record { alias = k.alias; key = k.key }) s.asked (λ i d low. one (get_or s.asked i d) (h.whole i d low (ends.asked i d low)))
      ∙ sym (flat_map-map g (λ (k : Asked). let m : Mark = record { alias = k.alias; key = k.key } in m) s.asked)
    where
      g : Mark → List Tuple
      g m = option_map_or (fetched_tuples block tables m) (slice_get block.aliases m.alias) []

      one : (k : Asked) → k.fetched ≡ length (rows_asked gives block tables k) → fetched_by gives block tables k ≡ option_map_or (fetched_tuples block tables record { alias = k.alias; key = k.key }) (slice_get block.aliases k.alias) []
      one k e =
          ap (map (single k.alias)) (take_all k.fetched (rows_asked gives block tables k) (omega (arith, e))) ∙ by (slice_get block.aliases k.alias)
        where
          column : (o : Option ℕ) → map (single k.alias) (option_map_or (λ c. rows_of_key block tables k.alias c k.key) o []) ≡ option_map_or (λ c. map (single k.alias) (rows_of_key block tables k.alias c k.key)) o []
          column None = refl
          column (Some c) = refl

          by : (o : Option AliasUse) → map (single k.alias) (option_map_or (λ (u : AliasUse). option_map_or (λ c. rows_of_key block tables k.alias c k.key) u.access.look_up []) o [])
              ≡ option_map_or (fetched_tuples block tables record { alias = k.alias; key = k.key }) o []
          by None = refl
          by (Some u) = column u.access.look_up

  same_list : {X : Type 0} (xs ys : List X) → xs ≡ ys → IsPermutation xs ys
  same_list {X} xs ys e = subst (IsPermutation xs) e (IsPermutation-refl xs)

  -- the told routings of a run that has ended
  pub followed : (tolds : List Told) (s : State) → IsToldRun gives block tables tolds s → HasEnded block tables s
      → IsFollowed gives block tables s.results s.log (marks_of s.asked) (most_hops tolds) tolds
  followed tolds s run ends =
      let h = follows tolds s run in
      record {
        given = h.given;
        each = h.each;
        built = same_list (entries_told tolds) s.log h.entries;
        moved = subst (λ (l : List Tuple). IsPermutation (l ++ unfinished block (all_given h.given)) (map (λ (told : Told). told.tuple) tolds))
            (ap (λ (l : List Tuple). l ++ flat_map (fetched_by gives block tables) s.asked) (all_claimed tolds s h ends)
            ∙ ap (λ (l : List Tuple). flat_map (λ alias. option_map_or (scanned_tuples block tables alias) (slice_get block.aliases alias) []) (range_with_len 0 (length block.aliases)) ++ l) (all_fetched tolds s h ends))
            (subst (IsPermutation ((claimed 0 s.next ++ flat_map (fetched_by gives block tables) s.asked) ++ unfinished block (all_given h.given)))
            (ap (λ (l : List Tuple). map (λ (told : Told). told.tuple) tolds ++ l) ends.pending ∙ append-nil (map (λ (told : Told). told.tuple) tolds)) h.moved);
        found = same_list _ s.results h.found;
        asked = λ alias key. (
          (λ marked. h.asks alias key (asked_from gives kinds block tables fits s.asked alias key marked)),
          (λ told. marked_from gives kinds block tables fits s.asked alias key (h.answers alias key told)),
        );
        hops = refl;
      }

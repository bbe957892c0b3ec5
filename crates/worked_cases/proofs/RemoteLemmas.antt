-- Remotes that are each the first with its table have different ones.
use Rattle.std.proofs.Common.{◌≡◌, ◌≢◌, ℕ, ◌<◌, false, List, get_or, length, Option, Some, None, refl, ap, sym, ◌∙◌, arith}
use Rattle.std.specs.Prelude.{All, AllPairs, slice_get}
use Rattle.std.proofs.lemmas.Option.{slice_get-get_or}
use Rattle.eddy_meaning.proofs.MatchLemmas.{All-at}
use Rattle.sq_expr.specs.declared.block.AliasUse.{AliasUse}
use Rattle.sq_expr.specs.declared.block.Block.{Block}
use Rattle.remote_lookup.specs.Filled.{remote_of}
use Rattle.remote_lookup.specs.Needed.{AreRemotes}
use Rattle.remote_lookup.specs.declared.remote.Remote.{Remote}
use Rattle.remote_lookup.proofs.FilledLemmas.{remote_there}
use Rattle.worked_cases.specs.FitRemotes.{IsReached}

-- the remote at a place is the first with its table
abbrev pub IsFirst : List Remote → ℕ → Type 0
IsFirst remotes k = (r : Remote) → slice_get remotes k ≡ Some r → remote_of remotes r.table ≡ Some k

some_same : {a b : ℕ} → Some a ≡ Some b → a ≡ b
some_same e = cc

clash : {r : Remote} → None ≡ Some r → ⊥
clash e = cc

pub all_differ : (remotes : List Remote) → ((k : ℕ) → k < length remotes → IsFirst remotes k) → AllPairs (λ (a b : Remote). a.table ≢ b.table) remotes
all_differ remotes first i j d low high = apart
  where
    one : remote_of remotes (get_or remotes i d).table ≡ Some i
    one = let below : i < length remotes = omega (arith, low, high) in first i below (get_or remotes i d) (slice_get-get_or remotes i d below)

    other : remote_of remotes (get_or remotes j d).table ≡ Some j
    other = first j high (get_or remotes j d) (slice_get-get_or remotes j d high)

    apart : (get_or remotes i d).table ≢ (get_or remotes j d).table
    apart e = let same : i ≡ j = some_same (sym one ∙ ap (remote_of remotes) e ∙ other) in absurd (omega (arith, same, low))

-- where each alias is reached as it is to be, all are
pub all_reached : (block : Block) (remotes : List Remote) → All (IsReached remotes) block.aliases → AreRemotes block remotes
all_reached block remotes all = record {
  unscanned = λ alias u remote at of. scans alias u remote at of;
  look_up = λ alias u remote r at of is. (All-at (IsReached remotes) block.aliases alias u all at remote r of is).1;
}
  where
    there : (remote : ℕ) (o : Option Remote) → slice_get remotes remote ≡ o → (u : AliasUse) → remote_of remotes u.table ≡ Some remote → IsReached remotes u → u.access.scan ≡ false
    there remote (Some r) is u of reached = (reached remote r of is).0
    there remote None is u of reached = absurd (clash (sym is ∙ (remote_there remotes u.table remote of).1))

    scans : (alias : ℕ) (u : AliasUse) (remote : ℕ) → slice_get block.aliases alias ≡ Some u → remote_of remotes u.table ≡ Some remote → u.access.scan ≡ false
    scans alias u remote at of = there remote (slice_get remotes remote) refl u of (All-at (IsReached remotes) block.aliases alias u all at)

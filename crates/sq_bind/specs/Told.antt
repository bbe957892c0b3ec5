-- Serves proofs: what binding may answer, as one fact for `bind` and `bind_shape`.
use Rattle.std.specs.Prelude.{◌≡◌, ◌⊎◌, [], Result, MatchResult, IsErrAnd}
use Rattle.sq_parse.specs.declared.tree.Statement.{Statement}
use Rattle.sq_expr.specs.Reach.{IsReachable}
use Rattle.sq_bind.specs.Answer.{IsBindFault}
use Rattle.sq_expr.specs.declared.block.Block.{Block}
use Rattle.sq_bind.specs.Statement.{Scope, from_faults, rest_faults, plain_block, block_of, shaped_of}
use Rattle.sq_bind.specs.declared.shaped.Shaped.{Shaped}
use Rattle.sq_bind.specs.declared.fault.BindFault.{BindFault}
use Rattle.sq_bind.specs.declared.fault.BindFault.TheVariants.{Memory}

-- no round has a fault, and these are the matches and the shape
pub record IsMade (scope : Scope) (s : Statement) (made : Shaped) : Type 0 where
  pub from : from_faults scope s.sources ≡ []
  pub rest : rest_faults scope s ≡ []
  pub is : made ≡ shaped_of scope s
  pub reachable : IsReachable (block_of scope s)

-- they, or the fault; want of memory is a free answer
abbrev pub IsAnswer : Scope → Statement → Result Shaped BindFault → Type 0
IsAnswer scope s r = MatchResult r (IsMade scope s) (λ f. (f ≡ Memory) ⊎ IsBindFault scope s f)

-- the block of a statement that isn't shaped, made of these; a fault is handed on
abbrev pub IsPlainOf : Result Shaped BindFault → Result Block BindFault → Type 0
IsPlainOf made r =
    MatchResult made (λ m. MatchResult r (λ block. block ≡ plain_block m.block m.shape) (λ f. f ≡ Memory))
    (λ f. IsErrAnd r (λ g. g ≡ f))

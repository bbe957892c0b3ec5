use Rattle.std.proofs.Common.{rules}
use Rattle.sq_parse.specs.Grammar.{shipped}
use Rattle.sq_parse.specs.Reader as read
use Rattle.sq_parse.proofs.Shrinking.{no_join, join}
use Rattle.sq_parse.proofs.Loops.{so_far_more, so_far_all, so_far_error}
use Rattle.sq_parse.proofs.statement.more_joins.Goals as goal

pub returns-in_err-join : goal.returns-in_err-join
returns-in_err-join c =
    so_far_error read.begins_join (read.join shipped 64) no_join (join 64) _ _ c.more.found c.more.tokens _ _ _ c.from_residual.ensures.1 c.more.invariant (search rules) c.in_err-join.ensures

pub more-smaller : goal.more-smaller
more-smaller c = join 64 _ _ _ c.in_ok-join.ensures

pub more-preserved : goal.more-preserved
more-preserved c =
    so_far_more read.begins_join (read.join shipped 64) no_join (join 64) _ _ c.more.found c.more.tokens _ _ _ c.more.invariant (search rules) c.in_ok-join.ensures c.in_ok-push.ensures.ok

pub returns : goal.returns
returns c = so_far_all read.begins_join (read.join shipped 64) no_join (join 64) _ _ _ _ c.more.invariant (search rules)

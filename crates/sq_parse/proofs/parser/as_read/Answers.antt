use Rattle.sq_parse.proofs.ParseLemmas.{spelled_by, parsed_by}
use Rattle.sq_parse.proofs.FirstFault.{fault_is, fault_only}
use Rattle.sq_parse.proofs.parser.as_read.Goals as goal

pub returns-clause-tree : goal.returns-clause-tree
returns-clause-tree c = λ z s. (spelled_by z s, parsed_by z s)

pub returns-clause-fault : goal.returns-clause-fault
returns-clause-fault c = λ z valid f. (fault_is z valid f, fault_only z valid f)

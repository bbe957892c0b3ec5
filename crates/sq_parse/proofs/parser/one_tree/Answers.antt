use Rattle.sq_parse.proofs.Wider as wider
use Rattle.sq_parse.proofs.parser.one_tree.Goals as goal

pub returns : goal.returns
returns c = wider.one_tree

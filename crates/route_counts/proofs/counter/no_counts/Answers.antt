use Rattle.route_counts.proofs.counter.no_counts.Goals as goal

pub returns : goal.returns
returns c = c.in_ok-counts.ensures.items_if_clones_equal (λ y e. e)

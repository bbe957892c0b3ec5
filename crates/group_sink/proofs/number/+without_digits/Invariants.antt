use Rattle.group_sink.proofs.number.+without_digits.Given as goal

abbrev pub decreases-without_digits : goal.decreases-without_digits
decreases-without_digits l = l.places

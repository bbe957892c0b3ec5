mod TupleLemmas

mod PlaceLemmas
mod ThereLemmas
